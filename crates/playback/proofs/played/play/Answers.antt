use Rattle.std.proofs.Common.{◌≡◌, ℕ, ◌+◌, ◌-◌, [], ◌++◌, map, min, ap, ◌∙◌, arith}
use Rattle.std.specs.List.{flat_map}
use Rattle.talk.specs.Shape.{seats, rounds}
use Rattle.plays.specs.Said.{points_up_to}
use Rattle.plays.proofs.Lists.{points_step}
use Rattle.choices61.specs.Views.{post_in_phase, rings_got}
use Rattle.playback.specs.Recorded.{play_of}
use Rattle.playback.specs.Playing.{seats_after, posts_read_in}
use Rattle.playback.proofs.Steps.{min_shared, last_is, posts_listed, rings_listed}
use Rattle.playback.proofs.played.play.Goals as goal

pub loop-round-init : goal.loop-round-init
loop-round-init c = record { states = c.in_ok-states.ensures; last = λ lt. absurd (omega (arith, lt)); posts = c.new-posts.ensures; rings = c.new-rings.ensures }

pub words_of-requires-clause-states : goal.words_of-requires-clause-states
words_of-requires-clause-states c =
    c.as_slice.ensures.value
    ∙ min_shared (play_of c.args.phase.now) c.loop-round.round 0 c.loop-round.states.items (omega (arith, c.loop-round-test.true, c.rounds-round-end.ensures.most)) (omega (arith, c.loop-round.auto)) c.loop-round.invariant.states

pub push_got-requires : goal.push_got-requires
push_got-requires c = record { words = c.as_slice-in-loop-round-2.ensures.value ∙ c.in_ok-words.ensures }

pub hear_shared-requires-clause-states : goal.hear_shared-requires-clause-states
hear_shared-requires-clause-states c =
    min_shared (play_of c.args.phase.now) c.loop-round.round 0 c.loop-round.states.items (omega (arith, c.loop-round-test.true, c.rounds-round-end.ensures.most)) (omega (arith, c.loop-round.auto)) c.loop-round.invariant.states

pub hear_shared-requires-clause-words : goal.hear_shared-requires-clause-words
hear_shared-requires-clause-words c = c.as_slice-in-loop-round-3.ensures.value ∙ c.in_ok-words.ensures

pub hear_shared-requires-clause-round : goal.hear_shared-requires-clause-round
hear_shared-requires-clause-round c = (omega (arith, c.loop-round.auto), omega (arith, c.loop-round-test.true, c.rounds-round-end.ensures.most))

pub loop-round-preserved : goal.loop-round-preserved
loop-round-preserved c =
    let next : c.loop-round.round ≡ c.loop-round.round + 1 - 1 = omega arith in
    let last : c.in_ok-last.last ≡ map (post_in_phase (play_of c.args.phase.now) c.loop-round.round) (points_up_to (seats c.args.phase.now.setting)) =
    last_is (play_of c.args.phase.now) c.loop-round.round c.in_ok-words.words.items c.as_slice-in-loop-round.result.now c.in_ok-last.last c.as_slice-in-loop-round.ensures.value c.in_ok-words.ensures c.in_ok-last.ensures in
    record {
      states = c.in_ok-hear_shared.ensures ∙ ap (λ (k : ℕ). seats_after (play_of c.args.phase.now) (min k 5)) next;
      last = λ _. last ∙ ap (posts_read_in (play_of c.args.phase.now)) next;
      posts = points_step (λ round. map (post_in_phase (play_of c.args.phase.now) round) (points_up_to (seats c.args.phase.now.setting))) c.loop-round.round [] c.loop-round.posts _ (omega (arith, c.loop-round.auto))
          c.loop-round.invariant.posts (c.in_ok-push_posts.ensures ∙ ap (λ l. c.loop-round.posts ++ l) last);
      rings = points_step (λ round. flat_map (rings_got (play_of c.args.phase.now) round) (points_up_to (seats c.args.phase.now.setting))) c.loop-round.round [] c.loop-round.rings _ (omega (arith, c.loop-round.auto))
          c.loop-round.invariant.rings c.in_ok-push_got.ensures;
    }

pub returns : goal.returns
returns c =
    let most : c.loop-round.round - 1 ≡ rounds c.args.phase.now.setting = omega (arith, c.loop-round-test.false, c.loop-round.auto, c.rounds-round-end.ensures.is) in
    let five : min (c.loop-round.round - 1) 5 ≡ 5 = omega (arith, c.loop-round-test.false, c.rounds-round-end.ensures.least) in
    record {
      seats_are = c.loop-round.invariant.states ∙ ap (seats_after (play_of c.args.phase.now)) five;
      last_is = c.loop-round.invariant.last (omega (arith, c.loop-round-test.false, c.rounds-round-end.ensures.least)) ∙ ap (posts_read_in (play_of c.args.phase.now)) most;
      posts_are = c.loop-round.invariant.posts
          ∙ ap (λ (n : ℕ). flat_map (λ round. map (post_in_phase (play_of c.args.phase.now) round) (points_up_to (seats c.args.phase.now.setting))) (points_up_to n)) most
          ∙ posts_listed (play_of c.args.phase.now);
      rings_are = c.loop-round.invariant.rings
          ∙ ap (λ (n : ℕ). flat_map (λ round. flat_map (rings_got (play_of c.args.phase.now) round) (points_up_to (seats c.args.phase.now.setting))) (points_up_to n)) most
          ∙ rings_listed (play_of c.args.phase.now);
    }
