use Rattle.std.proofs.Common.{ℕ, ◌-◌, map, sym, ap, ◌∙◌, arith}
use Rattle.plays.specs.Said.{points_up_to}
use Rattle.playback.specs.Recorded.{play_of}
use Rattle.playback.specs.Playing.{seat_after, word_read}
use Rattle.playback.proofs.Steps.{seat_at_place, length-states, points_append}
use Rattle.playback.proofs.words.words_of.Goals as goal

pub word_of-requires-clause-seat : goal.word_of-requires-clause-seat
word_of-requires-clause-seat c = (
  omega (arith, c.loop-state.invariant.seat),
  omega (arith, c.loop-state.invariant.seat, c.loop-state-test.true, length-states (play_of c.args.phase.now) (c.args.round - 1) c.args.states.now c.requires.states),
)

pub word_of-requires-clause-state : goal.word_of-requires-clause-state
word_of-requires-clause-state c =
    seat_at_place (play_of c.args.phase.now) (c.args.round - 1) c.loop-state.state-index c.state-item.result c.args.states.now c.loop-state-test.true c.requires.states c.state-item.is
    ∙ ap (seat_after (play_of c.args.phase.now) (c.args.round - 1)) (sym c.loop-state.invariant.seat)

pub overflow_add-seat : goal.overflow_add-seat
overflow_add-seat c =
    omega (arith, c.loop-state.invariant.seat, c.loop-state-test.true, length-states (play_of c.args.phase.now) (c.args.round - 1) c.args.states.now c.requires.states, c.seats-seats.ensures.is, c.seats-seats.ensures.most)

pub loop-state-preserved : goal.loop-state-preserved
loop-state-preserved c = record {
  seat = omega (arith, c.loop-state.invariant.seat);
  words = points_append (word_read (play_of c.args.phase.now) c.args.round) c.loop-state.state-index c.loop-state.words.items _ _ c.loop-state.invariant.words c.in_ok-push.ensures.items
      (c.in_ok-word_of.ensures ∙ ap (word_read (play_of c.args.phase.now) c.args.round) c.loop-state.invariant.seat);
}

pub returns : goal.returns
returns c =
    c.loop-state.invariant.words
    ∙ ap (λ (n : ℕ). map (word_read (play_of c.args.phase.now) c.args.round) (points_up_to n))
    (omega (arith, c.loop-state-test.false, c.loop-state.auto, length-states (play_of c.args.phase.now) (c.args.round - 1) c.args.states.now c.requires.states))
