use Rattle.std.proofs.Common.{ℕ, ◌++◌, cond, List, [], ap, ◌∙◌, arith}
use Rattle.std.specs.List.{flat_map}
use Rattle.talk.specs.Sync.{has, posts_heard, rings_heard}
use Rattle.plays.specs.Said.{points_up_to}
use Rattle.plays.specs.Seat.{post_at, ring_at}
use Rattle.playback.specs.declared.phase.SaidItem.{SaidItem}
use Rattle.hearsay.specs.Said.{seat_items}
use Rattle.hearsay.proofs.Heard.{seat_heard, seats_step}
use Rattle.hearsay.proofs.said.push_round.Goals as goal

pub is_heard-heard-requires : goal.is_heard-heard-requires
is_heard-heard-requires c = (
  omega (arith, c.loop-word.invariant.seat),
  omega (arith, c.loop-word.invariant.seat, c.loop-word-test.true, c.requires, c.seats-seats.ensures.is, c.seats-seats.ensures.most),
)

pub loop-word-preserved : goal.loop-word-preserved
loop-word-preserved c =
    let a = c.args in
    record {
      seat = omega (arith, c.loop-word.invariant.seat);
      heard = seats_step
          (λ seat. cond (has a.down seat) (seat_items a.setting.now a.round seat (post_at (posts_heard a.setting.now a.round a.mask 1 a.words.now) seat) (λ to. ring_at (rings_heard a.setting.now a.round a.mask to 1 a.words.now) seat)) [])
          c.loop-word.word-index c.loop-word.seat a.said.now c.loop-word.said _ c.loop-word.invariant.seat c.loop-word.invariant.heard
          (c.in_ok-push_seat.ensures
          ∙ ap (λ (items : List SaidItem). c.loop-word.said ++ items)
          (seat_heard a.setting.now a.round a.mask a.down a.words.now c.loop-word.word-index c.loop-word.seat c.word-item.result c.is_heard-heard.result c.loop-word-test.true c.word-item.is c.loop-word.invariant.seat c.is_heard-heard.ensures));
    }

pub returns : goal.returns
returns c =
    let a = c.args in
    c.loop-word.invariant.heard
    ∙ ap (λ (n : ℕ). a.said.now ++ flat_map
    (λ seat. cond (has a.down seat) (seat_items a.setting.now a.round seat (post_at (posts_heard a.setting.now a.round a.mask 1 a.words.now) seat) (λ to. ring_at (rings_heard a.setting.now a.round a.mask to 1 a.words.now) seat)) [])
    (points_up_to n))
    (omega (arith, c.loop-word-test.false, c.loop-word.auto, c.requires))
