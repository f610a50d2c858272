use Rattle.std.proofs.Common.{ℕ, ◌+◌, ◌-◌, length, map, sym, ap, ◌∙◌, refl, arith}
use Rattle.std.specs.List.{range_with_len}
use Rattle.std.proofs.lemmas.List.{take_more_set, drop-set-lt, length-set}
use Rattle.talk.specs.Shape.{seats}
use Rattle.playback.specs.Recorded.{play_of}
use Rattle.playback.specs.Playing.{seat_after}
use Rattle.playback.proofs.Steps.{next_state, all_heard, length-states, points_append}
use Rattle.playback.proofs.seats.hear_all.Goals as goal

pub loop-state-init : goal.loop-state-init
loop-state-init c = record {
  seat = refl;
  many = ap length c.deref_mut-state-items.ensures.value ∙ length-states (play_of c.args.phase.now) (c.args.round - 1) c.args.states.now.items c.requires.states;
  heard = refl;
  rest = c.deref_mut-state-items.ensures.value ∙ c.requires.states ∙ ap (λ (n : ℕ). map (seat_after (play_of c.args.phase.now) (c.args.round - 1)) (range_with_len 1 n)) (omega arith);
}

pub hear_one-requires-clause-seat : goal.hear_one-requires-clause-seat
hear_one-requires-clause-seat c =
    (omega (arith, c.loop-state.invariant.seat), omega (arith, c.loop-state.invariant.seat, c.loop-state.invariant.many, c.loop-state-test.true, c.loop-state.auto.state-items))

pub hear_one-requires-clause-state : goal.hear_one-requires-clause-state
hear_one-requires-clause-state c =
    sym c.state-item.is
    ∙ (next_state (play_of c.args.phase.now) (c.args.round - 1) c.loop-state.state-index (seats c.args.phase.now.setting) c.loop-state.state-items c.state-item.result
    (omega (arith, c.loop-state-test.true, c.loop-state.auto.state-items)) c.loop-state.invariant.many c.loop-state.invariant.rest c.state-item.is).0
    ∙ ap (seat_after (play_of c.args.phase.now) (c.args.round - 1)) (sym c.loop-state.invariant.seat)

pub overflow_add-seat : goal.overflow_add-seat
overflow_add-seat c =
    omega (arith, c.loop-state.invariant.seat, c.loop-state.invariant.many, c.loop-state-test.true, c.loop-state.auto.state-items, c.seats-seats.ensures.is, c.seats-seats.ensures.most)

pub loop-state-preserved : goal.loop-state-preserved
loop-state-preserved c = record {
  seat = omega (arith, c.loop-state.invariant.seat);
  many = length-set c.loop-state.state-items c.loop-state.state-index c.hear_one.new.state ∙ c.loop-state.invariant.many;
  heard = points_append (seat_after (play_of c.args.phase.now) c.args.round) c.loop-state.state-index _ _ c.hear_one.new.state c.loop-state.invariant.heard
      (take_more_set c.loop-state.state-items c.loop-state.state-index c.hear_one.new.state (omega (arith, c.loop-state-test.true, c.loop-state.auto.state-items)))
      (c.in_ok-hear_one.ensures ∙ ap (seat_after (play_of c.args.phase.now) c.args.round) c.loop-state.invariant.seat);
  rest = drop-set-lt (c.loop-state.state-index + 1) c.loop-state.state-items c.loop-state.state-index c.hear_one.new.state (omega arith)
      ∙ (next_state (play_of c.args.phase.now) (c.args.round - 1) c.loop-state.state-index (seats c.args.phase.now.setting) c.loop-state.state-items c.state-item.result
      (omega (arith, c.loop-state-test.true, c.loop-state.auto.state-items)) c.loop-state.invariant.many c.loop-state.invariant.rest c.state-item.is).1;
}

pub returns : goal.returns
returns c =
    all_heard (play_of c.args.phase.now) c.args.round c.loop-state.state-index c.args.states.now.len c.loop-state.state-items _ c.loop-state.invariant.many c.loop-state.invariant.heard
    (omega (arith, c.loop-state-test.false, c.loop-state.auto, c.loop-state.invariant.many))
    (omega (arith, c.loop-state.auto, c.loop-state.invariant.many, c.deref_mut-state-items.ensures.len))
