use Rattle.std.proofs.Common.{◌≡◌, ◌≤◌, ◌+◌, ◌-◌, ◌++◌, map}
use Rattle.std.specs.List.{range_with_len}
use Rattle.talk.specs.Shape.{move_shape}
use Rattle.commands.specs.MovePhase.{new_on}
use Rattle.commands.specs.Run.{drilled_on}
use Rattle.commands.proofs.moving_phase.push_receivers.Given as goal

abbrev pub invariant-loop-member : goal.invariant-loop-member
invariant-loop-member g l = record {
  low : 1 ≤ l.member;
  pushed : l.minds.items ≡ l.fn.minds.items
      ++ map (λ j. drilled_on (move_shape g.row.N l.bounds.old g.row.M l.bounds.new) l.drill (g.row.N + j) (new_on (move_shape g.row.N l.bounds.old g.row.M l.bounds.new) j)) (range_with_len 1 (l.member - 1));
}
