use Rattle.std.proofs.Common.{◌≡◌, ◌+◌, ◌++◌, drop, length}
use Rattle.std.specs.Prelude.{count_by}
use Rattle.talk.specs.Shape.{move_shape}
use Rattle.keyroom.specs.Sound.{is_valid}
use Rattle.commands.specs.Move.{moving}
use Rattle.commands.specs.MovePhase.{old_on}
use Rattle.commands.specs.Run.{numbered, drilled_all}
use Rattle.commands.specs.Standing.{holdings}
use Rattle.commands.proofs.Seeding.{minds_from}
use Rattle.commands.proofs.moving_phase.old_minds.Given as goal

abbrev pub invariant-loop-file : goal.invariant-loop-file
invariant-loop-file g l = record {
  at : l.seat ≡ l.file-index + 1;
  left : l.taken + count_by is_valid (drop l.file-index l.files) ≡ length l.seeds;
  so_far : l.minds.items ++ minds_from (old_on (move_shape g.row.N l.bounds.old g.row.M l.bounds.new)) (moving l.drill l.bounds.new) (move_shape g.row.N l.bounds.old g.row.M l.bounds.new) l.drill l.seat (drop l.file-index l.files) (drop l.taken l.seeds)
      ≡ drilled_all (move_shape g.row.N l.bounds.old g.row.M l.bounds.new) l.drill (numbered (old_on (move_shape g.row.N l.bounds.old g.row.M l.bounds.new)) 1 (holdings (moving l.drill l.bounds.new) 1 l.files l.seeds));
}
