use Rattle.std.proofs.Common.{◌≡◌, ◌+◌, ◌-◌, ◌++◌, drop, length}
use Rattle.std.specs.Prelude.{count_by}
use Rattle.talk.specs.Shape.{refresh_shape}
use Rattle.keyroom.specs.Sound.{is_valid}
use Rattle.commands.specs.Run.{drilled_all}
use Rattle.commands.specs.Refresh.{keeping, keeper_on, keepers_on}
use Rattle.commands.specs.Standing.{holdings}
use Rattle.commands.proofs.Seeding.{minds_from}
use Rattle.commands.proofs.refresh_phase.refresh_minds.Given as goal

abbrev pub invariant-loop-file : goal.invariant-loop-file
invariant-loop-file g l = record {
  at : l.seat ≡ l.file-index + 1;
  left : l.taken + count_by is_valid (drop l.file-index l.files) ≡ length l.seeds;
  so_far : l.minds.items ++ minds_from (keeper_on (refresh_shape g.row.N l.bound)) (keeping (l.bound - 1)) (refresh_shape g.row.N l.bound) l.drill l.seat (drop l.file-index l.files) (drop l.taken l.seeds)
      ≡ drilled_all (refresh_shape g.row.N l.bound) l.drill (keepers_on (refresh_shape g.row.N l.bound) (holdings (keeping (l.bound - 1)) 1 l.files l.seeds));
}
