use Rattle.std.proofs.Common.{◌≡◌, ◌+◌, ◌++◌, drop}
use Rattle.commands.specs.Create.{dealt_by}
use Rattle.recorder.proofs.Walks.{up_ones}
use Rattle.recorder.proofs.grids.created_grids.Given as goal

abbrev pub invariant-loop-seed : goal.invariant-loop-seed
invariant-loop-seed l = record {
  at : l.member ≡ l.seed-index + 1;
  so_far : l.grids.items ++ up_ones l.side.drilled l.member (dealt_by l.side.bound (drop l.seed-index l.seeds)) ≡ up_ones l.side.drilled 1 (dealt_by l.side.bound l.seeds);
}
