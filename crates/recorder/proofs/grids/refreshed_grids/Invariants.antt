use Rattle.std.proofs.Common.{◌≡◌, ◌+◌, ◌-◌, ◌++◌, drop, length}
use Rattle.std.specs.Prelude.{count_by}
use Rattle.std.specs.Option.{is_some}
use Rattle.recorder.proofs.Walks.{dealt, fresh, up_ones}
use Rattle.recorder.proofs.grids.refreshed_grids.Given as goal

abbrev pub invariant-loop-share : goal.invariant-loop-share
invariant-loop-share l = record {
  at : l.member ≡ l.share-index + 1;
  count : l.taken + count_by is_some (drop l.share-index l.shares) ≡ length l.seeds;
  so_far : l.grids.items ++ up_ones l.side.drilled l.member (dealt (fresh (l.side.bound - 1)) l.member (drop l.share-index l.shares) (drop l.taken l.seeds))
      ≡ up_ones l.side.drilled 1 (dealt (fresh (l.side.bound - 1)) 1 l.shares l.seeds);
}
