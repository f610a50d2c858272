use Rattle.std.proofs.Common.{◌≡◌, ◌-◌, ◌≤◌, length, map, IfSome}
use Rattle.std.specs.List.{range_with_len}
use Rattle.shelf.specs.Causes.{OnlyReads}
use Rattle.keyroom.specs.Steps.{share_of}
use Rattle.keyroom.proofs.steps.files_of.Given as goal

abbrev pub invariant-loop-index : goal.invariant-loop-index
invariant-loop-index g l = record {
  reads : OnlyReads g.H.Shelf.held g.H.Shelf.fault_count g.H.Shelf.calm l.fn.shelf l.shelf;
  low : 1 ≤ l.index;
  count : length l.files.items ≡ l.index - 1;
  found : IfSome (g.H.Shelf.held l.fn.shelf) (λ m. l.files.items ≡ map (share_of l.fn.now m) (range_with_len 1 (l.index - 1)));
}
