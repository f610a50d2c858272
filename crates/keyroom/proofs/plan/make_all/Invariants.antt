use Rattle.std.proofs.Common.{◌≡◌, ◌≤◌, [], take}
use Rattle.std.specs.Option.{option_map}
use Rattle.shelf.specs.Held.{after}
use Rattle.keyroom.specs.Changes.{changes_of}
use Rattle.keyroom.proofs.plan.make_all.Given as goal

abbrev pub invariant-loop-change : goal.invariant-loop-change
invariant-loop-change g l = record {
  held : g.H.Shelf.held l.shelf ≡ option_map (after (changes_of (take l.change-index l.changes))) (g.H.Shelf.held l.fn.shelf);
  later : g.H.Shelf.fault_count l.fn.shelf ≤ g.H.Shelf.fault_count l.shelf;
  calm : g.H.Shelf.calm l.fn.shelf → g.H.Shelf.calm l.shelf;
  untouched : l.changes ≡ [] → l.shelf ≡ l.fn.shelf;
}
