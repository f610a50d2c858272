use Rattle.std.proofs.Common.{◌≡◌, ◌++◌, take}
use Rattle.viewshift.proofs.views.push_if_exposed.Given as goal

abbrev pub invariant-loop-value : goal.invariant-loop-value
invariant-loop-value l = l.list ≡ l.fn.list ++ take l.value-index l.value-items
