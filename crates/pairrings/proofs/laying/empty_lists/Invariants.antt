use Rattle.std.proofs.Common.{◌≡◌, [], All, length, Vec, Global}
use Rattle.pairrings.specs.declared.tails.Tail.{Tail}
use Rattle.pairrings.proofs.laying.empty_lists.Given as goal

abbrev pub invariant-loop-list : goal.invariant-loop-list
invariant-loop-list g l = (length l.lists.items ≡ l._list) × All (λ (v : Vec (Tail g.row.M.Denot) Global). v.items ≡ []) l.lists.items
