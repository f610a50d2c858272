use Rattle.std.proofs.Common.{◌≡◌, ℕ, ◌≤◌, length, get_or, Vec, Global}
use Rattle.pairrings.specs.declared.heads.Head.{Head}
use Rattle.pairrings.specs.declared.tails.Tail.{Tail}
use Rattle.pairrings.specs.Laying.{JoinedBelow}
use Rattle.pairrings.proofs.laying.join.Given as goal

abbrev pub invariant-loop-k : goal.invariant-loop-k
invariant-loop-k g l =
    JoinedBelow l.k l.initial.heads.items l.initial.tails.items l.ends.items
    × ((length l.heads.items ≡ length l.initial.heads.items) × ((j : ℕ) (d : Vec (Head g.row.M.Denot) Global) → l.k ≤ j → get_or l.heads.items j d ≡ get_or l.initial.heads.items j d))
    × ((length l.tails.items ≡ length l.initial.tails.items) × ((j : ℕ) (d : Vec (Tail g.row.M.Denot) Global) → l.k ≤ j → get_or l.tails.items j d ≡ get_or l.initial.tails.items j d))
