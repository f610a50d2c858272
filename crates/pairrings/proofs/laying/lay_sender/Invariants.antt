use Rattle.std.proofs.Common.{◌≡◌, ℕ, ◌≤◌, get_or, Vec, Global}
use Rattle.pairrings.specs.declared.tails.Tail.{Tail}
use Rattle.pairrings.specs.Laying.{GrownBelow}
use Rattle.pairrings.proofs.laying.lay_sender.Given as goal

abbrev pub invariant-loop-k : goal.invariant-loop-k
invariant-loop-k g l =
    GrownBelow l.rounds l.k l.fn.tails l.heads.items l.tails
    × ((j : ℕ) (d : Vec (Tail g.row.M.Denot) Global) → l.k ≤ j → get_or l.tails j d ≡ get_or l.fn.tails j d)
