use Rattle.std.proofs.Common.{◌≡◌, ◌+◌, map, is_none}
use Rattle.plays.specs.Read.{shown_in}
use Rattle.plays.specs.Said.{places}
use Rattle.vss_core.proofs.votes.all_hidden.Given as goal

abbrev pub invariant-loop-k : goal.invariant-loop-k
invariant-loop-k l = l.hidden.items ≡ map (λ k. is_none (shown_in l.lane (k + 1) l.reveals)) (places l.k)
