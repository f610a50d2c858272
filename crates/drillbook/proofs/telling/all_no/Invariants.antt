use Rattle.std.proofs.Common.{◌≡◌, ◌++◌, drop, map, false}
use Rattle.drillbook.proofs.telling.all_no.Given as goal

abbrev pub invariant-loop-vote : goal.invariant-loop-vote
invariant-loop-vote l = l.list ++ map (λ _. false) (drop l.vote-index l.votes) ≡ map (λ _. false) l.votes
