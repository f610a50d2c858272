use Rattle.std.proofs.Common.{ℕ}
use Rattle.paces.specs.Picks.{Picked, IsMissing}
use Rattle.paces.proofs.missing.missing_in.Given as goal

abbrev pub invariant-loop-place : goal.invariant-loop-place
invariant-loop-place l = Picked l.place (IsMissing l.word) l.missing
