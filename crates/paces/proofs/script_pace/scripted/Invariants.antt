use Rattle.std.proofs.Common.{ℕ}
use Rattle.paces.specs.Picks.{Picked, IsScripted}
use Rattle.paces.proofs.script_pace.scripted.Given as goal

abbrev pub invariant-loop-place : goal.invariant-loop-place
invariant-loop-place l = Picked l.place (IsScripted l.list l.round l.missing) l.answer
