use Rattle.std.proofs.Common.{ℕ, ◌<◌}
use Rattle.viewshift.specs.Fits.{MaskFits}
use Rattle.viewshift.proofs.masks.first_bad.Given as goal

abbrev pub invariant-loop-place : goal.invariant-loop-place
invariant-loop-place l = (k : ℕ) → k < l.place → MaskFits l.phases l.exposed k
