use Rattle.viewshift.specs.Walk.{IsAt}
use Rattle.viewshift.proofs.phases.first_unfit.Given as goal

abbrev pub invariant-loop-place : goal.invariant-loop-place
invariant-loop-place l = IsAt l.phases l.place l.shares.items
