use Rattle.talk.specs.Sync.{has}
use Rattle.scenes.proofs.Circle.{NoneYet}
use Rattle.scenes.proofs.members.first_unnamed.Given as goal

abbrev pub invariant-loop-steps : goal.invariant-loop-steps
invariant-loop-steps l = NoneYet l.members l.first (has l.mask) l.steps
