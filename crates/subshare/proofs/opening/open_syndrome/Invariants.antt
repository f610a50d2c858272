use Rattle.subshare.specs.Opening.{post_of}
use Rattle.subshare.proofs.Steps.{AreOpened}
use Rattle.subshare.proofs.opening.open_syndrome.Given as goal

abbrev pub invariant-loop-place : goal.invariant-loop-place
invariant-loop-place l = AreOpened l.setting (post_of l.setting l.posts) l.lane l.place l.list
