use Rattle.std.proofs.Common.{◌≡◌}
use Rattle.viewshift.specs.Walk.{IsAt}
use Rattle.viewshift.specs.Seen.{AreSeen}
use Rattle.viewshift.proofs.views.views_of.Given as goal

abbrev pub invariant-loop-place : goal.invariant-loop-place
invariant-loop-place l = IsAt l.phases l.place l.shares.items × AreSeen l.phases l.history.exposed l.place l.views
