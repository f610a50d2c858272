use Rattle.std.proofs.Common.{◌++◌, ap, ◌∙◌}
use Rattle.checks61.specs.Checks.{syndrome_of}
use Rattle.talk.proofs.Places.{places_step}
use Rattle.members.specs.Shares.{kept_in}
use Rattle.periods.specs.Mover.{subshare_in}
use Rattle.moveshare.proofs.subshares.syndromes.Goals as goal

pub loop-lane-preserved : goal.loop-lane-preserved
loop-lane-preserved c =
    places_step (λ lane. syndrome_of c.args.sharer.now.shape.dealers c.args.sharer.now.shape.checks (subshare_in (kept_in c.args.sharer.now.stage) lane)) c.loop-lane.lane c.loop-lane.list c.append.new.list
    c.loop-lane.invariant (c.in_ok-append.ensures ∙ ap (λ v. c.loop-lane.list ++ v) c.in_ok-values.ensures)
