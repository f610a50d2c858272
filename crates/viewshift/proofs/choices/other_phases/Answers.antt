use Rattle.std.proofs.Common.{get_or}
use Rattle.algebra61.specs.Field.{zeroₚ}
use Rattle.playback.proofs.Places.{places_append}
use Rattle.viewshift.specs.Others.{other_at}
use Rattle.viewshift.proofs.choices.other_phases.Goals as goal

pub loop-place-preserved : goal.loop-place-preserved
loop-place-preserved c =
    places_append (other_at c.args.phases.now c.args.exposed.now (λ lane. get_or c.args.difference.now lane zeroₚ)) c.loop-place.place c.loop-place.list _ _ c.loop-place.invariant c.in_ok-push.ensures c.in_ok-other_at.ensures
