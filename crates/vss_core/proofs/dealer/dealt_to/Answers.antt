use Rattle.std.proofs.Common.{◌++◌, ◌∙◌, List, [], get_or, ap}
use Rattle.algebra61.specs.Field.{Fp}
use Rattle.lists.proofs.Places.{at_or}
use Rattle.sharing61.specs.Rules.{pair_on}
use Rattle.plays.specs.Said.{pair_list}
use Rattle.plays.proofs.Lists.{places_step}
use Rattle.vss_core.proofs.dealer.dealt_to.Goals as goal

pub loop-lane-preserved : goal.loop-lane-preserved
loop-lane-preserved c =
    places_step (λ k. pair_list c.args.degree (pair_on (get_or c.args.grids.now k []) c.args.receiver)) c.loop-lane.lane c.loop-lane.list _ c.loop-lane.invariant
    (c.in_ok-push_pair.ensures ∙ ap (λ (g : List (List Fp)). c.loop-lane.list ++ pair_list c.args.degree (pair_on g c.args.receiver)) (at_or c.args.grids.now c.loop-lane.lane [] c.at.result.now c.at.ensures))
