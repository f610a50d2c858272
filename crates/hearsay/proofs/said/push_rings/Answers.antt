use Rattle.std.proofs.Common.{◌++◌, ap, ◌∙◌, arith}
use Rattle.talk.specs.declared.messages.Ring.{Ring}
use Rattle.talk.specs.Read.{ring_as_read}
use Rattle.talk.specs.Sync.{ring_in}
use Rattle.plays.proofs.Lists.{points_step}
use Rattle.hearsay.specs.Said.{ring_items}
use Rattle.hearsay.proofs.said.push_rings.Goals as goal

pub loop-to-preserved : goal.loop-to-preserved
loop-to-preserved c =
    let a = c.args in
    points_step (λ to. ring_items a.round a.seat to (ring_as_read a.setting.now a.round a.seat to (ring_in to a.word.now)))
    c.loop-to.to a.said.now c.loop-to.said _ (omega arith) c.loop-to.invariant
    (c.in_ok-push_ring.ensures
    ∙ ap (λ (ring : Ring). c.loop-to.said ++ ring_items a.round a.seat c.loop-to.to ring)
    (c.ring_as_read-ring.ensures ∙ ap (ring_as_read a.setting.now a.round a.seat c.loop-to.to) c.in_ok-sent.ensures))
