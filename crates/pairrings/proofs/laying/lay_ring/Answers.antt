use Rattle.std.proofs.Common.{refl}
use Rattle.pairrings.proofs.LayLemmas.{grown_of}
use Rattle.pairrings.proofs.laying.lay_ring.Goals as goal

pub returns : goal.returns
returns g c =
    grown_of _ _ _ _ _ c.in_ok-push.ensures.items
    (record { laid = refl; none_sent = c.in_ok-producer.ensures.producer.0 })
    (record { none_got = c.in_ok-producer.ensures.consumer.0; none_known = c.in_ok-producer.ensures.consumer.1; never_dry = refl })
    c.in_ok-producer.ensures.pair
