use Rattle.std.proofs.Common.{◌≡◌, ℕ, List}
use Rattle.pairrings.specs.Ends.{got_from, sent_to, room_to, SameRings}
use Rattle.talk.specs.declared.messages.Ring.{Ring as RingValue}
use Rattle.party_crew.specs.Taken.{RingsTaken}
use Rattle.party_crew.proofs.hearing.take_rings.Given as goal

abbrev pub invariant-loop-place : goal.invariant-loop-place
invariant-loop-place g l = record {
  same : SameRings l.fn.end l.end;
  sent : (k : ℕ) → (sent_to l.end k ≡ sent_to l.fn.end k) × (room_to l.end k ≡ room_to l.fn.end k);
  taken : (raw : List RingValue) × RingsTaken l.setting l.round l.mask l.me l.place (got_from l.fn.end) (got_from l.end) raw l.rings;
}
