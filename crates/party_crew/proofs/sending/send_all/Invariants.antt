use Rattle.std.proofs.Common.{◌≡◌, ◌≢◌, ℕ, ◌+◌, ◌-◌, ◌<◌, ◌≤◌, [], ◌∷◌, ◌++◌, length, get_or, take}
use Rattle.pairrings.specs.Ends.{got_from, sent_to, room_to, SameRings}
use Rattle.talk.specs.declared.messages.Ring.TheVariants.{Nothing as NoRing}
use Rattle.party_crew.proofs.sending.send_all.Given as goal

abbrev pub invariant-loop-item : goal.invariant-loop-item
invariant-loop-item g l = record {
  left : l.items.items ≡ take (length l.items.items) l.fn.rings;
  few : length l.items.items ≤ g.row.S;
  rings : SameRings l.fn.end l.end;
  got : (k : ℕ) → got_from l.end k ≡ got_from l.fn.end k;
  unsent : (k : ℕ) → k < length l.items.items → (sent_to l.end k ≡ sent_to l.fn.end k) × (room_to l.end k ≡ room_to l.fn.end k);
  sent : (k : ℕ) → length l.items.items ≤ k → k < g.row.S → k ≢ l.me - 1 → sent_to l.end k ≡ sent_to l.fn.end k ++ get_or l.fn.rings k NoRing ∷ [];
  room : (k : ℕ) → k < g.row.S → room_to l.fn.end k ≤ room_to l.end k + 1;
}

abbrev pub decreases-loop-item : goal.decreases-loop-item
decreases-loop-item g l = goal.left-loop-item g l
