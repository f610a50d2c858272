use Rattle.std.proofs.Common.{◌≡◌, length, drop}
use Rattle.party_crew.specs.Parties.{ArePlaced}
use Rattle.party_crew.proofs.seating.seat_all.Given as goal

abbrev pub invariant-loop-place : goal.invariant-loop-place
invariant-loop-place g l = record {
  minds : l.minds.items ≡ drop l.place l.fn.minds.items;
  pens : l.pens.items ≡ drop l.place l.fn.pens.items;
  ends : l.ends.items ≡ drop l.place l.fn.ends.items;
  count : length l.parties.items ≡ l.place;
  placed : ArePlaced l.board l.setting l.fn.minds.items l.fn.pens.items l.fn.ends.items l.parties.items;
}
