use Rattle.std.proofs.Common.{◌≡◌}
use Rattle.party_crew.specs.Parties.{minds_in, pens_in, ends_in}
use Rattle.party_crew.proofs.seating.open_all.Given as goal

abbrev pub invariant-loop-party : goal.invariant-loop-party
invariant-loop-party g l = record {
  minds : l.minds.items ≡ minds_in l.yielded;
  pens : l.pens.items ≡ pens_in l.yielded;
  ends : l.ends.items ≡ ends_in l.yielded;
}
