use Rattle.std.proofs.Common.{◌≡◌, ◌+◌, ◌-◌, ◌^◌, length, min}
use Rattle.commands.specs.Crews.{Lent}
use Rattle.rehearsal_laws.specs.Rehearsal.{scenes_to}
use Rattle.rehearsal.specs.Lived.{IsLived, seats_in}
use Rattle.rehearsal.proofs.life.live.Given as goal

abbrev pub invariant-loop-place : goal.invariant-loop-place
invariant-loop-place g l = record {
  lived : IsLived l.fn.committee.members l.fn.committee.bound l.fn.number l.life;
  count : length l.life.phases ≡ l.place;
  lent : Lent g.C.Crew.fault_count g.C.Crew.attended_count g.C.Crew.calm l.fn.crew l.crew;
  attended : g.C.Crew.attended_count l.crew ≡ min (g.C.Crew.attended_count l.fn.crew + seats_in (scenes_to l.fn.committee.members l.fn.committee.bound l.fn.number l.place)) (2 ^ 64 - 1);
}
