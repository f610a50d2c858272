use Rattle.std.proofs.Common.{◌≡◌, ◌≤◌}
use Rattle.crews.proofs.run.barred_at.Given as goal

abbrev pub invariant-loop-started : goal.invariant-loop-started
invariant-loop-started g l = record {
  faults : g.C.Crew.fault_count l.fn.crew ≤ g.C.Crew.fault_count l.crew;
  attended : g.C.Crew.attended_count l.crew ≡ g.C.Crew.attended_count l.fn.crew;
  calm : g.C.Crew.calm l.fn.crew → g.C.Crew.calm l.crew;
}
