use Rattle.std.proofs.Common.{◌≡◌, ℕ, ◌+◌, ◌≤◌, length, vec_capacity}
use Rattle.std.specs.Prelude.{IsTrue}
use Rattle.crews.specs.Starts.{EachEnded}
use Rattle.crews.proofs.starts.join_all.Given as goal

abbrev pub invariant-loop-one : goal.invariant-loop-one
invariant-loop-one g l = record {
  room : vec_capacity l.attended ≡ vec_capacity l.fn.room;
  few : length l.attended.items ≤ length l.yielded;
  each : IsTrue l.complete → EachEnded g.M.Member.attends l.yielded l.attended.items;
}
