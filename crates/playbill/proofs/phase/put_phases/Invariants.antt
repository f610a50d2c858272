use Rattle.std.proofs.Common.{◌≡◌, ◌++◌, take, string_bytes}
use Rattle.playbill.specs.Text.{phase_lines}
use Rattle.playbill.proofs.phase.put_phases.Given as goal

abbrev pub invariant-loop-place : goal.invariant-loop-place
invariant-loop-place l = string_bytes l.text ≡ string_bytes l.fn.text ++ phase_lines (take l.place l.scenes) (take l.place l.accepted)
