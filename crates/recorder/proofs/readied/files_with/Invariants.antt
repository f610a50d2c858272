use Rattle.std.proofs.Common.{◌≡◌, take}
use Rattle.rehearsal_laws.specs.Standing.{files_with}
use Rattle.recorder.proofs.readied.files_with.Given as goal

abbrev pub invariant-loop-place : goal.invariant-loop-place
invariant-loop-place l = l.files.items ≡ files_with l.now 1 (take l.place l.shares)
