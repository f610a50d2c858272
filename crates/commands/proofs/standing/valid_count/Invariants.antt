use Rattle.std.proofs.Common.{◌≡◌, ◌+◌, ◌≤◌, drop}
use Rattle.std.specs.Prelude.{count_by}
use Rattle.keyroom.specs.Sound.{is_valid}
use Rattle.commands.proofs.standing.valid_count.Given as goal

abbrev pub invariant-loop-file : goal.invariant-loop-file
invariant-loop-file l = record {
  so_far : l.count + count_by is_valid (drop l.file-index l.files) ≡ count_by is_valid l.files;
  few : l.count ≤ l.file-index;
}
