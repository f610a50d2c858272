use Rattle.std.proofs.Common.{◌≡◌, map, length}
use Rattle.std.specs.List.{range_with_len}
use Rattle.checks61.specs.Word.{word_entry}
use Rattle.rs61.proofs.errors.word.Given as goal

abbrev pub invariant-loop-k : goal.invariant-loop-k
invariant-loop-k l = l.list ≡ map (word_entry l.points (length l.syndrome) l.syndrome) (range_with_len 1 l.k)
