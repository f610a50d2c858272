use Rattle.std.proofs.Common.{◌≡◌, drop}
use Rattle.std.specs.Str.{all_ascii_digits}
use Rattle.decimals.specs.Decimals.{number_on, number_of}
use Rattle.decimals.proofs.digits_in.Given as goal

abbrev pub invariant-loop-c : goal.invariant-loop-c
invariant-loop-c l = record {
  digits : all_ascii_digits l.word ≡ all_ascii_digits (drop l.c-index l.word);
  number : number_of l.word ≡ number_on l.number (drop l.c-index l.word);
}
