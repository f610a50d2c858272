-- What a pace counted in a phase; rounds count from 1.
use Rattle.std.specs.Prelude.{ℕ, ◌-◌, slice_index_or}
use Rattle.paces.specs.declared.tally.Tally.{Tally}

-- what was answered for a round from 1 on, and how often it was asked for
abbrev pub cuts_in : Tally → ℕ → ℕ
cuts_in t r = slice_index_or t.cuts (r - 1) 0

abbrev pub asked_in : Tally → ℕ → ℕ
asked_in t r = slice_index_or t.asked (r - 1) 0
