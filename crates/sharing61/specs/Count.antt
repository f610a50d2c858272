-- Tests over the numbers 1 to n, as which receivers are numbered.
use Rattle.std.specs.Prelude.{ℕ, zero, suc, ◌+◌, Bool, true, false, ◌&&◌, ◌||◌, cond}

-- the test holds of every number from 1 to n
abbrev pub everyone : ℕ → (ℕ → Bool) → Bool
everyone zero test = true
everyone (suc count) test = everyone count test && test (suc count)

-- the test holds of some number from 1 to n
abbrev pub anyone : ℕ → (ℕ → Bool) → Bool
anyone zero test = false
anyone (suc count) test = anyone count test || test (suc count)

-- of how many numbers from 1 to n it holds
abbrev pub how_many : ℕ → (ℕ → Bool) → ℕ
how_many zero test = 0
how_many (suc count) test = how_many count test + cond (test (suc count)) 1 0
