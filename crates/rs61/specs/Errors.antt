-- What error_of answers, and the words of its steps.
use Rattle.std.specs.Prelude.{◌≡◌, ℕ, List, length, cond, eqb, Result, Ok, Err}
use Rattle.algebra61.specs.Field.{Fp, fe, zeroₚ, oneₚ}
use Rattle.checks61.specs.Checks.{syndrome_of, entry, IsErrorOf}
use Rattle.rs61.specs.declared.ErrorFault.{ErrorFault}
use Rattle.rs61.specs.declared.ErrorFault.TheVariants.{NoError, OutOfMemory}

-- the error vector of the syndrome, or that there is none; want of memory is free
abbrev pub ErrorAnswers : ℕ → ℕ → List Fp → Result (List Fp) ErrorFault → Type 0
ErrorAnswers size bound syndrome (Ok error) = IsErrorOf size bound syndrome error
ErrorAnswers size bound syndrome (Err NoError) = (error : List Fp) → IsErrorOf size bound syndrome error → ⊥
ErrorAnswers size bound syndrome (Err OutOfMemory) = Unit {0}

-- a word with this syndrome
pub record IsWordOf (size : ℕ) (syndrome word : List Fp) : Type 0 where
  pub long : length word ≡ size
  pub gives : syndrome_of size (length syndrome) (entry word) ≡ syndrome

-- a point with the value 1 at the peak, and 0 elsewhere
abbrev pub basis_point : ℕ → ℕ → (Fp × Fp)
basis_point peak point = (fe point, cond (eqb point peak) oneₚ zeroₚ)
