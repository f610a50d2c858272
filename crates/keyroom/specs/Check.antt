-- What a check of a key's files comes to, and the command `check NAME`.
use Rattle.std.specs.Prelude.{◌≡◌, ◌⊎◌, ℕ, List, [], Result, Ok, Err}
use Rattle.algebra61.specs.Polynomial.{Polynomial}
use Rattle.shelf.specs.Held.{Held}
use Rattle.sharefile.specs.Files.{Now}
use Rattle.keyroom.specs.declared.status.Status.{Status}
use Rattle.keyroom.specs.declared.status.Status.TheVariants.{NoKey}
use Rattle.keyroom.specs.declared.steps.Found.{Found}
use Rattle.keyroom.specs.declared.check.Checked.{Checked}
use Rattle.keyroom.specs.Outcome.{Outcome, refused, done, Then}
use Rattle.keyroom.specs.Steps.{now_of, files_of}
use Rattle.keyroom.specs.Decoding.{AreNearest, IsFirstWithout, states_of}
use Rattle.keyroom.specs.Texts.{check_text}

abbrev pub checked_by : Now → List Found → List Polynomial → Checked
checked_by now files polys = record { file = now; members = states_of polys 1 files }

-- with the committee and its files known: the states by the lanes' nearest polynomials, or the least lane without one refuses
abbrev pub MeansStatesOf : Now → List Found → Result Checked Status → Type 0
MeansStatesOf now files end =
    ((polys : List Polynomial) × AreNearest now.t files polys × (end ≡ Ok (checked_by now files polys)))
    ⊎ ((lane : ℕ) × IsFirstWithout now.t files lane × (end ≡ Err (NoKey lane)))

-- the now file, then the share files and the decoding
abbrev pub MeansStates : List ℕ → Held → Result Checked Status → Type 0
MeansStates name held = Then (now_of name held) (λ now. MeansStatesOf now (files_of now held))

abbrev pub check_outcome : Result Checked Status → Outcome
check_outcome (Ok c) = done [] (check_text c)
check_outcome (Err status) = refused status

-- `check NAME` prints the members' states
abbrev pub MeansCheck : List ℕ → Held → Outcome → Type 0
MeansCheck name held outcome = (end : Result Checked Status) × MeansStates name held end × (outcome ≡ check_outcome end)
