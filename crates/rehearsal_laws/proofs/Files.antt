-- The share files that stand in memory: those of the members who aren't without.
use Rattle.std.proofs.Common.{◌≡◌, ℕ, zero, suc, ◌+◌, ◌-◌, ◌<◌, ◌≤◌, Bool, true, false, ◌||◌, not, List, length, map, get_or, refl, ap, ap₂, ◌∙◌, arith}
use Rattle.std.specs.List.{range_with_len}
use Rattle.algebra61.specs.Field.{Fp}
use Rattle.talk.specs.Sync.{has}
use Rattle.sharefile.specs.Files.{Now}
use Rattle.keyroom.specs.declared.steps.Found.{Found}
use Rattle.keyroom.specs.declared.steps.Found.TheVariants.{Absent}
use Rattle.keyroom.specs.Sound.{is_valid, is_down}
use Rattle.commands.specs.Phase.{unless_down, shares_given}
use Rattle.scenes.specs.declared.side.Side.{Side}
use Rattle.scenes.specs.Scenes.{is_down_on, is_drilled}
use Rattle.rehearsal_laws.specs.Standing.{file_with, files_with}

-- the file of a member, where the test says who is without
abbrev pub file_of : Now → (ℕ → Bool) → (ℕ → List Fp) → ℕ → Found
file_of now without lanes member = file_with now member (unless_down (without member) (lanes member))

module _ (now : Now) (without : ℕ → Bool) (lanes : ℕ → List Fp) where
  files_at : (first n place : ℕ) → place < n →
      get_or (files_with now first (map (λ j. unless_down (without j) (lanes j)) (range_with_len first n))) place Absent ≡ file_of now without lanes (first + place)
  files_at first zero place lt = absurd (omega (arith, lt))
  files_at first (suc n) zero lt = let e : first ≡ first + 0 = omega arith in ap (file_of now without lanes) e
  files_at first (suc n) (suc place) lt =
      let e : (first + 1) + place ≡ first + suc place = omega arith in
      files_at (first + 1) n place (omega (arith, lt)) ∙ ap (file_of now without lanes) e

  -- that of a member of the committee
  pub file_at : (n member : ℕ) → 1 ≤ member → member ≤ n → get_or (files_with now 1 (shares_given without lanes n)) (member - 1) Absent ≡ file_of now without lanes member
  file_at n member from to =
      let e : 1 + (member - 1) ≡ member = omega (arith, from) in
      files_at 1 n (member - 1) (omega (arith, from, to)) ∙ ap (file_of now without lanes) e

  length_from : (first n : ℕ) → length (files_with now first (map (λ j. unless_down (without j) (lanes j)) (range_with_len first n))) ≡ n
  length_from first zero = refl
  length_from first (suc n) = ap suc (length_from (first + 1) n)

  pub length_files : (n : ℕ) → length (files_with now 1 (shares_given without lanes n)) ≡ n
  length_files n = length_from 1 n

-- it is valid where the member isn't without
pub valid_unless : (now : Now) (member : ℕ) (without : Bool) (shares : List Fp) → is_valid (file_with now member (unless_down without shares)) ≡ not without
valid_unless now member true shares = refl
valid_unless now member false shares = refl

swapped : (named without : Bool) → (named || not (not without)) ≡ (without || named)
swapped true true = refl
swapped true false = refl
swapped false true = refl
swapped false false = refl

-- a member is down where it has no file or is named, so as it is on its side
pub down_by_files : (named : ℕ → Bool) (now : Now) (side : Side) (lanes : ℕ → List Fp) (member : ℕ) → 1 ≤ member → member ≤ side.members → named member ≡ is_drilled side.drilled member →
    is_down named (files_with now 1 (shares_given (has side.shareless) lanes side.members)) member ≡ is_down_on side member
down_by_files named now side lanes member from to drilled =
    ap₂ (λ (one : Bool) (valid : Bool). one || not valid) drilled
    (ap is_valid (file_at now (has side.shareless) lanes side.members member from to) ∙ valid_unless now member (has side.shareless member) (lanes member))
    ∙ swapped (is_drilled side.drilled member) (has side.shareless member)
