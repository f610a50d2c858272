-- A key's lanes, decoded from the members' files.
use Rattle.std.specs.Prelude.{◌≡◌, ◌⊎◌, ◌<◌, ◌≤◌, ◌+◌, ℕ, suc, List, [], ◌∷◌, map, length, get_or, Bool, true, false, ◌&&◌, eqb, Option, Some, None, Result, Ok, Err, if◌then◌else◌, count_by}
use Rattle.algebra61.specs.Field.{Fp, fe, zeroₚ}
use Rattle.algebra61.specs.Poly.{eval}
use Rattle.algebra61.specs.Polynomial.{Polynomial, poly}
use Rattle.algebra61.specs.Nearest.{IsNearest}
use Rattle.shelf.specs.Held.{Held}
use Rattle.sharefile.specs.Files.{Now, Share}
use Rattle.keyroom.specs.declared.status.Status.{Status}
use Rattle.keyroom.specs.declared.status.Status.TheVariants.{NoKey, OutOfMemory}
use Rattle.keyroom.specs.declared.state.MemberState.{MemberState}
use Rattle.keyroom.specs.declared.state.MemberState.TheVariants.{Missing, Damaged, Wrong, Fine}
use Rattle.keyroom.specs.declared.steps.Found.{Found}
use Rattle.keyroom.specs.declared.steps.Found.TheVariants.{Absent, Invalid, Valid}
use Rattle.keyroom.specs.Steps.{now_of, files_of}

-- the value of a lane that a file has, if it is valid
abbrev pub value_in : ℕ → Found → Option Fp
value_in lane Absent = None
value_in lane Invalid = None
value_in lane (Valid f) = Some (get_or f.lanes lane zeroₚ)

-- the values of a lane, by member
abbrev pub values_in : ℕ → List Found → List (Option Fp)
values_in lane files = map (value_in lane) files

-- the polynomial of a lane
abbrev pub lane_of : List Polynomial → ℕ → Polynomial
lane_of polys lane = get_or polys lane (poly [])

-- each of the five lanes has its nearest polynomial of degree at most t
pub record AreNearest (t : ℕ) (files : List Found) (polys : List Polynomial) : Type 0 where
  pub count : length polys ≡ 5
  pub nearest : (lane : ℕ) → lane < 5 → IsNearest t (values_in lane files) (lane_of polys lane)

-- the least lane without a nearest polynomial
pub record IsFirstWithout (t : ℕ) (files : List Found) (lane : ℕ) : Type 0 where
  pub within : lane < 5
  pub without : (p : Polynomial) → IsNearest t (values_in lane files) p → ⊥
  pub before : (l : ℕ) → l < lane → (p : Polynomial) × IsNearest t (values_in l files) p

-- what decoding one lane answers
abbrev pub DecodesLane : ℕ → ℕ → List Found → Result Polynomial Status → Type 0
DecodesLane t lane files (Ok p) = IsNearest t (values_in lane files) p
DecodesLane t lane files (Err status) =
    (status ≡ OutOfMemory) ⊎ ((status ≡ NoKey lane) × ((p : Polynomial) → IsNearest t (values_in lane files) p → ⊥))

-- what decoding the five lanes answers
abbrev pub Decodes : ℕ → List Found → Result (List Polynomial) Status → Type 0
Decodes t files (Ok polys) = AreNearest t files polys
Decodes t files (Err status) = (status ≡ OutOfMemory) ⊎ ((lane : ℕ) × (status ≡ NoKey lane) × IsFirstWithout t files lane)

-- the key: the value of each lane at 0
abbrev pub key_of : List Polynomial → List Fp
key_of polys = map (λ p. eval p.coeffs zeroₚ) polys

-- a lane's polynomial has the file's value at the member's point
abbrev pub agrees_in : List Polynomial → ℕ → Share → ℕ → Bool
agrees_in polys index f lane = eqb (eval (lane_of polys lane).coeffs (fe index)).num (get_or f.lanes lane zeroₚ).num

-- so it is in every lane
abbrev pub agrees : List Polynomial → ℕ → Share → Bool
agrees polys index f = agrees_in polys index f 0 && agrees_in polys index f 1 && agrees_in polys index f 2 && agrees_in polys index f 3 && agrees_in polys index f 4

-- the state of a member: its name isn't held, or what is held is no valid share file, or a lane has another value than
-- the decoded polynomial, or none of these
abbrev pub state_of : List Polynomial → ℕ → Found → MemberState
state_of polys index Absent = Missing
state_of polys index Invalid = Damaged
state_of polys index (Valid f) = if agrees polys index f then Fine else Wrong

-- the states of the members from this index on
abbrev pub states_of : List Polynomial → ℕ → List Found → List MemberState
states_of polys index [] = []
states_of polys index (file ∷ files) = state_of polys index file ∷ states_of polys (suc index) files

abbrev pub is_fine : MemberState → Bool
is_fine Missing = false
is_fine Damaged = false
is_fine Wrong = false
is_fine Fine = true

-- N - T members have valid share files whose lanes lie on these polynomials of degree at most T
pub record EnoughLieOn (n t : ℕ) (files : List Found) (polys : List Polynomial) : Type 0 where
  pub count : length polys ≡ 5
  pub short : (lane : ℕ) → lane < 5 → length (lane_of polys lane).coeffs ≤ t + 1
  pub enough : n ≤ t + count_by is_fine (states_of polys 1 files)

-- The now file of a key is held, and N - T members have valid share files whose lanes lie on these polynomials of degree
-- at most T. Nothing is said of the other files.
pub record HonestFiles (name : List ℕ) (now : Now) (held : Held) (polys : List Polynomial) : Type 0 where
  pub now_is : now_of name held ≡ Ok now
  pub enough : EnoughLieOn now.n now.t (files_of now held) polys
