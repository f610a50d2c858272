-- What a refresh and a move keep: each new share follows from the old ones, and the key stays.
use Rattle.std.specs.Prelude.{◌≡◌, ℕ, suc, ◌+◌, ◌<◌, ◌≤◌, ◌⊎◌, Bool, cond, List, [], ◌∷◌, length, take, get_or, Option, Ok}
use Rattle.algebra61.specs.Field.{Fp, fe, zeroₚ, ◌+ₚ◌, ◌*ₚ◌}
use Rattle.algebra61.specs.Poly.{eval}
use Rattle.algebra61.specs.Polynomial.{Polynomial}
use Rattle.talk.specs.Shape.{Shape, refresh_shape}
use Rattle.drillbook.specs.declared.order.Order.{Order}
use Rattle.drillbook.specs.Orders.{names}
use Rattle.shelf.specs.Held.{Held, after}
use Rattle.sharefile.specs.Files.{Now, IsNow, Share}
use Rattle.keyroom.specs.declared.status.Status.TheVariants as status
use Rattle.keyroom.specs.declared.steps.Found.{Found}
use Rattle.keyroom.specs.declared.steps.Found.TheVariants.{Absent}
use Rattle.keyroom.specs.Outcome.{Outcome}
use Rattle.keyroom.specs.Steps.{now_of, files_of, HasShare}
use Rattle.keyroom.specs.Decoding.{EnoughLieOn, HonestFiles, key_of}
use Rattle.commands.specs.Drill.{drill_of}
use Rattle.commands.specs.Late.{down_after}
use Rattle.commands.specs.Refresh.{MeansRefresh}

-- Who has a valid share file afterwards had one before, and in each lane one polynomial h of degree at most T - 1 tells what
-- was added: the new share of member j is the old one plus j times h (j).
abbrev pub AddsZeroShares : Now → Now → Held → Held → Type 0
AddsZeroShares before now old new =
    (lane : ℕ) → lane < 5 →
    (h : List Fp) × (length h ≤ before.t)
    × ((j : ℕ) (file : Share) → 1 ≤ j → j ≤ now.n → HasShare now new j file →
    (was : Share) × HasShare before old j was × (get_or file.lanes lane zeroₚ ≡ get_or was.lanes lane zeroₚ +ₚ fe j *ₚ eval h (fe j)))

-- where the key of this name stands after a refresh, and what became of its shares
pub record IsRefreshed (name : List ℕ) (before : Now) (old new : Held) : Type 0 where
  pub now : Now
  pub now_is : now_of name new ≡ Ok now
  pub size : now.n ≡ before.n
  pub bound : now.t ≡ before.t
  pub period : now.period ≡ before.period + 1
  pub number : now.next_number ≡ before.next_number
  pub shares : AddsZeroShares before now old new

-- the files of the members from this index on, without those of whom this holds
abbrev pub files_without : (ℕ → Bool) → ℕ → List Found → List Found
files_without out index [] = []
files_without out index (file ∷ files) = cond (out index) Absent file ∷ files_without out (suc index) files

-- N - T members have valid share files whose lanes lie on these polynomials of degree at most T, and the drill, read for
-- this setting, doesn't name them, and they are in each of the masks; a member sits on the seat of its index
pub record SoundFiles (name : List ℕ) (setting : Shape) (drill : Option (List ℕ)) (masks : List ℕ) (now : Now) (held : Held) (polys : List Polynomial) : Type 0 where
  pub now_is : now_of name held ≡ Ok now
  pub orders : List Order
  pub read : drill_of setting drill held ≡ Ok orders
  pub enough : EnoughLieOn now.n now.t (files_without (down_after (names orders) masks) 1 (files_of now held)) polys

-- the key that recovery finds stays: N - T honest files lie on polynomials before and after, with the same values at 0
pub record KeyStays (name : List ℕ) (before : Now) (polys : List Polynomial) (old new : Held) : Type 0 where
  pub was : HonestFiles name before old polys
  pub now : Now
  pub others : List Polynomial
  pub is : HonestFiles name now new others
  pub same : key_of others ≡ key_of polys

-- what is held is what a part, from the front, of the changes makes that are meant
pub record IsPartMade (means : Outcome → Type 0) (old new : Held) : Type 0 where
  pub outcome : Outcome
  pub meant : means outcome
  pub count : ℕ
  pub is : new ≡ after (take count outcome.changes) old

-- What a refresh leaves, under the masks of its phase: nothing has changed, or a part of the changes that it means under
-- these masks was made. The key stays, where N - T members that are neither drilled nor late under them had valid share
-- files on polynomials of degree at most T.
pub record IsKept (name : List ℕ) (drill : Option (List ℕ)) (before : Now) (coming : Option (List (List ℕ))) (cuts : ℕ → ℕ) (masks : List ℕ) (old new : Held) : Type 0 where
  pub made : (new ≡ old) ⊎ IsPartMade (MeansRefresh name drill old coming cuts masks) old new
  pub stays : (polys : List Polynomial) → SoundFiles name (refresh_shape before.n before.t) drill masks before old polys → KeyStays name before polys old new

-- each new share of a refresh that is done follows from the old one
abbrev pub RefreshesByOne : Type 0
RefreshesByOne =
    (name : List ℕ) (drill : Option (List ℕ)) (held : Held) (coming : Option (List (List ℕ))) (cuts : ℕ → ℕ) (masks : List ℕ) (outcome : Outcome) (before : Now) →
    MeansRefresh name drill held coming cuts masks outcome → outcome.status ≡ status.Done → now_of name held ≡ Ok before → IsNow before →
    IsRefreshed name before held (after outcome.changes held)

-- and whatever a refresh comes to, the key stays after any part of its changes, from the front, where N - T members that are
-- neither drilled nor late had valid share files on polynomials
abbrev pub RefreshesKeepTheKey : Type 0
RefreshesKeepTheKey =
    (name : List ℕ) (drill : Option (List ℕ)) (held : Held) (coming : Option (List (List ℕ))) (cuts : ℕ → ℕ) (masks : List ℕ) (outcome : Outcome) (before : Now) (polys : List Polynomial) (count : ℕ) →
    MeansRefresh name drill held coming cuts masks outcome → IsNow before → SoundFiles name (refresh_shape before.n before.t) drill masks before held polys →
    KeyStays name before polys held (after (take count outcome.changes) held)
