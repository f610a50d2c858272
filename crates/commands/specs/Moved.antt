-- What a move keeps: where what the old members shared is near to a polynomial, the new shares lie on one with the same value
-- at 0, and so the key stays.
use Rattle.std.specs.Prelude.{◌≡◌, ◌⊎◌, ℕ, ◌+◌, ◌-◌, ◌<◌, ◌≤◌, true, false, List, length, take, get_or, Option, Ok}
use Rattle.algebra61.specs.Field.{Fp, fe, zeroₚ}
use Rattle.algebra61.specs.Poly.{eval}
use Rattle.algebra61.specs.Polynomial.{Polynomial}
use Rattle.checks61.specs.Checks.{syndrome_of}
use Rattle.talk.specs.Shape.{move_shape}
use Rattle.plays.specs.Play.{Play}
use Rattle.periods.specs.Move.{AreConstants, IsWithin}
use Rattle.drillbook.specs.Orders.{names}
use Rattle.shelf.specs.Held.{Held, after}
use Rattle.sharefile.specs.Files.{Now, IsNow, Share}
use Rattle.keyroom.specs.declared.status.Status.TheVariants as status
use Rattle.keyroom.specs.Outcome.{Outcome, AreFirst}
use Rattle.keyroom.specs.Steps.{now_of, HasShare}
use Rattle.keyroom.specs.Words.{Move, IsInRange}
use Rattle.commands.specs.Late.{in_each}
use Rattle.commands.specs.Standing.{Standing, seeds_for}
use Rattle.commands.specs.Move.{move_asked, AreMoveMasks, play_moved, move_changes, MeansMove}
use Rattle.commands.specs.Kept.{SoundFiles, KeyStays, IsPartMade}

-- The play of a move under these masks: what the steps find, the first of the seeds to come, and masks that the words of the
-- seats allow, where these were cut.
pub record IsPlayOf (name : List ℕ) (m u : ℕ) (drill : Option (List ℕ)) (held : Held) (coming : Option (List (List ℕ))) (cuts : ℕ → ℕ) (masks : List ℕ) (st : Standing) (play : Play) : Type 0 where
  pub asked : move_asked name m u drill held ≡ Ok st
  pub seeds : List (List ℕ)
  pub count : length seeds ≡ seeds_for st
  pub first : AreFirst seeds coming
  pub allowed : AreMoveMasks st m u seeds cuts masks
  pub is : play ≡ play_moved st m u seeds masks

-- What the old members shared in a lane, by index: the constants of the play. What a member with a valid share file shared
-- is its share, where no order names it and it is in each of the masks.
pub record AreShared (st : Standing) (held : Held) (masks : List ℕ) (play : Play) (lane : ℕ) (shared : ℕ → Fp) : Type 0 where
  pub are : AreConstants play lane shared
  pub own : (index : ℕ) (file : Share) → 1 ≤ index → index ≤ st.now.n → names st.orders index ≡ false → in_each masks index ≡ true →
      HasShare st.now held index file → shared index ≡ get_or file.lanes lane zeroₚ

-- the new share files of a lane lie on this polynomial of degree at most U
pub record LieOnIn (now : Now) (held : Held) (lane : ℕ) (polynomial : List Fp) : Type 0 where
  pub short : length polynomial ≤ now.t + 1
  pub values : (j : ℕ) (file : Share) → 1 ≤ j → j ≤ now.n →
      HasShare now held j file → get_or file.lanes lane zeroₚ ≡ eval polynomial (fe j)

-- A lane of a move that is done. Some polynomial of degree at most T differs from what was shared at no more than T members.
-- For each that does, the new share files lie on one polynomial of degree at most U with the same value at 0.
pub record IsLaneMoved (st : Standing) (now : Now) (old new : Held) (masks : List ℕ) (play : Play) (lane : ℕ) : Type 0 where
  pub shared : ℕ → Fp
  pub are : AreShared st old masks play lane shared
  pub near : (polynomial : List Fp) × IsWithin st.now.n st.now.t shared polynomial
  pub carried : (before : List Fp) → IsWithin st.now.n st.now.t shared before →
      (after : List Fp) × (eval after zeroₚ ≡ eval before zeroₚ) × LieOnIn now new lane after

-- Where the key of this name stands after a move that is done, and what became of its shares. What is held is what the
-- changes of this play make.
pub record IsMoved (name : List ℕ) (m u : ℕ) (drill : Option (List ℕ)) (before : Now) (coming : Option (List (List ℕ))) (cuts : ℕ → ℕ) (masks : List ℕ) (old new : Held) : Type 0 where
  pub st : Standing
  pub stands : st.now ≡ before
  pub play : Play
  pub of : IsPlayOf name m u drill old coming cuts masks st play
  pub errors : List (List Fp)
  pub made : new ≡ after (move_changes st m u play errors) old
  pub now : Now
  pub now_is : now_of name new ≡ Ok now
  pub size : now.n ≡ m
  pub bound : now.t ≡ u
  pub period : now.period ≡ before.period + 1
  pub number : now.next_number ≡ before.next_number
  pub lanes : (lane : ℕ) → lane < 5 → IsLaneMoved st now old new masks play lane

-- A move that is refused for want of an error vector names a lane with its syndrome. The syndrome is that of what was shared
-- in the lane, no polynomial of degree at most T differs from that at no more than T members, and in each lane before it
-- one does.
pub record HasNoWord (name : List ℕ) (m u : ℕ) (drill : Option (List ℕ)) (coming : Option (List (List ℕ))) (cuts : ℕ → ℕ) (masks : List ℕ) (held : Held) (lane : ℕ) (syndrome : List Fp) : Type 0 where
  pub st : Standing
  pub play : Play
  pub of : IsPlayOf name m u drill held coming cuts masks st play
  pub within : lane < 5
  pub shared : ℕ → Fp
  pub are : AreShared st held masks play lane shared
  pub syndrome_is : syndrome ≡ syndrome_of st.now.n (st.now.n - st.now.t - 1) shared
  pub far : (polynomial : List Fp) → IsWithin st.now.n st.now.t shared polynomial → ⊥
  pub nearer : (other : ℕ) → other < lane →
      (shared : ℕ → Fp) × AreShared st held masks play other shared
      × ((polynomial : List Fp) × IsWithin st.now.n st.now.t shared polynomial)

-- What a move leaves, under the masks of its phase: nothing has changed, or a part of the changes that it means under these
-- masks was made. The key stays, where N - T old members that are neither drilled nor late under them had valid share files
-- on polynomials of degree at most T.
pub record IsCarriedOn (name : List ℕ) (m u : ℕ) (drill : Option (List ℕ)) (before : Now) (coming : Option (List (List ℕ))) (cuts : ℕ → ℕ) (masks : List ℕ) (old new : Held) : Type 0 where
  pub made : (new ≡ old) ⊎ IsPartMade (MeansMove name m u drill old coming cuts masks) old new
  pub stays : (polys : List Polynomial) → SoundFiles name (move_shape before.n before.t m u) drill masks before old polys → KeyStays name before polys old new

-- A refusal for want of an error vector, under the masks of its phase: it names its lane, and N - T old members that are
-- neither drilled nor late under them had no valid share files on polynomials of degree at most T.
pub record LacksWord (name : List ℕ) (m u : ℕ) (drill : Option (List ℕ)) (coming : Option (List (List ℕ))) (cuts : ℕ → ℕ) (masks : List ℕ) (held : Held) (lane : ℕ) (syndrome : List Fp) : Type 0 where
  pub names : HasNoWord name m u drill coming cuts masks held lane syndrome
  pub unsound : (before : Now) (polys : List Polynomial) → SoundFiles name (move_shape before.n before.t m u) drill masks before held polys → ⊥

-- ---- the laws
-- so each move ends that is done
abbrev pub MovesCarryPolynomials : Type 0
MovesCarryPolynomials =
    (name : List ℕ) (m u : ℕ) (drill : Option (List ℕ)) (held : Held) (coming : Option (List (List ℕ))) (cuts : ℕ → ℕ) (masks : List ℕ)
    (outcome : Outcome) (before : Now) →
    IsInRange (Move name m u drill) → MeansMove name m u drill held coming cuts masks outcome → outcome.status ≡ status.Done →
    now_of name held ≡ Ok before → IsNow before →
    IsMoved name m u drill before coming cuts masks held (after outcome.changes held)

-- and so each that is refused for want of an error vector
abbrev pub MovesNameTheirLane : Type 0
MovesNameTheirLane =
    (name : List ℕ) (m u : ℕ) (drill : Option (List ℕ)) (held : Held) (coming : Option (List (List ℕ))) (cuts : ℕ → ℕ) (masks : List ℕ)
    (outcome : Outcome) (lane : ℕ) (syndrome : List Fp) →
    IsInRange (Move name m u drill) → MeansMove name m u drill held coming cuts masks outcome →
    outcome.status ≡ status.NoWord lane syndrome → HasNoWord name m u drill coming cuts masks held lane syndrome

-- none is, where N - T members that are neither drilled nor late have share files on polynomials
abbrev pub SoundMovesHaveWords : Type 0
SoundMovesHaveWords =
    (name : List ℕ) (m u : ℕ) (drill : Option (List ℕ)) (held : Held) (coming : Option (List (List ℕ))) (cuts : ℕ → ℕ) (masks : List ℕ)
    (outcome : Outcome) (before : Now) (polys : List Polynomial) (lane : ℕ) (syndrome : List Fp) →
    IsInRange (Move name m u drill) → MeansMove name m u drill held coming cuts masks outcome →
    SoundFiles name (move_shape before.n before.t m u) drill masks before held polys → outcome.status ≡ status.NoWord lane syndrome → ⊥

-- and whatever a move comes to, the key stays after any part of the changes, from the front, where N - T old members that are
-- neither drilled nor late had valid share files on polynomials
abbrev pub MovesKeepTheKey : Type 0
MovesKeepTheKey =
    (name : List ℕ) (m u : ℕ) (drill : Option (List ℕ)) (held : Held) (coming : Option (List (List ℕ))) (cuts : ℕ → ℕ) (masks : List ℕ)
    (outcome : Outcome) (before : Now) (polys : List Polynomial) (count : ℕ) →
    IsInRange (Move name m u drill) → MeansMove name m u drill held coming cuts masks outcome →
    IsNow before → SoundFiles name (move_shape before.n before.t m u) drill masks before held polys →
    KeyStays name before polys held (after (take count outcome.changes) held)
