-- The rule of the board's words, which holds between any two steps. Word 0 is the control word; word 2 * round + 1 is the arrivals word of a round, which counts from 0, and word 2 * round + 2 its frozen word.
-- An arrivals word has the posted places in bits 0 to 29, the passed places in bits 30 to 59, and closed in bit 63. A frozen word has the mask in bits 0 to 29, and set in bit 63.
use Rattle.std.specs.Prelude.{◌≡◌, ℕ, ◌+◌, ◌*◌, ◌%◌, ◌^◌, ◌<◌, ◌≤◌, ◌⊎◌, max, List, [], ◌∷◌, ◌++◌, length, slice_index, bit_or}
use Rattle.std.specs.Int.{bit_at}
use mathlib.Core.Option.{some}
use lib.ListN.{get_elem?}
use Rattle.atomic_table.specs.Table.{State}
use Rattle.roundboard.specs.declared.view.View.{View}
use Rattle.roundboard.specs.declared.view.Event.{Event}
use Rattle.roundboard.specs.declared.view.Deed.{Deed}
use Rattle.roundboard.specs.declared.view.Deed.TheVariants.{Posted, Passed, Closed, Published, Looked, Aborted, SawControl, Cut}

-- the element stands in the list
abbrev pub In : {A : Type 0} → A → List A → Type 0
In element [] = ⊥
In element (first ∷ rest) = (first ≡ element) ⊎ In element rest

-- the places of the words of the round, which counts from 0
abbrev pub arrivals_of : ℕ → ℕ
arrivals_of round = 2 * round + 1

abbrev pub frozen_of : ℕ → ℕ
frozen_of round = 2 * round + 2

-- the frozen word that a closing word makes
abbrev pub frozen_word : ℕ → ℕ
frozen_word closing = 2 ^ 63 + closing % 2 ^ 30

abbrev pub event : ℕ → Deed → Event
event round deed = record { round = round; deed = deed }

abbrev pub view : ℕ → List ℕ → List Event → View
view given numbers events = record { given = given; numbers = numbers; events = events }

-- the view after one more deed
abbrev pub with_event : ℕ → Deed → View → View
with_event round deed old = view old.given old.numbers (event round deed ∷ old.events)

-- the view that stands at the index did the deed in the round
abbrev pub Did : List View → ℕ → ℕ → Deed → Type 0
Did views index round deed = (v : View) × (get_elem? views index ≡ some v) × In (event round deed) v.events

-- the view that stands at the index has the number
abbrev pub Sits : List View → ℕ → ℕ → Type 0
Sits views index number = (v : View) × (get_elem? views index ≡ some v) × In number v.numbers

-- some view did the deed in the round
abbrev pub Has : List View → ℕ → Deed → Type 0
Has views round deed = (i : ℕ) × Did views i round deed

-- each bit of the part is one of the whole
abbrev pub IsPart : ℕ → ℕ → Type 0
IsPart part whole = (i : ℕ) → bit_at part i ≤ bit_at whole i

-- each of so many seats has posted or passed in the arrivals word
abbrev pub IsFull : ℕ → ℕ → Type 0
IsFull seats arrivals = (k : ℕ) → k < seats → 1 ≤ bit_at arrivals k + bit_at arrivals (30 + k)

-- the deed, by which a seat arrived or the warden cut seats, left the arrivals word
abbrev pub Left : Deed → ℕ → Type 0
Left (Posted place found) left = left ≡ bit_or found (2 ^ place)
Left (Passed place found) left = left ≡ bit_or found (2 ^ (30 + place))
Left (Cut mask found) left = left ≡ bit_or found (mask * 2 ^ 30)
Left _ left = ⊥

-- the view has an arrival of the round whose word, with its own bit, shows that all of so many seats arrived
abbrev pub Showed : ℕ → (Deed → Event) → View → Type 0
Showed seats in_round own = (d : Deed) × (x : ℕ) × In (in_round d) own.events × Left d x × IsFull seats x

-- the view that stands at the index showed that
abbrev pub HasShown : List View → ℕ → ℕ → ℕ → Type 0
HasShown views seats index round = (v : View) × (get_elem? views index ≡ some v) × Showed seats (event round) v

-- the place passed, or was cut
abbrev pub PassedBy : (Deed → Type 0) → ℕ → Type 0
PassedBy Done place = ((w : ℕ) × Done (Passed place w))
    ⊎ ((m : ℕ) × (w : ℕ) × Done (Cut m w) × (bit_at m place ≡ 1))

-- One round of so many seats: the arrivals word, the frozen word, and the deeds that some view has done in it
pub record RoundKept (seats arrivals frozen : ℕ) (Done : Deed → Type 0) : Type 0 where
  -- who has posted has its bit, and what it found is part of the word
  pub posts : (place found : ℕ) → Done (Posted place found) →
      (place < seats) × (bit_at arrivals place ≡ 1) × IsPart found arrivals
  -- a posted bit is somebody's post
  pub posted : (place : ℕ) → place < 30 → bit_at arrivals place ≡ 1 → (found : ℕ) × Done (Posted place found)
  -- the same of passes
  pub passes : (place found : ℕ) → Done (Passed place found) →
      (place < seats) × (bit_at arrivals (30 + place) ≡ 1) × IsPart found arrivals
  -- what was cut is seats, each has its passed bit, and what the cut found is part of the word
  pub cuts : (mask found : ℕ) → Done (Cut mask found) →
      (mask < 2 ^ seats) × IsPart (mask * 2 ^ 30) arrivals × IsPart found arrivals
  -- a passed bit is somebody's pass, or the warden's cut
  pub passed : (place : ℕ) → place < 30 → bit_at arrivals (30 + place) ≡ 1 → PassedBy Done place
  -- no bit but those of places and the closed bit is set
  pub spare : (k : ℕ) → 60 ≤ k → k < 63 → bit_at arrivals k ≡ 0
  -- where there is a closing word the word is closed; the closing word was not, shows that all arrived, and is part of the word
  pub closes : (closing : ℕ) → Done (Closed closing) →
      (bit_at arrivals 63 ≡ 1) × (bit_at closing 63 ≡ 0) × IsFull seats closing × IsPart closing arrivals
  pub closed : bit_at arrivals 63 ≡ 1 → (closing : ℕ) × Done (Closed closing)
  -- there is one closing word
  pub once : (closing other : ℕ) → Done (Closed closing) → Done (Closed other) → closing ≡ other
  -- a post found the word closed exactly where the closing word lacks its place
  pub timely : (closing place found : ℕ) → Done (Closed closing) → Done (Posted place found) →
      bit_at found 63 + bit_at closing place ≡ 1
  -- what was published is the posted bits of the closing word, and the frozen word shows it
  pub publishes : (closing : ℕ) → Done (Published closing) → Done (Closed closing) × (frozen ≡ frozen_word closing)
  pub published : (frozen ≡ 0) ⊎ ((closing : ℕ) × Done (Published closing))
  -- who has found the frozen word set finds the same again
  pub looks : (found : ℕ) → Done (Looked found) → (found ≡ 0) ⊎ (found ≡ frozen)

-- the number under which deeds on the control word stand; no round has it
abbrev pub control_round : ℕ
control_round = 8

-- The control word, and what was done to it
pub record ControlKept (control : ℕ) (Done : Deed → Type 0) : Type 0 where
  -- the abort bit is set exactly where some view has aborted
  pub aborts : Done Aborted → bit_at control 0 ≡ 1
  pub aborted : bit_at control 0 ≡ 1 → Done Aborted
  -- who has found the abort bit finds it again
  pub sees : (found : ℕ) → Done (SawControl found) → bit_at found 0 ≤ bit_at control 0

-- what a view needs to do the deed in the round: its own number where it arrives, and the number behind all seats' where it cuts; where it closes, an arrival of its own that showed all seats; where it publishes, the closing word of its own
pub record Licence (seats round : ℕ) (own : View) (deed : Deed) : Type 0 where
  pub sits : (place found : ℕ) → (deed ≡ Posted place found) ⊎ (deed ≡ Passed place found) →
      In (place + 1) own.numbers
  pub cuts : (mask found : ℕ) → deed ≡ Cut mask found → In (seats + 1) own.numbers
  pub arrived : (closing : ℕ) → deed ≡ Closed closing → Showed seats (event round) own
  pub closed : (closing : ℕ) → deed ≡ Published closing → In (event round (Closed closing)) own.events

-- The rule of a board of so many seats and rounds
pub record IsInOrder (seats rounds : ℕ) (state : State (Unit {0}) View) : Type 0 where
  pub long : length state.words ≡ 2 * rounds + 1
  pub each_round : (round : ℕ) → round < rounds →
      RoundKept seats (slice_index state.words (arrivals_of round)) (slice_index state.words (frozen_of round))
      (Has state.views round)
  pub few : rounds ≤ control_round
  pub control : ControlKept (slice_index state.words 0) (Has state.views control_round)
  -- a seat's number stands in one view, which has its posts
  pub single : (i j number : ℕ) → Sits state.views i number → Sits state.views j number → i ≡ j
  pub own : (i round place found : ℕ) →
      Did state.views i round (Posted place found) ⊎ Did state.views i round (Passed place found) →
      Sits state.views i (place + 1)
  -- who cuts is the warden, whose number comes behind those of all seats
  pub warden : (i round mask found : ℕ) → Did state.views i round (Cut mask found) → Sits state.views i (seats + 1)
  -- only a view that has shown all seats arrived closes, only the view that has closed publishes, and one view has closed
  pub licensed : (i round closing : ℕ) → Did state.views i round (Closed closing) → HasShown state.views seats i round
  pub publisher : (i round closing : ℕ) → Did state.views i round (Published closing) →
      Did state.views i round (Closed closing)
  pub alone : (i j round closing other : ℕ) → Did state.views i round (Closed closing) →
      Did state.views j round (Closed other) → i ≡ j
  -- the view that has number 0 gives out the numbers in order
  pub numbered : (i number : ℕ) (v : View) → get_elem? state.views i ≡ some v → In 0 v.numbers →
      (j : ℕ) → Sits state.views j number → number < v.given

-- the view of the head, from which all seats are split
abbrev pub opened : View
opened = view 1 (0 ∷ []) []

-- the head after it gave out a number, and the view of the seat that got it
abbrev pub given_out : View → View
given_out head = view (head.given + 1) head.numbers head.events

abbrev pub entered : View → View
entered head = view 0 (head.given ∷ []) []

-- a view that takes up another, and what is left of the other
abbrev pub both_of : View → View → View
both_of mine theirs =
    view (max mine.given theirs.given) (mine.numbers ++ theirs.numbers) (mine.events ++ theirs.events)

abbrev pub spent : View
spent = view 0 [] []
