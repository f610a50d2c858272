-- What one member did in a phase, as its log, its notes and its rings show it. No other member is named.
use Rattle.std.specs.Prelude.{◌≡◌, ◌≢◌, ℕ, zero, suc, ◌+◌, ◌-◌, ◌*◌, ◌^◌, ◌<◌, ◌≤◌, ◌⊎◌, Bool, true, false, List, [], ◌∷◌, length, get_or, Option, Some, None}
use Rattle.std.specs.Int.{bit_at}
use Rattle.talk.specs.declared.messages.Post.{Post}
use Rattle.talk.specs.declared.messages.Post.TheVariants.{Quiet}
use Rattle.talk.specs.declared.messages.Ring.{Ring}
use Rattle.talk.specs.declared.messages.Say.{Say}
use Rattle.talk.specs.declared.messages.Say.TheVariants.{Speak, Pass, PassThenSpeak}
use Rattle.talk.specs.Shape.{Shape}
use Rattle.talk.specs.Sync.{Ways, has}
use Rattle.roundboard.specs.declared.view.Event.{Event}
use Rattle.roundboard.specs.declared.view.Deed.TheVariants.{Posted, Passed}
use Rattle.roundboard.specs.Rule.{In, event}
use Rattle.roundboard.specs.Pages.{Saw}
use Rattle.roundboard.specs.Pens.{cell_of}
use Rattle.turns.specs.Turns.{Turn, IsComplete, mind_after, counted_after, got_items, sent_items}

-- the log says that the seat on this place did in a round, from 0, what the word says
abbrev pub WordLogged : List Event → ℕ → ℕ → Say → Type 0
WordLogged events round place (Speak post rings) =
    ((word : ℕ) × In (event round (Posted place word)) events)
    × ((word : ℕ) → In (event round (Passed place word)) events → ⊥)
WordLogged events round place Pass =
    ((word : ℕ) × In (event round (Passed place word)) events)
    × ((word : ℕ) → In (event round (Posted place word)) events → ⊥)
WordLogged events round place (PassThenSpeak post rings) =
    ((word : ℕ) × In (event round (Passed place word)) events)
    × ((word : ℕ) × In (event round (Posted place word)) events)

-- the own cell holds what the word posts
abbrev pub Wrote : (ℕ → Option Post) → ℕ → Say → Type 0
Wrote known cell (Speak post rings) = known cell ≡ Some post
Wrote known cell Pass = Unit {0}
Wrote known cell (PassThenSpeak post rings) = known cell ≡ Some post

-- one turn of the seat `me` in a round, in which it said what counts, as its log and its notes show it
pub record TurnLogged (count me : ℕ) (events : List Event) (known : ℕ → Option Post) (round : ℕ) (turn : Turn)
    (said : Say) : Type 0 where
  pub mask : Saw events round turn.mask
  pub word : WordLogged events round (me - 1) said
  pub wrote : Wrote known (cell_of count round (me - 1)) said
  pub read : (seat : ℕ) → 1 ≤ seat → seat ≤ count → has turn.mask seat ≡ true →
      known (cell_of count round (seat - 1)) ≡ Some (get_or turn.posts (seat - 1) Quiet)
  pub complete : IsComplete count me turn

module _ {M : Type 0} where
  -- and so each turn
  abbrev pub AllLogged : Ways M → Shape → ℕ → ℕ → M → List Event → (ℕ → Option Post) → List Turn → Type 0
  AllLogged ways shape count me first events known [] = Unit {0}
  AllLogged ways shape count me first events known (turn ∷ older) =
      TurnLogged count me events known (length older) turn (counted_after ways shape me first older)
      × AllLogged ways shape count me first events known older

  -- what the member on the seat `me` did and has, after the turns: its mind, its log and notes, and the items of its
  -- rings
  pub record Account (ways : Ways M) (shape : Shape) (count me : ℕ) (first now : M) (events : List Event)
      (known : ℕ → Option Post) (sent got : ℕ → List Ring) (turns : List Turn) : Type 0 where
    pub mind : now ≡ mind_after ways shape me first turns
    pub logged : AllLogged ways shape count me first events known turns
    pub sends : (seat : ℕ) → 1 ≤ seat → seat ≤ count → seat ≢ me →
        sent (seat - 1) ≡ sent_items ways shape seat me first turns
    pub gets : (seat : ℕ) → 1 ≤ seat → seat ≤ count → seat ≢ me → got (seat - 1) ≡ got_items seat turns

-- What the closed board says of all members, each with its log and its notes. `mask` is the mask of each
-- round, from 0, and `cut` is who was cut in each round, from 1
pub record Closed (count rounds : ℕ) (mask cut : ℕ → ℕ) (held : ℕ → Option Post) (events : ℕ → List Event)
    (known : ℕ → ℕ → Option Post) : Type 0 where
  -- every mask that any member saw is the board's
  pub one_mask : (seat round seen : ℕ) → 1 ≤ seat → seat ≤ count → round < rounds → Saw (events seat) round seen →
      seen ≡ mask round
  -- no bit but those of the seats is in a mask
  pub few : (round : ℕ) → round < rounds → mask round < 2 ^ count
  -- a post is in the mask exactly where it found the word not closed
  pub in_time : (seat round word : ℕ) → 1 ≤ seat → seat ≤ count → round < rounds →
      In (event round (Posted (seat - 1) word)) (events seat) → bit_at word 63 + bit_at (mask round) (seat - 1) ≡ 1
  -- a post that found it closed is of a seat that passed in the round, or was cut
  pub late : (seat round word : ℕ) → 1 ≤ seat → seat ≤ count → round < rounds →
      In (event round (Posted (seat - 1) word)) (events seat) → bit_at word 63 ≡ 1 →
      ((passed : ℕ) × In (event round (Passed (seat - 1) passed)) (events seat))
      ⊎ (bit_at (cut (round + 1)) (seat - 1) ≡ 1)
  -- who is in a mask has posted
  pub posted : (seat round : ℕ) → 1 ≤ seat → seat ≤ count → round < rounds → bit_at (mask round) (seat - 1) ≡ 1 →
      (word : ℕ) × In (event round (Posted (seat - 1) word)) (events seat)
  -- a value that any member knows of a cell is the board's
  pub one_value : (seat cell : ℕ) (value : Post) → 1 ≤ seat → seat ≤ count → known seat cell ≡ Some value →
      held cell ≡ Some value

-- the masks of so many rounds, the newest first
abbrev pub masks_back : (ℕ → ℕ) → ℕ → List ℕ
masks_back mask zero = []
masks_back mask (suc rounds) = mask rounds ∷ masks_back mask rounds
