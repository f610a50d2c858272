-- A finished phase, and what it says of the synchronous run.
use Rattle.std.specs.Prelude.{◌≡◌, ◌≢◌, ℕ, ◌+◌, ◌-◌, ◌<◌, ◌≤◌, true, List, length, get_or, take, Option, Some}
use mathlib.Core.List.{IsPrefix}
use Rattle.talk.specs.declared.messages.Post.{Post}
use Rattle.talk.specs.declared.messages.Ring.{Ring}
use Rattle.talk.specs.declared.messages.Say.TheVariants.{Pass}
use Rattle.talk.specs.Shape.{Shape, seats}
use Rattle.talk.specs.Sync.{Ways, has, post_in, words_of, sync, all_seats, AllAllowed}
use Rattle.roundboard.specs.declared.view.Event.{Event}
use Rattle.roundboard.specs.Rule.{IsPart}
use Rattle.roundboard.specs.Pens.{cell_of}
use Rattle.turns.specs.Turns.{Turn, tabulate}
use Rattle.turns.specs.Account.{Account, Closed}

module _ {M : Type 0} where
  -- Each of so many members has an account of all rounds, from its mind before to its mind after; the closed board
  -- settles their logs and notes, and what each received of another is a prefix of what that one sent to it
  pub record Finished (ways : Ways M) (shape : Shape) (count rounds : ℕ) (mask cut : ℕ → ℕ) (held : ℕ → Option Post)
      (before after : List M) : Type 0 where
    pub events : ℕ → List Event
    pub known : ℕ → ℕ → Option Post
    pub sent : ℕ → ℕ → List Ring
    pub got : ℕ → ℕ → List Ring
    pub turns : ℕ → List Turn
    -- any mind, for look-ups of seats that aren't there
    pub other : M
    pub sized : seats shape ≡ count
    pub all_before : length before ≡ count
    pub all_after : length after ≡ count
    pub closed : Closed count rounds mask cut held events known
    pub accounts : (seat : ℕ) → 1 ≤ seat → seat ≤ count →
        Account ways shape count seat (get_or before (seat - 1) other) (get_or after (seat - 1) other) (events seat)
        (known seat) (sent seat) (got seat) (turns seat)
    pub long : (seat : ℕ) → 1 ≤ seat → seat ≤ count → length (turns seat) ≡ rounds
    pub prefixes : (other_seat seat : ℕ) → 1 ≤ other_seat → other_seat ≤ count → 1 ≤ seat → seat ≤ count →
        other_seat ≢ seat → IsPrefix (got other_seat (seat - 1)) (sent seat (other_seat - 1))

  -- the minds after are the synchronous run of those before, under the board's masks
  abbrev pub EndsInSync : Ways M → Type 0
  EndsInSync ways =
      (shape : Shape) (count rounds : ℕ) (mask cut : ℕ → ℕ) (held : ℕ → Option Post) (before after : List M) →
      Finished ways shape count rounds mask cut held before after →
      after ≡ sync ways shape 1 (tabulate 0 rounds mask) before

  -- the board's masks are ones that the words allow, where those were cut whom the warden cut
  abbrev pub HasAllowedMasks : Ways M → Type 0
  HasAllowedMasks ways =
      (shape : Shape) (count rounds : ℕ) (mask cut : ℕ → ℕ) (held : ℕ → Option Post) (before after : List M) →
      Finished ways shape count rounds mask cut held before after →
      AllAllowed ways shape 1 (all_seats shape) cut (tabulate 0 rounds mask) before

  -- the board's posts are the words' posts
  abbrev pub HasWordsPosts : Ways M → Type 0
  HasWordsPosts ways =
      (shape : Shape) (count rounds : ℕ) (mask cut : ℕ → ℕ) (held : ℕ → Option Post) (before after : List M) →
      Finished ways shape count rounds mask cut held before after →
      (round seat : ℕ) → round < rounds → 1 ≤ seat → seat ≤ count → has (mask round) seat ≡ true →
      held (cell_of count round (seat - 1))
      ≡ Some (post_in
      (get_or (words_of ways (round + 1) (sync ways shape 1 (take round (tabulate 0 rounds mask)) before))
      (seat - 1) Pass))

  -- masks that words allow are allowed where more seats are cut too
  abbrev pub MoreCutsAllowMore : Ways M → Type 0
  MoreCutsAllowMore ways =
      (shape : Shape) (cut more : ℕ → ℕ) → ((round : ℕ) → 1 ≤ round → IsPart (cut round) (more round)) →
      (masks : List ℕ) (minds : List M) →
      AllAllowed ways shape 1 (all_seats shape) cut masks minds →
      AllAllowed ways shape 1 (all_seats shape) more masks minds
