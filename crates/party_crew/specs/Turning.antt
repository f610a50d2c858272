-- One round of one member.
use Rattle.std.specs.Prelude.{◌≡◌, ◌≢◌, ℕ, ◌+◌, ◌-◌, ◌<◌, ◌≤◌, ◌||◌, Bool, true, not, get_or, List, [], ◌∷◌, ◌++◌, Option, Some}
use Rattle.talk.specs.declared.messages.Post.{Post}
use Rattle.talk.specs.declared.messages.Ring.{Ring}
use Rattle.talk.specs.Shape.{Shape}
use Rattle.talk.specs.Sync.{Ways, has}
use Rattle.roundboard.specs.declared.view.Event.{Event}
use Rattle.talk.specs.declared.messages.Post.TheVariants.{Quiet}
use Rattle.talk.specs.declared.messages.Heard.{Heard}
use Rattle.roundboard.specs.Pens.{cell_of}
use Rattle.turns.specs.Turns.{Turn, IsComplete, heard_of, counted, sent_in, got_in}
use Rattle.turns.specs.Account.{TurnLogged}
use Rattle.roundboard.specs.Logs.{Grew}
use Rattle.roundboard.specs.Pages.{Saw}

-- the rest of what may be known stays known
abbrev pub Learns : (ℕ → Option Post) → (ℕ → Option Post) → Type 0
Learns before after = (cell : ℕ) (post : Post) → before cell ≡ Some post → after cell ≡ Some post

module _ {M : Type 0} where
  pub record TookTurn (ways : Ways M) (shape : Shape) (count me round : ℕ) (out now_out : Bool) (before after : M)
      (old new : List Event) (known knows : ℕ → Option Post) (sent_old sent_new got_old got_new : ℕ → List Ring)
      (turn : Turn) : Type 0 where
    pub logged : TurnLogged count me new knows (round - 1) turn (counted out (ways.word before round))
    pub mind : after ≡ ways.after_hear (ways.after_say before round) round (heard_of shape round me turn)
    pub sends : (seat : ℕ) → seat < count → seat ≢ me - 1 →
        sent_new seat ≡ sent_old seat ++ sent_in (seat + 1) (counted out (ways.word before round))
    pub gets : (seat : ℕ) → 1 ≤ seat → seat ≤ count → seat ≢ me →
        got_new (seat - 1) ≡ got_old (seat - 1) ++ got_in seat turn
    pub grew : Grew (round - 1) old new
    pub learns : Learns known knows
    pub out_is : now_out ≡ (out || not (has turn.mask me))

-- what a member heard in one round
pub record HeardRound (shape : Shape) (count me round mask : ℕ) (heard : Heard) (events : List Event)
    (known : ℕ → Option Post) (got_old got_new : ℕ → List Ring) (turn : Turn) : Type 0 where
  pub mask_is : turn.mask ≡ mask
  pub heard_is : heard ≡ heard_of shape round me turn
  pub saw : Saw events (round - 1) turn.mask
  pub read : (seat : ℕ) → 1 ≤ seat → seat ≤ count → has turn.mask seat ≡ true →
      known (cell_of count (round - 1) (seat - 1)) ≡ Some (get_or turn.posts (seat - 1) Quiet)
  pub complete : IsComplete count me turn
  pub gets : (seat : ℕ) → 1 ≤ seat → seat ≤ count → seat ≢ me →
      got_new (seat - 1) ≡ got_old (seat - 1) ++ got_in seat turn
