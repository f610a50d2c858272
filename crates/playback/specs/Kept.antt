-- What a recorded phase has to keep, whatever came before it.
use Rattle.std.specs.Prelude.{◌≡◌, ℕ, ◌*◌, ◌^◌, ◌<◌, Bool, true, false, ◌&&◌, ◌||◌, not, eqb, cond, length, All}
use Rattle.std.specs.List.{list_all}
use Rattle.std.proofs.Common.{ltb}
use Rattle.bivar61.specs.Grids.{IsGrid}
use Rattle.talk.specs.declared.messages.Post.{Post}
use Rattle.talk.specs.declared.messages.Post.TheVariants.{Quiet, Complaints, Reveals, Votes, Syndromes}
use Rattle.talk.specs.declared.messages.Ring.{Ring}
use Rattle.talk.specs.declared.messages.Ring.TheVariants.{Nothing, Dealt, Cross}
use Rattle.talk.specs.Shape.{Shape, seats, rounds, within}
use Rattle.talk.specs.Read.{ascends, comes_before, post_ok, ring_ok}
use Rattle.talk.specs.Sync.{has}
use Rattle.playback.specs.declared.phase.SaidItem.{SaidItem}
use Rattle.playback.specs.declared.phase.Phase.{Phase}
use Rattle.playback.specs.Recorded.{up_to}

abbrev pub is_quiet : Post → Bool
is_quiet Quiet = true
is_quiet (Complaints list) = false
is_quiet (Reveals list) = false
is_quiet (Votes list) = false
is_quiet (Syndromes list) = false

abbrev pub is_nothing : Ring → Bool
is_nothing Nothing = true
is_nothing (Dealt list) = false
is_nothing (Cross list) = false

-- items go by round, then by seat, then by whom it is said to
abbrev pub item_before : SaidItem → SaidItem → Bool
item_before one other = ltb one.round other.round || (eqb one.round other.round && comes_before one.seat one.to other.seat other.to)

-- it is a post, or a ring message to another seat, of the right shape or saying nothing; the other of the two says nothing
abbrev pub message_ok : Shape → SaidItem → Bool
message_ok shape item =
    cond (eqb item.to 0) (is_nothing item.ring && post_ok shape item.round item.seat item.post)
    (within 1 item.to (seats shape)
    && (not (eqb item.to item.seat) && (is_quiet item.post && ring_ok shape item.round item.seat item.to item.ring)))

-- a seat that is down says it in a round of the phase
abbrev pub item_ok : Shape → ℕ → SaidItem → Bool
item_ok shape down item =
    within 1 item.round (rounds shape) && (within 1 item.seat (seats shape) && (has down item.seat && message_ok shape item))

pub record IsKept (phase : Phase) : Type 0 where
  -- no stranger is down
  pub seated : phase.down < 2 ^ seats phase.setting
  -- five grids for each dealer that isn't down
  pub number : length phase.grids ≡ 5 * up_to phase.down phase.setting.dealers
  pub degrees : All (IsGrid phase.setting.degree) phase.grids
  -- nothing is said twice
  pub ascending : ascends item_before phase.said ≡ true
  pub items : list_all (item_ok phase.setting phase.down) phase.said ≡ true
