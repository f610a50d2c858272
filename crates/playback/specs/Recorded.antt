-- A recorded phase, and the play that it is.
use Rattle.std.specs.Prelude.{ℕ, ◌+◌, ◌-◌, ◌*◌, Bool, ◌&&◌, not, eqb, cond, List, [], get_or, Option, Some, None}
use Rattle.std.proofs.Common.{ltb}
use Rattle.sizes.specs.Instances.{dealer_of, lane_of}
use Rattle.sharing61.specs.Count.{how_many}
use Rattle.talk.specs.declared.messages.Post.{Post}
use Rattle.talk.specs.declared.messages.Post.TheVariants.{Quiet}
use Rattle.talk.specs.declared.messages.Ring.{Ring}
use Rattle.talk.specs.declared.messages.Ring.TheVariants.{Nothing}
use Rattle.talk.specs.Shape.{Shape, instances}
use Rattle.talk.specs.Sync.{has}
use Rattle.plays.specs.Read.{seek}
use Rattle.plays.specs.Play.{Play}
use Rattle.histories61.specs.Phases.{Kind, Created, Refreshed, Moved}
use Rattle.playback.specs.declared.phase.PhaseKind.{PhaseKind}
use Rattle.playback.specs.declared.phase.PhaseKind.TheVariants.{Create, Refresh, Move}
use Rattle.playback.specs.declared.phase.SaidItem.{SaidItem}
use Rattle.playback.specs.declared.phase.Phase.{Phase}

abbrev pub kind_of : PhaseKind → Kind
kind_of Create = Created
kind_of Refresh = Refreshed
kind_of Move = Moved

-- ---- what was said
abbrev pub is_item : ℕ → ℕ → ℕ → SaidItem → Bool
is_item round seat to item = eqb item.round round && (eqb item.seat seat && eqb item.to to)

abbrev pub quiet_or : Option Post → Post
quiet_or None = Quiet
quiet_or (Some post) = post

abbrev pub nothing_or : Option Ring → Ring
nothing_or None = Nothing
nothing_or (Some ring) = ring

-- what a seat posted in a round: Quiet where no item tells of it
abbrev pub said_post : List SaidItem → ℕ → ℕ → Post
said_post said round seat = quiet_or (seek (is_item round seat 0) (λ item. item.post) said)

-- what it sent to another seat: Nothing where no item tells of it
abbrev pub said_ring : List SaidItem → ℕ → ℕ → ℕ → Ring
said_ring said round seat to = nothing_or (seek (is_item round seat to) (λ item. item.ring) said)

-- ---- the grids
-- how many of the dealers 1 to n aren't down
abbrev pub up_to : ℕ → ℕ → ℕ
up_to down count = how_many count (λ dealer. not (has down dealer))

-- the instance has a grid in the record
abbrev pub is_dealt : Shape → ℕ → ℕ → Bool
is_dealt shape down instance = ltb instance (instances shape) && not (has down (dealer_of instance))

-- where it stands: behind five for each dealer before it that isn't down
abbrev pub grid_place : ℕ → ℕ → ℕ
grid_place down instance = 5 * up_to down (dealer_of instance - 1) + lane_of instance

-- ---- the play
abbrev pub play_of : Phase → Play
play_of phase = record {
  shape = phase.setting;
  down = has phase.down;
  grid = λ instance. cond (is_dealt phase.setting phase.down instance) (get_or phase.grids (grid_place phase.down instance) []) [];
  post = said_post phase.said;
  ring = said_ring phase.said;
}
