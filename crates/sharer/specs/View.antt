-- What is in a sharer.
use Rattle.std.specs.Prelude.{◌≡◌, ℕ, ◌≤◌, true, false, List, [], Option, Some, None, Result, MatchResult, length}
use Rattle.algebra61.specs.Field.{Fp}
use Rattle.talk.specs.declared.messages.Heard.{Heard}
use Rattle.talk.specs.Shape.{Shape, instances, seats, deals, receives}
use Rattle.plays.specs.Play.{seat_of}
use Rattle.plays.specs.Stage.{Stage, AtReady, AtDealt, AtCrossed, AtComplained, AtRevealed, AtDone, stage_after, receiver_at, received}
use Rattle.vss_core.specs.States.{DealerState, IsReceiver}
use Rattle.members.specs.Member.{Member}
use Rattle.sharer.specs.declared.place.Place.{Place}
use Rattle.sharer.specs.declared.turn.Turn.{Turn}
use Rattle.sharer.specs.declared.turn.Turn.TheVariants.{First, Second, Third, Fourth, Fifth, Over}
use Rattle.sharer.specs.declared.at.At.{At}
use Rattle.sharer.specs.declared.at.At.TheVariants.{Ready, Dealt, Crossed, Complained, Revealed, Done, Deals}
use Rattle.sharer.specs.declared.sharer.Sharer.TheInside.{Inside}

-- the grids that a seat deals
abbrev pub grids_of : Option DealerState → List (List (List Fp))
grids_of None = []
grids_of (Some dealer) = dealer.grids

-- the dealer of a seat: none where the seat deals nothing
abbrev pub DealsOn : Shape → ℕ → Option DealerState → Type 0
DealsOn shape seat None = deals shape seat ≡ false
DealsOn shape seat (Some dealer) = (dealer.shape ≡ shape) × (dealer.me ≡ seat) × (deals shape seat ≡ true)

-- a seat of the setting, with its dealer
pub record IsPlace (p : Place) : Type 0 where
  pub from : 1 ≤ p.seat
  pub to : p.seat ≤ seats p.setting
  pub dealer : DealsOn p.setting p.seat p.dealer

-- receiver me sits on the seat
pub record Receives (s : Shape) (seat me : ℕ) : Type 0 where
  pub index : me ≡ receiver_at s seat
  pub receiver : IsReceiver s me
  pub seat_is : seat_of s me ≡ seat
  pub sits : receives s seat ≡ true
  pub all : received s me ≡ instances s

-- no receiver sits on the seat
pub record OnlyDeals (s : Shape) (seat : ℕ) : Type 0 where
  pub apart : receives s seat ≡ false
  pub none : received s (receiver_at s seat) ≡ 0

-- how far a seat that only deals has come
abbrev pub stage_at : Turn → Stage
stage_at First = AtReady
stage_at Second = AtDealt []
stage_at Third = AtCrossed [] []
stage_at (Fourth third) = AtComplained [] third
stage_at (Fifth fourth) = AtRevealed [] fourth []
stage_at Over = AtDone [] []

-- the turn after hearing a round
abbrev pub turn_after : Heard → Turn → Turn
turn_after heard First = Second
turn_after heard Second = Third
turn_after heard Third = Fourth heard.posts
turn_after heard (Fourth third) = Fifth heard.posts
turn_after heard (Fifth fourth) = Over
turn_after heard Over = Over

-- how far a seat has come
abbrev pub stage_of : At → Stage
stage_of (Ready state) = AtReady
stage_of (Dealt state) = AtDealt state.pairs
stage_of (Crossed state) = AtCrossed state.pairs state.complaints
stage_of (Complained state) = AtComplained state.pairs state.third
stage_of (Revealed state) = AtRevealed state.pairs state.fourth state.votes
stage_of (Done state) = AtDone state.kept state.accepted
stage_of (Deals state) = stage_at state

-- the posts of the third round that a seat which only deals has are those of all seats
abbrev pub HasAll : Shape → Turn → Type 0
HasAll shape First = Unit {0}
HasAll shape Second = Unit {0}
HasAll shape Third = Unit {0}
HasAll shape (Fourth third) = length third ≡ seats shape
HasAll shape (Fifth fourth) = Unit {0}
HasAll shape Over = Unit {0}

-- the state is that of the receiver on the seat; in the end there is an answer to each instance. Or none sits there
abbrev pub Belongs : Shape → ℕ → At → Type 0
Belongs shape seat (Ready state) = (state.shape ≡ shape) × Receives shape seat state.me
Belongs shape seat (Dealt state) = (state.shape ≡ shape) × Receives shape seat state.me
Belongs shape seat (Crossed state) = (state.shape ≡ shape) × Receives shape seat state.me
Belongs shape seat (Complained state) = (state.shape ≡ shape) × Receives shape seat state.me
Belongs shape seat (Revealed state) = (state.shape ≡ shape) × Receives shape seat state.me
Belongs shape seat (Done state) = (state.shape ≡ shape) × Receives shape seat state.me × (length state.accepted ≡ instances shape)
Belongs shape seat (Deals state) = OnlyDeals shape seat × HasAll shape state

-- the stage after hearing
abbrev pub next_stage : Place → Heard → Stage → Stage
next_stage place heard stage = stage_after place.setting (receiver_at place.setting place.seat) (grids_of place.dealer) heard stage

-- what a step answers: the next stage of the same seat, or the state as it was where memory is wanting
abbrev pub StepsTo : Place → Heard → At → Result At At → Type 0
StepsTo place heard at result = MatchResult result (λ a. (stage_of a ≡ next_stage place heard (stage_of at)) × Belongs place.setting place.seat a) (λ a. a ≡ at)

-- the member that a place and a state are
abbrev pub member_in : Place → At → Member
member_in place at = record { shape = place.setting; seat = place.seat; grids = grids_of place.dealer; stage = stage_of at }

abbrev pub view_sharer : Inside → Member
view_sharer inside = member_in inside.place inside.at

pub record Whole (a : Inside) : Type 0 where
  pub place : IsPlace a.place
  pub belongs : Belongs a.place.setting a.place.seat a.at
