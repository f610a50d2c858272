-- A member of a sharing as a plain machine: a seat that goes by the rules.
use Rattle.std.specs.Prelude.{ℕ, List, map}
use Rattle.algebra61.specs.Field.{Fp}
use Rattle.talk.specs.declared.messages.Ring.{Ring}
use Rattle.talk.specs.declared.messages.Say.{Say}
use Rattle.talk.specs.declared.messages.Say.TheVariants.{Speak}
use Rattle.talk.specs.declared.messages.Heard.{Heard}
use Rattle.talk.specs.Shape.{Shape, seats}
use Rattle.talk.specs.Sync.{Ways, ways}
use Rattle.plays.specs.Said.{points_up_to}
use Rattle.plays.specs.Stage.{Stage, AtReady, IsTurn, stage_after, stage_post, stage_ring, receiver_at}

-- a member: the setting, its seat, the grids that it deals, lane by lane, and how far it has come
pub record Member : Type 0 where
  pub shape : Shape
  pub seat : ℕ
  pub grids : List (List (List Fp))
  pub stage : Stage

-- a member before the first round
abbrev pub member_at : Shape → ℕ → List (List (List Fp)) → Member
member_at shape seat own = record { shape = shape; seat = seat; grids = own; stage = AtReady }

-- what a seat sends to each seat, in order, none to itself
abbrev pub rings_said : Shape → ℕ → List (List (List Fp)) → Stage → List Ring
rings_said shape seat own stage = map (stage_ring shape seat own stage) (points_up_to (seats shape))

-- a member always speaks in time
abbrev pub member_word : Member → ℕ → Say
member_word member round = Speak (stage_post member.shape member.seat member.grids member.stage) (rings_said member.shape member.seat member.grids member.stage)

-- saying its word changes nothing of it
abbrev pub member_after_say : Member → ℕ → Member
member_after_say member round = member

-- after hearing, it is at the next stage
abbrev pub member_after_hear : Member → ℕ → Heard → Member
member_after_hear member round heard = record member { stage = stage_after member.shape (receiver_at member.shape member.seat) member.grids heard member.stage }

abbrev pub member_ways : Ways Member
member_ways = ways member_word member_after_say member_after_hear

-- the round is the member's
abbrev pub member_turn : ℕ → Member → Type 0
member_turn round member = IsTurn round member.stage
