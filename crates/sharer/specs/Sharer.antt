-- What a sharer may be told, what may be read of how far it has come, and for what a mind that holds one is made.
use Rattle.std.specs.Prelude.{◌≡◌, ℕ, List, Option, Some, None}
use Rattle.talk.specs.declared.messages.Post.{Post}
use Rattle.talk.specs.declared.messages.Heard.{Heard}
use Rattle.talk.specs.Shape.{Shape}
use Rattle.talk.specs.Hears.{Fits}
use Rattle.plays.specs.Stage.{Stage, AtReady, AtDealt, AtCrossed, AtComplained, AtRevealed, AtDone, IsTurn}
use Rattle.members.specs.Member.{Member}

-- what is heard was read for the member's setting and seat, in the round that its stage speaks
pub record MayHear (m : Member) (h : Heard) : Type 0 where
  pub round : ℕ
  pub turn : IsTurn round m.stage
  pub fits : Fits m.shape m.seat round h

-- the round that a stage speaks: six, once all five are heard
abbrev pub round_of : Stage → ℕ
round_of AtReady = 1
round_of (AtDealt pairs) = 2
round_of (AtCrossed pairs complaints) = 3
round_of (AtComplained pairs third) = 4
round_of (AtRevealed pairs fourth votes) = 5
round_of (AtDone pairs accepted) = 6

-- the posts of the third round, between that round and the fourth
abbrev pub third_in : Stage → Option (List Post)
third_in AtReady = None
third_in (AtDealt pairs) = None
third_in (AtCrossed pairs complaints) = None
third_in (AtComplained pairs third) = Some third
third_in (AtRevealed pairs fourth votes) = None
third_in (AtDone pairs accepted) = None

-- the posts of the fourth round, between that round and the fifth
abbrev pub fourth_in : Stage → Option (List Post)
fourth_in AtReady = None
fourth_in (AtDealt pairs) = None
fourth_in (AtCrossed pairs complaints) = None
fourth_in (AtComplained pairs third) = None
fourth_in (AtRevealed pairs fourth votes) = Some fourth
fourth_in (AtDone pairs accepted) = None

-- a mind whose phase has no sixth round is made for its member's setting, of five rounds, and its member's seat
abbrev pub MadeFor : Member → Shape → ℕ → Type 0
MadeFor member shape seat = (member.shape ≡ shape) × (member.seat ≡ seat) × (shape.checks ≡ 0)
