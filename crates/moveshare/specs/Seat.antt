-- One seat of a move: for which settings and seats it is made, and when it speaks.
use Rattle.std.specs.Prelude.{◌≡◌, ℕ, Bool, ◌&&◌, nat_lt, List, Option, Some, None, length}
use Rattle.talk.specs.declared.messages.Post.{Post}
use Rattle.talk.specs.Shape.{Shape, TwoCommittees, receives, seats}
use Rattle.plays.specs.Stage.{Stage}
use Rattle.members.specs.Shares.{IsDone}
use Rattle.sharer.specs.Sharer.{round_of}
use Rattle.periods.specs.Mover.{Mover, mover_turn}

-- one committee deals to another
abbrev pub IsMoving : Shape → Type 0
IsMoving shape = (bound : ℕ) × TwoCommittees shape bound

-- the posts of the sixth round are kept only once the sharing is done, one for each seat
abbrev pub IsKeptAt : Shape → Stage → Option (List Post) → Type 0
IsKeptAt shape stage None = Unit {0}
IsKeptAt shape stage (Some posts) = IsDone stage × (length posts ≡ seats shape)

-- a mover is made for its own setting and its own seat
abbrev pub MadeForMove : Mover → Shape → ℕ → Type 0
MadeForMove mover shape seat = (mover.member.shape ≡ shape) × (mover.member.seat ≡ seat)

-- the round that it may say, and then hear
abbrev pub may_move : Mover → ℕ → Type 0
may_move mover round = mover_turn round mover

-- it posts its syndromes: a receiver does, once the sharing is done
abbrev pub tells : Mover → Bool
tells mover = nat_lt 5 (round_of mover.member.stage) && receives mover.member.shape mover.member.seat
