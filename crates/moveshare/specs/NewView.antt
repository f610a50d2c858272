-- What is in a new member's mind.
use Rattle.std.specs.Prelude.{◌≡◌, ℕ, true}
use Rattle.talk.specs.Shape.{receives}
use Rattle.periods.specs.Mover.{Mover}
use Rattle.moveshare.specs.declared.new.MoveNew.TheInside.{Inside}

abbrev pub view_new : (N M : ℕ) → Inside N M → Mover
view_new N M mover = mover.seat

-- a receiver sits on its seat
pub record WholeNew (N M : ℕ) (a : Inside N M) : Type 0 where
  pub dealers : a.seat.member.shape.dealers ≡ N
  pub receivers : a.seat.member.shape.receivers ≡ M
  pub receives : receives a.seat.member.shape a.seat.member.seat ≡ true
