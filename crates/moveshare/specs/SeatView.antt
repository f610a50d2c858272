-- What is in one seat of a move.
use Rattle.moveshare.specs.declared.seat.MoveSeat.TheInside.{Inside}
use Rattle.periods.specs.Mover.{Mover}
use Rattle.moveshare.specs.Seat.{IsMoving, IsKeptAt}

abbrev pub view_seat : Inside → Mover
view_seat inside = record { member = inside.sharer; sixth = inside.sixth }

pub record WholeSeat (a : Inside) : Type 0 where
  pub moving : IsMoving a.sharer.shape
  pub kept : IsKeptAt a.sharer.shape a.sharer.stage a.sixth
