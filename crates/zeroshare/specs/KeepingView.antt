-- What is in a member that keeps its old shares.
use Rattle.std.specs.Prelude.{◌≡◌, true}
use Rattle.talk.specs.Shape.{receives}
use Rattle.periods.specs.Keeper.{Keeper}
use Rattle.zeroshare.specs.declared.keeping.Keeping.TheInside.{Inside}

abbrev pub view_keeping : Inside → Keeper
view_keeping inside = record { member = inside.sharer; old = inside.old }

-- a receiver sits on its seat
abbrev pub Receives : Inside → Type 0
Receives inside = receives inside.sharer.shape inside.sharer.seat ≡ true
