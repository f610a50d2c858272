-- What is in a member's mind.
use Rattle.std.specs.Prelude.{ℕ}
use Rattle.talk.specs.declared.part.Part.{Part}
use Rattle.periods.specs.Keeper.{Keeper}
use Rattle.zeroshare.specs.declared.refresh.Refresh.TheInside.{Inside}

abbrev pub view_refresh : (N : ℕ) → Inside N → Part Keeper
view_refresh N inside = inside.part
