-- What is in an old member's mind.
use Rattle.std.specs.Prelude.{ℕ}
use Rattle.talk.specs.declared.part.Part.{Part}
use Rattle.periods.specs.Mover.{Mover}
use Rattle.moveshare.specs.declared.old.MoveOld.TheInside.{Inside}

abbrev pub view_old : (N : ℕ) → Inside N → Part Mover
view_old N inside = inside.part
