-- Who is down on the seats of a drawn phase.
use Rattle.std.specs.Prelude.{ℕ, ◌-◌, Bool, cond}
use Rattle.std.proofs.Common.{leb}
use Rattle.scenes.specs.declared.scene.Scene.{Scene}
use Rattle.scenes.specs.declared.scene.Scene.TheVariants.{Create, Refresh, Move}
use Rattle.scenes.specs.Scenes.{is_down_on, is_drilled}

-- who has no shares or is drilled; in a create and on the new side of a move all have none to lack
abbrev pub down_on : Scene → ℕ → Bool
down_on (Create side) seat = is_drilled side.drilled seat
down_on (Refresh side) seat = is_down_on side seat
down_on (Move old new) seat = cond (leb seat old.members) (is_down_on old seat) (is_drilled new.drilled (seat - old.members))
