-- The grids that stand in the record of a drawn phase.
use Rattle.std.specs.Prelude.{◌≡◌, ℕ, ◌≤◌, List}
use Rattle.algebra61.specs.Field.{Fp}
use Rattle.plays.specs.Play.{Play}
use Rattle.hearsay.specs.Record.{grids_in}
use Rattle.scenes.specs.declared.scene.Scene.{Scene}
use Rattle.rehearsal_laws.specs.Down.{down_on}

-- those of a play in which the dealers that the phase has down are down
abbrev pub AreGridsOf : Scene → Play → List (List (List Fp)) → Type 0
AreGridsOf scene play grids =
    ((dealer : ℕ) → 1 ≤ dealer → dealer ≤ play.shape.dealers → play.down dealer ≡ down_on scene dealer) →
    grids ≡ grids_in play
