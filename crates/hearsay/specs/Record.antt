-- The record of a play.
use Rattle.std.specs.Prelude.{◌≡◌, ℕ, ◌^◌, ◌<◌, false, List, [], cond, map}
use Rattle.std.specs.List.{flat_map}
use Rattle.algebra61.specs.Field.{Fp}
use Rattle.bivar61.specs.Grids.{IsGrid}
use Rattle.sizes.specs.Instances.{dealer_of, instance_at}
use Rattle.talk.specs.Shape.{instances, seats}
use Rattle.plays.specs.Play.{Play}
use Rattle.plays.specs.Said.{places, points_up_to}
use Rattle.playback.specs.declared.phase.PhaseKind.{PhaseKind}
use Rattle.playback.specs.declared.phase.Phase.{Phase}
use Rattle.hearsay.specs.Said.{Marks, said_in}

-- the five grids of a dealer, lane by lane
abbrev pub dealer_grids : Play → ℕ → List (List (List Fp))
dealer_grids play dealer = map (λ lane. play.grid (instance_at dealer lane)) (places 5)

-- those of all dealers that aren't down, in order of the dealers
abbrev pub grids_in : Play → List (List (List Fp))
grids_in play =
    flat_map (λ dealer. cond (play.down dealer) [] (dealer_grids play dealer)) (points_up_to play.shape.dealers)

-- each of them is a grid of the setting's degree
abbrev pub HasGrids : Play → Type 0
HasGrids play =
    (instance : ℕ) → instance < instances play.shape → play.down (dealer_of instance) ≡ false →
    IsGrid play.shape.degree (play.grid instance)

-- the phase is the record of the play: it has the play's setting, the seats that are down, the grids of the dealers
-- that aren't, and what is heard of those who are down
pub record IsRecordOf (kind : PhaseKind) (play : Play) (phase : Phase) : Type 0 where
  pub kind_is : phase.kind ≡ kind
  pub setting_is : phase.setting ≡ play.shape
  pub seated : phase.down < 2 ^ seats play.shape
  pub marks : Marks play.shape phase.down play.down
  pub grids_are : phase.grids ≡ grids_in play
  pub said_is : phase.said ≡ said_in play
