-- The constants of a move's grids against the shares before it.
use Rattle.std.specs.Prelude.{◌≡◌, ℕ, ◌-◌, ◌<◌, ◌≤◌, false, List, get_or, Option, Some, None}
use Rattle.algebra61.specs.Field.{Fp, zeroₚ}
use Rattle.algebra61.specs.Grid.{grid_at}
use Rattle.sizes.specs.Instances.{instance_at}
use Rattle.plays.specs.Play.{Play}

-- the share of a lane; 0 where there are none
abbrev pub share_in : Option (List Fp) → ℕ → Fp
share_in None lane = zeroₚ
share_in (Some values) lane = get_or values lane zeroₚ

-- the grids of a dealer in the first n lanes have these shares as constants
abbrev pub LanesFit : Play → ℕ → ℕ → Option (List Fp) → Type 0
LanesFit play dealer n shares =
    (lane : ℕ) → lane < n → grid_at (play.grid (instance_at dealer lane)) zeroₚ zeroₚ ≡ share_in shares lane

-- those of each dealer that isn't down
abbrev pub ConstantsFit : Play → List (Option (List Fp)) → Type 0
ConstantsFit play shares =
    (dealer : ℕ) → 1 ≤ dealer → dealer ≤ play.shape.dealers → play.down dealer ≡ false →
    LanesFit play dealer 5 (get_or shares (dealer - 1) None)
