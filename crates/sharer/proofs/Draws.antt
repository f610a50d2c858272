-- The grids that a seat draws.
use Rattle.std.proofs.Common.{◌≡◌, ℕ, zero, suc, List, length, All, refl, ap, ◌∙◌}
use Rattle.algebra61.specs.Field.{Fp}
use Rattle.bivar61.specs.Grids.{IsGrid}
use Rattle.chance61.specs.Draws.{drawn_in_turn, grid_drawn, five_grids_drawn}
use Rattle.vss_core.specs.States.{FiveGrids}

drawn_count : {A : Type 0} (draw : ℕ → A × ℕ) (n place : ℕ) → length (drawn_in_turn draw n place).0 ≡ n
drawn_count draw zero place = refl
drawn_count draw (suc n) place = ap suc (drawn_count draw n (draw place).1)

five_count : (d : ℕ) (seed : List ℕ) (place : ℕ) → length (five_grids_drawn d seed place).0 ≡ 5
unfolding five_grids_drawn
five_count d seed place = drawn_count (grid_drawn d seed) 5 place

-- what is drawn are five grids
pub five_of : (d : ℕ) (seed : List ℕ) (place : ℕ) (grids : List (List (List Fp))) → grids ≡ (five_grids_drawn d seed place).0 → All (IsGrid d) grids → FiveGrids d grids
five_of d seed place grids e all = record { five = ap length e ∙ five_count d seed place; degree = all }
