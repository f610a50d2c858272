-- The grids that members draw from their seeds are grids.
use Rattle.std.proofs.Common.{ℕ, zero, suc, ◌+◌, ◌*◌, ◌<◌, ◌≤◌, List, [], length, get_or, arith}
use Rattle.algebra61.specs.Field.{Fp}
use Rattle.bivar61.specs.Grids.{IsGrid}
use Rattle.bivar61.proofs.GridLemmas.{grid_of_is}
use Rattle.chance61.specs.Draws.{grids_drawn, grids_drawn_with, grid_drawn, five_grids_drawn, drawn_in_turn, elements_drawn}
use Rattle.chance61.proofs.DrawLemmas.{length-elements_drawn, length-drawn_with, drawn_with_grids}

one_drawn : (d : ℕ) (seed : List ℕ) (place : ℕ) → d ≤ 14 → IsGrid d (grid_drawn d seed place).0
unfolding grid_drawn
one_drawn d seed place small = grid_of_is d (elements_drawn ((d + 1) * (d + 1)) seed place).0 small (length-elements_drawn ((d + 1) * (d + 1)) seed place)

each_drawn : (d : ℕ) (seed : List ℕ) (n place lane : ℕ) → d ≤ 14 → lane < n → IsGrid d (get_or (drawn_in_turn (grid_drawn d seed) n place).0 lane [])
each_drawn d seed zero place lane small lt = absurd (omega (arith, lt))
each_drawn d seed (suc n) place zero small lt = one_drawn d seed place small
each_drawn d seed (suc n) place (suc lane) small lt = each_drawn d seed n (grid_drawn d seed place).1 lane small (omega (arith, lt))

-- those of free constants
pub drawn_grid : (d : ℕ) (seed : List ℕ) (lane : ℕ) → d ≤ 14 → lane < 5 → IsGrid d (get_or (grids_drawn d seed) lane [])
unfolding five_grids_drawn
drawn_grid d seed lane small lt = each_drawn d seed 5 0 lane small lt

-- and those of given ones
pub drawn_with_grid : (d : ℕ) (constants : List Fp) (seed : List ℕ) (lane : ℕ) → d ≤ 14 → lane < length constants → IsGrid d (get_or (grids_drawn_with d constants seed) lane [])
drawn_with_grid d constants seed lane small lt =
    drawn_with_grids d constants seed 0 small lane [] (omega (arith, lt, length-drawn_with d constants seed 0))
