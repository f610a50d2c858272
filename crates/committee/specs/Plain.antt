-- A create without a drill: each share is the sum of what the members' grids say.
use Rattle.std.specs.Prelude.{◌≡◌, ◌<◌, ◌≤◌, ℕ, ◌+◌, List, [], get_or}
use Rattle.algebra61.specs.Field.{Fp, fe, zeroₚ}
use Rattle.algebra61.specs.Grid.{grid_at}
use Rattle.bivar61.specs.Sums.{sum_below}
use Rattle.shelf.specs.Held.{Held}
use Rattle.sharefile.specs.Files.{Now, Share}
use Rattle.keyroom.specs.Steps.{HasShare}
use Rattle.commands.specs.Create.{dealt_by, grids_on}

-- the sum over all n members of the value at 0 and j of the grid of a lane that the member draws from its seed
abbrev pub plain_share : ℕ → ℕ → List (List ℕ) → ℕ → ℕ → Fp
plain_share n degree seeds lane j = sum_below n (λ i. grid_at (get_or (grids_on (dealt_by degree seeds) (i + 1)) lane []) zeroₚ (fe j))

-- the valid share files of a key that a shelf holds have these shares
abbrev pub HeldPlain : Now → List (List ℕ) → Held → Type 0
HeldPlain now seeds held =
    (lane j : ℕ) (file : Share) → lane < 5 → 1 ≤ j → j ≤ now.n → HasShare now held j file →
    get_or file.lanes lane zeroₚ ≡ plain_share now.n now.t seeds lane j
