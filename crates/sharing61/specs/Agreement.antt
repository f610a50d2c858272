-- What holds of every instance in which at most `bound` receivers are down.
use Rattle.std.specs.Prelude.{◌≡◌, ℕ, ◌+◌, ◌*◌, ◌<◌, ◌≤◌, true, false, List, Some, None, length}
use Rattle.algebra61.specs.Field.{Fp, Prime}
use Rattle.algebra61.specs.Grid.{Degree}
use Rattle.sharing61.specs.Count.{how_many}
use Rattle.sharing61.specs.Rules.{Pair, pair_on}
use Rattle.sharing61.specs.Instance.{Dealer, Honest, Faulty, Instance, shown, vote, accepted, kept}

-- both polynomials have at most this degree
pub record Short (degree : ℕ) (pair : Pair) : Type 0 where
  pub across : length pair.row.coeffs ≤ degree + 1
  pub down : length pair.column.coeffs ≤ degree + 1

-- what the dealer deals and reveals has at most this degree; messages with more coefficients are not read
abbrev pub Deals : ℕ → Dealer → Type 0
Deals degree (Honest grid) = Degree degree grid
Deals degree (Faulty dealt shown) = ((receiver : ℕ) → Short degree (dealt receiver))
    × ((receiver : ℕ) (pair : Pair) → shown receiver ≡ Some pair → Short degree pair)

-- a receiver that is not down
pub record HonestReceiver (instance : Instance) (receiver : ℕ) : Type 0 where
  pub from : 1 ≤ receiver
  pub to : receiver ≤ instance.receivers
  pub up : instance.down receiver ≡ false

-- the premises: at most `bound` receivers are down, these are fewer than a third, the degree is at most `bound`, and
-- the receivers' points differ
pub record Proper (grid_degree : ℕ) (instance : Instance) : Type 0 where
  pub deals : Deals grid_degree instance.dealer
  pub few : how_many instance.receivers instance.down ≤ instance.bound
  pub third : 3 * instance.bound < instance.receivers
  pub degree : grid_degree ≤ instance.bound
  pub small : instance.receivers < Prime

-- every honest receiver has its row and column of the grid
abbrev pub OnOne : Instance → List (List Fp) → Type 0
OnOne instance grid = (receiver : ℕ) → HonestReceiver instance receiver → kept instance receiver ≡ pair_on grid receiver

-- an accepted instance lies on one grid of at most this degree
abbrev pub Agreement : ℕ → Type 0
Agreement degree = (instance : Instance) → Proper degree instance → accepted instance ≡ true →
    (grid : List (List Fp)) × Degree degree grid × OnOne instance grid

-- how the instance of an honest dealer with this grid ends
pub record HonestEnd (instance : Instance) (grid : List (List Fp)) : Type 0 where
  pub accepted : accepted instance ≡ true
  pub own : OnOne instance grid
  pub hidden : (receiver : ℕ) → HonestReceiver instance receiver → shown instance receiver ≡ None
  pub yes : (receiver : ℕ) → HonestReceiver instance receiver → vote instance receiver ≡ true

abbrev pub HonestDealer : ℕ → Type 0
HonestDealer degree =
    (instance : Instance) (grid : List (List Fp)) → instance.dealer ≡ Honest grid → Proper degree instance →
    HonestEnd instance grid
