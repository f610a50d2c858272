-- Another grid of an honest dealer, which nobody who is down can tell from the first.
use Rattle.std.specs.Prelude.{◌≡◌, ℕ, ◌≤◌, true, List}
use Rattle.algebra61.specs.Field.{Fp, fe, zeroₚ, oneₚ, ◌+ₚ◌}
use Rattle.algebra61.specs.Poly.{eval}
use Rattle.algebra61.specs.Grid.{Degree, add_product}
use Rattle.sharing61.specs.Rules.{at_point}
use Rattle.sharing61.specs.Instance.{Honest, Instance, held, complaint, shown, vote, accepted, share}
use Rattle.sharing61.specs.Agreement.{Proper, HonestReceiver}

-- the instance in which in_x (x) * in_y (y) is added to the dealer's grid
abbrev pub translated : Instance → List (List Fp) → List Fp → List Fp → Instance
translated instance grid in_x in_y = record instance { dealer = Honest (add_product grid in_x in_y) }

-- the first polynomial is 1 at 0, and both are 0 at every receiver that is down
pub record Hides (instance : Instance) (in_x in_y : List Fp) : Type 0 where
  pub one : eval in_x zeroₚ ≡ oneₚ
  pub across : (receiver : ℕ) → 1 ≤ receiver → receiver ≤ instance.receivers → instance.down receiver ≡ true →
      eval in_x (fe receiver) ≡ zeroₚ
  pub down : (receiver : ℕ) → 1 ≤ receiver → receiver ≤ instance.receivers → instance.down receiver ≡ true →
      eval in_y (fe receiver) ≡ zeroₚ

abbrev pub InRange : Instance → ℕ → Type 0
InRange instance receiver = (1 ≤ receiver) × (receiver ≤ instance.receivers)

-- all that a receiver which is down gets, and all that is said in public, is the same in both
pub record SameViews (first other : Instance) : Type 0 where
  pub dealt : (receiver : ℕ) → InRange first receiver → first.down receiver ≡ true →
      held other receiver ≡ held first receiver
  pub crossed : (receiver sender : ℕ) → InRange first receiver → InRange first sender → first.down receiver ≡ true →
      at_point (held other sender) receiver ≡ at_point (held first sender) receiver
  pub complaints : (receiver against : ℕ) → InRange first receiver → InRange first against →
      complaint other receiver against ≡ complaint first receiver against
  pub reveals : (receiver : ℕ) → InRange first receiver → shown other receiver ≡ shown first receiver
  pub votes : (receiver : ℕ) → InRange first receiver → vote other receiver ≡ vote first receiver
  pub accepts : accepted other ≡ accepted first

-- Where the dealer is honest, few receivers are down and the sum has at most this degree, the views stay, and each honest
-- receiver's share rises by the second polynomial's value
abbrev pub OtherChoice : ℕ → Type 0
OtherChoice degree =
    (instance : Instance) (grid : List (List Fp)) (in_x in_y : List Fp) → instance.dealer ≡ Honest grid →
    Proper degree instance →
    Degree degree (add_product grid in_x in_y) → Hides instance in_x in_y →
    SameViews instance (translated instance grid in_x in_y)
    × ((receiver : ℕ) → HonestReceiver instance receiver → share (translated instance grid in_x in_y) receiver ≡ share instance receiver +ₚ eval in_y (fe receiver))
