-- A play in which products are added to grids of honest dealers, which nobody who is down can tell from the first.
use Rattle.std.specs.Prelude.{◌≡◌, ℕ, ◌+◌, ◌<◌, ◌≤◌, Bool, true, false, cond, List, length}
use Rattle.algebra61.specs.Field.{Fp, fe, zeroₚ, oneₚ, ◌+ₚ◌}
use Rattle.algebra61.specs.Poly.{eval}
use Rattle.algebra61.specs.Grid.{add_product}
use Rattle.sizes.specs.Instances.{dealer_of}
use Rattle.sharing61.specs.Instance.{share}
use Rattle.talk.specs.Shape.{instances}
use Rattle.plays.specs.Play.{Play, instance_of, seat_of}
use Rattle.plays.specs.Law.{ProperPlay, HonestIn}
use Rattle.plays.specs.Heard.{post_heard, ring_heard}

-- in_x (x) * in_y (y) is added to the grids of the instances that the test names; in_y goes by instance
abbrev pub with_products : Play → (ℕ → Bool) → List Fp → (ℕ → List Fp) → Play
with_products play named in_x in_y = record play { grid = λ i. cond (named i) (add_product (play.grid i) in_x (in_y i)) (play.grid i) }

-- the products hide: they are of the setting's degree, the polynomial in x is 1 at 0, and both are 0 at every receiver that
-- is down
pub record AllHide (play : Play) (named : ℕ → Bool) (in_x : List Fp) (in_y : ℕ → List Fp) : Type 0 where
  -- only grids of honest dealers are named
  pub honest : (i : ℕ) → i < instances play.shape → named i ≡ true → play.down (dealer_of i) ≡ false
  pub short_x : (i : ℕ) → i < instances play.shape → named i ≡ true → length in_x ≤ play.shape.degree + 1
  pub short_y : (i : ℕ) → i < instances play.shape → named i ≡ true → length (in_y i) ≤ play.shape.degree + 1
  pub one : eval in_x zeroₚ ≡ oneₚ
  pub across : (j : ℕ) → 1 ≤ j → j ≤ play.shape.receivers → play.down (seat_of play.shape j) ≡ true → eval in_x (fe j) ≡ zeroₚ
  pub down : (i j : ℕ) → i < instances play.shape → named i ≡ true → 1 ≤ j → j ≤ play.shape.receivers → play.down (seat_of play.shape j) ≡ true →
      eval (in_y i) (fe j) ≡ zeroₚ

-- by how much a receiver's share of an instance rises
abbrev pub rise_of : (ℕ → Bool) → (ℕ → List Fp) → ℕ → ℕ → Fp
rise_of named in_y instance receiver = cond (named instance) (eval (in_y instance) (fe receiver)) zeroₚ

-- in the rounds of the sharing all posts stay, and so do all ring messages to those who are down; the shares rise
pub record SameInSharing (play other : Play) (rise : ℕ → ℕ → Fp) : Type 0 where
  pub proper : ProperPlay other
  pub posts : (round seat : ℕ) → post_heard other round seat ≡ post_heard play round seat
  pub rings : (round seat to : ℕ) → play.down to ≡ true → ring_heard other round seat to ≡ ring_heard play round seat to
  pub shares : (i receiver : ℕ) → i < instances play.shape → HonestIn play receiver →
      share (instance_of other i) receiver ≡ share (instance_of play i) receiver +ₚ rise i receiver

abbrev pub ProductsLookSame : Type 0
ProductsLookSame =
    (play : Play) (named : ℕ → Bool) (in_x : List Fp) (in_y : ℕ → List Fp) → ProperPlay play → AllHide play named in_x in_y →
    SameInSharing play (with_products play named in_x in_y) (rise_of named in_y)
