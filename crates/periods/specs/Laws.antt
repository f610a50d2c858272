-- What a refresh and a move keep.
use Rattle.std.specs.Prelude.{◌≡◌, ℕ, ◌+◌, ◌<◌, ◌≤◌, false, List, length}
use Rattle.algebra61.specs.Field.{Fp, fe, zeroₚ, ◌+ₚ◌, ◌*ₚ◌}
use Rattle.algebra61.specs.Poly.{eval}
use Rattle.algebra61.specs.Grid.{grid_at}
use Rattle.checks61.specs.Checks.{check_of, difference_from}
use Rattle.sizes.specs.Instances.{instance_at}
use Rattle.sharing61.specs.Agreement.{Proper}
use Rattle.sharing61.specs.Instance.{Instance}
use Rattle.talk.specs.declared.messages.Post.{Post}
use Rattle.talk.specs.Shape.{Lawful, Shape}
use Rattle.plays.specs.Play.{Play, instance_of, created_share}
use Rattle.plays.specs.Law.{ProperPlay, HonestIn}
use Rattle.periods.specs.Refresh.{refreshed_share}
use Rattle.periods.specs.Move.{subshare, syndromes_heard, IsOpened, IsLaneError, HaveErrors, MoveHasNoResult, moved_share, IsConstantOf, AreConstants, IsWithin, IsMove}

-- the polynomial has at most this degree, and each honest receiver's value is its value at the receiver's point
pub record LieOn (play : Play) (degree : ℕ) (value : ℕ → Fp) (polynomial : List Fp) : Type 0 where
  pub short : length polynomial ≤ degree + 1
  pub values : (receiver : ℕ) → HonestIn play receiver → value receiver ≡ eval polynomial (fe receiver)

-- ---- a refresh
-- one polynomial h, of at most the setting's degree, for all honest receivers: the new share of receiver j is the old one
-- plus j * h (j)
abbrev pub RefreshedByOne : Type 0
RefreshedByOne =
    (play : Play) (lane : ℕ) → ProperPlay play → lane < 5 →
    (h : List Fp) × LieOn play play.shape.degree (created_share play lane) h
    × ((receiver : ℕ) (old : Fp) → HonestIn play receiver → refreshed_share play lane receiver old ≡ old +ₚ fe receiver *ₚ eval h (fe receiver))

-- so shares on one polynomial stay on one, with the same constant
abbrev pub RefreshKeeps : Type 0
RefreshKeeps =
    (play : Play) (lane : ℕ) (old : ℕ → Fp) (before : List Fp) → ProperPlay play → lane < 5 → LieOn play (play.shape.degree + 1) old before →
    (after : List Fp) × (eval after zeroₚ ≡ eval before zeroₚ)
    × LieOn play (play.shape.degree + 1) (λ receiver. refreshed_share play lane receiver (old receiver)) after

-- ---- constants
-- each instance shares one constant: it has one, and no two
abbrev pub HasConstant : ℕ → Type 0
HasConstant degree = (instance : Instance) → Proper degree instance → (constant : Fp) × IsConstantOf degree instance constant

abbrev pub OneConstant : ℕ → Type 0
OneConstant degree =
    (instance : Instance) (constant other : Fp) → Proper degree instance →
    IsConstantOf degree instance constant → IsConstantOf degree instance other → constant ≡ other

-- an honest dealer's is its grid's
abbrev pub HonestConstant : Type 0
HonestConstant =
    (play : Play) (dealer lane : ℕ) → ProperPlay play → 1 ≤ dealer → dealer ≤ play.shape.dealers → lane < 5 → play.down dealer ≡ false →
    IsConstantOf play.shape.degree (instance_of play (instance_at dealer lane)) (grid_at (play.grid (instance_at dealer lane)) zeroₚ zeroₚ)

-- ---- the opening of a move
-- what the honest receivers post for a place lies on one polynomial of at most the setting's degree
abbrev pub PlacePolynomial : Type 0
PlacePolynomial =
    (bound : ℕ) (play : Play) (lane place : ℕ) → IsMove bound play → lane < 5 →
    (polynomial : List Fp)
    × LieOn play play.shape.degree (λ receiver. check_of play.shape.dealers place (λ dealer. subshare play lane dealer receiver)) polynomial

-- so each opening gives one value: the check of the constants
abbrev pub OpenedIs : Type 0
OpenedIs =
    (bound : ℕ) (play : Play) (lane place : ℕ) (constant : ℕ → Fp) → IsMove bound play → lane < 5 → place < play.shape.checks →
    AreConstants play lane constant → IsOpened play.shape (syndromes_heard play) lane place (check_of play.shape.dealers place constant)

abbrev pub OneOpened : Type 0
OneOpened =
    (shape : Shape) (post : ℕ → Post) (lane place : ℕ) (value other : Fp) → Lawful shape →
    IsOpened shape post lane place value → IsOpened shape post lane place other → value ≡ other

-- ---- the result of a move
-- a lane has at most one error vector
abbrev pub OneLaneError : Type 0
OneLaneError =
    (bound : ℕ) (play : Play) (lane : ℕ) (error other : List Fp) → IsMove bound play →
    IsLaneError play.shape (syndromes_heard play) lane error → IsLaneError play.shape (syndromes_heard play) lane other → error ≡ other

-- where a polynomial is within the bound of the constants, the difference is the error vector, and the moved shares lie on
-- one polynomial with the same constant
abbrev pub MoveKeeps : Type 0
MoveKeeps =
    (bound : ℕ) (play : Play) (lane : ℕ) (constant : ℕ → Fp) (old : List Fp) → IsMove bound play → lane < 5 →
    AreConstants play lane constant → IsWithin play.shape.dealers bound constant old →
    IsLaneError play.shape (syndromes_heard play) lane (difference_from play.shape.dealers constant old)
    × ((new : List Fp) × (eval new zeroₚ ≡ eval old zeroₚ)
    × LieOn play play.shape.degree (moved_share play lane (difference_from play.shape.dealers constant old)) new)

-- and each error vector is such a difference
abbrev pub ErrorIsDifference : Type 0
ErrorIsDifference =
    (bound : ℕ) (play : Play) (lane : ℕ) (constant : ℕ → Fp) (error : List Fp) → IsMove bound play → lane < 5 →
    AreConstants play lane constant → IsLaneError play.shape (syndromes_heard play) lane error →
    (old : List Fp) × IsWithin play.shape.dealers bound constant old × (difference_from play.shape.dealers constant old ≡ error)

-- where a move has no result, no polynomial is within the bound of the constants in the named lane, and one is in each lane
-- before
abbrev pub NoneWithin : Type 0
NoneWithin =
    (bound : ℕ) (play : Play) (lane : ℕ) (syndrome : List Fp) (constant : ℕ → ℕ → Fp) → IsMove bound play →
    ((other : ℕ) → other < 5 → AreConstants play other (constant other)) → MoveHasNoResult play.shape (syndromes_heard play) lane syndrome →
    ((old : List Fp) → IsWithin play.shape.dealers bound (constant lane) old → ⊥)
    × ((other : ℕ) → other < lane → (old : List Fp) × IsWithin play.shape.dealers bound (constant other) old)

-- it has none for one lane and one syndrome alone, and not where the lanes have their error vectors
abbrev pub OneWithoutResult : Type 0
OneWithoutResult =
    (bound : ℕ) (play : Play) (lane other : ℕ) (syndrome list : List Fp) → IsMove bound play →
    MoveHasNoResult play.shape (syndromes_heard play) lane syndrome → MoveHasNoResult play.shape (syndromes_heard play) other list →
    (lane ≡ other) × (syndrome ≡ list)

abbrev pub ResultOrNone : Type 0
ResultOrNone =
    (bound : ℕ) (play : Play) (errors : List (List Fp)) (lane : ℕ) (syndrome : List Fp) → IsMove bound play →
    HaveErrors play.shape (syndromes_heard play) errors → MoveHasNoResult play.shape (syndromes_heard play) lane syndrome → ⊥
