-- A move to another committee: each old member deals a sharing of its share, and the new members combine what they get,
-- less the errors that the opened syndromes tell.
use Rattle.std.specs.Prelude.{◌≡◌, ℕ, ◌+◌, ◌-◌, ◌*◌, ◌<◌, ◌≤◌, List, [], map, length, get_or, Option, Some, None}
use Rattle.std.specs.List.{flat_map}
use Rattle.algebra61.specs.Field.{Fp, fe, zeroₚ}
use Rattle.algebra61.specs.Poly.{eval}
use Rattle.algebra61.specs.Polynomial.{Polynomial}
use Rattle.algebra61.specs.Nearest.{IsNearest}
use Rattle.checks61.specs.Checks.{syndrome_of, entry, nonzero_to, IsErrorOf, difference_from, corrected}
use Rattle.sizes.specs.Instances.{instance_at}
use Rattle.sharing61.specs.Instance.{Instance, share}
use Rattle.sharing61.specs.Agreement.{HonestReceiver}
use Rattle.talk.specs.declared.messages.Post.{Post}
use Rattle.talk.specs.declared.messages.Post.TheVariants.{Quiet, Complaints, Reveals, Votes, Syndromes}
use Rattle.talk.specs.Shape.{Shape, Lawful, TwoCommittees}
use Rattle.plays.specs.Play.{Play, instance_of, seat_of}
use Rattle.plays.specs.Said.{places, points_up_to, unless_down}
use Rattle.plays.specs.Law.{ProperPlay}

-- what a receiver has of a dealer in a lane: its share of that instance, 0 where it isn't accepted
abbrev pub subshare : Play → ℕ → ℕ → ℕ → Fp
subshare play lane dealer receiver = share (instance_of play (instance_at dealer lane)) receiver

-- ---- the sixth round
-- what a receiver posts: lane by lane the syndrome of its subshares, which are given by lane and dealer
abbrev pub syndrome_list : Shape → (ℕ → ℕ → Fp) → List Fp
syndrome_list shape subshares = flat_map (λ lane. syndrome_of shape.dealers shape.checks (subshares lane)) (places 5)

unfoldable pub syndromes_by : Play → ℕ → Post
syndromes_by play receiver = Syndromes (syndrome_list play.shape (λ lane dealer. subshare play lane dealer receiver))

-- what is heard of it
abbrev pub syndromes_heard : Play → ℕ → Post
syndromes_heard play receiver =
    unless_down (play.down (seat_of play.shape receiver)) (play.post 6 (seat_of play.shape receiver)) (syndromes_by play receiver)

-- ---- the opening
-- the k-th value of a post of syndromes, 0 past its end; none where something else was posted
abbrev pub syndrome_in : ℕ → Post → Option Fp
syndrome_in place (Syndromes list) = Some (get_or list place zeroₚ)
syndrome_in place Quiet = None
syndrome_in place (Complaints list) = None
syndrome_in place (Reveals list) = None
syndrome_in place (Votes list) = None

-- the k-th values of the receivers' posts, by receiver, where post gives what each receiver posted
abbrev pub values_in : ℕ → Shape → (ℕ → Post) → List (Option Fp)
values_in place shape post = map (λ receiver. syndrome_in place (post receiver)) (points_up_to shape.receivers)

-- those of a place of the syndrome in a lane
abbrev pub posted_values : Shape → (ℕ → Post) → ℕ → ℕ → List (Option Fp)
posted_values shape post lane place = values_in (lane * shape.checks + place) shape post

-- the opened value of the place: the value at 0 of the polynomial that is nearest to what was posted
abbrev pub IsOpened : Shape → (ℕ → Post) → ℕ → ℕ → Fp → Type 0
IsOpened shape post lane place value =
    (polynomial : Polynomial) × IsNearest shape.degree (posted_values shape post lane place) polynomial × (value ≡ eval polynomial.coeffs zeroₚ)

-- the opened syndrome of the lane
pub record IsOpenedSyndrome (shape : Shape) (post : ℕ → Post) (lane : ℕ) (syndrome : List Fp) : Type 0 where
  pub long : length syndrome ≡ shape.checks
  pub each : (place : ℕ) → place < shape.checks → IsOpened shape post lane place (get_or syndrome place zeroₚ)

-- how many of the old committee may be faulty
abbrev pub old_bound : Shape → ℕ
old_bound shape = shape.dealers - shape.checks - 1

-- the error vector of the lane: that of its opened syndrome
pub record IsLaneError (shape : Shape) (post : ℕ → Post) (lane : ℕ) (error : List Fp) : Type 0 where
  pub syndrome : List Fp
  pub opened : IsOpenedSyndrome shape post lane syndrome
  pub is : IsErrorOf shape.dealers (old_bound shape) syndrome error

-- ---- the result
-- the moved share of a receiver in a lane with this error vector
abbrev pub moved_share : Play → ℕ → List Fp → ℕ → Fp
moved_share play lane error receiver = corrected (old_bound play.shape + 1) (λ dealer. subshare play lane dealer receiver) (entry error)

-- the error vectors of the five lanes
pub record HaveErrors (shape : Shape) (post : ℕ → Post) (errors : List (List Fp)) : Type 0 where
  pub five : length errors ≡ 5
  pub each : (lane : ℕ) → lane < 5 → IsLaneError shape post lane (get_or errors lane [])

-- all lanes are opened, and in some of them the opened syndrome has no error vector: this lane is the least, with this
-- opened syndrome
pub record MoveHasNoResult (shape : Shape) (post : ℕ → Post) (lane : ℕ) (syndrome : List Fp) : Type 0 where
  pub within : lane < 5
  pub opened : (other : ℕ) → other < 5 → (list : List Fp) × IsOpenedSyndrome shape post other list
  pub named : IsOpenedSyndrome shape post lane syndrome
  pub without : (error : List Fp) → IsErrorOf shape.dealers (old_bound shape) syndrome error → ⊥
  pub before : (other : ℕ) → other < lane → (error : List Fp) × IsLaneError shape post other error

-- ---- what the dealers share
-- the shares of an instance's honest receivers are the values of this polynomial of at most this degree
pub record IsPolynomialOf (degree : ℕ) (instance : Instance) (polynomial : List Fp) : Type 0 where
  pub short : length polynomial ≤ degree + 1
  pub values : (receiver : ℕ) → HonestReceiver instance receiver → share instance receiver ≡ eval polynomial (fe receiver)

-- the constant that the instance shares
pub record IsConstantOf (degree : ℕ) (instance : Instance) (constant : Fp) : Type 0 where
  pub polynomial : List Fp
  pub is : IsPolynomialOf degree instance polynomial
  pub at_zero : constant ≡ eval polynomial zeroₚ

-- the constant that each dealer shares in a lane
abbrev pub AreConstants : Play → ℕ → (ℕ → Fp) → Type 0
AreConstants play lane constant =
    (dealer : ℕ) → 1 ≤ dealer → dealer ≤ play.shape.dealers →
    IsConstantOf play.shape.degree (instance_of play (instance_at dealer lane)) (constant dealer)

-- the polynomial has degree at most the bound, and differs from the constants of so many dealers at no more than the bound
pub record IsWithin (dealers bound : ℕ) (constant : ℕ → Fp) (polynomial : List Fp) : Type 0 where
  pub short : length polynomial ≤ bound + 1
  pub few : nonzero_to dealers (entry (difference_from dealers constant polynomial)) ≤ bound

-- a play in which a committee with this bound deals to another one, of which at most the setting's bound is down. How many
-- of the old committee are down is not asked
pub record IsMove (bound : ℕ) (play : Play) : Type 0 where
  pub setting : Lawful play.shape
  pub two : TwoCommittees play.shape bound
  pub proper : ProperPlay play
