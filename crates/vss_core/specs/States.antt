-- What one seat's states hold, as contracts see them. Lists of pairs, votes and answers are by instance.
use Rattle.std.specs.Prelude.{◌≡◌, ℕ, ◌+◌, ◌*◌, ◌≤◌, List, [], Bool, length, cond, eqb, ◌-◌, Option, Some, None, refl, All}
use Rattle.std.specs.Coded.{Coded, code_by, coded×, coded_list, coded_ℕ}
use Rattle.std.proofs.Common.{Bor}
use Rattle.algebra61.specs.Field.{Fp, fp_code}
use Rattle.bivar61.specs.Grids.{IsGrid}
use Rattle.sharing61.specs.Rules.{Pair}
use Rattle.sharing61.specs.declared.Crossing.{Crossing}
use Rattle.talk.specs.declared.messages.Complaint.{Complaint}
use Rattle.talk.specs.declared.messages.Reveal.{Reveal}
use Rattle.talk.specs.declared.messages.Post.{Post}
use Rattle.talk.specs.declared.messages.Ring.{Ring}
use Rattle.talk.specs.declared.messages.Ring.TheVariants.{Nothing, Dealt, Cross}
use Rattle.talk.specs.Shape.{Shape, shape_code, seats}
use Rattle.talk.specs.Hears.{RingsOk, PostsOk}
use Rattle.plays.specs.Play.{seat_of}
use Rattle.plays.specs.Read.{crossed_in}
use Rattle.plays.specs.Said.{points_up_to, reveal_item}
use Rattle.plays.specs.Seat.{ring_at, heard_complaint}
use Rattle.sharing61.specs.Rules.{at_point, reveal_of}
use Rattle.std.specs.List.{flat_map}
use Rattle.sizes.specs.Instances.{instance_at}

-- a dealer: its setting, its index, and its grids, lane by lane
pub record DealerState : Type 0 where
  pub shape : Shape
  pub me : ℕ
  pub grids : List (List (List Fp))

-- a receiver before the first round
pub record ReadyState : Type 0 where
  pub shape : Shape
  pub me : ℕ

-- after the first round, with the pairs that it holds
pub record DealtState : Type 0 where
  pub shape : Shape
  pub me : ℕ
  pub pairs : List Pair

-- after the second round, with the complaints that it is to post
pub record CrossedState : Type 0 where
  pub shape : Shape
  pub me : ℕ
  pub pairs : List Pair
  pub complaints : List Complaint

-- after the third round, with that round's posts, by seat
pub record ComplainedState : Type 0 where
  pub shape : Shape
  pub me : ℕ
  pub pairs : List Pair
  pub third : List Post

-- after the fourth round, with that round's posts, by seat, and the votes that it is to post
pub record RevealedState : Type 0 where
  pub shape : Shape
  pub me : ℕ
  pub pairs : List Pair
  pub fourth : List Post
  pub votes : List Bool

-- after the fifth round: the pairs that it has in the end, and which instances are accepted
pub record DoneState : Type 0 where
  pub shape : Shape
  pub me : ℕ
  pub kept : List Pair
  pub accepted : List Bool

-- a dealer is stored as the tuple of what it holds
abbrev pub dealer_code : Coded DealerState
dealer_code =
    code_by _ (coded× shape_code (coded× coded_ℕ (coded_list (coded_list (coded_list fp_code)))))
    (λ s. (s.shape, (s.me, s.grids)))
    (λ p. record { shape = p.0; me = p.1.0; grids = p.1.1 })
    (λ _. refl)

-- `me` is one of the setting's dealers, or of its receivers
abbrev pub IsDealer : Shape → ℕ → Type 0
IsDealer shape me = (1 ≤ me) × (me ≤ shape.dealers)

abbrev pub IsReceiver : Shape → ℕ → Type 0
IsReceiver shape me = (1 ≤ me) × (me ≤ shape.receivers)

-- one grid for each of the five lanes, all of one degree
pub record FiveGrids (grid_degree : ℕ) (grids : List (List (List Fp))) : Type 0 where
  pub five : length grids ≡ 5
  pub degree : All (IsGrid grid_degree) grids

-- the posts of a round: one entry for each seat, as read
pub record RoundPosts (shape : Shape) (round : ℕ) (posts : List Post) : Type 0 where
  pub all : length posts ≡ seats shape
  pub read : PostsOk shape round 1 posts

-- the ring messages of a round to the receiver `me`: one entry for each seat, as read
pub record RoundRings (shape : Shape) (round me : ℕ) (rings : List Ring) : Type 0 where
  pub all : length rings ≡ seats shape
  pub read : RingsOk shape round (seat_of shape me) 1 rings

-- the grids of a receiver's own dealer, none where it has none
abbrev pub own_grids : Option (Bor DealerState) → List (List (List Fp))
own_grids None = []
own_grids (Some dealer) = dealer.now.grids

-- a crossing is stored as its two values
abbrev pub crossing_code : Coded Crossing
crossing_code =
    code_by _ (coded× fp_code fp_code) (λ c. (c.row, c.column)) (λ p. record { row = p.0; column = p.1 }) (λ _. refl)

-- a dealer's message of a degree has the coefficients of five rows and columns
abbrev pub DealtLong : ℕ → Ring → Type 0
DealtLong degree Nothing = Unit {0}
DealtLong degree (Dealt values) = length values ≡ 10 * (degree + 1)
DealtLong degree (Cross values) = Unit {0}

-- a message of the second round has two elements for each instance
abbrev pub CrossLong : ℕ → Ring → Type 0
CrossLong count Nothing = Unit {0}
CrossLong count (Dealt values) = Unit {0}
CrossLong count (Cross values) = length values ≡ 2 * count

-- the crossing pair that `me` heard of another receiver in an instance, of which it holds the pair; its own for `me`
abbrev pub cross_of : Shape → ℕ → Pair → List Ring → ℕ → ℕ → Option Crossing
cross_of shape me pair rings instance other =
    cond (eqb other me) (Some (at_point pair me)) (crossed_in instance (ring_at rings (seat_of shape other)))

-- the reveals of the dealer `me` in a lane of which it has the grid, for the receivers 1 to `count`
abbrev pub lane_items : Shape → ℕ → List (List Fp) → List Post → ℕ → ℕ → List Reveal
lane_items shape me grid third lane count =
    flat_map (λ j. reveal_item shape.degree lane j
    (reveal_of shape.receivers grid (heard_complaint shape third (instance_at me lane) j) j)) (points_up_to count)
