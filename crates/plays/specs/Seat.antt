-- What one seat makes of its grids and of what it heard, instance by instance. The lists that it heard have an entry
-- for each seat, in order. The rules are those of all seats; only what they are given differs.
use Rattle.std.specs.Prelude.{ℕ, ◌+◌, ◌-◌, ◌*◌, Bool, eqb, cond, List, [], get_or, Option, Some}
use Rattle.std.specs.Coded.{Coded, code_by, coded×}
use Rattle.std.proofs.Common.{refl}
use Rattle.algebra61.specs.Field.{Fp}
use Rattle.algebra61.specs.Polynomial.{polynomial_code}
use Rattle.sharing61.specs.Rules.{Pair, zero_pair, pair_on, at_point, complaint_of, reveal_of, votes_yes, enough, kept_of}
use Rattle.sharing61.specs.declared.Crossing.{Crossing}
use Rattle.talk.specs.declared.messages.Post.{Post}
use Rattle.talk.specs.declared.messages.Post.TheVariants.{Quiet}
use Rattle.talk.specs.declared.messages.Ring.{Ring}
use Rattle.talk.specs.declared.messages.Ring.TheVariants.{Nothing}
use Rattle.talk.specs.Shape.{Shape}
use Rattle.sizes.specs.Instances.{dealer_of, lane_of, instance_at}
use Rattle.plays.specs.Play.{seat_of}
use Rattle.plays.specs.Read.{dealt_in, crossed_in, listed_in, shown_in, voted_in}

-- the post of a seat in a list by seats
abbrev pub post_at : List Post → ℕ → Post
post_at posts seat = get_or posts (seat - 1) Quiet

-- the ring message of a seat in a list by seats
abbrev pub ring_at : List Ring → ℕ → Ring
ring_at rings seat = get_or rings (seat - 1) Nothing

-- Round 1: what receiver me holds in instance i. own is the list of the grids of its own seat, one for each lane, empty
-- where that seat deals nothing
abbrev pub holds : Shape → ℕ → List (List (List Fp)) → List Ring → ℕ → Pair
holds shape me own rings instance =
    cond (eqb (dealer_of instance) (seat_of shape me)) (pair_on (get_or own (lane_of instance) []) me) (dealt_in shape.degree (lane_of instance) (ring_at rings (dealer_of instance)))

-- the pair of instance i in a list by instances
abbrev pub pair_at : List Pair → ℕ → Pair
pair_at pairs instance = get_or pairs instance zero_pair

-- Round 2: the crossing pair of k as it was heard; for k = me its own
abbrev pub cross_heard : Shape → ℕ → List Pair → List Ring → ℕ → ℕ → Option Crossing
cross_heard shape me pairs rings instance other = cond (eqb other me) (Some (at_point (pair_at pairs instance) me)) (crossed_in instance (ring_at rings (seat_of shape other)))

-- what me complains of k in instance i
abbrev pub complains : Shape → ℕ → List Pair → List Ring → ℕ → ℕ → Option Crossing
complains shape me pairs rings instance against = complaint_of (at_point (pair_at pairs instance) against) (cross_heard shape me pairs rings instance against)

-- Round 3: what k complains of l in instance i, as it was heard
abbrev pub heard_complaint : Shape → List Post → ℕ → ℕ → ℕ → Option Crossing
heard_complaint shape third instance receiver against = listed_in instance against (post_at third (seat_of shape receiver))

-- the pair of receiver j that dealer me reveals in lane l
abbrev pub reveals : Shape → List (List (List Fp)) → List Post → ℕ → ℕ → ℕ → Option Pair
reveals shape grids third me lane receiver = reveal_of shape.receivers (get_or grids lane []) (heard_complaint shape third (instance_at me lane) receiver) receiver

-- Round 4: the revealed pair of j in instance i, as it was heard
abbrev pub heard_shown : List Post → ℕ → ℕ → Option Pair
heard_shown fourth instance receiver = shown_in (lane_of instance) receiver (post_at fourth (dealer_of instance))

-- whether me votes yes on instance i
abbrev pub says_yes : Shape → ℕ → List Pair → List Post → List Post → ℕ → Bool
says_yes shape me pairs third fourth instance = votes_yes shape.receivers (heard_complaint shape third instance) (heard_shown fourth instance) me (pair_at pairs instance)

-- Round 5: whether instance i is accepted, as the votes were heard
abbrev pub heard_accepted : Shape → List Post → ℕ → Bool
heard_accepted shape fifth instance = enough shape.receivers shape.bound (λ j. voted_in instance (post_at fifth (seat_of shape j)))

-- the pair that me has of instance i in the end
abbrev pub keeps : Shape → ℕ → List Pair → List Post → List Post → ℕ → Pair
keeps shape me pairs fourth fifth instance = kept_of (heard_accepted shape fifth instance) (heard_shown fourth instance me) (pair_at pairs instance)

-- a pair is stored as its two polynomials
abbrev pub pair_code : Coded Pair
pair_code = code_by _ (coded× polynomial_code polynomial_code) (λ p. (p.row, p.column)) (λ p. record { row = p.0; column = p.1 }) (λ _. refl)
