-- What a message tells: what it says of one instance, lane or receiver. A message of another kind, Quiet and Nothing
-- tell of no pair, no complaint, no reveal, and no.
use Rattle.std.specs.Prelude.{ℕ, ◌+◌, ◌*◌, Bool, false, ◌&&◌, eqb, List, [], ◌∷◌, take, drop, get_or, Option, Some, None}
use Rattle.algebra61.specs.Field.{Fp, zeroₚ}
use Rattle.algebra61.specs.Polynomial.{poly}
use Rattle.sharing61.specs.Rules.{Pair, zero_pair}
use Rattle.sharing61.specs.declared.Crossing.{Crossing}
use Rattle.talk.specs.Basics.{first_of}
use Rattle.talk.specs.declared.messages.Complaint.{Complaint}
use Rattle.talk.specs.declared.messages.Reveal.{Reveal}
use Rattle.talk.specs.declared.messages.Post.{Post}
use Rattle.talk.specs.declared.messages.Post.TheVariants.{Quiet, Complaints, Reveals, Votes, Syndromes}
use Rattle.talk.specs.declared.messages.Ring.{Ring}
use Rattle.talk.specs.declared.messages.Ring.TheVariants.{Nothing, Dealt, Cross}

-- the k-th part of n elements, counted from 0
abbrev pub part : ℕ → ℕ → List Fp → List Fp
part count place xs = take count (drop (place * count) xs)

-- the pair of lane l in a dealer's message of degree d: lane by lane d + 1 coefficients of the row and of the column.
-- Two zero polynomials where it sent nothing
abbrev pub dealt_in : ℕ → ℕ → Ring → Pair
dealt_in degree lane Nothing = zero_pair
dealt_in degree lane (Dealt xs) = record { row = poly (part (degree + 1) (2 * lane) xs); column = poly (part (degree + 1) (2 * lane + 1) xs) }
dealt_in degree lane (Cross xs) = zero_pair

-- the crossing pair of instance i: two elements for each instance
abbrev pub crossed_in : ℕ → Ring → Option Crossing
crossed_in instance Nothing = None
crossed_in instance (Dealt xs) = None
crossed_in instance (Cross xs) = Some (record { row = get_or xs (2 * instance) zeroₚ; column = get_or xs (2 * instance + 1) zeroₚ })

-- the value of the first item that passes the test
abbrev pub seek : {A B : Type 0} → (A → Bool) → (A → B) → List A → Option B
seek test value [] = None
seek test value (x ∷ xs) = first_of (test x) (value x) (seek test value xs)

-- the complaint of instance i against k in a list
abbrev pub complaint_at : ℕ → ℕ → List Complaint → Option Crossing
complaint_at instance against cs = seek (λ c. eqb c.instance instance && eqb c.against against) (λ c. record { row = c.u; column = c.v }) cs

-- the complaint of instance i against k in a post
abbrev pub listed_in : ℕ → ℕ → Post → Option Crossing
listed_in instance against (Complaints cs) = complaint_at instance against cs
listed_in instance against Quiet = None
listed_in instance against (Reveals rs) = None
listed_in instance against (Votes vs) = None
listed_in instance against (Syndromes xs) = None

-- the revealed pair of lane l and receiver j in a list
abbrev pub reveal_at : ℕ → ℕ → List Reveal → Option Pair
reveal_at lane receiver rs = seek (λ r. eqb r.lane lane && eqb r.receiver receiver) (λ r. record { row = poly r.row; column = poly r.column }) rs

-- the revealed pair of lane l and receiver j in a post
abbrev pub shown_in : ℕ → ℕ → Post → Option Pair
shown_in lane receiver (Reveals rs) = reveal_at lane receiver rs
shown_in lane receiver Quiet = None
shown_in lane receiver (Complaints cs) = None
shown_in lane receiver (Votes vs) = None
shown_in lane receiver (Syndromes xs) = None

-- the vote on instance i in a post
abbrev pub voted_in : ℕ → Post → Bool
voted_in instance (Votes vs) = get_or vs instance false
voted_in instance Quiet = false
voted_in instance (Complaints cs) = false
voted_in instance (Reveals rs) = false
voted_in instance (Syndromes xs) = false
