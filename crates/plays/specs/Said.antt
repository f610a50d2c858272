-- What every seat says in a play, and what is heard of it.
use Rattle.std.specs.Prelude.{ℕ, ◌+◌, ◌-◌, ◌*◌, Bool, true, false, List, [], ◌∷◌, ◌++◌, Option, Some, None, map}
use Rattle.std.specs.List.{flat_map, range_with_len}
use Rattle.algebra61.specs.Field.{Fp}
use Rattle.algebra61.specs.Poly.{coeff}
use Rattle.sharing61.specs.Rules.{Pair, at_point}
use Rattle.sharing61.specs.declared.Crossing.{Crossing}
use Rattle.sharing61.specs.Instance.{held, complaint, shown, vote}
use Rattle.sizes.specs.Instances.{instance_at}
use Rattle.talk.specs.declared.messages.Complaint.{Complaint}
use Rattle.talk.specs.declared.messages.Reveal.{Reveal}
use Rattle.talk.specs.declared.messages.Post.{Post}
use Rattle.talk.specs.declared.messages.Post.TheVariants.{Complaints, Reveals, Votes}
use Rattle.talk.specs.declared.messages.Ring.{Ring}
use Rattle.talk.specs.declared.messages.Ring.TheVariants.{Dealt, Cross}
pub use Rattle.talk.specs.Basics.{places}
use Rattle.talk.specs.Shape.{instances}
use Rattle.plays.specs.Play.{Play, instance_of, seat_of}

-- the numbers 1 to n
abbrev pub points_up_to : ℕ → List ℕ
points_up_to count = range_with_len 1 count

-- the first n coefficients, zeros past the last
abbrev pub padded : ℕ → List Fp → List Fp
padded count coefficients = map (λ k. coeff coefficients k) (places count)

-- the d + 1 coefficients of the row, then of the column
abbrev pub pair_list : ℕ → Pair → List Fp
pair_list degree pair = padded (degree + 1) pair.row.coeffs ++ padded (degree + 1) pair.column.coeffs

-- a row's value, then a column's
abbrev pub crossing_values : Crossing → List Fp
crossing_values crossing = crossing.row ∷ crossing.column ∷ []

-- one complaint, or none
abbrev pub complaint_item : ℕ → ℕ → Option Crossing → List Complaint
complaint_item instance against None = []
complaint_item instance against (Some crossing) = record { instance = instance; against = against; u = crossing.row; v = crossing.column } ∷ []

-- one reveal, or none
abbrev pub reveal_item : ℕ → ℕ → ℕ → Option Pair → List Reveal
reveal_item degree lane receiver None = []
reveal_item degree lane receiver (Some pair) = record { lane = lane; receiver = receiver; row = padded (degree + 1) pair.row.coeffs; column = padded (degree + 1) pair.column.coeffs } ∷ []

-- The messages, each from what its sender knows of every lane or instance.
-- a dealer's to one receiver, from the receiver's pair in each lane
abbrev pub dealt_list : ℕ → (ℕ → Pair) → List Fp
dealt_list degree pair = flat_map (λ l. pair_list degree (pair l)) (places 5)

-- a receiver's to another, from its values in each of m instances
abbrev pub cross_list : ℕ → (ℕ → Crossing) → List Fp
cross_list count two = flat_map (λ i. crossing_values (two i)) (places count)

-- a receiver's complaints in instance i, in order of the n receivers, and those in all of m instances
abbrev pub complaint_row : ℕ → ℕ → (ℕ → Option Crossing) → List Complaint
complaint_row instance receivers against = flat_map (λ k. complaint_item instance k (against k)) (points_up_to receivers)

abbrev pub complaint_list : ℕ → ℕ → (ℕ → ℕ → Option Crossing) → List Complaint
complaint_list count receivers against = flat_map (λ i. complaint_row i receivers (against i)) (places count)

-- a dealer's reveals, in order of lanes and of the n receivers
abbrev pub reveal_list : ℕ → ℕ → (ℕ → ℕ → Option Pair) → List Reveal
reveal_list degree receivers pair = flat_map (λ l. flat_map (λ j. reveal_item degree l j (pair l j)) (points_up_to receivers)) (places 5)

-- a receiver's votes in m instances
abbrev pub vote_list : ℕ → (ℕ → Bool) → List Bool
vote_list count votes = map votes (places count)

-- What an honest seat says in a play.
-- a dealer to receiver j
unfoldable pub dealt_by : Play → ℕ → ℕ → Ring
dealt_by play dealer receiver = Dealt (dealt_list play.shape.degree (λ l. held (instance_of play (instance_at dealer l)) receiver))

-- receiver k to receiver j
unfoldable pub crossed_by : Play → ℕ → ℕ → Ring
crossed_by play sender receiver = Cross (cross_list (instances play.shape) (λ i. at_point (held (instance_of play i) sender) receiver))

-- receiver j's complaints
unfoldable pub complaints_by : Play → ℕ → Post
complaints_by play receiver = Complaints (complaint_list (instances play.shape) play.shape.receivers (λ i. complaint (instance_of play i) receiver))

-- a dealer's reveals
unfoldable pub reveals_by : Play → ℕ → Post
reveals_by play dealer = Reveals (reveal_list play.shape.degree play.shape.receivers (λ l j. shown (instance_of play (instance_at dealer l)) j))

-- receiver j's votes
unfoldable pub votes_by : Play → ℕ → Post
votes_by play receiver = Votes (vote_list (instances play.shape) (λ i. vote (instance_of play i) receiver))

-- What is heard of a seat: what it says by the rules, or what it is given to say where it is down.
abbrev pub unless_down : {A : Type 0} → Bool → A → A → A
unless_down true said own = said
unless_down false said own = own

abbrev pub dealt_heard : Play → ℕ → ℕ → Ring
dealt_heard play dealer receiver = unless_down (play.down dealer) (play.ring 1 dealer (seat_of play.shape receiver)) (dealt_by play dealer receiver)

abbrev pub crossed_heard : Play → ℕ → ℕ → Ring
crossed_heard play sender receiver = unless_down (play.down (seat_of play.shape sender)) (play.ring 2 (seat_of play.shape sender) (seat_of play.shape receiver)) (crossed_by play sender receiver)

abbrev pub complaints_heard : Play → ℕ → Post
complaints_heard play receiver = unless_down (play.down (seat_of play.shape receiver)) (play.post 3 (seat_of play.shape receiver)) (complaints_by play receiver)

abbrev pub reveals_heard : Play → ℕ → Post
reveals_heard play dealer = unless_down (play.down dealer) (play.post 4 dealer) (reveals_by play dealer)

abbrev pub votes_heard : Play → ℕ → Post
votes_heard play receiver = unless_down (play.down (seat_of play.shape receiver)) (play.post 5 (seat_of play.shape receiver)) (votes_by play receiver)
