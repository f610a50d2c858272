-- What a drilled seat says, and how a drilled mind goes.
use Rattle.std.specs.Prelude.{ℕ, ◌+◌, ◌-◌, ◌*◌, ◌%◌, Bool, true, false, ◌&&◌, eqb, cond, List, [], ◌∷◌, ◌++◌, get_or, slice_get, slice_set, map, filter, nat_lt, Option, Some, None}
use Rattle.std.specs.List.{flat_map}
use Rattle.algebra61.specs.Field.{Fp, ◌+ₚ◌, oneₚ}
use Rattle.talk.specs.declared.messages.Complaint.{Complaint}
use Rattle.talk.specs.declared.messages.Reveal.{Reveal}
use Rattle.talk.specs.declared.messages.Post.{Post}
use Rattle.talk.specs.declared.messages.Post.TheVariants.{Quiet, Complaints, Reveals, Votes, Syndromes}
use Rattle.talk.specs.declared.messages.Ring.{Ring}
use Rattle.talk.specs.declared.messages.Ring.TheVariants.{Nothing, Dealt, Cross}
use Rattle.talk.specs.declared.messages.Say.{Say}
use Rattle.talk.specs.declared.messages.Say.TheVariants.{Speak, Pass, PassThenSpeak}
use Rattle.talk.specs.Basics.{places}
use Rattle.talk.specs.Shape.{Shape, seats, instances}
use Rattle.talk.specs.Sync.{Ways, ring_in}
use Rattle.drillbook.specs.declared.order.Verb.{Verb}
use Rattle.drillbook.specs.declared.order.Verb.TheVariants.{Silent, Late, Garble, Skew, Wrong, Accuse, Veto}
use Rattle.drillbook.specs.declared.order.Order.{Order}
use Rattle.drillbook.specs.declared.side.Side.{Side}
use Rattle.drillbook.specs.declared.side.Side.TheVariants.{Below, At, Above}
use Rattle.drillbook.specs.Orders.{order_at}

-- garble: an empty message of crossing points for each of so many seats but the own
abbrev pub garbled_rings : ℕ → ℕ → List Ring
garbled_rings count seat = map (λ k. cond (eqb k (seat - 1)) Nothing (Cross [])) (places count)

-- a list with `by` added to its elements at the places that `step` divides, the first of which is at `place`
abbrev pub added_from : ℕ → Fp → ℕ → List Fp → List Fp
added_from step by place [] = []
added_from step by place (value ∷ values) =
    cond (eqb (place % step) 0) (value +ₚ by) value ∷ added_from step by (place + 1) values

-- `by` added to the first element of each `step`
abbrev pub added_each : ℕ → Fp → List Fp → List Fp
added_each step by values = added_from step by 0 values

-- skew in the first round: `by` added to the constant of the row of each lane, which has `degree + 1` coefficients,
-- as the column has
abbrev pub skewed_deal : ℕ → Fp → Ring → Ring
skewed_deal degree by (Dealt values) = Dealt (added_each (2 * (degree + 1)) by values)
skewed_deal degree by Nothing = Nothing
skewed_deal degree by (Cross values) = Cross values

-- skew in the second round: `by` added to the first value of each pair
abbrev pub skewed_cross : Fp → Ring → Ring
skewed_cross by (Cross values) = Cross (added_each 2 by values)
skewed_cross by Nothing = Nothing
skewed_cross by (Dealt values) = Dealt values

-- `by` added to the constant
abbrev pub skewed_row : Fp → List Fp → List Fp
skewed_row by [] = []
skewed_row by (first ∷ rest) = (first +ₚ by) ∷ rest

abbrev pub skewed_reveal : Fp → Reveal → Reveal
skewed_reveal by reveal =
    record { lane = reveal.lane; receiver = reveal.receiver; row = skewed_row by reveal.row; column = reveal.column }

-- skew in the fourth round: `by` added to the constant of each revealed row
abbrev pub skewed_reveals : Fp → Post → Post
skewed_reveals by (Reveals reveals) = Reveals (map (skewed_reveal by) reveals)
skewed_reveals by Quiet = Quiet
skewed_reveals by (Complaints complaints) = Complaints complaints
skewed_reveals by (Votes votes) = Votes votes
skewed_reveals by (Syndromes values) = Syndromes values

-- skew in the sixth round: `by` added to every posted value
abbrev pub skewed_values : Fp → Post → Post
skewed_values by (Syndromes values) = Syndromes (map (λ x. x +ₚ by) values)
skewed_values by Quiet = Quiet
skewed_values by (Complaints complaints) = Complaints complaints
skewed_values by (Reveals reveals) = Reveals reveals
skewed_values by (Votes votes) = Votes votes

-- the seat of the lowest receiver on another seat
abbrev pub lowest_other : Shape → ℕ → ℕ
lowest_other shape seat = cond (eqb (shape.shift + 1) seat) (shape.shift + 2) (shape.shift + 1)

-- the ring messages with another one to a seat, where there is one
abbrev pub ring_changed : ℕ → (Ring → Ring) → List Ring → List Ring
ring_changed to change rings = slice_set rings (to - 1) (change (get_or rings (to - 1) Nothing))

-- what skew makes of a post, by its round
abbrev pub skewed_post : ℕ → Fp → Post → Post
skewed_post round by post =
    cond (eqb round 4) (skewed_reveals by post) (cond (eqb round 6) (skewed_values by post) post)

-- and of the ring messages
abbrev pub skewed_rings : Shape → ℕ → ℕ → Fp → List Ring → List Ring
skewed_rings shape seat round by rings =
    cond (eqb round 1) (ring_changed (lowest_other shape seat) (skewed_deal shape.degree by) rings)
    (cond (eqb round 2) (ring_changed (lowest_other shape seat) (skewed_cross by) rings) rings)

-- the complaint of an instance against a receiver whose `u` is one greater than the first value and whose `v` is the
-- second, where both are there
abbrev pub lie_with : ℕ → ℕ → Option Fp → Option Fp → Option Complaint
lie_with instance receiver (Some first) (Some second) =
    Some (record { instance = instance; against = receiver; u = first +ₚ oneₚ; v = second })
lie_with instance receiver (Some first) None = None
lie_with instance receiver None second = None

-- the false complaint of an instance against a receiver, from the own crossing points for that receiver: two elements
-- for each instance
abbrev pub lie_in : ℕ → ℕ → Ring → Option Complaint
lie_in instance receiver (Cross values) =
    lie_with instance receiver (slice_get values (2 * instance)) (slice_get values (2 * instance + 1))
lie_in instance receiver Nothing = None
lie_in instance receiver (Dealt values) = None

-- the false complaint in place of the own one, where there is a false one
abbrev pub in_place : Option Complaint → List Complaint → List Complaint
in_place (Some complaint) own = complaint ∷ []
in_place None own = own

-- the other one comes before the receiver, is it, or comes after it
abbrev pub is_on : Side → ℕ → ℕ → Bool
is_on Below receiver other = nat_lt other receiver
is_on At receiver other = eqb other receiver
is_on Above receiver other = nat_lt receiver other

-- the complaints of an instance against the receivers on one side of a receiver
abbrev pub complaints_of : ℕ → ℕ → Side → List Complaint → List Complaint
complaints_of instance receiver side complaints =
    filter (λ c. eqb c.instance instance && is_on side receiver c.against) complaints

-- the complaints of an instance, with the false one in place of one against the receiver
abbrev pub accused_row : ℕ → Ring → List Complaint → ℕ → List Complaint
accused_row receiver crossing complaints instance =
    complaints_of instance receiver Below complaints
    ++ in_place (lie_in instance receiver crossing) (complaints_of instance receiver At complaints)
    ++ complaints_of instance receiver Above complaints

-- accuse: in every one of so many instances the false complaint against the receiver
abbrev pub accused : ℕ → ℕ → Ring → Post → Post
accused count receiver crossing (Complaints complaints) =
    Complaints (flat_map (accused_row receiver crossing complaints) (places count))
accused count receiver crossing Quiet = Quiet
accused count receiver crossing (Reveals reveals) = Reveals reveals
accused count receiver crossing (Votes votes) = Votes votes
accused count receiver crossing (Syndromes values) = Syndromes values

-- veto: no on every instance
abbrev pub vetoed : Post → Post
vetoed (Votes votes) = Votes (map (λ _. false) votes)
vetoed Quiet = Quiet
vetoed (Complaints complaints) = Complaints complaints
vetoed (Reveals reveals) = Reveals reveals
vetoed (Syndromes values) = Syndromes values

-- What a verb makes of a post. `second` is the own word of the second round. Wrong changes the grids of which a
-- dealer's word is made, and not the word
abbrev pub ordered_post : Shape → ℕ → Say → Verb → Post → Post
ordered_post shape round second Garble post = Votes []
ordered_post shape round second (Skew by) post = skewed_post round by post
ordered_post shape round second (Accuse receiver) post =
    accused (instances shape) receiver (ring_in (shape.shift + receiver) second) post
ordered_post shape round second Veto post = vetoed post
ordered_post shape round second (Wrong by) post = post
ordered_post shape round second Late post = post
ordered_post shape round second Silent post = post

-- and of the ring messages
abbrev pub ordered_rings : Shape → ℕ → ℕ → Verb → List Ring → List Ring
ordered_rings shape seat round Garble rings = garbled_rings (seats shape) seat
ordered_rings shape seat round (Skew by) rings = skewed_rings shape seat round by rings
ordered_rings shape seat round (Accuse receiver) rings = rings
ordered_rings shape seat round Veto rings = rings
ordered_rings shape seat round (Wrong by) rings = rings
ordered_rings shape seat round Late rings = rings
ordered_rings shape seat round Silent rings = rings

-- a post and ring messages that a verb has changed, said in time or late as before. Who passes goes on passing
abbrev pub reworded : Shape → ℕ → ℕ → Say → Verb → Say → Say
reworded shape seat round second verb (Speak post rings) =
    Speak (ordered_post shape round second verb post) (ordered_rings shape seat round verb rings)
reworded shape seat round second verb Pass = Pass
reworded shape seat round second verb (PassThenSpeak post rings) =
    PassThenSpeak (ordered_post shape round second verb post) (ordered_rings shape seat round verb rings)

-- late: what it says comes after passing
abbrev pub late_word : Say → Say
late_word (Speak post rings) = PassThenSpeak post rings
late_word Pass = Pass
late_word (PassThenSpeak post rings) = PassThenSpeak post rings

-- what is said in place of a word, by the verb of the seat's order for the round
abbrev pub ordered_word : Shape → ℕ → ℕ → Say → Option Verb → Say → Say
ordered_word shape seat round second None word = word
ordered_word shape seat round second (Some Silent) word = Pass
ordered_word shape seat round second (Some Late) word = late_word word
ordered_word shape seat round second (Some Garble) word = reworded shape seat round second Garble word
ordered_word shape seat round second (Some (Skew by)) word = reworded shape seat round second (Skew by) word
ordered_word shape seat round second (Some (Wrong by)) word = word
ordered_word shape seat round second (Some (Accuse receiver)) word =
    reworded shape seat round second (Accuse receiver) word
ordered_word shape seat round second (Some Veto) word = reworded shape seat round second Veto word

-- what the seat says in a round under a drill, given its own word of the second round (Pass before it) and that of
-- this round
unfoldable pub drilled_word : Shape → List Order → ℕ → ℕ → Say → Say → Say
drilled_word shape orders seat round second word =
    ordered_word shape seat round second (order_at orders seat round) word

-- the verb accuses someone
abbrev pub is_accusing : Option Verb → Bool
is_accusing (Some (Accuse receiver)) = true
is_accusing (Some Silent) = false
is_accusing (Some Late) = false
is_accusing (Some Garble) = false
is_accusing (Some (Skew by)) = false
is_accusing (Some (Wrong by)) = false
is_accusing (Some Veto) = false
is_accusing None = false

-- a drilled mind: its setting, its seat, the drill, the mind inside, and that mind's own word of the second round,
-- which is kept for a false complaint and is Pass before the second round and where the seat accuses nobody
pub record DrilledMind (M : Type 0) : Type 0 where
  pub shape : Shape
  pub seat : ℕ
  pub orders : List Order
  pub second : Say
  pub inner : M

-- the word that is kept after a round
abbrev pub kept_word : List Order → ℕ → ℕ → Say → Say → Say
kept_word orders seat round second word = cond (eqb round 2 && is_accusing (order_at orders seat 3)) word second

-- how a drilled mind goes: the mind inside goes as it does, and what it says is what the drill makes of it
abbrev pub drilled_ways : {M : Type 0} → Ways M → Ways (DrilledMind M)
drilled_ways ways = record {
  word = λ mind round. drilled_word mind.shape mind.orders mind.seat round mind.second (ways.word mind.inner round);
  after_say = λ mind round. record {
    shape = mind.shape;
    seat = mind.seat;
    orders = mind.orders;
    second = kept_word mind.orders mind.seat round mind.second (ways.word mind.inner round);
    inner = ways.after_say mind.inner round;
  };
  after_hear =
      λ mind round heard. record {
        shape = mind.shape;
        seat = mind.seat;
        orders = mind.orders;
        second = mind.second;
        inner = ways.after_hear mind.inner round heard;
      };
}
