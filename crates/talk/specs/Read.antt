-- The right shapes of messages, and what a message is read as.
use Rattle.std.specs.Prelude.{ℕ, ◌+◌, ◌*◌, Bool, true, ◌&&◌, ◌||◌, not, eqb, cond, List, [], ◌∷◌, length}
use Rattle.std.specs.List.{list_all}
use Rattle.std.proofs.Common.{ltb}
use Rattle.talk.specs.declared.messages.Complaint.{Complaint}
use Rattle.talk.specs.declared.messages.Reveal.{Reveal}
use Rattle.talk.specs.declared.messages.Post.{Post}
use Rattle.talk.specs.declared.messages.Post.TheVariants.{Quiet, Complaints, Reveals, Votes, Syndromes}
use Rattle.talk.specs.declared.messages.Ring.{Ring}
use Rattle.talk.specs.declared.messages.Ring.TheVariants.{Nothing, Dealt, Cross}
use Rattle.talk.specs.Shape.{Shape, instances, within, deals, receives}

-- the first item of a list, where there is one, comes after the item
abbrev pub comes_first : {A : Type 0} → (A → A → Bool) → A → List A → Bool
comes_first before item [] = true
comes_first before item (first ∷ rest) = before item first

-- each item comes before the next one
abbrev pub ascends : {A : Type 0} → (A → A → Bool) → List A → Bool
ascends before [] = true
ascends before (first ∷ rest) = comes_first before first rest && ascends before rest

-- a pair of numbers comes before the next pair: by the first number, then by the second
abbrev pub comes_before : ℕ → ℕ → ℕ → ℕ → Bool
comes_before first second next_first next_second =
    ltb first next_first || (eqb first next_first && ltb second next_second)

-- complaints go by instance, then by the receiver complained of
abbrev pub complaint_before : Complaint → Complaint → Bool
complaint_before complaint next = comes_before complaint.instance complaint.against next.instance next.against

abbrev pub complaint_in : Shape → Complaint → Bool
complaint_in setting complaint =
    ltb complaint.instance (instances setting) && within 1 complaint.against setting.receivers

abbrev pub complaints_ok : Shape → List Complaint → Bool
complaints_ok setting complaints = ascends complaint_before complaints && list_all (complaint_in setting) complaints

-- reveals go by lane, then by receiver
abbrev pub reveal_before : Reveal → Reveal → Bool
reveal_before reveal next = comes_before reveal.lane reveal.receiver next.lane next.receiver

abbrev pub reveal_in : Shape → Reveal → Bool
reveal_in setting reveal =
    ltb reveal.lane 5
    && (within 1 reveal.receiver setting.receivers
    && (eqb (length reveal.row) (setting.degree + 1) && eqb (length reveal.column) (setting.degree + 1)))

abbrev pub reveals_ok : Shape → List Reveal → Bool
reveals_ok setting reveals = ascends reveal_before reveals && list_all (reveal_in setting) reveals

-- the post of the seat has its shape in the round
abbrev pub post_ok : Shape → ℕ → ℕ → Post → Bool
post_ok setting round seat Quiet = true
post_ok setting round seat (Complaints list) = eqb round 3 && (receives setting seat && complaints_ok setting list)
post_ok setting round seat (Reveals list) = eqb round 4 && (deals setting seat && reveals_ok setting list)
post_ok setting round seat (Votes list) =
    eqb round 5 && (receives setting seat && eqb (length list) (instances setting))
post_ok setting round seat (Syndromes list) =
    eqb round 6 && (receives setting seat && eqb (length list) (5 * setting.checks))

-- the ring message from the one seat to the other has its shape in the round
abbrev pub ring_ok : Shape → ℕ → ℕ → ℕ → Ring → Bool
ring_ok setting round sender to Nothing = true
ring_ok setting round sender to (Dealt list) =
    eqb round 1
    && (deals setting sender
    && (receives setting to && (not (eqb sender to) && eqb (length list) (10 * (setting.degree + 1)))))
ring_ok setting round sender to (Cross list) =
    eqb round 2
    && (receives setting sender
    && (receives setting to && (not (eqb sender to) && eqb (length list) (2 * instances setting))))

-- a message of another shape is read as nothing said
abbrev pub as_read : Shape → ℕ → ℕ → Post → Post
as_read setting round seat post = cond (post_ok setting round seat post) post Quiet

abbrev pub ring_as_read : Shape → ℕ → ℕ → ℕ → Ring → Ring
ring_as_read setting round sender to ring = cond (ring_ok setting round sender to ring) ring Nothing

-- messages read one by one, from the seats from `seat` on
abbrev pub posts_read : Shape → ℕ → ℕ → List Post → List Post
posts_read setting round seat [] = []
posts_read setting round seat (post ∷ posts) =
    as_read setting round seat post ∷ posts_read setting round (seat + 1) posts

abbrev pub rings_read : Shape → ℕ → ℕ → ℕ → List Ring → List Ring
rings_read setting round to seat [] = []
rings_read setting round to seat (ring ∷ rings) =
    ring_as_read setting round seat to ring ∷ rings_read setting round to (seat + 1) rings
