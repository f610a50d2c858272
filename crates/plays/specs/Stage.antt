-- One seat's part in the sharing, as a machine: what it keeps after each round, and what it says in the next.
use Rattle.std.specs.Prelude.{◌≡◌, ℕ, ◌-◌, Bool, ◌&&◌, not, cond, eqb, List, [], map, get_or}
use Rattle.algebra61.specs.Field.{Fp}
use Rattle.sharing61.specs.Rules.{Pair, pair_on, at_point}
use Rattle.talk.specs.declared.messages.Complaint.{Complaint}
use Rattle.talk.specs.declared.messages.Post.{Post}
use Rattle.talk.specs.declared.messages.Post.TheVariants.{Quiet, Complaints, Reveals, Votes}
use Rattle.talk.specs.declared.messages.Ring.{Ring}
use Rattle.talk.specs.declared.messages.Ring.TheVariants.{Nothing, Dealt, Cross}
use Rattle.talk.specs.declared.messages.Heard.{Heard}
use Rattle.talk.specs.Shape.{Shape, instances, within, deals, receives}
use Rattle.plays.specs.Said.{places, complaint_list, reveal_list, vote_list, cross_list, dealt_list}
use Rattle.plays.specs.Seat.{holds, complains, reveals, says_yes, keeps, heard_accepted, pair_at}

-- how far a seat has come, with what it keeps: the pairs by instance, the posts of the third or the fourth round as it
-- heard them, and what it is to post next. A seat that only deals has no pairs, no complaints and no votes
pub data Stage : Type 0 where
  AtReady : Stage
  AtDealt : List Pair → Stage
  AtCrossed : List Pair → List Complaint → Stage
  AtComplained : List Pair → List Post → Stage
  AtRevealed : List Pair → List Post → List Bool → Stage
  AtDone : List Pair → List Bool → Stage

-- the round in which a stage speaks
abbrev pub IsTurn : ℕ → Stage → Type 0
IsTurn round AtReady = round ≡ 1
IsTurn round (AtDealt ps) = round ≡ 2
IsTurn round (AtCrossed ps cs) = round ≡ 3
IsTurn round (AtComplained ps third) = round ≡ 4
IsTurn round (AtRevealed ps fourth votes) = round ≡ 5
IsTurn round (AtDone ps acc) = ⊥

-- the receiver on a seat, 0 on a seat before all receivers
abbrev pub receiver_at : Shape → ℕ → ℕ
receiver_at shape seat = seat - shape.shift

-- how many instances receiver me receives: none where there is no such receiver
abbrev pub received : Shape → ℕ → ℕ
received shape me = cond (within 1 me shape.receivers) (instances shape) 0

-- what a seat keeps after hearing a round, of the n instances that it receives. own is the list of the grids that it deals
abbrev pub kept_of_round : ℕ → Shape → ℕ → List (List (List Fp)) → Heard → Stage → Stage
kept_of_round count shape me own heard AtReady = AtDealt (map (holds shape me own heard.rings) (places count))
kept_of_round count shape me own heard (AtDealt ps) = AtCrossed ps (complaint_list count shape.receivers (complains shape me ps heard.rings))
kept_of_round count shape me own heard (AtCrossed ps cs) = AtComplained ps heard.posts
kept_of_round count shape me own heard (AtComplained ps third) = AtRevealed ps heard.posts (vote_list count (says_yes shape me ps third heard.posts))
kept_of_round count shape me own heard (AtRevealed ps fourth votes) = AtDone (map (keeps shape me ps fourth heard.posts) (places count)) (map (heard_accepted shape heard.posts) (places count))
kept_of_round count shape me own heard (AtDone ps acc) = AtDone ps acc

-- what the seat of receiver me keeps after hearing a round
abbrev pub stage_after : Shape → ℕ → List (List (List Fp)) → Heard → Stage → Stage
stage_after shape me own heard stage = kept_of_round (received shape me) shape me own heard stage

-- what a seat posts: a receiver its complaints and its votes, a dealer its reveals
abbrev pub stage_post : Shape → ℕ → List (List (List Fp)) → Stage → Post
stage_post shape seat own AtReady = Quiet
stage_post shape seat own (AtDealt ps) = Quiet
stage_post shape seat own (AtCrossed ps cs) = cond (receives shape seat) (Complaints cs) Quiet
stage_post shape seat own (AtComplained ps third) = cond (deals shape seat) (Reveals (reveal_list shape.degree shape.receivers (reveals shape own third seat))) Quiet
stage_post shape seat own (AtRevealed ps fourth votes) = cond (receives shape seat) (Votes votes) Quiet
stage_post shape seat own (AtDone ps acc) = Quiet

-- what a seat sends to another: a dealer the receiver's pairs, a receiver its values at the other's point
abbrev pub stage_ring : Shape → ℕ → List (List (List Fp)) → Stage → ℕ → Ring
stage_ring shape seat own AtReady to =
    cond (deals shape seat && (receives shape to && not (eqb seat to))) (Dealt (dealt_list shape.degree (λ l. pair_on (get_or own l []) (receiver_at shape to)))) Nothing
stage_ring shape seat own (AtDealt ps) to =
    cond (receives shape seat && (receives shape to && not (eqb seat to))) (Cross (cross_list (instances shape) (λ i. at_point (pair_at ps i) (receiver_at shape to)))) Nothing
stage_ring shape seat own (AtCrossed ps cs) to = Nothing
stage_ring shape seat own (AtComplained ps third) to = Nothing
stage_ring shape seat own (AtRevealed ps fourth votes) to = Nothing
stage_ring shape seat own (AtDone ps acc) to = Nothing
