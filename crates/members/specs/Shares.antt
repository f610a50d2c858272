-- What a member has in the end: its share in each lane, and how many instances are accepted.
use Rattle.std.specs.Prelude.{ℕ, zero, suc, ◌+◌, ◌*◌, Bool, List, [], map}
use Rattle.std.specs.List.{count_by}
use Rattle.algebra61.specs.Field.{Fp, zeroₚ, ◌+ₚ◌}
use Rattle.algebra61.specs.Poly.{eval}
use Rattle.sharing61.specs.Rules.{Pair}
use Rattle.sharing61.specs.Instance.{accepted}
use Rattle.sizes.specs.Instances.{instance_at}
use Rattle.talk.specs.Shape.{instances}
use Rattle.plays.specs.Play.{Play, instance_of}
use Rattle.plays.specs.Said.{places}
use Rattle.plays.specs.Seat.{pair_at}
use Rattle.plays.specs.Stage.{Stage, AtReady, AtDealt, AtCrossed, AtComplained, AtRevealed, AtDone}
use Rattle.members.specs.Member.{Member}

-- the sum over the dealers 1 to n of the value at 0 of the row in lane l
abbrev pub share_sum : ℕ → List Pair → ℕ → Fp
share_sum zero pairs lane = zeroₚ
share_sum (suc count) pairs lane = share_sum count pairs lane +ₚ eval (pair_at pairs (instance_at (suc count) lane)).row.coeffs zeroₚ

-- all rounds of the sharing are heard
abbrev pub IsDone : Stage → Type 0
IsDone AtReady = ⊥
IsDone (AtDealt pairs) = ⊥
IsDone (AtCrossed pairs complaints) = ⊥
IsDone (AtComplained pairs third) = ⊥
IsDone (AtRevealed pairs fourth votes) = ⊥
IsDone (AtDone pairs acc) = Unit {0}

-- the pairs that are kept in the end, by instance; none before it
abbrev pub kept_in : Stage → List Pair
kept_in AtReady = []
kept_in (AtDealt pairs) = []
kept_in (AtCrossed pairs complaints) = []
kept_in (AtComplained pairs third) = []
kept_in (AtRevealed pairs fourth votes) = []
kept_in (AtDone pairs acc) = pairs

-- which instances are accepted in the end; none before it
abbrev pub answers_in : Stage → List Bool
answers_in AtReady = []
answers_in (AtDealt pairs) = []
answers_in (AtCrossed pairs complaints) = []
answers_in (AtComplained pairs third) = []
answers_in (AtRevealed pairs fourth votes) = []
answers_in (AtDone pairs acc) = acc

-- how many instances are accepted
abbrev pub accepted_in : Stage → ℕ
accepted_in stage = count_by (λ b. b) (answers_in stage)

-- a member's share in lane l, once it is done, and its five shares
abbrev pub member_share : Member → ℕ → Fp
member_share member lane = share_sum member.shape.dealers (kept_in member.stage) lane

abbrev pub member_shares : Member → List Fp
member_shares member = map (member_share member) (places 5)

-- how many of a play's instances are accepted
abbrev pub accepted_count : Play → ℕ
accepted_count play = count_by (λ i. accepted (instance_of play i)) (places (instances play.shape))
