-- The record of a play has as many accepted instances as the play.
use Rattle.std.proofs.Common.{◌≡◌, ℕ, ◌<◌, Bool, cond, sum, sym, ap, ◌∙◌, arith}
use Rattle.std.specs.List.{count_by}
use Rattle.std.proofs.lemmas.List.Sums.{sum-map}
use Rattle.sharing61.specs.Instance.{accepted}
use Rattle.talk.specs.Shape.{Lawful, Shape, instances}
use Rattle.plays.specs.Play.{Play, instance_of}
use Rattle.plays.specs.Said.{places}
use Rattle.members.specs.Shares.{accepted_count}
use Rattle.histories61.specs.Same.{EndAlike}
use Rattle.histories61.proofs.Lists.{map_same}
use Rattle.playback.specs.declared.phase.PhaseKind.{PhaseKind}
use Rattle.playback.specs.declared.phase.Phase.{Phase}
use Rattle.playback.specs.Recorded.{play_of}
use Rattle.hearsay.specs.Record.{IsRecordOf}
use Rattle.hearsay.proofs.Record.{record_ends_alike}

abbrev number_of : Bool → ℕ
number_of is = cond is 1 0

-- two tests that say the same of the first n numbers hold of as many of them
counted_same : (one other : ℕ → Bool) (n : ℕ) → ((i : ℕ) → i < n → one i ≡ other i) → count_by one (places n) ≡ count_by other (places n)
counted_same one other n same =
    sym (sum-map (λ (i : ℕ). number_of (one i)) (places n))
    ∙ ap sum (map_same (λ (i : ℕ). number_of (one i)) (λ (i : ℕ). number_of (other i)) n 0 (λ i from to. ap number_of (same i (omega (arith, to)))))
    ∙ sum-map (λ (i : ℕ). number_of (other i)) (places n)

alike_counted : (play other : Play) → other.shape ≡ play.shape → EndAlike play other → accepted_count other ≡ accepted_count play
alike_counted play other shape alike =
    ap (λ (s : Shape). count_by (λ i. accepted (instance_of other i)) (places (instances s))) shape
    ∙ counted_same (λ i. accepted (instance_of other i)) (λ i. accepted (instance_of play i)) (instances play.shape) (λ i lt. alike.accepts i lt)

pub record_counted : (kind : PhaseKind) (play : Play) (phase : Phase) → Lawful play.shape → IsRecordOf kind play phase → accepted_count (play_of phase) ≡ accepted_count play
record_counted kind play phase lawful is = alike_counted play (play_of phase) is.setting_is (record_ends_alike kind play phase lawful is)
