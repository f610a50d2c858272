-- A receiver that hears, round by round, what is heard in a play.
use Rattle.std.specs.Prelude.{◌≡◌, ℕ, zero, suc, ◌<◌, ◌≤◌, List, [], get_or, map}
use Rattle.algebra61.specs.Field.{Fp}
use Rattle.sizes.specs.Instances.{instance_at}
use Rattle.sharing61.specs.Rules.{Pair}
use Rattle.sharing61.specs.Instance.{held, complaint, vote}
use Rattle.sharing61.specs.Agreement.{Deals}
use Rattle.talk.specs.Shape.{Lawful, seats, instances}
use Rattle.plays.specs.Play.{Play, instance_of, seat_of}
use Rattle.plays.specs.Said.{places, points_up_to, complaint_list, vote_list}
use Rattle.plays.specs.Law.{HonestIn}
use Rattle.plays.specs.Heard.{post_heard, play_heard}
use Rattle.plays.specs.Stage.{Stage, AtReady, AtDealt, AtCrossed, AtComplained, AtRevealed, stage_after}
use Rattle.plays.specs.Run.{done_stage}

-- how far the receiver has come after some rounds, where it deals these grids, lane by lane
abbrev pub stage_after_rounds : Play → ℕ → List (List (List Fp)) → ℕ → Stage
stage_after_rounds play receiver own zero = AtReady
stage_after_rounds play receiver own (suc round) =
    stage_after play.shape receiver own (play_heard play (suc round) (seat_of play.shape receiver)) (stage_after_rounds play receiver own round)

-- where its seat deals, these are the play's grids
abbrev pub OwnGrids : Play → ℕ → List (List (List Fp)) → Type 0
OwnGrids play receiver own =
    (lane : ℕ) → lane < 5 → seat_of play.shape receiver ≤ play.shape.dealers →
    get_or own lane [] ≡ play.grid (instance_at (seat_of play.shape receiver) lane)

-- the pairs that a play defines for the receiver
abbrev pub pairs_in_play : Play → ℕ → List Pair
pairs_in_play play receiver = map (λ instance. held (instance_of play instance) receiver) (places (instances play.shape))

-- what a play defines for the receiver after each round
abbrev pub stage_in_play : Play → ℕ → ℕ → Stage
stage_in_play play receiver zero = AtReady
stage_in_play play receiver (suc zero) = AtDealt (pairs_in_play play receiver)
stage_in_play play receiver (suc (suc zero)) =
    AtCrossed (pairs_in_play play receiver)
    (complaint_list (instances play.shape) play.shape.receivers (λ instance. complaint (instance_of play instance) receiver))
stage_in_play play receiver (suc (suc (suc zero))) =
    AtComplained (pairs_in_play play receiver) (map (post_heard play 3) (points_up_to (seats play.shape)))
stage_in_play play receiver (suc (suc (suc (suc zero)))) =
    AtRevealed (pairs_in_play play receiver) (map (post_heard play 4) (points_up_to (seats play.shape)))
    (vote_list (instances play.shape) (λ instance. vote (instance_of play instance) receiver))
stage_in_play play receiver (suc (suc (suc (suc (suc later))))) = done_stage play receiver

-- an honest receiver that hears the play comes to what the play defines, round by round, where each dealer deals and reveals
-- what has the setting's degree
abbrev pub HeardToItsEnd : Type 0
HeardToItsEnd =
    (play : Play) (receiver : ℕ) (own : List (List (List Fp))) → Lawful play.shape →
    ((instance : ℕ) → Deals play.shape.degree (instance_of play instance).dealer) → HonestIn play receiver → OwnGrids play receiver own →
    (round : ℕ) → round ≤ 5 → stage_after_rounds play receiver own round ≡ stage_in_play play receiver round
