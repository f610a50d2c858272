-- A synchronous run of a sharing, and the play that it is.
use Rattle.std.specs.Prelude.{◌≡◌, ℕ, zero, suc, ◌-◌, ◌<◌, ◌≤◌, Bool, true, false, List, [], length, get_or, map}
use Rattle.algebra61.specs.Field.{Fp}
use Rattle.algebra61.specs.Grid.{Degree}
use Rattle.sharing61.specs.Instance.{kept, accepted}
use Rattle.talk.specs.declared.messages.Say.TheVariants.{Pass}
use Rattle.talk.specs.Shape.{Shape, Lawful, instances, seats}
use Rattle.sizes.specs.Instances.{dealer_of, lane_of}
use Rattle.talk.specs.Sync.{Ways, has, post_in, ring_in}
use Rattle.plays.specs.Play.{Play, instance_of, seat_of}
use Rattle.plays.specs.Said.{places}
use Rattle.plays.specs.Transcript.{Transcript, HonestSeat, posts_in, rings_in, heard_in, transcript_of}
use Rattle.plays.specs.Seat.{post_at, ring_at}
use Rattle.plays.specs.Heard.{post_heard, ring_heard}
use Rattle.plays.specs.Law.{IsPlay, HonestIn}
use Rattle.plays.specs.Stage.{Stage, AtReady, AtDone, stage_after, stage_post, stage_ring, receiver_at}

-- The play of a transcript: the seats that are down say what is heard of them. own seat is the list of the grids that
-- an honest seat deals, lane by lane
abbrev pub play_of : Transcript → (ℕ → Bool) → (ℕ → List (List (List Fp))) → Play
play_of transcript down own = record {
  shape = transcript.shape;
  down = down;
  grid = λ i. get_or (own (dealer_of i)) (lane_of i) [];
  post = λ round seat. post_at (posts_in transcript round) seat;
  ring = λ round seat to. ring_at (rings_in transcript round to) seat;
}

-- the play of a run over minds
abbrev pub run_play : {M : Type 0} → Ways M → Shape → List ℕ → List M → (ℕ → Bool) → (ℕ → List (List (List Fp))) → Play
run_play ways shape masks minds down own = play_of (transcript_of ways shape masks minds) down own

-- where a seat that goes by the rules has come after the first rounds
abbrev pub stage_in : Transcript → List (List (List Fp)) → ℕ → ℕ → Stage
stage_in transcript own seat zero = AtReady
stage_in transcript own seat (suc round) =
    stage_after transcript.shape (receiver_at transcript.shape seat) own (heard_in transcript (suc round) seat) (stage_in transcript own seat round)

-- in the five rounds of the sharing every honest seat is heard, and it says what it has to by the rules
pub record ByTheRules (run : Transcript) (down : ℕ → Bool) (own : ℕ → List (List (List Fp))) : Type 0 where
  pub setting : Lawful run.shape
  pub all : (round : ℕ) → round < 5 → length (run.words (suc round)) ≡ seats run.shape
  pub degrees : (seat lane : ℕ) → down seat ≡ false → Degree run.shape.degree (get_or (own seat) lane [])
  pub in_mask : (round seat : ℕ) → round < 5 → HonestSeat run.shape down seat → has (run.mask (suc round)) seat ≡ true
  pub posts : (round seat : ℕ) → round < 5 → HonestSeat run.shape down seat →
      post_in (get_or (run.words (suc round)) (seat - 1) Pass)
      ≡ stage_post run.shape seat (own seat) (stage_in run (own seat) seat round)
  pub rings : (round seat to : ℕ) → round < 5 → HonestSeat run.shape down seat → 1 ≤ to → to ≤ seats run.shape →
      ring_in to (get_or (run.words (suc round)) (seat - 1) Pass)
      ≡ stage_ring run.shape seat (own seat) (stage_in run (own seat) seat round) to

-- the pairs and the answers that a play defines for receiver j in the end
abbrev pub done_stage : Play → ℕ → Stage
done_stage play receiver = AtDone (map (λ i. kept (instance_of play i) receiver) (places (instances play.shape))) (map (λ i. accepted (instance_of play i)) (places (instances play.shape)))

-- where the honest seats go by the rules, every honest receiver ends at what the play defines
abbrev pub RunIsPlay : Type 0
RunIsPlay =
    (run : Transcript) (down : ℕ → Bool) (own : ℕ → List (List (List Fp))) → ByTheRules run down own →
    (receiver : ℕ) → HonestIn (play_of run down own) receiver →
    stage_in run (own (seat_of run.shape receiver)) (seat_of run.shape receiver) 5
    ≡ done_stage (play_of run down own) receiver

-- it is a play of its setting
abbrev pub RunMakesPlay : Type 0
RunMakesPlay = (run : Transcript) (down : ℕ → Bool) (own : ℕ → List (List (List Fp))) → ByTheRules run down own →
    IsPlay (play_of run down own)

-- and everybody hears of every seat what the play says: of an honest one its dealing, crossing pairs, complaints,
-- reveals and votes in the play, to receivers that are down too, and nothing in the other rounds
abbrev pub RunIsHeard : Type 0
RunIsHeard =
    (run : Transcript) (down : ℕ → Bool) (own : ℕ → List (List (List Fp))) → ByTheRules run down own →
    (round seat : ℕ) → 1 ≤ round → round ≤ 5 → 1 ≤ seat → seat ≤ seats run.shape →
    (post_at (posts_in run round) seat ≡ post_heard (play_of run down own) round seat)
    × ((to : ℕ) → 1 ≤ to → to ≤ seats run.shape → ring_at (rings_in run round to) seat ≡ ring_heard (play_of run down own) round seat to)
