-- Minds that go like machines, in a run of any phase and over any number of its rounds.
use Rattle.std.specs.Prelude.{◌≡◌, ℕ, zero, suc, ◌-◌, ◌<◌, ◌≤◌, Bool, true, false, List, length, take, get_or, Option, Some}
use Rattle.talk.specs.declared.messages.Say.TheVariants.{Pass}
use Rattle.talk.specs.declared.messages.Heard.{Heard}
use Rattle.talk.specs.Shape.{Shape, seats}
use Rattle.talk.specs.Read.{as_read, ring_as_read}
use Rattle.talk.specs.Sync.{Ways, AllAllowed, all_seats, sync, has, speaks, post_in, ring_in}
use Rattle.talk.specs.Basics.{Nth}
use Rattle.plays.specs.Seat.{post_at, ring_at}
use Rattle.plays.specs.Transcript.{Transcript, HonestSeat, heard_in, posts_in, rings_in, transcript_of}

-- ---- machines in a transcript
module _ {C : Type 0} where
  -- what a machine on a seat has become after the first rounds
  abbrev pub machine_in : Ways C → Transcript → ℕ → C → ℕ → C
  machine_in machines run seat machine zero = machine
  machine_in machines run seat machine (suc round) =
      machines.after_hear (machines.after_say (machine_in machines run seat machine round) (suc round)) (suc round) (heard_in run (suc round) seat)

  -- in the first rounds every honest seat is heard, and its words are those of the machine that begins there
  pub record ByMachines (machines : Ways C) (run : Transcript) (rounds : ℕ) (down : ℕ → Bool) (start : ℕ → C) : Type 0 where
    pub all : (round : ℕ) → round < rounds → length (run.words (suc round)) ≡ seats run.shape
    pub in_mask : (round seat : ℕ) → round < rounds → HonestSeat run.shape down seat →
        has (run.mask (suc round)) seat ≡ true
    pub words : (round seat : ℕ) → round < rounds → HonestSeat run.shape down seat →
        get_or (run.words (suc round)) (seat - 1) Pass
        ≡ machines.word (machine_in machines run seat (start seat) round) (suc round)

  -- everybody hears of a seat in a round what its machine says, as it is read
  pub record HeardOf (machines : Ways C) (run : Transcript) (seat round : ℕ) (machine : C) : Type 0 where
    pub post : post_at (posts_in run (suc round)) seat
        ≡ as_read run.shape (suc round) seat (post_in (machines.word (machine_in machines run seat machine round) (suc round)))
    pub ring : (to : ℕ) →
        ring_at (rings_in run (suc round) to) seat
        ≡ ring_as_read run.shape (suc round) seat to (ring_in to (machines.word (machine_in machines run seat machine round) (suc round)))

  -- turn round machine: the round is the machine's. After a round before the last the next one is
  abbrev pub TurnsGoOn : Ways C → (ℕ → C → Type 0) → ℕ → Type 0
  TurnsGoOn machines turn last =
      (machine : C) (round : ℕ) (heard : Heard) → turn round machine → round < last →
      turn (suc round) (machines.after_hear (machines.after_say machine round) round heard)

  -- in its turn a machine speaks in time
  abbrev pub AlwaysSpeaks : Ways C → (ℕ → C → Type 0) → Type 0
  AlwaysSpeaks machines turn = (machine : C) (round : ℕ) → turn round machine →
      speaks (machines.word machine round) ≡ true

  -- the turns, where a test tells them
  abbrev pub is_turn : (ℕ → C → Bool) → ℕ → C → Type 0
  is_turn turn round machine = turn round machine ≡ true

-- ---- masks
-- every honest seat is in the mask of each of the first rounds
abbrev pub InMasks : Shape → ℕ → List ℕ → (ℕ → Bool) → Type 0
InMasks shape rounds masks down = (round seat : ℕ) → round < rounds → HonestSeat shape down seat →
    has (get_or masks round 0) seat ≡ true

-- no honest seat is cut in one of the first rounds
abbrev pub NobodyCut : Shape → ℕ → (ℕ → ℕ) → (ℕ → Bool) → Type 0
NobodyCut shape rounds cut down = (round seat : ℕ) → round < rounds → HonestSeat shape down seat →
    has (cut (suc round)) seat ≡ false

-- ---- minds
module _ {M C : Type 0} where
  -- is mind machine: the mind stands where the machine stands. turn round machine: the round is the machine's. Then
  -- both say the same, and after what they say and hear they stand at one place again
  pub record GoesLike (ways : Ways M) (machines : Ways C) (is : M → C → Type 0) (turn : ℕ → C → Type 0) : Type 0 where
    pub same_word : (mind : M) (machine : C) (round : ℕ) → turn round machine → is mind machine →
        ways.word mind round ≡ machines.word machine round
    pub same_next : (mind : M) (machine : C) (round : ℕ) (heard : Heard) → turn round machine → is mind machine →
        is (ways.after_hear (ways.after_say mind round) round heard) (machines.after_hear (machines.after_say machine round) round heard)

  -- the minds that begin a run of at least so many rounds: on the honest seats they stand where machines stand in
  -- their first turn
  pub record BeginLike (ways : Ways M) (machines : Ways C) (is : M → C → Type 0) (turn : ℕ → C → Type 0) (shape : Shape) (rounds : ℕ) (masks : List ℕ) (minds : List M) (down : ℕ → Bool) (start : ℕ → C) : Type 0 where
    pub goes : GoesLike ways machines is turn
    pub turns : TurnsGoOn machines turn rounds
    pub enough : rounds ≤ length masks
    pub seated : length minds ≡ seats shape
    pub fresh : (seat : ℕ) → HonestSeat shape down seat →
        (mind : M) × Nth (seat - 1) mind minds × is mind (start seat) × turn 1 (start seat)

  -- after these rounds the mind on the seat stands where the machine stands that began there
  pub record EndsLike (ways : Ways M) (machines : Ways C) (is : M → C → Type 0) (shape : Shape) (rounds : ℕ) (masks : List ℕ) (minds : List M) (seat : ℕ) (machine : C) : Type 0 where
    pub mind : M
    pub place : Nth (seat - 1) mind (sync ways shape 1 (take rounds masks) minds)
    pub same : is mind (machine_in machines (transcript_of ways shape masks minds) seat machine rounds)

  -- The laws. Here a partial function tells which machine a mind stands for
  abbrev pub stands_for : (M → Option C) → M → C → Type 0
  stands_for stands mind machine = stands mind ≡ Some machine

  -- whatever minds sit on the other seats, and whatever the masks are: an honest seat's mind ends where its machine does
  abbrev pub MindsEnd : Ways M → Ways C → Type 0
  MindsEnd ways machines =
      (stands : M → Option C) (turn : ℕ → C → Bool) (shape : Shape) (rounds : ℕ) (masks : List ℕ) (minds : List M)
      (down : ℕ → Bool) (start : ℕ → C) →
      BeginLike ways machines (stands_for stands) (is_turn turn) shape rounds masks minds down start →
      (seat : ℕ) → HonestSeat shape down seat → EndsLike ways machines (stands_for stands) shape rounds masks minds seat (start seat)

  -- where it is in the masks too, the run goes by these machines
  abbrev pub RunsByMachines : Ways M → Ways C → Type 0
  RunsByMachines ways machines =
      (stands : M → Option C) (turn : ℕ → C → Bool) (shape : Shape) (rounds : ℕ) (masks : List ℕ) (minds : List M)
      (down : ℕ → Bool) (start : ℕ → C) →
      BeginLike ways machines (stands_for stands) (is_turn turn) shape rounds masks minds down start →
      InMasks shape rounds masks down →
      ByMachines machines (transcript_of ways shape masks minds) rounds down start

  -- it is in the masks that the words allow, where its machine always speaks in time and it isn't cut
  abbrev pub SpeakersStay : Ways M → Ways C → Type 0
  SpeakersStay ways machines =
      (stands : M → Option C) (turn : ℕ → C → Bool) (shape : Shape) (rounds : ℕ) (cut : ℕ → ℕ) (masks : List ℕ)
      (minds : List M) (down : ℕ → Bool) (start : ℕ → C) →
      BeginLike ways machines (stands_for stands) (is_turn turn) shape rounds masks minds down start →
      AlwaysSpeaks machines (is_turn turn) → AllAllowed ways shape 1 (all_seats shape) cut masks minds →
      NobodyCut shape rounds cut down →
      InMasks shape rounds masks down

-- in a run that goes by machines everybody hears what they say
abbrev pub MachinesAreHeard : {C : Type 0} → Ways C → Type 0
MachinesAreHeard {C} machines =
    (run : Transcript) (rounds : ℕ) (down : ℕ → Bool) (start : ℕ → C) → ByMachines machines run rounds down start →
    (round seat : ℕ) → round < rounds → HonestSeat run.shape down seat → HeardOf machines run seat round (start seat)
