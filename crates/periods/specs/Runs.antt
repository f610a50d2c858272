-- The run of a move: what its words define, and how minds end that go like movers. And how seats go that may take no part.
use Rattle.std.specs.Prelude.{◌≡◌, ℕ, ◌-◌, ◌≤◌, Bool, false, List, length, take, get_or, [], Option, Some}
use Rattle.algebra61.specs.Field.{Fp}
use Rattle.algebra61.specs.Grid.{Degree}
use Rattle.talk.specs.declared.messages.Post.{Post}
use Rattle.talk.specs.Shape.{Shape, Lawful, TwoCommittees, seats}
use Rattle.talk.specs.Sync.{Ways, AllAllowed, all_seats, sync}
use Rattle.talk.specs.Basics.{Nth}
use Rattle.talk.specs.Part.{part_ways, part_is}
use Rattle.plays.specs.Play.{Play, seat_of}
use Rattle.plays.specs.Seat.{post_at}
use Rattle.plays.specs.Law.{FewDown, HonestIn}
use Rattle.plays.specs.Transcript.{Transcript, HonestSeat, posts_in, transcript_of}
use Rattle.plays.specs.Run.{play_of, run_play, ByTheRules}
use Rattle.machines.specs.Machines.{machine_in, ByMachines, GoesLike, InMasks, NobodyCut, stands_for}
use Rattle.members.specs.Member.{member_ways, member_turn}
use Rattle.members.specs.Laws.{member_done}
use Rattle.periods.specs.Move.{syndromes_heard, IsMove}
use Rattle.periods.specs.Mover.{Mover, mover_at, mover_ways, mover_turn}
use Rattle.periods.specs.Keeper.{keeper_ways, IsKeeper}

-- ---- the words of a move
-- in six rounds the honest seats go by movers that deal their own grids, all of the setting's degree
pub record ByMovers (run : Transcript) (down : ℕ → Bool) (own : ℕ → List (List (List Fp))) : Type 0 where
  pub setting : Lawful run.shape
  pub degrees : (seat lane : ℕ) → down seat ≡ false → Degree run.shape.degree (get_or (own seat) lane [])
  pub movers : ByMachines mover_ways run 6 down (λ seat. mover_at run.shape seat (own seat))

-- a receiver in the end: it is done as the play defines, and has heard these posts in the sixth round
abbrev pub mover_done : Play → (ℕ → List (List (List Fp))) → List Post → ℕ → Mover
mover_done play own posts receiver = record { member = member_done play own receiver; sixth = Some posts }

-- the first five rounds go by the rules of the sharing
abbrev pub MovesShare : Type 0
MovesShare = (run : Transcript) (down : ℕ → Bool) (own : ℕ → List (List (List Fp))) → ByMovers run down own → ByTheRules run down own

-- the mover of each honest receiver ends as the play defines
abbrev pub MoversEnd : Type 0
MoversEnd =
    (run : Transcript) (down : ℕ → Bool) (own : ℕ → List (List (List Fp))) → ByMovers run down own →
    (receiver : ℕ) → HonestIn (play_of run down own) receiver →
    machine_in mover_ways run (seat_of run.shape receiver) (mover_at run.shape (seat_of run.shape receiver) (own (seat_of run.shape receiver))) 6
    ≡ mover_done (play_of run down own) own (posts_in run 6) receiver

-- and what is heard of each receiver in the sixth round, of one that is down too, is what the play defines
abbrev pub SyndromesHeard : Type 0
SyndromesHeard =
    (run : Transcript) (down : ℕ → Bool) (own : ℕ → List (List (List Fp))) → ByMovers run down own →
    (receiver : ℕ) → 1 ≤ receiver → receiver ≤ run.shape.receivers →
    post_at (posts_in run 6) (seat_of run.shape receiver) ≡ syndromes_heard (play_of run down own) receiver

-- with at most the setting's bound of the new committee down, the play of these words is a move
abbrev pub MovesAreProper : Type 0
MovesAreProper =
    (bound : ℕ) (run : Transcript) (down : ℕ → Bool) (own : ℕ → List (List (List Fp))) → ByMovers run down own →
    TwoCommittees run.shape bound → FewDown (play_of run down own) → IsMove bound (play_of run down own)

-- ---- minds
-- in a run whose first six rounds are a move, minds on the honest seats stand where movers stand that deal their own grids,
-- all of the setting's degree, and go like them
pub record BeginMove {M : Type 0} (ways : Ways M) (is : M → Mover → Type 0) (shape : Shape) (masks : List ℕ) (minds : List M) (down : ℕ → Bool) (own : ℕ → List (List (List Fp))) : Type 0 where
  pub goes : GoesLike ways mover_ways is mover_turn
  pub setting : Lawful shape
  pub rounds : 6 ≤ length masks
  pub seated : length minds ≡ seats shape
  pub degrees : (seat lane : ℕ) → down seat ≡ false → Degree shape.degree (get_or (own seat) lane [])
  pub fresh : (seat : ℕ) → HonestSeat shape down seat → (mind : M) × Nth (seat - 1) mind minds × is mind (mover_at shape seat (own seat))

-- The laws of such minds, whatever minds sit on the other seats; which mover a mind stands for is told by a partial function
module _ {M : Type 0} where
  -- where the honest seats are in the masks, the words are those of movers
  abbrev pub RunByMovers : Ways M → Type 0
  RunByMovers ways =
      (stands : M → Option Mover) (shape : Shape) (masks : List ℕ) (minds : List M) (down : ℕ → Bool) (own : ℕ → List (List (List Fp))) →
      BeginMove ways (stands_for stands) shape masks minds down own → InMasks shape 6 masks down → ByMovers (transcript_of ways shape masks minds) down own

  -- and the mind of each honest receiver ends as the play of the run defines
  abbrev pub EndAsMove : Ways M → Type 0
  EndAsMove ways =
      (stands : M → Option Mover) (shape : Shape) (masks : List ℕ) (minds : List M) (down : ℕ → Bool) (own : ℕ → List (List (List Fp))) →
      BeginMove ways (stands_for stands) shape masks minds down own → InMasks shape 6 masks down →
      (receiver : ℕ) → HonestIn (run_play ways shape masks minds down own) receiver →
      (mind : M) × Nth (seat_of shape receiver - 1) mind (sync ways shape 1 (take 6 masks) minds)
      × stands_for stands mind (mover_done (run_play ways shape masks minds down own) own (posts_in (transcript_of ways shape masks minds) 6) receiver)

  -- the honest seats are in the masks that the words allow, where none of them is cut
  abbrev pub MoversInMasks : Ways M → Type 0
  MoversInMasks ways =
      (stands : M → Option Mover) (shape : Shape) (cut : ℕ → ℕ) (masks : List ℕ) (minds : List M) (down : ℕ → Bool) (own : ℕ → List (List (List Fp))) →
      BeginMove ways (stands_for stands) shape masks minds down own →
      AllAllowed ways shape 1 (all_seats shape) cut masks minds → NobodyCut shape 6 cut down → InMasks shape 6 masks down

-- ---- seats that may take no part
-- keepers that take part go like members, each with the old shares of its seat, whatever these are
abbrev pub KeepersGo : Type 0
KeepersGo = (old : ℕ → List Fp) → GoesLike (part_ways keeper_ways) member_ways (part_is (IsKeeper old)) member_turn

-- and movers that take part like movers
abbrev pub MoversGo : Type 0
MoversGo = GoesLike (part_ways mover_ways) mover_ways (part_is (λ (mind mover : Mover). mind ≡ mover)) mover_turn
