-- What holds of the shares that members have in the end.
use Rattle.std.specs.Prelude.{◌≡◌, ℕ, suc, ◌+◌, ◌-◌, ◌*◌, ◌<◌, ◌≤◌, Bool, false, List, [], length, take, get_or, map, All, Option}
use Rattle.algebra61.specs.Field.{Fp, zeroₚ, fe}
use Rattle.algebra61.specs.Grid.{Degree, grid_at}
use Rattle.sizes.specs.Instances.{instance_at}
use Rattle.bivar61.specs.Sums.{sum_below}
use Rattle.talk.specs.Shape.{Shape, Lawful, seats}
use Rattle.talk.specs.Sync.{Ways, AllAllowed, all_seats, sync}
use Rattle.talk.specs.Basics.{Nth}
use Rattle.plays.specs.Play.{Play, seat_of, created_share}
use Rattle.plays.specs.Law.{ProperPlay, HonestIn}
use Rattle.plays.specs.Stage.{AtReady}
use Rattle.plays.specs.Transcript.{HonestSeat, transcript_of}
use Rattle.plays.specs.Run.{ByTheRules, run_play, done_stage}
use Rattle.plays.specs.Said.{places}
use Rattle.machines.specs.Machines.{GoesLike, InMasks, NobodyCut, stands_for}
use Rattle.members.specs.Member.{Member, member_at, member_ways, member_turn}
use Rattle.members.specs.Shares.{IsDone, member_share, member_shares, accepted_in, accepted_count}

-- no dealer's seat and no receiver's is down
pub record NobodyDown (play : Play) : Type 0 where
  pub dealers : (dealer : ℕ) → 1 ≤ dealer → dealer ≤ play.shape.dealers → play.down dealer ≡ false
  pub receivers : (receiver : ℕ) → 1 ≤ receiver → receiver ≤ play.shape.receivers →
      play.down (seat_of play.shape receiver) ≡ false

-- where nobody is down, a created share is the sum over all dealers of the grid's value at 0 and the receiver's number
abbrev pub PlainShares : Type 0
PlainShares =
    (play : Play) (lane receiver : ℕ) → ProperPlay play → NobodyDown play → lane < 5 → 1 ≤ receiver →
    receiver ≤ play.shape.receivers →
    created_share play lane receiver
    ≡ sum_below play.shape.dealers (λ i. grid_at (play.grid (instance_at (suc i) lane)) zeroₚ (fe receiver))

-- the member is of the play's setting, and has come to the end that the play defines for the receiver
pub record DoneAs (play : Play) (receiver : ℕ) (member : Member) : Type 0 where
  pub shape : member.shape ≡ play.shape
  pub stage : member.stage ≡ done_stage play receiver

-- it has the shares that the play creates, and counts the play's accepted instances
pub record HasShares (play : Play) (receiver : ℕ) (member : Member) : Type 0 where
  pub share : (lane : ℕ) → lane < 5 → member_share member lane ≡ created_share play lane receiver
  pub shares : member_shares member ≡ map (λ lane. created_share play lane receiver) (places 5)
  pub accepted : accepted_in member.stage ≡ accepted_count play

abbrev pub DoneIsPlay : Type 0
DoneIsPlay = (play : Play) (receiver : ℕ) (member : Member) → DoneAs play receiver member → HasShares play receiver member

-- Minds in a run whose first five rounds are a sharing: those on the honest seats stand where members stand that deal
-- their own grids, all of the setting's degree, and go like them
pub record BeginSharing {M : Type 0} (ways : Ways M) (is : M → Member → Type 0) (shape : Shape) (masks : List ℕ) (minds : List M) (down : ℕ → Bool) (own : ℕ → List (List (List Fp))) : Type 0 where
  pub goes : GoesLike ways member_ways is member_turn
  pub setting : Lawful shape
  pub rounds : 5 ≤ length masks
  pub seated : length minds ≡ seats shape
  pub degrees : (seat lane : ℕ) → down seat ≡ false → Degree shape.degree (get_or (own seat) lane [])
  pub fresh : (seat : ℕ) → HonestSeat shape down seat →
      (mind : M) × Nth (seat - 1) mind minds × is mind (member_at shape seat (own seat))

-- the member of a receiver that has come to the end that a play defines
abbrev pub member_done : Play → (ℕ → List (List (List Fp))) → ℕ → Member
member_done play own receiver =
    record { shape = play.shape; seat = seat_of play.shape receiver; grids = own (seat_of play.shape receiver); stage = done_stage play receiver }

-- The laws of such minds, whatever minds sit on the other seats; which member a mind stands for is told by a partial
-- function.
module _ {M : Type 0} where
  -- where the honest seats are in the masks, the run goes by the rules of the sharing
  abbrev pub RunByTheRules : Ways M → Type 0
  RunByTheRules ways =
      (stands : M → Option Member) (shape : Shape) (masks : List ℕ) (minds : List M) (down : ℕ → Bool)
      (own : ℕ → List (List (List Fp))) →
      BeginSharing ways (stands_for stands) shape masks minds down own → InMasks shape 5 masks down →
      ByTheRules (transcript_of ways shape masks minds) down own

  -- and the mind of each honest receiver ends as the play of the run defines
  abbrev pub EndAsPlay : Ways M → Type 0
  EndAsPlay ways =
      (stands : M → Option Member) (shape : Shape) (masks : List ℕ) (minds : List M) (down : ℕ → Bool)
      (own : ℕ → List (List (List Fp))) →
      BeginSharing ways (stands_for stands) shape masks minds down own → InMasks shape 5 masks down →
      (receiver : ℕ) → HonestIn (run_play ways shape masks minds down own) receiver →
      (mind : M) × Nth (seat_of shape receiver - 1) mind (sync ways shape 1 (take 5 masks) minds)
      × stands_for stands mind (member_done (run_play ways shape masks minds down own) own receiver)

  -- the honest seats are in the masks that the words allow, where none of them is cut
  abbrev pub HonestInMasks : Ways M → Type 0
  HonestInMasks ways =
      (stands : M → Option Member) (shape : Shape) (cut : ℕ → ℕ) (masks : List ℕ) (minds : List M) (down : ℕ → Bool)
      (own : ℕ → List (List (List Fp))) →
      BeginSharing ways (stands_for stands) shape masks minds down own →
      AllAllowed ways shape 1 (all_seats shape) cut masks minds → NobodyCut shape 5 cut down → InMasks shape 5 masks down

-- members themselves end as the play of their run defines
abbrev pub MembersEnd : Type 0
MembersEnd =
    (shape : Shape) (masks : List ℕ) (minds : List Member) (down : ℕ → Bool) (own : ℕ → List (List (List Fp))) →
    BeginSharing member_ways (λ (mind member : Member). mind ≡ member) shape masks minds down own →
    InMasks shape 5 masks down →
    (receiver : ℕ) → HonestIn (run_play member_ways shape masks minds down own) receiver →
    Nth (seat_of shape receiver - 1) (member_done (run_play member_ways shape masks minds down own) own receiver)
    (sync member_ways shape 1 (take 5 masks) minds)

-- after five rounds every member is done, whatever the masks are
abbrev pub AreDone : Type 0
AreDone =
    (shape : Shape) (masks : List ℕ) (minds : List Member) → length masks ≡ 5 →
    All (λ (mind : Member). mind.stage ≡ AtReady) minds →
    All (λ (mind : Member). IsDone mind.stage) (sync member_ways shape 1 masks minds)
