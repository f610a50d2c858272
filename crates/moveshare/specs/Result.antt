-- What a new member comes to, by the posts that it heard in the sixth round.
use Rattle.std.specs.Prelude.{◌≡◌, ℕ, ◌+◌, ◌^◌, ◌<◌, ◌≤◌, Bool, false, ◌||◌, not, eqb, List, [], ◌∷◌, map, get_or, Option, Some, None}
use Rattle.algebra61.specs.Field.{Fp}
use Rattle.checks61.specs.Checks.{entry, corrected}
use Rattle.talk.specs.declared.messages.Post.{Post}
use Rattle.talk.specs.Shape.{Shape}
use Rattle.talk.specs.Sync.{has}
use Rattle.plays.specs.Said.{places}
use Rattle.members.specs.Member.{Member}
use Rattle.members.specs.Shares.{kept_in}
use Rattle.periods.specs.Move.{IsOpenedSyndrome, HaveErrors, MoveHasNoResult, old_bound}
use Rattle.periods.specs.Mover.{Mover, subshare_in}
use Rattle.subshare.specs.Opening.{post_of, IsFirstUnopened}
use Rattle.moveshare.specs.declared.out.MoveOut.{MoveOut}
use Rattle.moveshare.specs.declared.out.MoveOut.TheVariants.{Shares, NotOpened, NoWord}

-- the sixth round is heard
abbrev pub AreHeard : Option (List Post) → Type 0
AreHeard None = ⊥
AreHeard (Some posts) = Unit {0}

abbrev pub IsOver : Mover → Type 0
IsOver mover = AreHeard mover.sixth

-- its posts, none before it
abbrev pub posts_in_sixth : Option (List Post) → List Post
posts_in_sixth None = []
posts_in_sixth (Some posts) = posts

-- what the mover heard of a receiver there
abbrev pub sixth_of : Mover → ℕ → Post
sixth_of mover receiver = post_of mover.member.shape (posts_in_sixth mover.sixth) receiver

-- ---- without error vectors
-- the least place that isn't opened of the least lane that isn't
pub record IsNotOpened (shape : Shape) (post : ℕ → Post) (lane place : ℕ) : Type 0 where
  pub within : lane < 5
  pub first : IsFirstUnopened shape post lane place
  pub before : (other : ℕ) → other < lane → (list : List Fp) × IsOpenedSyndrome shape post other list

-- ---- with them
-- what the member has in a lane, less the lane's errors
abbrev pub share_without : Member → List (List Fp) → ℕ → Fp
share_without member errors lane = corrected (old_bound member.shape + 1) (subshare_in (kept_in member.stage) lane) (entry (get_or errors lane []))

-- some error vector has an entry other than 0 at the dealer
abbrev pub has_error : List (List Fp) → ℕ → Bool
has_error [] dealer = false
has_error (error ∷ errors) dealer = not (eqb (entry error dealer).num 0) || has_error errors dealer

-- the mask of the dealers with an error: dealer 1 has the lowest bit
pub record AreCorrected (dealers : ℕ) (errors : List (List Fp)) (mask : ℕ) : Type 0 where
  pub below : mask < 2 ^ dealers
  pub each : (dealer : ℕ) → 1 ≤ dealer → dealer ≤ dealers → has mask dealer ≡ has_error errors dealer

-- ---- the answer
-- by what each receiver posted in the sixth round
abbrev pub AnswersPosts : Member → (ℕ → Post) → MoveOut → Type 0
AnswersPosts member post (Shares shares mask) =
    (errors : List (List Fp)) × HaveErrors member.shape post errors
    × (shares ≡ map (share_without member errors) (places 5)) × AreCorrected member.shape.dealers errors mask
AnswersPosts member post (NotOpened lane place) = IsNotOpened member.shape post lane place
AnswersPosts member post (NoWord lane syndrome) = MoveHasNoResult member.shape post lane syndrome

-- by what the mover heard
abbrev pub AnswersMove : Mover → MoveOut → Type 0
AnswersMove mover out = AnswersPosts mover.member (sixth_of mover) out
