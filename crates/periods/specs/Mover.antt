-- A seat of a move as a plain machine of six rounds: a member of the sharing, which in the end posts and hears once more.
-- On an old seat it only deals, on a new one it only receives.
use Rattle.std.specs.Prelude.{◌≡◌, ℕ, cond, List, Option, Some, None}
use Rattle.algebra61.specs.Field.{Fp, zeroₚ}
use Rattle.algebra61.specs.Poly.{eval}
use Rattle.sizes.specs.Instances.{instance_at}
use Rattle.sharing61.specs.Rules.{Pair}
use Rattle.talk.specs.declared.messages.Post.{Post}
use Rattle.talk.specs.declared.messages.Post.TheVariants.{Quiet, Syndromes}
use Rattle.talk.specs.declared.messages.Say.{Say}
use Rattle.talk.specs.declared.messages.Say.TheVariants.{Speak}
use Rattle.talk.specs.declared.messages.Heard.{Heard}
use Rattle.talk.specs.Shape.{Shape, receives}
use Rattle.talk.specs.Sync.{Ways, ways}
use Rattle.plays.specs.Seat.{pair_at}
use Rattle.plays.specs.Stage.{Stage, AtReady, AtDealt, AtCrossed, AtComplained, AtRevealed, AtDone, IsTurn, stage_post}
use Rattle.members.specs.Member.{Member, member_at, member_after_hear, rings_said}
use Rattle.periods.specs.Move.{syndrome_list}

-- sixth: the posts of the sixth round, once they are heard
pub record Mover : Type 0 where
  pub member : Member
  pub sixth : Option (List Post)

-- before the first round
abbrev pub mover_at : Shape → ℕ → List (List (List Fp)) → Mover
mover_at shape seat own = record { member = member_at shape seat own; sixth = None }

-- what it has of a dealer in a lane, from the pairs that it has in the end
abbrev pub subshare_in : List Pair → ℕ → ℕ → Fp
subshare_in pairs lane dealer = eval (pair_at pairs (instance_at dealer lane)).row.coeffs zeroₚ

-- what it posts: as a member of the sharing, and in the sixth round a receiver its syndromes
abbrev pub mover_post : Shape → ℕ → List (List (List Fp)) → Stage → Post
mover_post shape seat own AtReady = stage_post shape seat own AtReady
mover_post shape seat own (AtDealt pairs) = stage_post shape seat own (AtDealt pairs)
mover_post shape seat own (AtCrossed pairs complaints) = stage_post shape seat own (AtCrossed pairs complaints)
mover_post shape seat own (AtComplained pairs third) = stage_post shape seat own (AtComplained pairs third)
mover_post shape seat own (AtRevealed pairs fourth votes) = stage_post shape seat own (AtRevealed pairs fourth votes)
mover_post shape seat own (AtDone pairs accepted) = cond (receives shape seat) (Syndromes (syndrome_list shape (subshare_in pairs))) Quiet

-- it always speaks in time
abbrev pub mover_word : Mover → ℕ → Say
mover_word mover round =
    Speak (mover_post mover.member.shape mover.member.seat mover.member.grids mover.member.stage)
    (rings_said mover.member.shape mover.member.seat mover.member.grids mover.member.stage)

-- saying its word changes nothing of it
abbrev pub mover_after_say : Mover → ℕ → Mover
mover_after_say mover round = mover

-- the posts that are kept: those heard once the sharing is done
abbrev pub sixth_after : Stage → Option (List Post) → Heard → Option (List Post)
sixth_after AtReady before heard = before
sixth_after (AtDealt pairs) before heard = before
sixth_after (AtCrossed pairs complaints) before heard = before
sixth_after (AtComplained pairs third) before heard = before
sixth_after (AtRevealed pairs fourth votes) before heard = before
sixth_after (AtDone pairs accepted) before heard = Some heard.posts

abbrev pub mover_after_hear : Mover → ℕ → Heard → Mover
mover_after_hear mover round heard =
    record { member = member_after_hear mover.member round heard; sixth = sixth_after mover.member.stage mover.sixth heard }

abbrev pub mover_ways : Ways Mover
mover_ways = ways mover_word mover_after_say mover_after_hear

-- the round in which a stage of a move speaks: the sixth once the sharing is done
abbrev pub IsTurnOfSix : ℕ → Stage → Type 0
IsTurnOfSix round AtReady = IsTurn round AtReady
IsTurnOfSix round (AtDealt pairs) = IsTurn round (AtDealt pairs)
IsTurnOfSix round (AtCrossed pairs complaints) = IsTurn round (AtCrossed pairs complaints)
IsTurnOfSix round (AtComplained pairs third) = IsTurn round (AtComplained pairs third)
IsTurnOfSix round (AtRevealed pairs fourth votes) = IsTurn round (AtRevealed pairs fourth votes)
IsTurnOfSix round (AtDone pairs accepted) = round ≡ 6

-- nothing is said once the sixth round is heard
abbrev pub IsTurnBefore : ℕ → Stage → Option (List Post) → Type 0
IsTurnBefore round stage None = IsTurnOfSix round stage
IsTurnBefore round stage (Some posts) = ⊥

-- the round is the mover's
abbrev pub mover_turn : ℕ → Mover → Type 0
mover_turn round mover = IsTurnBefore round mover.member.stage mover.sixth
