-- How a seat of a move goes: what it says in the sharing and behind it, and what it hears.
use Rattle.std.proofs.Common.{◌≡◌, ℕ, ◌<◌, ◌≤◌, Bool, true, false, ◌&&◌, cond, List, Option, Some, None, refl, sym, ap, subst, arith, nat_lt}
use Rattle.std.specs.Prelude.{Result, Ok, Err, OnOk, OnErr}
use Rattle.std.proofs.lemmas.Bool.{cond-true}
use Rattle.algebra61.specs.Field.{Fp}
use Rattle.talk.specs.declared.messages.Post.{Post}
use Rattle.talk.specs.declared.messages.Post.TheVariants.{Quiet, Syndromes}
use Rattle.talk.specs.declared.messages.Say.TheVariants.{Speak}
use Rattle.talk.specs.declared.messages.Heard.{Heard}
use Rattle.talk.specs.Shape.{Shape, receives}
use Rattle.talk.specs.Hears.{Fits}
use Rattle.plays.specs.Stage.{Stage, AtReady, AtDealt, AtCrossed, AtComplained, AtRevealed, AtDone, IsTurn, stage_post, stage_after}
use Rattle.members.specs.Member.{Member, member_word, member_after_hear, rings_said}
use Rattle.members.specs.Shares.{IsDone, kept_in}
use Rattle.sharer.specs.Sharer.{round_of, MayHear}
use Rattle.periods.specs.Move.{syndrome_list}
use Rattle.periods.specs.Mover.{Mover, mover_post, mover_word, mover_ways, mover_turn, sixth_after, subshare_in, IsTurnBefore}
use Rattle.periods.proofs.Runs.{movers_go}
use Rattle.moveshare.specs.declared.mind.MoveMind.{MoveMind}
use Rattle.moveshare.specs.declared.mind.MoveMind.TheVariants.{Old, New}
use Rattle.moveshare.specs.Minds.{mind_word, mind_after_say, mind_after_hear}
use Rattle.moveshare.specs.Seat.{IsKeptAt, tells}
use Rattle.moveshare.specs.Result.{AreHeard}
use Rattle.moveshare.specs.Laws.{StandsFor, MindsGo}

-- ---- what it says
quiet_end : (b : Bool) (p : Post) → b ≡ false → Quiet ≡ cond b p Quiet
quiet_end true p e = cc
quiet_end false p e = refl

-- where it doesn't tell its syndromes it posts what it posts in the sharing
post_in_sharing : (s : Shape) (seat : ℕ) (own : List (List (List Fp))) (stage : Stage) → (nat_lt 5 (round_of stage) && receives s seat) ≡ false → stage_post s seat own stage ≡ mover_post s seat own stage
post_in_sharing s seat own AtReady e = refl
post_in_sharing s seat own (AtDealt ps) e = refl
post_in_sharing s seat own (AtCrossed ps cs) e = refl
post_in_sharing s seat own (AtComplained ps third) e = refl
post_in_sharing s seat own (AtRevealed ps fourth votes) e = refl
post_in_sharing s seat own (AtDone ps acc) e = quiet_end (receives s seat) _ e

pub says_as_member : (m : Mover) (round other : ℕ) → tells m ≡ false → member_word m.member other ≡ mover_word m round
says_as_member m round other e =
    ap (λ (p : Post). Speak p (rings_said m.member.shape m.member.seat m.member.grids m.member.stage)) (post_in_sharing m.member.shape m.member.seat m.member.grids m.member.stage e)

-- where it does, the sharing is done, and a receiver sits there
pub record TellsSyndromes (m : Mover) : Type 0 where
  pub done : IsDone m.member.stage
  pub receives : receives m.member.shape m.member.seat ≡ true
  pub post : mover_post m.member.shape m.member.seat m.member.grids m.member.stage ≡ Syndromes (syndrome_list m.member.shape (subshare_in (kept_in m.member.stage)))

done_at_six : (stage : Stage) (b : Bool) → (nat_lt 5 (round_of stage) && b) ≡ true → IsDone stage × (b ≡ true)
done_at_six AtReady b e = cc
done_at_six (AtDealt ps) b e = cc
done_at_six (AtCrossed ps cs) b e = cc
done_at_six (AtComplained ps third) b e = cc
done_at_six (AtRevealed ps fourth votes) b e = cc
done_at_six (AtDone ps acc) b e = (tt, e)

post_behind : (s : Shape) (seat : ℕ) (own : List (List (List Fp))) (stage : Stage) → IsDone stage → receives s seat ≡ true →
    mover_post s seat own stage ≡ Syndromes (syndrome_list s (subshare_in (kept_in stage)))
post_behind s seat own AtReady done e = absurd done
post_behind s seat own (AtDealt ps) done e = absurd done
post_behind s seat own (AtCrossed ps cs) done e = absurd done
post_behind s seat own (AtComplained ps third) done e = absurd done
post_behind s seat own (AtRevealed ps fourth votes) done e = absurd done
post_behind s seat own (AtDone ps acc) done e = cond-true (receives s seat) _ _ e

pub tells_syndromes : (m : Mover) → tells m ≡ true → TellsSyndromes m
tells_syndromes m e =
    let both = done_at_six m.member.stage (receives m.member.shape m.member.seat) e in
    record { done = both.0; receives = both.1; post = post_behind m.member.shape m.member.seat m.member.grids m.member.stage both.0 both.1 }

-- ---- what it hears
-- in the sharing it hears as a member
pub record HearsAsMember (m : Mover) (h : Heard) : Type 0 where
  pub may : MayHear m.member h
  pub none : m.sixth ≡ None
  pub sixth : sixth_after m.member.stage m.sixth h ≡ m.sixth

turn_in_sharing : (round : ℕ) (stage : Stage) (sixth : Option (List Post)) (h : Heard) → round_of stage ≤ 5 → IsTurnBefore round stage sixth → IsTurn round stage × (sixth ≡ None) × (sixth_after stage sixth h ≡ sixth)
turn_in_sharing round stage (Some posts) h le turn = absurd turn
turn_in_sharing round AtReady None h le turn = (turn, refl, refl)
turn_in_sharing round (AtDealt ps) None h le turn = (turn, refl, refl)
turn_in_sharing round (AtCrossed ps cs) None h le turn = (turn, refl, refl)
turn_in_sharing round (AtComplained ps third) None h le turn = (turn, refl, refl)
turn_in_sharing round (AtRevealed ps fourth votes) None h le turn = (turn, refl, refl)
turn_in_sharing round (AtDone ps acc) None h le turn = absurd (omega (arith, le))

pub hears_as_member : (m : Mover) (round : ℕ) (h : Heard) (s : Shape) (seat : ℕ) → round_of m.member.stage ≤ 5 → mover_turn round m → m.member.shape ≡ s → m.member.seat ≡ seat → Fits s seat round h → HearsAsMember m h
hears_as_member m round h s seat le turn es em fits =
    let both = turn_in_sharing round m.member.stage m.sixth h le turn in
    record {
      may = record {
        round = round;
        turn = both.0;
        fits = subst (λ (z : Shape). Fits z m.member.seat round h) (sym es) (subst (λ (k : ℕ). Fits s k round h) (sym em) fits);
      };
      none = both.1;
      sixth = both.2;
    }

-- and is of the same setting after it, for want of memory too
pub same_shape : {T E : Type 0} (result : Result T E) (before after : Member) (h : Heard) (round : ℕ) → OnOk result (after ≡ member_after_hear before round h) → OnErr result (after ≡ before) → after.shape ≡ before.shape
same_shape (Ok x) before after h round ok err = ap (λ (m : Member). m.shape) ok
same_shape (Err e) before after h round ok err = ap (λ (m : Member). m.shape) err

-- behind it, it keeps the posts
pub stays_done : (s : Shape) (me : ℕ) (own : List (List (List Fp))) (h : Heard) (stage : Stage) (sixth : Option (List Post)) → 5 < round_of stage →
    IsDone stage × (stage_after s me own h stage ≡ stage) × (sixth_after stage sixth h ≡ Some h.posts)
stays_done s me own h AtReady sixth lt = absurd (omega (arith, lt))
stays_done s me own h (AtDealt ps) sixth lt = absurd (omega (arith, lt))
stays_done s me own h (AtCrossed ps cs) sixth lt = absurd (omega (arith, lt))
stays_done s me own h (AtComplained ps third) sixth lt = absurd (omega (arith, lt))
stays_done s me own h (AtRevealed ps fourth votes) sixth lt = absurd (omega (arith, lt))
stays_done s me own h (AtDone ps acc) sixth lt = (tt, refl, refl)

-- once its posts are kept, the sharing is done
pub over_is_done : (s : Shape) (stage : Stage) (sixth : Option (List Post)) → IsKeptAt s stage sixth → AreHeard sixth → IsDone stage
over_is_done s stage None kept over = absurd over
over_is_done s stage (Some posts) kept over = kept.0

-- ---- minds
module _ {N M : ℕ} where
  same_word : (mind : MoveMind N M) (mover : Mover) (round : ℕ) → mover_turn round mover → StandsFor mind mover → mind_word mind round ≡ mover_word mover round
  same_word (Old part) mover round turn is = movers_go.same_word part mover round turn is
  same_word (New one) mover round turn is = ap (λ (m : Mover). mover_word m round) is

  same_next : (mind : MoveMind N M) (mover : Mover) (round : ℕ) (h : Heard) → mover_turn round mover → StandsFor mind mover →
      StandsFor (mind_after_hear (mind_after_say mind round) round h) (mover_ways.after_hear mover round h)
  same_next (Old part) mover round h turn is = movers_go.same_next part mover round h turn is
  same_next (New one) mover round h turn is = ap (λ (m : Mover). mover_ways.after_hear m round h) is

pub minds_go : MindsGo
minds_go N M = record { same_word = same_word; same_next = same_next }
