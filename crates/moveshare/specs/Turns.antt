-- What a seat of a move owes as a mind, also where it may be away: it stays made for its setting and seat, and its rounds
-- go on in turn.
use Rattle.std.proofs.Common.{ℕ, ◌+◌, ◌<◌, ◌≤◌, Bool, true, false, eqb, cond, sym, subst, arith, add-one}
use Rattle.talk.specs.declared.messages.Heard.{Heard}
use Rattle.talk.specs.declared.part.Part.{Part}
use Rattle.talk.specs.declared.part.Part.TheVariants.{Away, In}
use Rattle.talk.specs.Part.{part_made_for, part_may, part_after_say, part_after_hear}
use Rattle.talk.specs.Shape.{Shape, rounds}
use Rattle.talk.specs.Hears.{StaysMade}
use Rattle.periods.specs.Mover.{Mover, mover_after_say, mover_after_hear, mover_turn}
use Rattle.periods.proofs.Sixth.{mover_turns}
use Rattle.moveshare.specs.Seat.{MadeForMove, may_move}

-- ---- one seat
five_or_six : (b : Bool) → cond b 5 6 ≤ 6
five_or_six true = omega arith
five_or_six false = omega arith

-- after hearing a round that isn't the last, the next one is the mover's
pub mover_says_next : (mover : Mover) (round : ℕ) (heard : Heard) (shape : Shape) → may_move mover round → round < rounds shape → may_move (mover_after_hear mover round heard) (round + 1)
mover_says_next mover round heard shape may less =
    subst (λ (k : ℕ). mover_turn k (mover_after_hear mover round heard)) (sym (add-one round)) (mover_turns mover round heard may (omega (arith, less, five_or_six (eqb shape.checks 0))))

-- ---- a seat that may be away
pub part_say_keeps : (part : Part Mover) (round : ℕ) → part_may may_move part round → StaysMade (part_made_for MadeForMove part) (part_made_for MadeForMove (part_after_say mover_after_say part round))
part_say_keeps Away round may shape seat = (λ made. made, λ made. made)
part_say_keeps (In mover) round may shape seat = (λ made. made, λ made. made)

pub part_hear_keeps : (part : Part Mover) (round : ℕ) (heard : Heard) → part_may may_move part round → StaysMade (part_made_for MadeForMove part) (part_made_for MadeForMove (part_after_hear mover_after_hear part round heard))
part_hear_keeps Away round heard may shape seat = (λ made. made, λ made. made)
part_hear_keeps (In mover) round heard may shape seat = (λ made. made, λ made. made)

pub part_hears_next : (part : Part Mover) (round : ℕ) → part_may may_move part round → part_may may_move (part_after_say mover_after_say part round) round
part_hears_next Away round may = may
part_hears_next (In mover) round may = may

pub part_says_next : (part : Part Mover) (round : ℕ) (heard : Heard) (shape : Shape) → part_may may_move part round → round < rounds shape → part_may may_move (part_after_hear mover_after_hear part round heard) (round + 1)
part_says_next Away round heard shape may less = tt
part_says_next (In mover) round heard shape may less = mover_says_next mover round heard shape may less
