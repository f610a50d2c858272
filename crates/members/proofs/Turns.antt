-- What every member's mind owes: the stages speak in turn, and a word has a message for each seat.
use Rattle.std.proofs.Common.{◌≡◌, ℕ, ◌+◌, ◌-◌, ◌<◌, ◌≤◌, Bool, true, false, ◌&&◌, not, cond, eqb, List, refl, ap, ◌∙◌, arith}
use Rattle.std.proofs.lemmas.Bool.{eq-eqb}
use Rattle.std.proofs.lemmas.List.FromFn.{get_or-map-range_with_len, length-map-range_with_len}
use Rattle.algebra61.specs.Field.{Fp}
use Rattle.talk.specs.declared.messages.Ring.{Ring}
use Rattle.talk.specs.declared.messages.Ring.TheVariants.{Nothing}
use Rattle.talk.specs.declared.messages.Heard.{Heard}
use Rattle.talk.specs.Shape.{Shape, seats, rounds, deals, receives}
use Rattle.talk.specs.Hears.{OneEach, WordFits}
use Rattle.plays.specs.Stage.{Stage, AtReady, AtDealt, AtCrossed, AtComplained, AtRevealed, AtDone, IsTurn, stage_after, stage_ring, receiver_at}
use Rattle.members.specs.Member.{Member, rings_said, member_word, member_after_hear}

-- after hearing a round before the fifth, a seat speaks the next one
pub speaks_next : (s : Shape) (me : ℕ) (own : List (List (List Fp))) (h : Heard) (stage : Stage) (round : ℕ) → IsTurn round stage → round < 5 → IsTurn (round + 1) (stage_after s me own h stage)
speaks_next s me own h AtReady round e lt = omega (arith, e)
speaks_next s me own h (AtDealt ps) round e lt = omega (arith, e)
speaks_next s me own h (AtCrossed ps cs) round e lt = omega (arith, e)
speaks_next s me own h (AtComplained ps third) round e lt = omega (arith, e)
speaks_next s me own h (AtRevealed ps fourth votes) round e lt = absurd (omega (arith, e, lt))
speaks_next s me own h (AtDone ps acc) round e lt = absurd e

no_third : (a b : Bool) (r : Ring) (c : Bool) → c ≡ true → cond (a && (b && not c)) r Nothing ≡ Nothing
no_third true true r true e = refl
no_third true true r false e = cc
no_third true false r c e = refl
no_third false b r c e = refl

-- a seat sends nothing to itself
pub none_to_itself : (s : Shape) (seat : ℕ) (own : List (List (List Fp))) (stage : Stage) → stage_ring s seat own stage seat ≡ Nothing
none_to_itself s seat own AtReady = no_third (deals s seat) (receives s seat) _ (eqb seat seat) (eq-eqb seat seat refl)
none_to_itself s seat own (AtDealt ps) = no_third (receives s seat) (receives s seat) _ (eqb seat seat) (eq-eqb seat seat refl)
none_to_itself s seat own (AtCrossed ps cs) = refl
none_to_itself s seat own (AtComplained ps third) = refl
none_to_itself s seat own (AtRevealed ps fourth votes) = refl
none_to_itself s seat own (AtDone ps acc) = refl

pub one_each : (s : Shape) (seat : ℕ) (own : List (List (List Fp))) (stage : Stage) → 1 ≤ seat → seat ≤ seats s → OneEach s seat (rings_said s seat own stage)
one_each s seat own stage from to = record {
  all = length-map-range_with_len (stage_ring s seat own stage) 1 (seats s);
  own = get_or-map-range_with_len (stage_ring s seat own stage) 1 (seats s) (seat - 1) seat Nothing (omega (arith, from, to)) (omega (arith, from)) ∙ none_to_itself s seat own stage;
}

-- a member's word has a message for each seat
pub word_fits : (m : Member) (round : ℕ) → 1 ≤ m.seat → m.seat ≤ seats m.shape → WordFits m.shape m.seat (member_word m round)
word_fits m round from to = one_each m.shape m.seat m.grids m.stage from to

five_rounds : (s : Shape) → s.checks ≡ 0 → rounds s ≡ 5
five_rounds s e = ap (λ (n : ℕ). cond (eqb n 0) 5 6) e

-- in a setting of five rounds, a member that hears a round which isn't the last speaks the next
pub says_after : (m : Member) (round : ℕ) (h : Heard) (s : Shape) → s.checks ≡ 0 → IsTurn round m.stage → round < rounds s → IsTurn (round + 1) (member_after_hear m round h).stage
says_after m round h s e speaks less =
    speaks_next m.shape (receiver_at m.shape m.seat) m.grids h m.stage round speaks (omega (arith, less, five_rounds s e))
