-- With more seats cut more masks are allowed.
use Rattle.std.proofs.Common.{◌≡◌, ℕ, ◌+◌, ◌-◌, ◌≤◌, Bool, true, false, List, [], ◌∷◌, refl, sym, ◌∙◌, arith}
use Rattle.std.specs.Int.{bit_at}
use Rattle.std.proofs.lemmas.Bool.{eqb-true, eq-eqb}
use Rattle.std.proofs.lemmas.Nat.Bits.{bit_at-lt}
use Rattle.talk.specs.declared.messages.Say.{Say}
use Rattle.talk.specs.declared.messages.Say.TheVariants.{Speak, Pass, PassThenSpeak}
use Rattle.talk.specs.Shape.{Shape}
use Rattle.talk.specs.Sync.{Ways, has, words_of, after_round, MaySay, said_when, Allowed, AllAllowed}
use Rattle.roundboard.specs.Rule.{IsPart}

more_word : (a b before now : Bool) (w : Say) → (a ≡ true → b ≡ true) → MaySay before now (said_when a w) → MaySay before now (said_when b w)
more_word true true before now w f h = h
more_word false false before now w f h = h
more_word true false before now w f h = absurd (let e = f refl in cc (e))
more_word false true before now (Speak p rs) f h = λ e. sym h ∙ e
more_word false true before now Pass f h = h
more_word false true before now (PassThenSpeak p rs) f h = h

more_has : (c d k : ℕ) → IsPart c d → has c k ≡ true → has d k ≡ true
more_has c d k part e = eq-eqb (bit_at d (k - 1)) 1 (let one = eqb-true (bit_at c (k - 1)) 1 e in let p = part (k - 1) in let l = bit_at-lt d (k - 1) in omega (arith, one, p, l))

more_allowed : (before mask c d seat : ℕ) (ws : List Say) → IsPart c d → Allowed before mask c seat ws → Allowed before mask d seat ws
more_allowed before mask c d seat [] part h = tt
more_allowed before mask c d seat (w ∷ ws) part h =
    (more_word (has c seat) (has d seat) (has before seat) (has mask seat) w (more_has c d seat part) h.0, more_allowed before mask c d (seat + 1) ws part h.1)

module _ {M : Type 0} (w : Ways M) (s : Shape) (cut more : ℕ → ℕ) (part : (r : ℕ) → 1 ≤ r → IsPart (cut r) (more r)) where
  pub all_more : (round before : ℕ) → 1 ≤ round → (masks : List ℕ) (ms : List M) → AllAllowed w s round before cut masks ms → AllAllowed w s round before more masks ms
  all_more round before lo [] ms h = tt
  all_more round before lo (m ∷ masks) ms h =
      (h.0, more_allowed before m (cut round) (more round) 1 (words_of w round ms) (part round lo) h.1, all_more (round + 1) m (omega (arith, lo)) masks (after_round w s round m ms) h.2)
