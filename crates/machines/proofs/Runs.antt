-- A run round by round: the mind at a place, its word, and what the masks say of its seat.
use Rattle.std.proofs.Common.{◌≡◌, ℕ, zero, suc, ◌+◌, ◌-◌, ◌<◌, ◌≤◌, Bool, true, false, List, [], ◌∷◌, length, take, get_or, refl, ap, ap₂, ◌∙◌, subst, arith}
use Rattle.std.proofs.lemmas.Nat.Bits.{bit_at_ones, bit_at-zero}
use Rattle.std.specs.Prelude.{eqb}
use Rattle.talk.specs.declared.messages.Say.{Say}
use Rattle.talk.specs.declared.messages.Say.TheVariants.{Speak, Pass, PassThenSpeak}
use Rattle.talk.specs.Shape.{Shape, seats}
use Rattle.talk.specs.Sync.{Ways, words_of, after_words, after_hears, after_round, sync, has, speaks, said_when, MaySay, Allowed, AllAllowed, all_seats, heard_at, nobody}
use Rattle.talk.specs.Basics.{Nth}
use Rattle.machines.specs.Machines.{NobodyCut}
use Rattle.talk.proofs.Sync.{length-after_hears, length-after_words}

-- ---- one round
module _ {M : Type 0} where
  pub sync_take : (w : Ways M) (s : Shape) (round k : ℕ) (masks : List ℕ) (ms : List M) → k < length masks →
      sync w s round (take (suc k) masks) ms ≡ after_round w s (round + k) (get_or masks k 0) (sync w s round (take k masks) ms)
  sync_take w s round k [] ms lt = absurd (omega (arith, lt))
  sync_take w s round zero (x ∷ xs) ms lt = let e : round ≡ round + 0 = omega arith in ap (λ (r : ℕ). after_round w s r x ms) e
  sync_take w s round (suc k) (x ∷ xs) ms lt =
      let e : (round + 1) + k ≡ round + suc k = omega arith in
      sync_take w s (round + 1) k xs (after_round w s round x ms) (omega (arith, lt))
      ∙ ap (λ (r : ℕ). after_round w s r (get_or xs k 0) (sync w s (round + 1) (take k xs) (after_round w s round x ms))) e

  pub length-sync : (w : Ways M) (s : Shape) (round : ℕ) (masks : List ℕ) (ms : List M) → length (sync w s round masks ms) ≡ length ms
  length-sync w s round [] ms = refl
  length-sync w s round (x ∷ xs) ms =
      length-sync w s (round + 1) xs (after_round w s round x ms)
      ∙ length-after_hears w s round x (words_of w round ms) 1 (after_words w round ms)
      ∙ length-after_words w round ms

  pub word_nth : (w : Ways M) (round k : ℕ) (m : M) (ms : List M) → Nth k m ms → get_or (words_of w round ms) k Pass ≡ w.word m round
  word_nth w round k m [] h = absurd h
  word_nth w round zero m (x ∷ xs) h = ap (λ (y : M). w.word y round) h
  word_nth w round (suc k) m (x ∷ xs) h = word_nth w round k m xs h

  pub hears_nth : (w : Ways M) (s : Shape) (round mask : ℕ) (ws : List Say) (seat k : ℕ) (m : M) (ms : List M) → Nth k m ms →
      Nth k (w.after_hear (w.after_say m round) round (heard_at s round mask ws (seat + k))) (after_hears w s round mask ws seat (after_words w round ms))
  hears_nth w s round mask ws seat k m [] h = absurd h
  hears_nth w s round mask ws seat zero m (x ∷ xs) h =
      let e : seat ≡ seat + 0 = omega arith in ap₂ (λ (y : M) (n : ℕ). w.after_hear (w.after_say y round) round (heard_at s round mask ws n)) h e
  hears_nth w s round mask ws seat (suc k) m (x ∷ xs) h =
      let e : (seat + 1) + k ≡ seat + suc k = omega arith in
      subst (λ (n : ℕ). Nth k (w.after_hear (w.after_say m round) round (heard_at s round mask ws n)) (after_hears w s round mask ws (seat + 1) (after_words w round xs))) e (hears_nth w s round mask ws (seat + 1) k m xs h)

-- ---- the masks that words allow
-- the mask before round k + 1
abbrev pub mask_before : ℕ → List ℕ → ℕ → ℕ
mask_before before masks zero = before
mask_before before masks (suc k) = get_or masks k 0

before_next : (before mask : ℕ) (masks : List ℕ) (k : ℕ) → mask_before mask masks k ≡ mask_before before (mask ∷ masks) (suc k)
before_next before mask masks zero = refl
before_next before mask masks (suc k) = refl

-- every seat is in the mask before the first
pub all_have : (s : Shape) (seat : ℕ) → 1 ≤ seat → seat ≤ seats s → has (all_seats s) seat ≡ true
all_have s seat from to = ap (λ (b : ℕ). eqb b 1) (bit_at_ones (seats s) (seat - 1) (omega (arith, from, to)))

-- who speaks in time and isn't cut stays in the mask
pub speaker_stays : (before now cut : Bool) (word : Say) → speaks word ≡ true → cut ≡ false → MaySay before now (said_when cut word) → now ≡ before
speaker_stays before now false (Speak p rs) e uncut h = h
speaker_stays before now false Pass e uncut h = cc
speaker_stays before now false (PassThenSpeak p rs) e uncut h = cc
speaker_stays before now true word e uncut h = cc

module _ {M : Type 0} (w : Ways M) where
  allowed_nth : (before mask cut seat round k : ℕ) (m : M) (ms : List M) → Nth k m ms → Allowed before mask cut seat (words_of w round ms) →
      MaySay (has before (seat + k)) (has mask (seat + k)) (said_when (has cut (seat + k)) (w.word m round))
  allowed_nth before mask cut seat round k m [] h a = absurd h
  allowed_nth before mask cut seat round zero m (x ∷ xs) h a =
      let e : seat ≡ seat + 0 = omega arith in
      subst (λ (n : ℕ). MaySay (has before n) (has mask n) (said_when (has cut n) (w.word m round))) e
      (subst (λ (y : M). MaySay (has before seat) (has mask seat) (said_when (has cut seat) (w.word y round))) h a.0)
  allowed_nth before mask cut seat round (suc k) m (x ∷ xs) h a =
      let e : (seat + 1) + k ≡ seat + suc k = omega arith in
      subst (λ (n : ℕ). MaySay (has before n) (has mask n) (said_when (has cut n) (w.word m round))) e (allowed_nth before mask cut (seat + 1) round k m xs h a.1)

  allowed_at : (s : Shape) (cut : ℕ → ℕ) (round before k : ℕ) (masks : List ℕ) (ms : List M) → AllAllowed w s round before cut masks ms → k < length masks →
      Allowed (mask_before before masks k) (get_or masks k 0) (cut (round + k)) 1 (words_of w (round + k) (sync w s round (take k masks) ms))
  allowed_at s cut round before k [] ms a lt = absurd (omega (arith, lt))
  allowed_at s cut round before zero (x ∷ xs) ms a lt =
      let e : round ≡ round + 0 = omega arith in subst (λ (r : ℕ). Allowed before x (cut r) 1 (words_of w r ms)) e a.1
  allowed_at s cut round before (suc k) (x ∷ xs) ms a lt =
      let e : (round + 1) + k ≡ round + suc k = omega arith in
      subst (λ (r : ℕ). Allowed (mask_before before (x ∷ xs) (suc k)) (get_or xs k 0) (cut r) 1 (words_of w r (sync w s (round + 1) (take k xs) (after_round w s round x ms)))) e
      (subst (λ (b : ℕ). Allowed b (get_or xs k 0) (cut ((round + 1) + k)) 1 (words_of w ((round + 1) + k) (sync w s (round + 1) (take k xs) (after_round w s round x ms)))) (before_next before x xs k)
      (allowed_at s cut (round + 1) x k xs (after_round w s round x ms) a.2 (omega (arith, lt))))

  -- what the mask of round k + 1 may say of a seat, by the word of the mind there
  pub may_say_at : (s : Shape) (cut : ℕ → ℕ) (before k seat : ℕ) (masks : List ℕ) (ms : List M) (m : M) → AllAllowed w s 1 before cut masks ms → k < length masks → 1 ≤ seat →
      Nth (seat - 1) m (sync w s 1 (take k masks) ms) → MaySay (has (mask_before before masks k) seat) (has (get_or masks k 0) seat) (said_when (has (cut (suc k)) seat) (w.word m (suc k)))
  may_say_at s cut before k seat masks ms m a lt from there =
      let mask : ℕ = get_or masks k 0 in
      let prior : ℕ = mask_before before masks k in
      let now : List M = sync w s 1 (take k masks) ms in
      let r : 1 + k ≡ suc k = omega arith in
      let f : 1 + (seat - 1) ≡ seat = omega (arith, from) in
      subst (λ (n : ℕ). MaySay (has prior n) (has mask n) (said_when (has (cut (suc k)) n) (w.word m (suc k)))) f
      (allowed_nth prior mask (cut (suc k)) 1 (suc k) (seat - 1) m now there
      (subst (λ (n : ℕ). Allowed prior mask (cut n) 1 (words_of w n now)) r (allowed_at s cut 1 before k masks ms a lt)))

-- with nobody cut no seat is
pub nobody_cut : (s : Shape) (rounds : ℕ) (down : ℕ → Bool) → NobodyCut s rounds nobody down
nobody_cut s rounds down round seat lt honest = ap (λ (b : ℕ). eqb b 1) (bit_at-zero (seat - 1))
