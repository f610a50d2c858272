-- A run, one round more at a time.
use Rattle.std.proofs.Common.{◌≡◌, ℕ, suc, ◌+◌, ◌<◌, List, [], ◌∷◌, ◌++◌, length, sym, ap, ap₂, ◌∙◌, subst, arith}
use Rattle.std.proofs.lemmas.List.{length-map}
use Rattle.talk.specs.declared.messages.Say.{Say}
use Rattle.talk.specs.declared.messages.Heard.{Heard}
use Rattle.talk.specs.Shape.{Shape, rounds}
use Rattle.talk.specs.Hears.{Hearing, Seated, StaysMade}
use Rattle.talk.specs.Sync.{Ways, words_of, after_words, after_hears, after_round, sync, heard_at}

module _ {M : Type 0} where
  pub sync-append : (w : Ways M) (s : Shape) (round : ℕ) (masks : List ℕ) (mask : ℕ) (ms : List M) →
      sync w s round (masks ++ mask ∷ []) ms ≡ after_round w s (round + length masks) mask (sync w s round masks ms)
  sync-append w s round [] mask ms = let e : round ≡ round + 0 = omega arith in ap (λ r. after_round w s r mask ms) e
  sync-append w s round (x ∷ xs) mask ms =
      let e : (round + 1) + length xs ≡ round + suc (length xs) = omega arith in
      let got = sync-append w s (round + 1) xs mask (after_round w s round x ms) in
      got ∙ ap (λ r. after_round w s r mask (sync w s (round + 1) xs (after_round w s round x ms))) e

  -- one word for each mind
  pub words_count : (w : Ways M) (round n : ℕ) (ms : List M) (words wt : List Say) → words ≡ words_of w round ms → wt ≡ words → length ms ≡ n → length wt ≡ n
  words_count w round n ms words wt ew et e = ap length (et ∙ ew) ∙ length-map ms (λ m. w.word m round) ∙ e

  pub hearing_words : (w : Ways M) (may_say may_hear : M → ℕ → Type 0) → ((m : M) (r : ℕ) → may_say m r → may_hear (w.after_say m r) r) →
      (round : ℕ) (ms : List M) → Hearing may_say round ms → Hearing may_hear round (after_words w round ms)
  hearing_words w may_say may_hear law round [] h = tt
  hearing_words w may_say may_hear law round (m ∷ ms) h = (law m round h.0, hearing_words w may_say may_hear law round ms h.1)

  pub seated_words : (w : Ways M) (may_say : M → ℕ → Type 0) (made : M → Shape → ℕ → Type 0) → ((m : M) (r : ℕ) → may_say m r → StaysMade (made m) (made (w.after_say m r))) →
      (s : Shape) (round seat : ℕ) (ms : List M) → Hearing may_say round ms → Seated made s seat ms → Seated made s seat (after_words w round ms)
  seated_words w may_say made law s round seat [] h t = tt
  seated_words w may_say made law s round seat (m ∷ ms) h t = ((law m round h.0 s seat).0 t.0, seated_words w may_say made law s round (seat + 1) ms h.1 t.1)

  pub hearing_hears : (w : Ways M) (may_say may_hear : M → ℕ → Type 0) (made : M → Shape → ℕ → Type 0) →
      ((m : M) (r : ℕ) (h : Heard) (s : Shape) (seat : ℕ) → may_hear m r → made m s seat → r < rounds s → may_say (w.after_hear m r h) (r + 1)) →
      (s : Shape) (round mask : ℕ) (words : List Say) (seat : ℕ) (ms : List M) → round < rounds s → Hearing may_hear round ms → Seated made s seat ms →
      Hearing may_say (round + 1) (after_hears w s round mask words seat ms)
  hearing_hears w may_say may_hear made law s round mask words seat [] lt h t = tt
  hearing_hears w may_say may_hear made law s round mask words seat (m ∷ ms) lt h t =
      (law m round (heard_at s round mask words seat) s seat h.0 t.0 lt, hearing_hears w may_say may_hear made law s round mask words (seat + 1) ms lt h.1 t.1)

  pub seated_hears : (w : Ways M) (may_hear : M → ℕ → Type 0) (made : M → Shape → ℕ → Type 0) → ((m : M) (r : ℕ) (h : Heard) → may_hear m r → StaysMade (made m) (made (w.after_hear m r h))) →
      (s : Shape) (round mask : ℕ) (words : List Say) (seat : ℕ) (ms : List M) → Hearing may_hear round ms → Seated made s seat ms → Seated made s seat (after_hears w s round mask words seat ms)
  seated_hears w may_hear made law s round mask words seat [] h t = tt
  seated_hears w may_hear made law s round mask words seat (m ∷ ms) h t =
      ((law m round (heard_at s round mask words seat) h.0 s seat).0 t.0, seated_hears w may_hear made law s round mask words (seat + 1) ms h.1 t.1)

module _ {M : Type 0} where
  pub round_is : (w : Ways M) (s : Shape) (round mask : ℕ) (ms ms1 ms2 : List M) (words wt : List Say) → ms1 ≡ after_words w round ms → words ≡ words_of w round ms → wt ≡ words →
      ms2 ≡ after_hears w s round mask wt 1 ms1 → ms2 ≡ after_round w s round mask ms
  round_is w s round mask ms ms1 ms2 words wt e1 ew et e2 = e2 ∙ ap₂ (λ (a : List Say) (b : List M). after_hears w s round mask a 1 b) (et ∙ ew) e1

  pub now_is : (w : Ways M) (s : Shape) (round mask : ℕ) (masks masks2 : List ℕ) (ms0 ms ms2 : List M) → ms2 ≡ after_round w s round mask ms → ms ≡ sync w s 1 masks ms0 → length masks + 1 ≡ round →
      masks2 ≡ masks ++ mask ∷ [] → ms2 ≡ sync w s 1 masks2 ms0
  now_is w s round mask masks masks2 ms0 ms ms2 e2 e n em =
      let k : round ≡ 1 + length masks = omega (arith, n) in
      e2 ∙ ap₂ (λ (r : ℕ) (b : List M). after_round w s r mask b) k e ∙ sym (sync-append w s 1 masks mask ms0) ∙ ap (λ (a : List ℕ). sync w s 1 a ms0) (sym em)

  pub may_heard : (w : Ways M) (may_say may_hear : M → ℕ → Type 0) → ((m : M) (r : ℕ) → may_say m r → may_hear (w.after_say m r) r) →
      (round : ℕ) (ms ms1 : List M) → ms1 ≡ after_words w round ms → Hearing may_say round ms → Hearing may_hear round ms1
  may_heard w may_say may_hear law round ms ms1 e h = subst (Hearing may_hear round) (sym e) (hearing_words w may_say may_hear law round ms h)

  pub made_heard : (w : Ways M) (may_say : M → ℕ → Type 0) (made : M → Shape → ℕ → Type 0) → ((m : M) (r : ℕ) → may_say m r → StaysMade (made m) (made (w.after_say m r))) →
      (s : Shape) (round : ℕ) (ms ms1 : List M) → ms1 ≡ after_words w round ms → Hearing may_say round ms → Seated made s 1 ms → Seated made s 1 ms1
  made_heard w may_say made law s round ms ms1 e h t = subst (Seated made s 1) (sym e) (seated_words w may_say made law s round 1 ms h t)

  pub may_next : (w : Ways M) (may_say may_hear : M → ℕ → Type 0) (made : M → Shape → ℕ → Type 0) →
      ((m : M) (r : ℕ) (h : Heard) (s : Shape) (seat : ℕ) → may_hear m r → made m s seat → r < rounds s → may_say (w.after_hear m r h) (r + 1)) →
      (s : Shape) (round mask : ℕ) (wt : List Say) (ms1 ms2 : List M) → ms2 ≡ after_hears w s round mask wt 1 ms1 → round < rounds s → Hearing may_hear round ms1 → Seated made s 1 ms1 → Hearing may_say (round + 1) ms2
  may_next w may_say may_hear made law s round mask wt ms1 ms2 e lt h t = subst (Hearing may_say (round + 1)) (sym e) (hearing_hears w may_say may_hear made law s round mask wt 1 ms1 lt h t)

  pub made_next : (w : Ways M) (may_hear : M → ℕ → Type 0) (made : M → Shape → ℕ → Type 0) → ((m : M) (r : ℕ) (h : Heard) → may_hear m r → StaysMade (made m) (made (w.after_hear m r h))) →
      (s : Shape) (round mask : ℕ) (wt : List Say) (ms1 ms2 : List M) → ms2 ≡ after_hears w s round mask wt 1 ms1 → Hearing may_hear round ms1 → Seated made s 1 ms1 → Seated made s 1 ms2
  made_next w may_hear made law s round mask wt ms1 ms2 e h t = subst (Seated made s 1) (sym e) (seated_hears w may_hear made law s round mask wt 1 ms1 h t)
