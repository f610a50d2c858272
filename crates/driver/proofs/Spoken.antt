-- The masks of a run in which nobody is heard who speaks late, one round more at a time.
use Rattle.std.proofs.Common.{◌≡◌, ℕ, suc, ◌+◌, ◌<◌, Bool, true, false, ◌&&◌, List, [], ◌∷◌, ◌++◌, length, get_or, refl, sym, ap₂, ◌∙◌, subst, arith}
use Rattle.talk.specs.declared.messages.Say.{Say}
use Rattle.talk.specs.declared.messages.Say.TheVariants.{Speak, Pass, PassThenSpeak}
use Rattle.talk.specs.Shape.{Shape}
use Rattle.talk.specs.Sync.{Ways, words_of, after_round, sync, IsMask, has, speaks, MaySay, said_when, Allowed, AllAllowed, last_mask}
use Rattle.driver.specs.Spoken.{Spoken, AllSpoken}

module _ {M : Type 0} where
  pub spoken-append : (w : Ways M) (s : Shape) (round before : ℕ) (masks : List ℕ) (mask : ℕ) (ms : List M) → AllSpoken w s round before masks ms → IsMask s mask →
      Spoken (last_mask before masks) mask 1 (words_of w (round + length masks) (sync w s round masks ms)) → AllSpoken w s round before (masks ++ mask ∷ []) ms
  spoken-append w s round before [] mask ms a small h =
      let e : round + 0 ≡ round = omega arith in (small, subst (λ r. Spoken before mask 1 (words_of w r ms)) e h, tt)
  spoken-append w s round before (x ∷ xs) mask ms a small h =
      let e : round + suc (length xs) ≡ (round + 1) + length xs = omega arith in
      (a.0, a.1, spoken-append w s (round + 1) x xs mask (after_round w s round x ms) a.2 small (subst (λ r. Spoken (last_mask x xs) mask 1 (words_of w r (sync w s (round + 1) xs (after_round w s round x ms)))) e h))

module _ {M : Type 0} where
  pub spoken_is : (w : Ways M) (s : Shape) (round mask b0 before : ℕ) (masks masks2 : List ℕ) (ms0 ms : List M) (words wt : List Say) → AllSpoken w s 1 b0 masks ms0 → ms ≡ sync w s 1 masks ms0 →
      length masks + 1 ≡ round → masks2 ≡ masks ++ mask ∷ [] → before ≡ last_mask b0 masks → words ≡ words_of w round ms → wt ≡ words → IsMask s mask → Spoken before mask 1 wt → AllSpoken w s 1 b0 masks2 ms0
  spoken_is w s round mask b0 before masks masks2 ms0 ms words wt a e n em eb ew et small sp =
      let k : round ≡ 1 + length masks = omega (arith, n) in
      let ws : wt ≡ words_of w (1 + length masks) (sync w s 1 masks ms0) = et ∙ ew ∙ ap₂ (λ (r : ℕ) (b : List M). words_of w r b) k e in
      subst (λ (m : List ℕ). AllSpoken w s 1 b0 m ms0) (sym em)
      (spoken-append w s 1 b0 masks mask ms0 a small (subst (λ (v : List Say). Spoken (last_mask b0 masks) mask 1 v) ws (subst (λ (b : ℕ). Spoken b mask 1 wt) eb sp)))

pub last-append : (before : ℕ) (masks : List ℕ) (mask : ℕ) → last_mask before (masks ++ mask ∷ []) ≡ mask
last-append before [] mask = refl
last-append before (x ∷ xs) mask = last-append x xs mask

-- bit by bit, from the seat `seat` on
pub spoken_from : (before mask seat : ℕ) (ws : List Say) →
    ((k : ℕ) → k < length ws → has mask (seat + k) ≡ (has before (seat + k) && speaks (get_or ws k Pass))) → Spoken before mask seat ws
spoken_from before mask seat [] h = tt
spoken_from before mask seat (w ∷ ws) h =
    let e : seat + 0 ≡ seat = omega arith in (
      subst (λ n. has mask n ≡ (has before n && speaks w)) e (h 0 (omega arith)),
      spoken_from before mask (seat + 1) ws
          (λ k lt.
          let next : seat + suc k ≡ (seat + 1) + k = omega arith in
          subst (λ n. has mask n ≡ (has before n && speaks (get_or ws k Pass))) next (h (suc k) (omega (arith, lt)))),
    )

-- a mask in which nobody is who speaks late is allowed, whoever was cut
may_from : (cut before now : Bool) (w : Say) → now ≡ (before && speaks w) → MaySay before now (said_when cut w)
may_from true true now (Speak p rs) e = λ _. refl
may_from true false now (Speak p rs) e = λ f. absurd (cc (e, f))
may_from false true now (Speak p rs) e = e
may_from false false now (Speak p rs) e = e
may_from true true now Pass e = e
may_from true false now Pass e = e
may_from false true now Pass e = e
may_from false false now Pass e = e
may_from true true now (PassThenSpeak p rs) e = λ _. refl
may_from true false now (PassThenSpeak p rs) e = λ f. absurd (cc (e, f))
may_from false true now (PassThenSpeak p rs) e = λ _. refl
may_from false false now (PassThenSpeak p rs) e = λ f. absurd (cc (e, f))

allowed_from : (before mask cut seat : ℕ) (ws : List Say) → Spoken before mask seat ws → Allowed before mask cut seat ws
allowed_from before mask cut seat [] h = tt
allowed_from before mask cut seat (w ∷ ws) h = (may_from (has cut seat) (has before seat) (has mask seat) w h.0, allowed_from before mask cut (seat + 1) ws h.1)

module _ {M : Type 0} where
  pub all_allowed : (w : Ways M) (s : Shape) (round before : ℕ) (cut : ℕ → ℕ) (masks : List ℕ) (ms : List M) → AllSpoken w s round before masks ms → AllAllowed w s round before cut masks ms
  all_allowed w s round before cut [] ms h = tt
  all_allowed w s round before cut (mask ∷ masks) ms h =
      (h.0, allowed_from before mask (cut round) 1 (words_of w round ms) h.1, all_allowed w s (round + 1) mask cut masks (after_round w s round mask ms) h.2)
