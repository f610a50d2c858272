-- One step of a conductor.
use Rattle.std.proofs.Common.{◌≡◌, ◌≢◌, ◌⊎◌, inl, inr, ⊎_elim, ℕ, zero, suc, ◌+◌, ◌-◌, ◌^◌, ◌%◌, ◌<◌, ◌≤◌, List, refl, sym, ap, ◌∙◌, subst, bit_or, bit_and, min, Bool, cond, ne_eqb, arith}
use Rattle.std.specs.Int.{bit_at}
use Rattle.std.proofs.lemmas.Bool.{cases_eq, cases_lt}
use Rattle.std.proofs.lemmas.Nat.Bits.{bit_at-lt, bit_at-zero, bit_at-pow_other, bit_at_or, bit_at_and, bit_at_ones, bit_at_ones_above, bit_at_above, same_from_bits}
use Rattle.std.proofs.lemmas.Nat.{and_mask, mod_below, pow_pos}
use Rattle.counters.specs.Counts.{Rose}
use Rattle.roundboard.specs.declared.view.Event.{Event}
use Rattle.roundboard.specs.declared.page.Sheet.{Sheet}
use Rattle.roundboard.specs.Rule.{IsPart}
use Rattle.roundboard.specs.Sheets.{added, sheet_of}
use Rattle.paces.specs.Conducts.{Paced}

-- a number whose bits lie below n
pub below_bits : (m n : ℕ) → ((k : ℕ) → bit_at m k ≡ 1 → k < n) → m < 2 ^ n
below_bits m n h =
    let ones : ℕ = 2 ^ n - 1 in
    let bits : (i : ℕ) → bit_at m i ≡ bit_at (bit_and m ones) i = λ i. elim (cases_lt i n) [
      | inl lt ↦ let e = bit_at_ones n i lt in let a = bit_at_and m ones i in let l = bit_at-lt m i in omega (arith, e, a, l)
      | inr ge ↦
          let zero_bit : bit_at m i ≡ 0 = elim (cases_eq (bit_at m i) 1) [
            | inl one ↦ absurd (let lt = h i one in omega (arith, lt, ge))
            | inr other ↦ let l = bit_at-lt m i in omega (arith, other, l)
          ] in
          let e = bit_at_ones_above n i (omega (arith, ge)) in
          let a = bit_at_and m ones i in
          omega (arith, zero_bit, e, a)
    ] in
    let same : m ≡ m % 2 ^ n = same_from_bits m (bit_and m ones) bits ∙ and_mask m n in
    let low : m % 2 ^ n < 2 ^ n = mod_below m (2 ^ n) (pow_pos n) in
    subst (λ (x : ℕ). x < 2 ^ n) (sym same) low

-- a part of a mask of n seats is one
pub part_low : (m whole n : ℕ) → IsPart m whole → whole < 2 ^ n → m < 2 ^ n
part_low m whole n part low = below_bits m n (λ k bit. elim (cases_lt k n) [
  | inl lt ↦ lt
  | inr ge ↦ absurd (let none = bit_at_above whole n k low (omega (arith, ge)) in let p = part k in omega (arith, none, p, bit))
])

-- of a and b together, and of what each is part of
or_parts : (a b x y : ℕ) → IsPart a x → IsPart b y → IsPart (bit_or a b) (bit_or x y)
or_parts a b x y p q i = let s = bit_at_or a b i in let t = bit_at_or x y i in let u = p i in let v = q i in
    let a1 = bit_at-lt a i in let b1 = bit_at-lt b i in let x1 = bit_at-lt x i in let y1 = bit_at-lt y i in omega arith

or_zero : (a : ℕ) → bit_or a 0 ≡ a
or_zero a = same_from_bits (bit_or a 0) a (λ i. let t = bit_at_or a 0 i in let z = bit_at-zero i in omega arith)

-- a cut of somebody doesn't count as a show
shown_same : (m : ℕ) (s : Sheet) → ¬ (m ≡ 0) → (added m s).shown ≡ s.shown
shown_same m s some = ap (λ (b : Bool). cond b (min (s.shown + 1) (2 ^ 64 - 1)) s.shown) (ne_eqb m 0 some)

module _ (round : ℕ) (lo : 1 ≤ round) (c0 a0 c1 a1 : ℕ → ℕ) (n0 n1 first answer : ℕ) (l0 l1 l2 : List Event)
    (shows : sheet_of l1 (round - 1) ≡ added 0 (sheet_of l0 (round - 1))) (shows_others : (q : ℕ) → ¬ (q ≡ round - 1) → sheet_of l1 q ≡ sheet_of l0 q)
    (cuts : c1 round ≡ bit_or (c0 round) answer) (other_cuts : (q : ℕ) → 1 ≤ q → ¬ (q ≡ round) → c1 q ≡ c0 q)
    (asked : a1 round ≡ min (a0 round + 1) (2 ^ 64 - 1)) (other_asked : (q : ℕ) → 1 ≤ q → ¬ (q ≡ round) → a1 q ≡ a0 q)
    (grows : n0 ≤ n1) where
  row_is : (r : ℕ) → r ≡ round - 1 → r + 1 ≡ round
  row_is r e = omega (arith, e, lo)

  row_not : (r : ℕ) → r ≢ round - 1 → ¬ (r + 1 ≡ round)
  row_not r ne e = ne (omega (arith, e))

  shown_now : (r : ℕ) → r ≡ round - 1 → a0 (r + 1) ≤ (sheet_of l0 r).shown → a1 (r + 1) ≤ (sheet_of l1 r).shown
  shown_now r e h =
      let z = row_is r e in
      let x : a1 (r + 1) ≡ min (a0 (r + 1) + 1) (2 ^ 64 - 1) = ap a1 z ∙ (asked ∙ ap (λ q. min (a0 q + 1) (2 ^ 64 - 1)) (sym z)) in
      let y : (sheet_of l1 r).shown ≡ min ((sheet_of l0 r).shown + 1) (2 ^ 64 - 1) = ap (λ (s : Sheet). s.shown) (ap (λ q. sheet_of l1 q) e ∙ (shows ∙ ap (λ q. added 0 (sheet_of l0 q)) (sym e))) in
      omega (arith, x, y, h)

  cut_now : (r : ℕ) → r ≡ round - 1 → (sheet_of l1 r).cut ≡ (sheet_of l0 r).cut
  cut_now r e = ap (λ (s : Sheet). s.cut) (ap (λ q. sheet_of l1 q) e ∙ (shows ∙ ap (λ q. added 0 (sheet_of l0 q)) (sym e))) ∙ or_zero (sheet_of l0 r).cut

  -- the pace answered nobody
  pub still_step : answer ≡ 0 → n1 ≡ n0 → Paced c0 a0 n0 first l0 → Paced c1 a1 n1 first l1
  still_step none same o = record {
    part = λ r. elim (cases_eq r (round - 1)) [
      | inl e ↦ let z = row_is r e in
          subst (λ (x : ℕ × ℕ). IsPart x.0 x.1) (λ i. (sym (cut_now r e) i, sym (ap c1 z ∙ (cuts ∙ (ap (λ y. bit_or (c0 round) y) none ∙ (or_zero (c0 round) ∙ ap c0 (sym z))))) i)) (o.part r)
      | inr ne ↦ subst (λ (x : ℕ × ℕ). IsPart x.0 x.1) (λ i. (ap (λ (s : Sheet). s.cut) (sym (shows_others r ne)) i, sym (other_cuts (r + 1) (omega arith) (row_not r ne)) i)) (o.part r)
    ];
    shown = λ r. elim (cases_eq r (round - 1)) [
      | inl e ↦ shown_now r e (o.shown r)
      | inr ne ↦ subst (λ (x : ℕ × ℕ). x.0 ≤ x.1) (λ i. (sym (other_asked (r + 1) (omega arith) (row_not r ne)) i, ap (λ (s : Sheet). s.shown) (sym (shows_others r ne)) i)) (o.shown r)
    ];
    grown = let g = o.grown in omega (arith, g, same);
    quiet = ⊎_elim (λ (t : (r : ℕ) → (sheet_of l0 r).cut ≡ 0). inl (λ r. elim (cases_eq r (round - 1)) [
      | inl e ↦ cut_now r e ∙ t r
      | inr ne ↦ ap (λ (s : Sheet). s.cut) (shows_others r ne) ∙ t r
    ])) (λ (t : Rose first n0). inr (subst (λ (x : ℕ). Rose first x) (sym same) t)) o.quiet;
  }

  -- the pace answered seats, which were cut
  pub cut_step : n1 ≡ min (n0 + 1) (2 ^ 64 - 1) → ¬ (answer ≡ 0) → sheet_of l2 (round - 1) ≡ added answer (sheet_of l1 (round - 1)) → ((q : ℕ) → ¬ (q ≡ round - 1) → sheet_of l2 q ≡ sheet_of l1 q)
      → Paced c0 a0 n0 first l0 → Paced c1 a1 n1 first l2
  cut_step rose some here others o =
      let whole : (r : ℕ) → r ≡ round - 1 → sheet_of l2 r ≡ added answer (sheet_of l1 r) = λ r e. ap (λ q. sheet_of l2 q) e ∙ (here ∙ ap (λ q. added answer (sheet_of l1 q)) (sym e)) in
      record {
        part = λ r. elim (cases_eq r (round - 1)) [
          | inl e ↦ let z = row_is r e in
              subst (λ (x : ℕ × ℕ). IsPart x.0 x.1) (λ i. (sym (ap (λ (s : Sheet). s.cut) (whole r e) ∙ ap (λ y. bit_or y answer) (cut_now r e)) i, sym (ap c1 z ∙ (cuts ∙ ap (λ q. bit_or (c0 q) answer) (sym z))) i))
              (or_parts (sheet_of l0 r).cut answer (c0 (r + 1)) answer (o.part r) (λ j. omega arith))
          | inr ne ↦ subst (λ (x : ℕ × ℕ). IsPart x.0 x.1) (λ i. (ap (λ (s : Sheet). s.cut) (sym (others r ne ∙ shows_others r ne)) i, sym (other_cuts (r + 1) (omega arith) (row_not r ne)) i)) (o.part r)
        ];
        shown = λ r. elim (cases_eq r (round - 1)) [
          | inl e ↦ let h = shown_now r e (o.shown r) in
              subst (λ (x : ℕ). a1 (r + 1) ≤ x) (sym (ap (λ (s : Sheet). s.shown) (whole r e) ∙ shown_same answer (sheet_of l1 r) some)) h
          | inr ne ↦ subst (λ (x : ℕ × ℕ). x.0 ≤ x.1) (λ i. (sym (other_asked (r + 1) (omega arith) (row_not r ne)) i, ap (λ (s : Sheet). s.shown) (sym (others r ne ∙ shows_others r ne)) i)) (o.shown r)
        ];
        grown = let g = o.grown in omega (arith, g, grows);
        quiet = inr (let g = o.grown in omega (arith, g, rose));
      }

-- a look leaves the sheets
pub looked_on : (cuts asked : ℕ → ℕ) (n first : ℕ) (l0 l1 : List Event) → ((q : ℕ) → sheet_of l1 q ≡ sheet_of l0 q) → Paced cuts asked n first l0 → Paced cuts asked n first l1
looked_on cuts asked n first l0 l1 same o = record {
  part = λ r. subst (λ (s : Sheet). IsPart s.cut (cuts (r + 1))) (sym (same r)) (o.part r);
  shown = λ r. subst (λ (s : Sheet). asked (r + 1) ≤ s.shown) (sym (same r)) (o.shown r);
  grown = o.grown;
  quiet = ⊎_elim (λ (t : (r : ℕ) → (sheet_of l0 r).cut ≡ 0). inl (λ r. ap (λ (s : Sheet). s.cut) (same r) ∙ t r)) (λ (t : Rose first n). inr t) o.quiet;
}
