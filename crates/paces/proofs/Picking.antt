-- A mask is picked place by place.
use Rattle.std.proofs.Common.{◌≡◌, ◌≢◌, inl, inr, refl, Bool, true, false, ℕ, ◌+◌, ◌^◌, ◌<◌, ◌≤◌, sym, ◌∙◌, subst, bit_or, arith}
use Rattle.std.specs.Prelude.{◌↔◌, IsTrue, IsFalse}
use Rattle.std.specs.Int.{bit_at}
use Rattle.std.proofs.lemmas.Bool.{cases_eq, cases_lt}
use Rattle.std.proofs.lemmas.Nat.Bits.{bit_at-lt, bit_at-zero, bit_at-pow_same, bit_at-pow_other, bit_at_or}
use Rattle.roundboard.specs.Rule.{IsPart}
use Rattle.paces.specs.Picks.{Picked}

module _ (P : ℕ → Type 0) where
  pub picked_none : Picked 0 P 0
  picked_none = record {
    low = λ k is. absurd (let z = bit_at-zero k in omega (arith, z, is));
    holds = λ k is. absurd (let z = bit_at-zero k in omega (arith, z, is));
    all = λ k lt h. absurd (omega (arith, lt));
  }

  -- the next place, of which P holds
  picked_more : (n mask : ℕ) → Picked n P mask → P n → Picked (n + 1) P (bit_or mask (2 ^ n))
  picked_more n mask p here =
      let other : (k : ℕ) → k ≢ n → bit_at (bit_or mask (2 ^ n)) k ≡ bit_at mask k = λ k ne. (let z = bit_at-pow_other n k ne in let t = bit_at_or mask (2 ^ n) k in let l = bit_at-lt mask k in omega (arith, z, t, l)) in
      record {
        low = λ k is. elim (cases_eq k n) [
          | inl e ↦ omega (arith, e)
          | inr ne ↦ let same = other k ne in let lt = p.low k (sym same ∙ is) in omega (arith, lt)
        ];
        holds = λ k is. elim (cases_eq k n) [
          | inl e ↦ subst (λ (j : ℕ). P j) (sym e) here
          | inr ne ↦ p.holds k (sym (other k ne) ∙ is)
        ];
        all = λ k lt h. elim (cases_eq k n) [
          | inl e ↦ subst (λ (j : ℕ). bit_at (bit_or mask (2 ^ n)) j ≡ 1) (sym e) (let one = bit_at-pow_same n in let t = bit_at_or mask (2 ^ n) n in let l = bit_at-lt mask n in omega (arith, one, t, l))
          | inr ne ↦ other k ne ∙ p.all k (omega (arith, lt, ne)) h
        ];
      }

  -- the next place, of which it does not
  picked_skip : (n mask : ℕ) → Picked n P mask → (P n → ⊥) → Picked (n + 1) P mask
  picked_skip n mask p none = record {
    low = λ k is. (let lt = p.low k is in omega (arith, lt));
    holds = p.holds;
    all = λ k lt h. elim (cases_eq k n) [
      | inl e ↦ absurd (none (subst (λ (j : ℕ). P j) e h))
      | inr ne ↦ p.all k (omega (arith, lt, ne)) h
    ];
  }

  -- the next place, which was chosen exactly where P holds of it
  pub picked_next : (n mask new : ℕ) (chosen : Bool) → (IsTrue chosen ↔ P n) → (IsTrue chosen → new ≡ bit_or mask (2 ^ n)) → (IsFalse chosen → new ≡ mask) → Picked n P mask → Picked (n + 1) P new
  picked_next n mask new true chosen_iff with_it without_it p = subst (λ (x : ℕ). Picked (n + 1) P x) (sym (with_it refl)) (picked_more n mask p (chosen_iff.0 refl))
  picked_next n mask new false chosen_iff with_it without_it p = subst (λ (x : ℕ). Picked (n + 1) P x) (sym (without_it refl)) (picked_skip n mask p (λ h. absurd (let e = chosen_iff.1 h in cc (e))))

  -- a mask of places that another has is a part of it
  pub picked_part : (n mask whole : ℕ) → Picked n P mask → ((k : ℕ) → P k → bit_at whole k ≡ 1) → IsPart mask whole
  picked_part n mask whole p in_whole k = elim (cases_eq (bit_at mask k) 1) [
    | inl is ↦ let one = in_whole k (p.holds k is) in omega (arith, is, one)
    | inr not_one ↦ let l = bit_at-lt mask k in omega (arith, l, not_one)
  ]
