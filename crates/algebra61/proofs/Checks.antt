-- The parity checks of values at distinct points: few values that are not zero are seen.
use Rattle.std.proofs.Common.{◌≡◌, ℕ, suc, ◌+◌, ◌<◌, ◌≤◌, List, [], ◌∷◌, length, Bool, true, false, eqb, refl, sym, ap, ap₂, ◌∙◌, subst, arith, inl, inr, ◌⊎◌}
use Rattle.algebra61.specs.Field.{Fp, ◌+ₚ◌, ◌*ₚ◌, zeroₚ, oneₚ, powₚ}
use Rattle.algebra61.specs.Poly.{eval, Outside, Distinct, Point, points}
use Rattle.algebra61.proofs.Ring.{mul_zero, zero_mul, zero_add, add_zero, dif-same, difs, by_dif3, by_dif8}
use Rattle.algebra61.proofs.Inverse.{mul_invₚ, same_or_not, other_zero}
use Rattle.algebra61.proofs.Pow.{pow_zero, pow_next}
use Rattle.algebra61.proofs.Trim.{zero_by_test}
use Rattle.algebra61.proofs.Interpolate.{vanish, vanish_outside, one_apart}
use Rattle.algebra61.proofs.Dual.{weight, others, outside_others, root_among, Among, among_others, unless, length-vanish_exact}

-- ---- the m-th check, and the sum with a polynomial times x^m
abbrev pub check : List Fp → ℕ → List Point → Fp
check all m [] = zeroₚ
check all m (s ∷ ss) = (weight all s.at *ₚ powₚ s.at m) *ₚ s.value +ₚ check all m ss

abbrev pub pairing : List Fp → ℕ → List Fp → List Point → Fp
pairing all m q [] = zeroₚ
pairing all m q (s ∷ ss) = ((weight all s.at *ₚ powₚ s.at m) *ₚ s.value) *ₚ eval q s.at +ₚ pairing all m q ss

pairing_nil : (all : List Fp) (m : ℕ) (ss : List Point) → pairing all m [] ss ≡ zeroₚ
pairing_nil all m [] = refl
pairing_nil all m (s ∷ ss) = rw (pairing_nil all m ss) (simp (mul_zero, add_zero))

pair_ring : (w p v c x u r k : Fp) → ((w *ₚ p) *ₚ v) *ₚ (c +ₚ x *ₚ u) +ₚ (c *ₚ r +ₚ k) ≡ c *ₚ ((w *ₚ p) *ₚ v +ₚ r) +ₚ (((w *ₚ (x *ₚ p)) *ₚ v) *ₚ u +ₚ k)
pair_ring = by_dif8 _ (λ a b c d e f g h. simp difs (dif-same _ _ _ _ (omega arith)))

pairing_cons : (all : List Fp) (m : ℕ) (c : Fp) (q : List Fp) (ss : List Point) → pairing all m (c ∷ q) ss ≡ c *ₚ check all m ss +ₚ pairing all (suc m) q ss
pairing_cons all m c q [] = sym (simp (mul_zero, add_zero))
pairing_cons all m c q (s ∷ ss) =
    ap (λ y. ((weight all s.at *ₚ powₚ s.at m) *ₚ s.value) *ₚ (c +ₚ s.at *ₚ eval q s.at) +ₚ y) (pairing_cons all m c q ss)
    ∙ rw (pow_next s.at m) (pair_ring (weight all s.at) (powₚ s.at m) s.value c s.at (eval q s.at) (check all m ss) (pairing all (suc m) q ss))

-- where the checks are zero, the sum with each short polynomial is
pub pairing_zero : (all : List Fp) (k m : ℕ) (q : List Fp) (ss : List Point) → ((j : ℕ) → j < k → check all j ss ≡ zeroₚ) → m + length q ≤ k → pairing all m q ss ≡ zeroₚ
pairing_zero all k m [] ss z le = pairing_nil all m ss
pairing_zero all k m (c ∷ q) ss z le =
    pairing_cons all m c q ss ∙ rw (z m (omega arith), pairing_zero all k (suc m) q ss z (omega arith)) (simp (mul_zero, add_zero))

-- ---- the points whose value is not zero
abbrev pub live_one : Bool → Fp → List Fp → List Fp
live_one true x xs = xs
live_one false x xs = x ∷ xs

abbrev pub live : List Point → List Fp
live [] = []
live (s ∷ ss) = live_one (eqb s.value.num 0) s.at (live ss)

-- every value is zero, or its point is live
dead_or_live : (s : Point) (xs : List Fp) (b : Bool) → eqb s.value.num 0 ≡ b → (s.value ≡ zeroₚ) ⊎ Among s.at (live_one b s.at xs)
dead_or_live s xs true e = inl (zero_by_test s.value e)
dead_or_live s xs false e = inr (inl refl)

-- with the points of others left out, one term of the sum is left
abbrev pub In : Point → List Point → Type 0
In s [] = ⊥
In s (t ∷ ts) = (s ≡ t) ⊎ In s ts

in_outside : (s : Point) (ss : List Point) (x : Fp) → Outside x (points ss) → In s ss → x ≡ s.at → ⊥
in_outside s [] x o i e = i
in_outside s (t ∷ ts) x o (inl h) e = o.0 (e ∙ ap (λ (z : Point). z.at) h)
in_outside s (t ∷ ts) x o (inr j) e = in_outside s ts x o.1 j e

turn_ring : (w v u : Fp) → u *ₚ (w *ₚ v) ≡ ((w *ₚ oneₚ) *ₚ v) *ₚ u
turn_ring = by_dif3 _ (λ m n k. simp difs (dif-same _ _ _ _ (omega arith)))

le_unless : (x y : Fp) (zs ys : List Fp) (d : (x ≡ y) ⊎ (x ≡ y → ⊥)) → length zs ≤ length ys → length (unless d y zs) ≤ suc (length ys)
le_unless x y zs ys (inl h) le = omega arith
le_unless x y zs ys (inr n) le = omega arith

others_le : (x : Fp) (ys : List Fp) → length (others x ys) ≤ length ys
others_le x [] = omega arith
others_le x (y ∷ ys) = le_unless x y (others x ys) ys (same_or_not x y) (others_le x ys)

less_here : (x y : Fp) (zs ys : List Fp) (d : (x ≡ y) ⊎ (x ≡ y → ⊥)) → x ≡ y → length zs ≤ length ys → suc (length (unless d y zs)) ≤ suc (length ys)
less_here x y zs ys (inl h) e le = omega arith
less_here x y zs ys (inr n) e le = absurd (n e)

less_there : (x y : Fp) (zs ys : List Fp) (d : (x ≡ y) ⊎ (x ≡ y → ⊥)) → suc (length zs) ≤ length ys → suc (length (unless d y zs)) ≤ suc (length ys)
less_there x y zs ys (inl h) le = omega arith
less_there x y zs ys (inr n) le = omega arith

others_less : (x : Fp) (ys : List Fp) → Among x ys → suc (length (others x ys)) ≤ length ys
others_less x [] a = absurd a
others_less x (y ∷ ys) (inl e) = less_here x y (others x ys) ys (same_or_not x y) e (others_le x ys)
others_less x (y ∷ ys) (inr a) = less_there x y (others x ys) ys (same_or_not x y) (others_less x ys a)

here_live : (s t : Point) (xs : List Fp) → s ≡ t → (t.value ≡ zeroₚ) ⊎ Among t.at (live_one (eqb t.value.num 0) t.at xs) → (s.value ≡ zeroₚ) ⊎ Among s.at (live_one (eqb t.value.num 0) t.at xs)
here_live s t xs e h = subst (λ (z : Point). (z.value ≡ zeroₚ) ⊎ Among z.at (live_one (eqb t.value.num 0) t.at xs)) (sym e) h

there_live : (s t : Point) (xs : List Fp) (b : Bool) → (s.value ≡ zeroₚ) ⊎ Among s.at xs → (s.value ≡ zeroₚ) ⊎ Among s.at (live_one b t.at xs)
there_live s t xs b (inl z) = inl z
there_live s t xs true (inr a) = inr a
there_live s t xs false (inr a) = inr (inr a)

vanish_live : (x : Fp) (s : Point) (ss : List Point) → (s.at ≡ x → ⊥) → (s.value ≡ zeroₚ) ⊎ Among s.at (live ss) → (s.value ≡ zeroₚ) ⊎ (eval (vanish (others x (live ss))) s.at ≡ zeroₚ)
vanish_live x s ss n (inl z) = inl z
vanish_live x s ss n (inr a) = inr (root_among s.at (others x (live ss)) (among_others x s.at (live ss) (λ e. n (sym e)) a))

weight_apart : (all : List Fp) (x : Fp) → weight all x ≡ zeroₚ → ⊥
unfolding weight
weight_apart all x e =
    let v : Fp = eval (vanish (others x all)) x in
    one_apart (sym (mul_invₚ v (vanish_outside x (others x all) (outside_others x all))) ∙ ap (λ y. v *ₚ y) e ∙ mul_zero v)

-- the terms of points other than y vanish, where y's others hold each live point
pairing_rest : (all : List Fp) (q : List Fp) (ss : List Point) → ((s : Point) → In s ss → (s.value ≡ zeroₚ) ⊎ (eval q s.at ≡ zeroₚ)) → pairing all 0 q ss ≡ zeroₚ
pairing_rest all q [] h = refl
pairing_rest all q (s ∷ ss) h =
    elim (h s (inl refl)) [
      | inl z ↦ rw (z, pairing_rest all q ss (λ t i. h t (inr i))) (simp (mul_zero, zero_mul, add_zero))
      | inr z ↦ rw (z, pairing_rest all q ss (λ t i. h t (inr i))) (simp (mul_zero, add_zero))
    ]

pairing_one : (all : List Fp) (q : List Fp) (ss : List Point) (y : Point) → Distinct (points ss) → In y ss →
    ((s : Point) → In s ss → (s.at ≡ y.at → ⊥) → (s.value ≡ zeroₚ) ⊎ (eval q s.at ≡ zeroₚ)) →
    pairing all 0 q ss ≡ ((weight all y.at *ₚ powₚ y.at 0) *ₚ y.value) *ₚ eval q y.at
pairing_one all q [] y d i h = absurd i
pairing_one all q (s ∷ ss) y d (inl e) h =
    ap₂ (λ u v. u +ₚ v) (ap (λ (t : Point). ((weight all t.at *ₚ powₚ t.at 0) *ₚ t.value) *ₚ eval q t.at) (sym e))
    (pairing_rest all q ss (λ t j. h t (inr j) (λ g. in_outside t ss s.at d.0 j (sym (g ∙ ap (λ (z : Point). z.at) e)))))
    ∙ add_zero (((weight all y.at *ₚ powₚ y.at 0) *ₚ y.value) *ₚ eval q y.at)
pairing_one all q (s ∷ ss) y d (inr i) h =
    elim (h s (inl refl) (λ g. in_outside y ss s.at d.0 i g)) [
      | inl z ↦ rw z (simp (mul_zero, zero_mul, zero_add) (pairing_one all q ss y d.1 i (λ t j. h t (inr j))))
      | inr z ↦ rw z (simp (mul_zero, zero_add) (pairing_one all q ss y d.1 i (λ t j. h t (inr j))))
    ]

in_live : (s : Point) (ss : List Point) → In s ss → (s.value ≡ zeroₚ) ⊎ Among s.at (live ss)
in_live s [] i = absurd i
in_live s (t ∷ ss) (inl e) = here_live s t (live ss) e (dead_or_live t (live ss) (eqb t.value.num 0) refl)
in_live s (t ∷ ss) (inr i) = there_live s t (live ss) (eqb t.value.num 0) (in_live s ss i)

zero_term : (w v u : Fp) → (w ≡ zeroₚ → ⊥) → (u ≡ zeroₚ → ⊥) → ((w *ₚ oneₚ) *ₚ v) *ₚ u ≡ zeroₚ → v ≡ zeroₚ
zero_term w v u nw nu h = other_zero w v nw (other_zero u (w *ₚ v) nu (turn_ring w v u ∙ h))

-- where at most k values are not zero and the first k checks are zero, all values are
pub few_live : (k : ℕ) (ss : List Point) (y : Point) → Distinct (points ss) → length (live ss) ≤ k → ((j : ℕ) → j < k → check (points ss) j ss ≡ zeroₚ) → In y ss → y.value ≡ zeroₚ
few_live k ss y d few z i =
    elim (in_live y ss i) [
      | inl e ↦ e
      | inr a ↦
          let all : List Fp = points ss in
          let rs : List Fp = others y.at (live ss) in
          let q : List Fp = vanish rs in
          let short : 0 + length q ≤ k = omega (arith, length-vanish_exact rs, others_less y.at (live ss) a, few) in
          let one : pairing all 0 q ss ≡ ((weight all y.at *ₚ powₚ y.at 0) *ₚ y.value) *ₚ eval q y.at =
          pairing_one all q ss y d i (λ s j n. vanish_live y.at s ss n (in_live s ss j)) in
          zero_term (weight all y.at) y.value (eval q y.at) (weight_apart all y.at) (vanish_outside y.at rs (outside_others y.at (live ss)))
          (ap (λ p. ((weight all y.at *ₚ p) *ₚ y.value) *ₚ eval q y.at) (sym (pow_zero y.at)) ∙ sym one ∙ pairing_zero all k 0 q ss z short)
    ]
