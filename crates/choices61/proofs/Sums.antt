-- Sums over points.
use Rattle.std.proofs.Common.{inl, inr, ◌≡◌, ℕ, zero, suc, ◌+◌, ◌-◌, ◌*◌, ◌<◌, ◌≤◌, cond, eqb, sym, ap, ap₂, ◌∙◌, arith}
use Rattle.std.proofs.lemmas.Bool.{cases_eq, eq-eqb, ne_eqb}
use Rattle.algebra61.specs.Field.{Fp, zeroₚ, ◌+ₚ◌, ◌*ₚ◌}
use Rattle.algebra61.proofs.Ring.{add_zero, zero_add, zero_mul, dif-same, difs, by_dif3, by_dif4}
use Rattle.sharing61.specs.Instance.{share}
use Rattle.sizes.specs.Instances.{dealer_of, lane_of, instance_at}
use Rattle.talk.specs.Shape.{instances}
use Rattle.plays.specs.Play.{Play, instance_of, lane_sum, created_share}
use Rattle.checks61.specs.Checks.{sum_to}
use Rattle.checks61.proofs.Sums.{sum_zero}

four_ring : (a b c d : Fp) → (a +ₚ b) +ₚ (c +ₚ d) ≡ (a +ₚ c) +ₚ (b +ₚ d)
four_ring = by_dif4 _ (λ m n k l. simp difs (dif-same _ _ _ _ (omega arith)))

pub sum_add : (n : ℕ) (f g : ℕ → Fp) → sum_to n (λ i. f i +ₚ g i) ≡ sum_to n f +ₚ sum_to n g
sum_add zero f g = sym (add_zero zeroₚ)
sum_add (suc n) f g = ap (λ v. v +ₚ (f (suc n) +ₚ g (suc n))) (sum_add n f g) ∙ four_ring (sum_to n f) (sum_to n g) (f (suc n)) (g (suc n))

times_ring : (a b c : Fp) → a *ₚ c +ₚ b *ₚ c ≡ (a +ₚ b) *ₚ c
times_ring = by_dif3 _ (λ m n k. simp difs (dif-same _ _ _ _ (omega arith)))

pub sum_times : (n : ℕ) (f : ℕ → Fp) (c : Fp) → sum_to n (λ i. f i *ₚ c) ≡ sum_to n f *ₚ c
sum_times zero f c = sym (zero_mul c)
sum_times (suc n) f c = ap (λ v. v +ₚ f (suc n) *ₚ c) (sum_times n f c) ∙ times_ring (sum_to n f) (f (suc n)) c

-- one entry alone
pub sum_one : (n k : ℕ) (v : Fp) → 1 ≤ k → k ≤ n → sum_to n (λ i. cond (eqb i k) v zeroₚ) ≡ v
sum_one zero k v k1 kn = absurd (omega (arith, k1, kn))
sum_one (suc n) k v k1 kn =
    elim (cases_eq (suc n) k) [
      | inl e ↦
          ap₂ (λ a b. a +ₚ b) (sum_zero n (λ i. cond (eqb i k) v zeroₚ) (λ i a b. ap (λ t. cond t v zeroₚ) (ne_eqb i k (λ f. omega (arith, e, f, b)))))
          (ap (λ t. cond t v zeroₚ) (eq-eqb (suc n) k e))
          ∙ zero_add v
      | inr ne ↦
          ap₂ (λ a b. a +ₚ b) (sum_one n k v k1 (omega (arith, ne, kn))) (ap (λ t. cond t v zeroₚ) (ne_eqb (suc n) k ne)) ∙ add_zero v
    ]

-- ---- the sums of a lane rise by the sum of what the dealers' shares rise by
pub at_dealer : {A : Type 0} (f : ℕ → ℕ → A) (i l : ℕ) → 1 ≤ i → l < 5 → f (dealer_of (instance_at i l)) (lane_of (instance_at i l)) ≡ f i l
at_dealer f i l a b =
    let d : dealer_of (instance_at i l) ≡ i = omega (arith, a, b) in
    let m : lane_of (instance_at i l) ≡ l = omega (arith, a, b) in
    ap₂ f d m

lane_more : (p q : Play) (rise : ℕ → ℕ → Fp) (l j : ℕ) → l < 5 →
    ((i : ℕ) → i < instances p.shape → share (instance_of q i) j ≡ share (instance_of p i) j +ₚ rise (dealer_of i) (lane_of i)) →
    (n : ℕ) → n ≤ p.shape.dealers → lane_sum n q l j ≡ lane_sum n p l j +ₚ sum_to n (λ i. rise i l)
lane_more p q rise l j l5 h zero le = sym (add_zero zeroₚ)
lane_more p q rise l j l5 h (suc n) le =
    let at : rise (dealer_of (instance_at (suc n) l)) (lane_of (instance_at (suc n) l)) ≡ rise (suc n) l =
    at_dealer rise (suc n) l (omega arith) l5 in
    ap₂ (λ a b. a +ₚ b) (lane_more p q rise l j l5 h n (omega (arith, le)))
    (h (instance_at (suc n) l) (omega (arith, le, l5)) ∙ ap (λ v. share (instance_of p (instance_at (suc n) l)) j +ₚ v) at)
    ∙ four_ring (lane_sum n p l j) (sum_to n (λ i. rise i l)) (share (instance_of p (instance_at (suc n) l)) j) (rise (suc n) l)

pub created_more : (p q : Play) (rise : ℕ → ℕ → Fp) (l j : ℕ) → l < 5 → q.shape.dealers ≡ p.shape.dealers →
    ((i : ℕ) → i < instances p.shape → share (instance_of q i) j ≡ share (instance_of p i) j +ₚ rise (dealer_of i) (lane_of i)) →
    created_share q l j ≡ created_share p l j +ₚ sum_to p.shape.dealers (λ i. rise i l)
created_more p q rise l j l5 same h =
    ap (λ n. lane_sum n q l j) same ∙ lane_more p q rise l j l5 h p.shape.dealers (omega arith)
