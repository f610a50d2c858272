-- Steps of the loops over entries of the parity check and of words, and the answer of error_of.
use Rattle.std.proofs.Common.{◌≡◌, ℕ, zero, suc, ◌+◌, ◌-◌, ◌*◌, ◌<◌, ◌≤◌, inl, inr, Bool, true, false, cond, eqb, ltb, List, [], ◌∷◌, ◌++◌, length, map, get_or, refl, sym, ap, ap₂, ◌∙◌, subst, arith}
use Rattle.std.specs.Prelude.{Option, Some}
use Rattle.std.specs.List.{range_with_len}
use Rattle.std.proofs.lemmas.Bool.{cases_eq, eq-eqb, ne_eqb}
use Rattle.std.proofs.lemmas.List.FromFn.{map-range_with_len_more, get_or-map-range_with_len, length-map-range_with_len}
use Rattle.algebra61.specs.Field.{Fp, Prime, fe, zeroₚ, oneₚ, ◌-ₚ◌, ◌*ₚ◌}
use Rattle.algebra61.specs.Poly.{eval, Distinct, Passes, points}
use Rattle.algebra61.specs.Polynomial.{Polynomial, poly, same_coeffs}
use Rattle.algebra61.specs.Nearest.{wrong, wrong_one, missing, IsNearest}
use Rattle.algebra61.proofs.Ring.{sub_self, zero_sub}
use Rattle.algebra61.proofs.Inverse.{num-zero, same_or_not}
use Rattle.algebra61.proofs.Trim.{zero_by_test, trim_same}
use Rattle.algebra61.proofs.Near.{same_by_test}
use Rattle.algebra61.proofs.NearestLemmas.{nearest_once}
use Rattle.poly61.specs.Points.{pairs, IsThrough}
use Rattle.poly61.proofs.Coefficients.{coeff-poly, eval-poly, length-poly}
use Rattle.checks61.specs.Checks.{others_product, syndrome_of, entry, nonzero_to, IsErrorOf, difference_from}
use Rattle.checks61.specs.Word.{dot_to, basis, word_entry}
use Rattle.checks61.proofs.Points.{distinct_from}
use Rattle.checks61.proofs.Sums.{nonzero_same}
use Rattle.checks61.proofs.Errors.{difference_at, error_of_values, values_of_error, syndrome_same, check_same}
use Rattle.checks61.proofs.Words.{product_apart, dot_to_same, same_at_points, length-basis, basis_here, basis_there, word_has_syndrome}
use Rattle.rs61.specs.Errors.{basis_point, IsWordOf}

-- ---- lists made number by number
pub more_from : {A : Type 0} (f : ℕ → A) (a k : ℕ) (xs ys : List A) (x : A) → xs ≡ map f (range_with_len a k) → ys ≡ xs ++ x ∷ [] → x ≡ f (a + k) → ys ≡ map f (range_with_len a (k + 1))
more_from f a k xs ys x e ey ex =
    ey ∙ ap₂ (λ (l : List _) (y : _). l ++ y ∷ []) e ex ∙ sym (map-range_with_len_more f a k (a + k) refl)

pub difference_entry : (w p : List Fp) (i : ℕ) (a y s : Fp) → a ≡ get_or w i zeroₚ → y ≡ eval p (fe (i + 1)) → s ≡ a -ₚ y → s ≡ entry w (1 + i) -ₚ eval p (fe (1 + i))
difference_entry w p i a y s ea ey es =
    let e : i + 1 ≡ 1 + i = omega arith in
    let z : i ≡ 1 + i - 1 = omega arith in
    es ∙ ap₂ (λ u v. u -ₚ v) (ea ∙ ap (λ k. get_or w k zeroₚ) z) (ey ∙ ap (λ k. eval p (fe k)) e)

pub product_not_zero : (n i : ℕ) (x r : Fp) → n ≤ 30 → i ≤ 30 → x ≡ fe i → r ≡ others_product n i x → r ≡ zeroₚ → ⊥
product_not_zero n i x r few small ex er e =
    product_apart n i (omega (arith, small)) (omega (arith, few)) (ap (others_product n i) (sym ex) ∙ sym er ∙ e)

pub word_value : (n k i : ℕ) (z : List Fp) (p : Polynomial) (o s x : Fp) → i ≤ k → p ≡ poly (basis k i) → o ≡ others_product n i (fe i) → s ≡ dot_to k p.coeffs z → x ≡ o *ₚ s → x ≡ word_entry n k z i
word_value n k i z p o s x le ep eo es ex =
    let less : ltb k i ≡ false = grind arith in
    ex ∙ ap₂ (λ u v. u *ₚ v) eo (es ∙ ap (λ (q : Polynomial). dot_to k q.coeffs z) ep ∙ dot_to_same k (poly (basis k i)).coeffs (basis k i) z (coeff-poly (basis k i)))
    ∙ sym (ap (λ (b : Bool). cond b zeroₚ (others_product n i (fe i) *ₚ dot_to k (basis k i) z)) less)

-- ---- the basis by its points
points-basis : (peak a n : ℕ) → points (pairs (map (basis_point peak) (range_with_len a n))) ≡ map fe (range_with_len a n)
points-basis peak a zero = refl
points-basis peak a (suc n) = ap (λ xs. fe a ∷ xs) (points-basis peak (a + 1) n)

pub distinct_basis : (peak k : ℕ) (list : List (Fp × Fp)) → k ≤ 30 → list ≡ map (basis_point peak) (range_with_len 1 k) → Distinct (points (pairs list))
distinct_basis peak k list few e =
    subst (λ (l : List (Fp × Fp)). Distinct (points (pairs l))) (sym e)
    (subst Distinct (sym (points-basis peak 1 k)) (distinct_from 1 k (omega (arith, few))))

length-pairs : (l : List (Fp × Fp)) → length (pairs l) ≡ length l
length-pairs [] = refl
length-pairs (q ∷ l) = ap suc (length-pairs l)

peak_value : (p : List Fp) (i a n j : ℕ) → Passes p (pairs (map (basis_point i) (range_with_len a n))) → a ≤ j → j < a + n → eval p (fe j) ≡ cond (eqb j i) oneₚ zeroₚ
peak_value p i a zero j h le lt = absurd (omega (arith, le, lt))
peak_value p i a (suc n) j h le lt =
    elim (cases_eq j a) [
      | inl e ↦ subst (λ k. eval p (fe k) ≡ cond (eqb k i) oneₚ zeroₚ) (sym e) h.0
      | inr ne ↦ peak_value p i (a + 1) n j h.1 (omega (arith, le, ne)) (omega (arith, lt))
    ]

basis_value : (k i j : ℕ) → k < Prime → 1 ≤ i → i ≤ k → 1 ≤ j → j ≤ k → eval (basis k i) (fe j) ≡ cond (eqb j i) oneₚ zeroₚ
basis_value k i j h a b c d =
    elim (cases_eq j i) [
      | inl e ↦ ap (λ n. eval (basis k i) (fe n)) e ∙ basis_here k i (omega (arith, b, h)) h ∙ sym (ap (λ (t : Bool). cond t oneₚ zeroₚ) (eq-eqb j i e))
      | inr ne ↦ basis_there k i j (omega (arith, b, h)) h c d (λ e. ne (sym e)) ∙ sym (ap (λ (t : Bool). cond t oneₚ zeroₚ) (ne_eqb j i ne))
    ]

pub basis_is : (k i : ℕ) (list : List (Fp × Fp)) (p : Polynomial) → k ≤ 30 → 1 ≤ i → i ≤ k → list ≡ map (basis_point i) (range_with_len 1 k) → IsThrough (pairs list) p → p ≡ poly (basis k i)
unfolding poly
basis_is k i list p few a b e h =
    let small : k < Prime = omega (arith, few) in
    let through : IsThrough (pairs (map (basis_point i) (range_with_len 1 k))) p = subst (λ (l : List (Fp × Fp)). IsThrough (pairs l) p) e h in
    same_coeffs p (poly (basis k i))
    (sym p.trimmed
    ∙ trim_same p.coeffs (basis k i)
    (same_at_points k p.coeffs (basis k i) small
    (omega (arith, through.short, length-pairs (map (basis_point i) (range_with_len 1 k)), length-map-range_with_len (basis_point i) 1 k))
    (length-basis k i small a b)
    (λ j c d. peak_value p.coeffs i 1 k j through.passes c (omega (arith, d)) ∙ sym (basis_value k i j small a b c d))))

-- ---- wrong points and errors
front_ring : (b : Bool) (k : ℕ) (ks : List ℕ) (m : ℕ) → length ks ≡ m → length (wrong_one b k ks) ≡ cond b 0 1 + m
front_ring true k ks m e = omega (arith, e)
front_ring false k ks m e = omega (arith, e)

errors_front : (n : ℕ) (f : ℕ → Fp) → nonzero_to (suc n) f ≡ cond (eqb (f 1).num 0) 0 1 + nonzero_to n (λ i. f (suc i))
errors_front zero f = omega arith
errors_front (suc n) f = omega (arith, errors_front n f)

same_zero : (u v : Fp) → eqb u.num v.num ≡ eqb (v -ₚ u).num 0
same_zero u v =
    elim (same_or_not u v) [
      | inl e ↦
          let z : v -ₚ u ≡ zeroₚ = ap (λ x. v -ₚ x) e ∙ sub_self v in
          eq-eqb u.num v.num (ap (λ (x : Fp). x.num) e) ∙ sym (eq-eqb (v -ₚ u).num 0 (ap (λ (x : Fp). x.num) z ∙ num-zero))
      | inr ne ↦
          ne_eqb u.num v.num (λ e. ne (same_by_test u v (eq-eqb u.num v.num e)))
          ∙ sym (ne_eqb (v -ₚ u).num 0 (λ e. ne (sym (zero_sub v u (zero_by_test (v -ₚ u) (eq-eqb (v -ₚ u).num 0 e))))))
    ]

tail_entry : (v : Fp) (vs : List Fp) (i : ℕ) → 1 ≤ i → entry (v ∷ vs) (suc i) ≡ entry vs i
tail_entry v vs i a =
    let e : suc i - 1 ≡ suc (i - 1) = omega (arith, a) in ap (λ k. get_or (v ∷ vs) k zeroₚ) e

wrong_from : (p : List Fp) (k : ℕ) (vs : List Fp) → length (wrong p (suc k) (map Some vs)) ≡ nonzero_to (length vs) (λ i. entry vs i -ₚ eval p (fe (k + i)))
wrong_from p k [] = refl
wrong_from p k (v ∷ vs) =
    let f : ℕ → Fp = λ i. entry (v ∷ vs) i -ₚ eval p (fe (k + i)) in
    let e : k + 1 ≡ suc k = omega arith in
    front_ring (eqb (eval p (fe (suc k))).num v.num) (suc k) (wrong p (suc (suc k)) (map Some vs)) _ (wrong_from p (suc k) vs)
    ∙ ap₂ (λ a b. a + b)
    (ap (λ (t : Bool). let n : ℕ = cond t 0 1 in n) (same_zero (eval p (fe (suc k))) v ∙ ap (λ n. eqb (v -ₚ eval p (fe n)).num 0) (sym e)))
    (nonzero_same (length vs) (λ i. entry vs i -ₚ eval p (fe (suc k + i))) (λ i. f (suc i))
    (λ i a b. let z : suc k + i ≡ k + suc i = omega arith in ap₂ (λ x n. x -ₚ eval p (fe n)) (sym (tail_entry v vs i a)) z))
    ∙ sym (errors_front (length vs) f)

pub wrong_count : (p vs : List Fp) → length (wrong p 1 (map Some vs)) ≡ nonzero_to (length vs) (entry (difference_from (length vs) (entry vs) p))
wrong_count p vs =
    wrong_from p 0 vs
    ∙ nonzero_same (length vs) (λ i. entry vs i -ₚ eval p (fe (0 + i))) (entry (difference_from (length vs) (entry vs) p))
    (λ i a b. let z : 0 + i ≡ i = omega arith in ap (λ n. entry vs i -ₚ eval p (fe n)) z ∙ sym (difference_at (length vs) i (entry vs) p a b))

none_missing : (k : ℕ) (vs : List Fp) → missing k (map Some vs) ≡ []
none_missing k [] = refl
none_missing k (v ∷ vs) = none_missing (suc k) vs

length-somes : (vs : List Fp) → length (map Some vs) ≡ length vs
length-somes [] = refl
length-somes (v ∷ vs) = ap suc (length-somes vs)

-- ---- the word
pub word_is : (n m : ℕ) (z w : List Fp) → n ≤ 30 → length z ≤ n → m ≡ n → w ≡ map (word_entry n (length z) z) (range_with_len 1 m) → IsWordOf n z w
word_is n m z w few short all made =
    let k : ℕ = length z in
    let e : w ≡ map (word_entry n k z) (range_with_len 1 n) = made ∙ ap (λ i. map (word_entry n k z) (range_with_len 1 i)) all in
    record {
      long = ap length e ∙ length-map-range_with_len (word_entry n k z) 1 n;
      gives =
          ap (λ (l : List Fp). syndrome_of n k (entry l)) e
          ∙ syndrome_same n k (entry (map (word_entry n k z) (range_with_len 1 n))) (word_entry n k z)
          (λ m lt. check_same n m (entry (map (word_entry n k z) (range_with_len 1 n))) (word_entry n k z)
          (λ i a b. get_or-map-range_with_len (word_entry n k z) 1 n (i - 1) i zeroₚ (omega (arith, a, b)) (omega (arith, a))))
          ∙ word_has_syndrome n k z (omega (arith, few)) short refl;
    }

-- the same, where the syndrome has as many values as the parity check has rows
record IsWord (n t : ℕ) (z w : List Fp) : Type 0 where
  pub long : length w ≡ n
  pub gives : syndrome_of n (n - t - 1) (entry w) ≡ z

with_rows : (n t : ℕ) (z w : List Fp) → length z ≡ n - t - 1 → IsWordOf n z w → IsWord n t z w
with_rows n t z w long h = record { long = h.long; gives = ap (λ k. syndrome_of n k (entry w)) (sym long) ∙ h.gives }

error_found : (n t : ℕ) (z w p : List Fp) → n ≤ 30 → IsWord n t z w → length p ≤ t + 1 → length (wrong p 1 (map Some w)) ≤ t → IsErrorOf n t z (difference_from (length w) (entry w) p)
error_found n t z w p few word short right =
    let at : length w ≡ n = word.long in
    subst (λ m. IsErrorOf n t z (difference_from m (entry w) p)) (sym at)
    (subst (λ (y : List Fp). IsErrorOf n t y (difference_from n (entry w) p)) word.gives
    (error_of_values n t (entry w) p (omega (arith, few)) short
    (subst (λ m. nonzero_to m (entry (difference_from m (entry w) p)) ≤ t) at (omega (arith, right, wrong_count p w)))))

-- where there is an error vector, a polynomial that is wrong at no more than t points is nearest
record Found (n t : ℕ) (w : List Fp) : Type 0 where
  pub polynomial : Polynomial
  pub nearest : IsNearest t (map Some w) polynomial
  pub few : length (wrong polynomial.coeffs 1 (map Some w)) ≤ t

same_differences : (c : ℕ → Fp) (q : List Fp) (a k : ℕ) → map (λ i. c i -ₚ eval (poly q).coeffs (fe i)) (range_with_len a k) ≡ map (λ i. c i -ₚ eval q (fe i)) (range_with_len a k)
same_differences c q a zero = refl
same_differences c q a (suc k) = ap₂ (λ x xs. x ∷ xs) (ap (λ v. c a -ₚ v) (eval-poly q (fe a))) (same_differences c q (a + 1) k)

polynomial_values : (n : ℕ) (c : ℕ → Fp) (q : List Fp) → difference_from n c (poly q).coeffs ≡ difference_from n c q
polynomial_values n c q = same_differences c q 1 n

found_by : (n t : ℕ) (z w e : List Fp) → 3 * t < n → n ≤ 30 → IsWord n t z w → IsErrorOf n t z e → Found n t w
found_by n t z w e third few word error =
    let got = values_of_error n t (entry w) e (omega (arith, few)) (subst (λ (y : List Fp). IsErrorOf n t y e) (sym word.gives) error) in
    let q : Polynomial = poly got.0 in
    let is : difference_from n (entry w) q.coeffs ≡ e = polynomial_values n (entry w) got.0 ∙ got.2 in
    let count : length (wrong q.coeffs 1 (map Some w)) ≤ t =
    omega (
      arith,
      wrong_count q.coeffs w,
      subst (λ m. nonzero_to m (entry (difference_from m (entry w) q.coeffs)) ≤ t) (sym word.long) (subst (λ (x : List Fp). nonzero_to n (entry x) ≤ t) (sym is) error.few),
    ) in
    record {
      polynomial = q;
      nearest = record {
        short = omega (arith, length-poly got.0, got.1);
        close = omega (arith, count, ap length (none_missing 1 w), length-somes w, word.long, third);
      };
      few = count;
    }

none_near : (n t : ℕ) (z w : List Fp) → 3 * t < n → n ≤ 30 → IsWord n t z w → ((p : Polynomial) → IsNearest t (map Some w) p → ⊥) → (e : List Fp) → IsErrorOf n t z e → ⊥
none_near n t z w third few word no_near e error = let f = found_by n t z w e third few word error in no_near f.polynomial f.nearest

too_many : (n t : ℕ) (z w : List Fp) (p : Polynomial) → 3 * t < n → n ≤ 30 → IsWord n t z w → IsNearest t (map Some w) p → t < length (wrong p.coeffs 1 (map Some w)) → (e : List Fp) → IsErrorOf n t z e → ⊥
too_many n t z w p third few word near many e error =
    let f = found_by n t z w e third few word error in
    let same : p ≡ f.polynomial = nearest_once t (map Some w) p f.polynomial (omega (arith, length-somes w, word.long, few)) near f.nearest in
    omega (arith, many, f.few, ap (λ (q : Polynomial). length (wrong q.coeffs 1 (map Some w))) same)

-- ---- the same, as the code has it
module _ (n t : ℕ) (z w : List Fp) (vs : List (Option Fp)) (third : 3 * t < n) (few : n ≤ 30) (long : length z ≡ n - t - 1) (is : IsWordOf n z w) (all : vs ≡ map Some w) where
  the_word : IsWord n t z w
  the_word = with_rows n t z w long is

  pub few_entries : length w ≤ 30
  few_entries = omega (arith, few, the_word.long)

  pub few_values : length vs ≤ 30
  few_values = omega (arith, few_entries, ap length all, length-somes w)

  pub error_of_none : ((p : Polynomial) → IsNearest t vs p → ⊥) → (e : List Fp) → IsErrorOf n t z e → ⊥
  error_of_none no_near e error =
      none_near n t z w third few the_word (λ p near. no_near p (subst (λ (l : List (Option Fp)). IsNearest t l p) (sym all) near)) e error

  pub error_of_many : (p : Polynomial) (ks : List ℕ) → IsNearest t vs p → ks ≡ wrong p.coeffs 1 vs → t < length ks → (e : List Fp) → IsErrorOf n t z e → ⊥
  error_of_many p ks near wrongs many e error =
      too_many n t z w p third few the_word (subst (λ (l : List (Option Fp)). IsNearest t l p) all near)
      (subst (λ (l : List (Option Fp)). t < length (wrong p.coeffs 1 l)) all (subst (λ (l : List ℕ). t < length l) wrongs many)) e error

  pub error_of_near : (p : Polynomial) (ks : List ℕ) (e : List Fp) → IsNearest t vs p → ks ≡ wrong p.coeffs 1 vs → length ks ≤ t → e ≡ difference_from (length w) (entry w) p.coeffs → IsErrorOf n t z e
  error_of_near p ks e near wrongs right ee =
      subst (IsErrorOf n t z) (sym ee)
      (error_found n t z w p.coeffs few the_word (omega (arith, near.short))
      (subst (λ (l : List (Option Fp)). length (wrong p.coeffs 1 l) ≤ t) all (subst (λ (l : List ℕ). length l ≤ t) wrongs right)))
