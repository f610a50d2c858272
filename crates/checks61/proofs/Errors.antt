-- Syndromes and their error vectors.
use Rattle.std.proofs.Common.{◌≡◌, ℕ, zero, suc, ◌+◌, ◌-◌, ◌<◌, ◌≤◌, inl, inr, List, ◌∷◌, length, map, get_or, refl, sym, ap, ap₂, ◌∙◌, subst, arith}
use Rattle.std.specs.List.{range_with_len}
use Rattle.std.proofs.lemmas.Bool.{cases_lt}
use Rattle.std.proofs.lemmas.List.FromFn.{get_or-map-range_with_len, length-map-range_with_len, fill_by_all}
use Rattle.algebra61.specs.Field.{Fp, Prime, fe, zeroₚ, ◌-ₚ◌, ◌*ₚ◌}
use Rattle.algebra61.specs.Poly.{eval, Passes, Point, points}
use Rattle.algebra61.proofs.Ring.{sub_self, sub_zero, zero_sub, dif-same, difs, by_dif2}
use Rattle.algebra61.proofs.Dual.{weights_kill}
use Rattle.algebra61.proofs.Checks.{check, few_live}
use Rattle.algebra61.proofs.Interpolate.{newton, length-newton, newton_passes}
use Rattle.algebra61.proofs.Ext.{points_to, points_distinct}
use Rattle.checks61.specs.Checks.{check_entry, check_of, syndrome_of, HasZeroSyndrome, HasValues, entry, nonzero_to, difference_from}
use Rattle.checks61.specs.Laws.{OneError, ZeroOnlyOfValues, ZeroOfValues, ErrorOfValues, ValuesOfError}
use Rattle.checks61.proofs.Sums.{sum_same, sum_minus, nonzero_minus, nonzero_after}
use Rattle.checks61.proofs.Points.{with_values, points-with_values, length-with_values, distinct_values, in_values, live_is, passes_at, check_is, check_values, length-raised, raised}
use Rattle.checks61.proofs.Weights.{length-points_to}

-- ---- the checks of a vector with few entries other than 0
pub check_list : (n m : ℕ) (v : ℕ → Fp) → n < Prime → check (points (with_values n v)) m (with_values n v) ≡ check_of n m v
check_list n m v h = ap (λ xs. check xs m (with_values n v)) (points-with_values n v) ∙ check_is n n m v h (omega arith)

-- where at most k entries are not 0 and the first k checks are 0, all entries are
pub all_zero : (n k : ℕ) (v : ℕ → Fp) → n < Prime → nonzero_to n v ≤ k → ((m : ℕ) → m < k → check_of n m v ≡ zeroₚ) → (i : ℕ) → 1 ≤ i → i ≤ n → v i ≡ zeroₚ
all_zero n k v h few zeros i a b =
    few_live k (with_values n v) (record { at = fe i; value = v i }) (distinct_values n v h) (omega (arith, few, live_is n v))
    (λ m lt. check_list n m v h ∙ zeros m lt) (in_values n i v a b)

pub check_minus : (n m : ℕ) (v w : ℕ → Fp) → check_of n m (λ i. v i -ₚ w i) ≡ check_of n m v -ₚ check_of n m w
check_minus n m v w = sum_minus n (check_entry n m) v w

-- two vectors with few errors and the same checks are the same
pub same_errors : (n t k : ℕ) (v w : ℕ → Fp) → n < Prime → t + t ≤ k → nonzero_to n v ≤ t → nonzero_to n w ≤ t → ((m : ℕ) → m < k → check_of n m v ≡ check_of n m w) →
    (i : ℕ) → 1 ≤ i → i ≤ n → v i ≡ w i
same_errors n t k v w h room fv fw same i a b =
    zero_sub (v i) (w i)
    (all_zero n k (λ i. v i -ₚ w i) h (omega (arith, room, fv, fw, nonzero_minus n v w))
    (λ m lt. check_minus n m v w ∙ ap (λ x. x -ₚ check_of n m w) (same m lt) ∙ sub_self (check_of n m w)) i a b)

-- ---- lists
pub syndrome_at : (n k m : ℕ) (v : ℕ → Fp) → m < k → get_or (syndrome_of n k v) m zeroₚ ≡ check_of n m v
syndrome_at n k m v lt = get_or-map-range_with_len (λ m. check_of n m v) 0 k m m zeroₚ lt (omega arith)

pub list_is : (n : ℕ) (e : List Fp) (v : ℕ → Fp) → length e ≡ n → ((i : ℕ) → 1 ≤ i → i ≤ n → entry e i ≡ v i) → e ≡ map (λ k. v (k + 1)) (range_with_len 0 n)
list_is n e v long h =
    fill_by_all (λ k. v (k + 1)) e n zeroₚ long
    (λ k lt. let z : (k + 1) - 1 ≡ k = omega arith in subst (λ j. get_or e j zeroₚ ≡ v (k + 1)) z (h (k + 1) (omega arith) (omega (arith, lt))))

pub same_lists : (n : ℕ) (e f : List Fp) → length e ≡ n → length f ≡ n → ((i : ℕ) → 1 ≤ i → i ≤ n → entry e i ≡ entry f i) → e ≡ f
same_lists n e f le lf h = list_is n e (entry f) le h ∙ sym (list_is n f (entry f) lf (λ i a b. refl))

pub one_error : OneError
one_error n t z e f third h he hf =
    same_lists n e f he.long hf.long
    (same_errors n t (n - t - 1) (entry e) (entry f) h (omega (arith, third)) he.few hf.few
    (λ m lt.
    sym (syndrome_at n (n - t - 1) m (entry e) lt) ∙ ap (λ s. get_or s m zeroₚ) (he.gives ∙ sym hf.gives) ∙ syndrome_at n (n - t - 1) m (entry f) lt))

-- ---- the values of a polynomial
-- their checks are 0
pub values_zero : (n m : ℕ) (q : List Fp) → n < Prime → m + length q < n → check_of n m (λ i. eval q (fe i)) ≡ zeroₚ
values_zero n m q h lt =
    sym (check_is n n m (λ i. eval q (fe i)) h (omega arith)) ∙ check_values (points_to n) n m q
    ∙ weights_kill (points_to n) (raised m q) (points_distinct n h) (omega (arith, length-raised m q, length-points_to n, lt))

pub check_same : (n m : ℕ) (v w : ℕ → Fp) → ((i : ℕ) → 1 ≤ i → i ≤ n → v i ≡ w i) → check_of n m v ≡ check_of n m w
check_same n m v w h = sum_same n _ (λ i. check_entry n m i *ₚ w i) (λ i a b. ap (λ x. check_entry n m i *ₚ x) (h i a b))

pub zero_of_values : ZeroOfValues
zero_of_values n t v q h has m lt = check_same n m v (λ i. eval q (fe i)) has.values ∙ values_zero n m q h (omega (arith, lt, has.short))

-- more values than the checks see: the polynomial through all of them
few_values : (n t : ℕ) (v : ℕ → Fp) → n < Prime → n ≤ t → HasValues n t v (newton (with_values n v))
few_values n t v h few = record {
  short = omega (arith, length-newton (with_values n v), length-with_values n v, few);
  values = λ i a b. sym (passes_at n i v (newton (with_values n v)) (newton_passes (with_values n v) (distinct_values n v h)) a b);
}

-- otherwise the polynomial through the first t + 1 of them: what is left has at most n - t - 1 entries other than 0
many_values : (n t : ℕ) (v : ℕ → Fp) → n < Prime → t < n → HasZeroSyndrome n t v → HasValues n t v (newton (with_values (t + 1) v))
many_values n t v h lt zeros =
    let first : List Point = with_values (t + 1) v in
    let r : List Fp = newton first in
    let short : length r ≤ t + 1 = omega (arith, length-newton first, length-with_values (t + 1) v) in
    let passes : Passes r first = newton_passes first (distinct_values (t + 1) v (omega (arith, lt, h))) in
    let left : nonzero_to n (λ i. v i -ₚ eval r (fe i)) ≤ n - (t + 1) =
    nonzero_after (t + 1) n (λ i. v i -ₚ eval r (fe i)) (λ i a b. ap (λ x. v i -ₚ x) (passes_at (t + 1) i v r passes a b) ∙ sub_self (v i)) in
    record {
      short = short;
      values = λ i a b.
          zero_sub (v i) (eval r (fe i))
          (all_zero n (n - t - 1) (λ i. v i -ₚ eval r (fe i)) h (omega (arith, left))
          (λ m less. check_minus n m v (λ i. eval r (fe i)) ∙ ap₂ (λ x y. x -ₚ y) (zeros m less)
          (values_zero n m r h (omega (arith, less, short))) ∙ sub_self zeroₚ) i a b);
    }

pub zero_only_of_values : ZeroOnlyOfValues
zero_only_of_values n t v h zeros =
    elim (cases_lt t n) [
      | inl lt ↦ (newton (with_values (t + 1) v), many_values n t v h lt zeros)
      | inr few ↦ (newton (with_values n v), few_values n t v h few)
    ]

-- ---- the difference from a polynomial
pub difference_at : (n i : ℕ) (c : ℕ → Fp) (q : List Fp) → 1 ≤ i → i ≤ n → entry (difference_from n c q) i ≡ c i -ₚ eval q (fe i)
difference_at n i c q a b = get_or-map-range_with_len (λ i. c i -ₚ eval q (fe i)) 1 n (i - 1) i zeroₚ (omega (arith, a, b)) (omega (arith, a))

pub length-difference_from : (n : ℕ) (c : ℕ → Fp) (q : List Fp) → length (difference_from n c q) ≡ n
length-difference_from n c q = length-map-range_with_len (λ i. c i -ₚ eval q (fe i)) 1 n

minus_nothing : (a b : Fp) → b ≡ zeroₚ → a -ₚ b ≡ a
minus_nothing a b e = ap (λ x. a -ₚ x) e ∙ sub_zero a

map_same : {B : Type 0} (f g : ℕ → B) (n a : ℕ) → ((k : ℕ) → a ≤ k → k < a + n → f k ≡ g k) → map f (range_with_len a n) ≡ map g (range_with_len a n)
map_same f g zero a h = refl
map_same f g (suc n) a h = ap₂ (λ x xs. x ∷ xs) (h a (omega arith) (omega arith)) (map_same f g n (a + 1) (λ k l m. h k (omega arith) (omega arith)))

pub syndrome_same : (n k : ℕ) (v w : ℕ → Fp) → ((m : ℕ) → m < k → check_of n m v ≡ check_of n m w) → syndrome_of n k v ≡ syndrome_of n k w
syndrome_same n k v w h = map_same (λ m. check_of n m v) (λ m. check_of n m w) k 0 (λ m a b. h m (omega (arith, b)))

pub check_difference : (n m : ℕ) (c : ℕ → Fp) (q : List Fp) → n < Prime → m + length q < n → check_of n m (entry (difference_from n c q)) ≡ check_of n m c
check_difference n m c q h lt =
    check_same n m (entry (difference_from n c q)) (λ i. c i -ₚ eval q (fe i)) (λ i a b. difference_at n i c q a b)
    ∙ check_minus n m c (λ i. eval q (fe i))
    ∙ minus_nothing (check_of n m c) (check_of n m (λ i. eval q (fe i))) (values_zero n m q h lt)

pub error_of_values : ErrorOfValues
error_of_values n t c q h short few = record {
  long = length-difference_from n c q;
  few = few;
  gives = syndrome_same n (n - t - 1) (entry (difference_from n c q)) c (λ m lt. check_difference n m c q h (omega (arith, lt, short)));
}

back_ring : (a b : Fp) → a -ₚ (a -ₚ b) ≡ b
back_ring = by_dif2 _ (λ m n. simp difs (dif-same _ _ _ _ (omega arith)))

pub values_of_error : ValuesOfError
values_of_error n t c e h is =
    let got = zero_only_of_values n t (λ i. c i -ₚ entry e i) h
    (λ m lt. check_minus n m c (entry e)
    ∙ ap (λ x. check_of n m c -ₚ x) (sym (syndrome_at n (n - t - 1) m (entry e) lt) ∙ ap (λ s. get_or s m zeroₚ) is.gives ∙ syndrome_at n (n - t - 1) m c lt)
    ∙ sub_self (check_of n m c)) in
    let q : List Fp = got.0 in (
      q,
      got.1.short,
      same_lists n (difference_from n c q) e (length-difference_from n c q) is.long
          (λ i a b. difference_at n i c q a b ∙ ap (λ x. c i -ₚ x) (sym (got.1.values i a b)) ∙ back_ring (c i) (entry e i)),
    )
