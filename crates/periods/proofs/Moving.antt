-- A move keeps the constant.
use Rattle.std.proofs.Common.{◌≡◌, ℕ, ◌+◌, ◌-◌, ◌<◌, ◌≤◌, inl, inr, List, [], ◌∷◌, length, get_or, sym, ap, ap₂, ◌∙◌, subst, arith}
use Rattle.std.proofs.lemmas.Bool.{cases_lt}
use Rattle.std.proofs.lemmas.List.FromFn.{length-map-range_with_len}
use Rattle.algebra61.specs.Field.{Fp, Prime, fe, zeroₚ, ◌-ₚ◌, ◌*ₚ◌}
use Rattle.algebra61.specs.Poly.{eval}
use Rattle.algebra61.proofs.Ring.{mul_zero, add_zero, dif-same, difs, by_dif2}
use Rattle.algebra61.proofs.PolyOps.{sub_list, eval-sub, length-sub}
use Rattle.checks61.specs.Checks.{sum_to, weight_at_zero, check_of, syndrome_of, entry, nonzero_to, IsErrorOf, difference_from, corrected}
use Rattle.checks61.proofs.Sums.{sum_same, sum_minus}
use Rattle.checks61.proofs.Errors.{one_error, error_of_values, values_of_error, syndrome_at, same_lists, difference_at}
use Rattle.checks61.proofs.Weights.{weighs_at_zero}
use Rattle.talk.specs.declared.messages.Post.{Post}
use Rattle.talk.specs.Shape.{Shape, Lawful, TwoCommittees}
use Rattle.plays.specs.Play.{Play}
use Rattle.periods.specs.Move.{subshare, syndromes_heard, IsOpened, IsOpenedSyndrome, IsLaneError, MoveHasNoResult, old_bound, AreConstants, IsWithin, IsMove}
use Rattle.periods.specs.Laws.{LieOn, OneLaneError, MoveKeeps, ErrorIsDifference, NoneWithin, OneWithoutResult, ResultOrNone}
use Rattle.periods.proofs.Polynomials.{IsMixture, mixture}
use Rattle.periods.proofs.Opening.{opened_is, one_opened}

-- ---- the old committee
old_is : (t : ℕ) (s : Shape) → TwoCommittees s t → old_bound s ≡ t
old_is t s h = omega (arith, h.checks)

checks_is : (t : ℕ) (s : Shape) → TwoCommittees s t → s.checks ≡ s.dealers - old_bound s - 1
checks_is t s h = omega (arith, h.checks)

small_dealers : (s : Shape) → Lawful s → s.dealers < Prime
small_dealers s h = omega (arith, h.dealers.1)

-- ---- the opened syndrome
one_syndrome : (s : Shape) (post : ℕ → Post) (lane : ℕ) (ys zs : List Fp) → Lawful s → IsOpenedSyndrome s post lane ys → IsOpenedSyndrome s post lane zs → ys ≡ zs
one_syndrome s post lane ys zs law hy hz =
    same_lists s.checks ys zs hy.long hz.long
    (λ i a b. one_opened s post lane (i - 1) (get_or ys (i - 1) zeroₚ) (get_or zs (i - 1) zeroₚ) law (hy.each (i - 1) (omega (arith, a, b))) (hz.each (i - 1) (omega (arith, a, b))))

pub one_lane_error : OneLaneError
one_lane_error t p lane e f h he hf =
    let s : Shape = p.shape in
    one_error s.dealers (old_bound s) he.syndrome e f (omega (arith, h.two.third, old_is t s h.two)) (small_dealers s h.setting) he.is
    (subst (λ (zs : List Fp). IsErrorOf s.dealers (old_bound s) zs f) (sym (one_syndrome s (syndromes_heard p) lane he.syndrome hf.syndrome h.setting he.opened hf.opened)) hf.is)

-- it is the syndrome of the constants
opened_constants : (t : ℕ) (p : Play) (lane : ℕ) (c : ℕ → Fp) → IsMove t p → lane < 5 → AreConstants p lane c → IsOpenedSyndrome p.shape (syndromes_heard p) lane (syndrome_of p.shape.dealers p.shape.checks c)
opened_constants t p lane c h l5 are = record {
  long = length-map-range_with_len (λ m. check_of p.shape.dealers m c) 0 p.shape.checks;
  each = λ m lt.
      subst (IsOpened p.shape (syndromes_heard p) lane m) (sym (syndrome_at p.shape.dealers p.shape.checks m c lt)) (opened_is t p lane m c h l5 lt are);
}

-- ---- the combination
minus_ring : (a b : Fp) → a -ₚ (a -ₚ b) ≡ b
minus_ring = by_dif2 _ (λ m n. simp difs (dif-same _ _ _ _ (omega arith)))

one_value : (c x : Fp) → eval (c ∷ []) x ≡ c
one_value c x = simp (mul_zero, add_zero)

-- what the receivers make of their subshares lies on one polynomial, whose constant is what the constants make
moved_polynomial : (p : Play) (lane k : ℕ) (c : ℕ → Fp) (e : List Fp) → AreConstants p lane c → k ≤ p.shape.dealers →
    (f : List Fp) × (eval f zeroₚ ≡ corrected k c (entry e)) × LieOn p p.shape.degree (λ receiver. corrected k (λ dealer. subshare p lane dealer receiver) (entry e)) f
moved_polynomial p lane k c e are le =
    let w : ℕ → Fp = weight_at_zero k in
    let got : IsMixture p lane w c k = mixture p lane w c are k le in
    let off : Fp = sum_to k (λ i. w i *ₚ entry e i) in (
      sub_list got.polynomial (off ∷ []),
      eval-sub got.polynomial (off ∷ []) zeroₚ ∙ ap₂ (λ a b. a -ₚ b) (sym got.at_zero) (one_value off zeroₚ) ∙ sym (sum_minus k w c (entry e)),
      record {
        short = omega (arith, length-sub got.polynomial (off ∷ []), got.lie.short);
        values = λ j s.
            sum_minus k w (λ i. subshare p lane i j) (entry e)
            ∙ ap₂ (λ a b. a -ₚ b) (got.lie.values j s) (sym (one_value off (fe j))) ∙ sym (eval-sub got.polynomial (off ∷ []) (fe j));
      },
    )

-- what is left of the constants is q
corrected_is : (n k : ℕ) (c : ℕ → Fp) (q : List Fp) → k ≤ n → n < Prime → length q ≤ k → corrected k c (entry (difference_from n c q)) ≡ eval q zeroₚ
corrected_is n k c q le h short =
    sum_same k (λ i. weight_at_zero k i *ₚ (c i -ₚ entry (difference_from n c q) i)) (λ i. weight_at_zero k i *ₚ eval q (fe i))
    (λ i a b. ap (λ v. weight_at_zero k i *ₚ v) (ap (λ v. c i -ₚ v) (difference_at n i c q a (omega (arith, b, le))) ∙ minus_ring (c i) (eval q (fe i))))
    ∙ weighs_at_zero k q (omega (arith, le, h)) short

lane_error : (t : ℕ) (p : Play) (lane : ℕ) (c : ℕ → Fp) (q : List Fp) → IsMove t p → lane < 5 → AreConstants p lane c → IsWithin p.shape.dealers t c q →
    IsLaneError p.shape (syndromes_heard p) lane (difference_from p.shape.dealers c q)
lane_error t p lane c q h l5 are near =
    let n : ℕ = p.shape.dealers in
    let bound : old_bound p.shape ≡ t = old_is t p.shape h.two in
    record {
      syndrome = syndrome_of n p.shape.checks c;
      opened = opened_constants t p lane c h l5 are;
      is = subst (λ k. IsErrorOf n (old_bound p.shape) (syndrome_of n k c) (difference_from n c q)) (sym (checks_is t p.shape h.two))
          (error_of_values n (old_bound p.shape) c q (small_dealers p.shape h.setting) (omega (arith, near.short, bound)) (omega (arith, near.few, bound)));
    }

pub move_keeps : MoveKeeps
move_keeps t p lane c q h l5 are near =
    let n : ℕ = p.shape.dealers in
    let k : ℕ = old_bound p.shape + 1 in
    let bound : old_bound p.shape ≡ t = old_is t p.shape h.two in
    let fits : k ≤ n = omega (arith, bound, h.two.checks) in
    let got = moved_polynomial p lane k c (difference_from n c q) are fits in (
      lane_error t p lane c q h l5 are near,
      (got.0, got.1 ∙ corrected_is n k c q fits (small_dealers p.shape h.setting) (omega (arith, near.short, bound)), got.2),
    )

pub error_is_difference : ErrorIsDifference
error_is_difference t p lane c e h l5 are is =
    let n : ℕ = p.shape.dealers in
    let s : Shape = p.shape in
    let bound : old_bound s ≡ t = old_is t s h.two in
    let same : is.syndrome ≡ syndrome_of n s.checks c =
    one_syndrome s (syndromes_heard p) lane is.syndrome (syndrome_of n s.checks c) h.setting is.opened (opened_constants t p lane c h l5 are) in
    let error : IsErrorOf n (old_bound s) (syndrome_of n (n - old_bound s - 1) c) e =
    subst (λ k. IsErrorOf n (old_bound s) (syndrome_of n k c) e) (checks_is t s h.two) (subst (λ (zs : List Fp). IsErrorOf n (old_bound s) zs e) same is.is) in
    let got = values_of_error n (old_bound s) c e (small_dealers s h.setting) error in (
      got.0,
      record {
        short = omega (arith, got.1, bound);
        few = subst (λ (x : List Fp). nonzero_to n (entry x) ≤ t) (sym got.2) (omega (arith, error.few, bound));
      },
      got.2,
    )

-- ---- a move without result
-- the lane's syndrome has no error vector, so the lane has none
no_lane_error : (t : ℕ) (p : Play) (lane : ℕ) (syndrome e : List Fp) → IsMove t p → MoveHasNoResult p.shape (syndromes_heard p) lane syndrome → IsLaneError p.shape (syndromes_heard p) lane e → ⊥
no_lane_error t p lane syndrome e h none is =
    none.without e
    (subst (λ (zs : List Fp). IsErrorOf p.shape.dealers (old_bound p.shape) zs e) (one_syndrome p.shape (syndromes_heard p) lane is.syndrome syndrome h.setting is.opened none.named) is.is)

pub none_within : NoneWithin
none_within t p lane syndrome c h are none = (
  λ q near. no_lane_error t p lane syndrome (difference_from p.shape.dealers (c lane) q) h none (lane_error t p lane (c lane) q h none.within (are lane none.within) near),
  λ l less.
      let before = none.before l less in
      let l5 : l < 5 = omega (arith, less, none.within) in
      let got = error_is_difference t p l (c l) before.0 h l5 (are l l5) before.1 in
      (got.0, got.1),
)

not_later : (t : ℕ) (p : Play) (k l : ℕ) (ys zs : List Fp) → IsMove t p → MoveHasNoResult p.shape (syndromes_heard p) k ys → MoveHasNoResult p.shape (syndromes_heard p) l zs → k < l → ⊥
not_later t p k l ys zs h nk nl less = let before = nl.before k less in no_lane_error t p k ys before.0 h nk before.1

pub one_without_result : OneWithoutResult
one_without_result t p k l ys zs h nk nl =
    elim (cases_lt k l) [
      | inl less ↦ absurd (not_later t p k l ys zs h nk nl less)
      | inr le ↦ elim (cases_lt l k) [
        | inl more ↦ absurd (not_later t p l k zs ys h nl nk more)
        | inr ge ↦ let same : k ≡ l = omega (arith, le, ge) in
            (same, one_syndrome p.shape (syndromes_heard p) l ys zs h.setting (subst (λ n. IsOpenedSyndrome p.shape (syndromes_heard p) n ys) same nk.named) nl.named)
      ]
    ]

pub result_or_none : ResultOrNone
result_or_none t p errors lane syndrome h have none = no_lane_error t p lane syndrome (get_or errors lane []) h none (have.each lane none.within)
