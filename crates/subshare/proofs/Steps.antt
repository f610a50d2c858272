-- Places that are opened in turn, and what the weights make.
use Rattle.std.proofs.Common.{◌≡◌, ℕ, ◌+◌, ◌*◌, ◌^◌, ◌<◌, ◌≤◌, inl, inr, List, [], ◌∷◌, ◌++◌, length, map, get_or, sym, ap, ◌∙◌, subst, arith}
use Rattle.std.specs.Prelude.{Option}
use Rattle.std.specs.List.{range_with_len}
use Rattle.std.proofs.lemmas.Bool.{cases_eq}
use Rattle.std.proofs.lemmas.List.{length-append, get_or_append_left, get_or_push}
use Rattle.std.proofs.lemmas.List.FromFn.{length-map-range_with_len}
use Rattle.algebra61.specs.Field.{Fp, fe, zeroₚ, ◌-ₚ◌, ◌*ₚ◌}
use Rattle.algebra61.specs.Poly.{eval, Distinct, WeighsAt}
use Rattle.algebra61.specs.Polynomial.{Polynomial}
use Rattle.algebra61.specs.Nearest.{IsNearest}
use Rattle.checks61.specs.Checks.{sum_to, entry, corrected}
use Rattle.checks61.proofs.Points.{distinct_from}
use Rattle.checks61.proofs.Weights.{any_weights}
use Rattle.talk.specs.declared.messages.Post.{Post}
use Rattle.talk.specs.Shape.{Shape}
use Rattle.periods.specs.Move.{syndrome_in, values_in, posted_values, IsOpened, IsOpenedSyndrome}
use Rattle.subshare.specs.Opening.{IsUnopened, IsFirstUnopened}

-- ---- one place
-- the k-th values are those of a place in a lane
pub record IsPlace (s : Shape) (post : ℕ → Post) (lane place : ℕ) (vs : List (Option Fp)) : Type 0 where
  pub values : vs ≡ posted_values s post lane place

pub place_values : (s : Shape) (post : ℕ → Post) (lane place checks k : ℕ) (vs : List (Option Fp)) → checks ≡ s.checks → k ≡ lane * checks + place → vs ≡ values_in k s post → IsPlace s post lane place vs
place_values s post lane place checks k vs ec ek e = record { values = e ∙ ap (λ n. values_in n s post) (ek ∙ ap (λ n. lane * n + place) ec) }

pub few_values : (s : Shape) (post : ℕ → Post) (k : ℕ) (vs : List (Option Fp)) → s.receivers ≤ 15 → vs ≡ values_in k s post → length vs ≤ 30
few_values s post k vs few e = omega (arith, ap length e, length-map-range_with_len (λ receiver. syndrome_in k (post receiver)) 1 s.receivers, few)

pub opened_by : (s : Shape) (post : ℕ → Post) (lane place d : ℕ) (vs : List (Option Fp)) (p : Polynomial) (z : Fp) → d ≡ s.degree → IsPlace s post lane place vs → IsNearest d vs p → z ≡ eval p.coeffs zeroₚ →
    IsOpened s post lane place z
opened_by s post lane place d vs p z ed at near ez =
    (p, subst (λ n. IsNearest n (posted_values s post lane place) p) ed (subst (λ (l : List (Option Fp)). IsNearest d l p) at.values near), ez)

pub unopened_by : (s : Shape) (post : ℕ → Post) (lane place d : ℕ) (vs : List (Option Fp)) → d ≡ s.degree → IsPlace s post lane place vs → ((p : Polynomial) → IsNearest d vs p → ⊥) → IsUnopened s post lane place
unopened_by s post lane place d vs ed at h = record {
  none = λ p near.
      h p (subst (λ (l : List (Option Fp)). IsNearest d l p) (sym at.values) (subst (λ n. IsNearest n (posted_values s post lane place) p) (sym ed) near));
}

-- ---- places in turn
-- zs are the opened values of the first k places
abbrev pub AreOpened : Shape → (ℕ → Post) → ℕ → ℕ → List Fp → Type 0
AreOpened s post lane k zs = (length zs ≡ k) × ((place : ℕ) → place < k → IsOpened s post lane place (get_or zs place zeroₚ))

pub opened_more : (s : Shape) (post : ℕ → Post) (lane k : ℕ) (xs ys : List Fp) (z : Fp) → AreOpened s post lane k xs → IsOpened s post lane k z → ys ≡ xs ++ z ∷ [] → AreOpened s post lane (k + 1) ys
opened_more s post lane k xs ys z before here e = (
  omega (arith, ap length e, length-append xs (z ∷ []), before.0),
  λ m lt. subst (λ (v : List Fp). IsOpened s post lane m (get_or v m zeroₚ)) (sym e)
      (elim (cases_eq m k) [
        | inl same ↦ subst (IsOpened s post lane m) (sym (get_or_push xs z zeroₚ m (before.0 ∙ sym same))) (subst (λ n. IsOpened s post lane n z) (sym same) here)
        | inr ne ↦ subst (IsOpened s post lane m) (sym (get_or_append_left xs (z ∷ []) zeroₚ m (omega (arith, lt, ne, before.0)))) (before.1 m (omega (arith, lt, ne)))
      ]),
)

pub first_unopened : (s : Shape) (post : ℕ → Post) (lane place : ℕ) (zs : List Fp) → place < s.checks → AreOpened s post lane place zs → IsUnopened s post lane place → IsFirstUnopened s post lane place
first_unopened s post lane place zs lt before h = record { within = lt; unopened = h; before = λ m less. (get_or zs m zeroₚ, before.1 m less) }

pub all_opened : (s : Shape) (post : ℕ → Post) (lane k : ℕ) (zs : List Fp) → k ≡ s.checks → AreOpened s post lane k zs → IsOpenedSyndrome s post lane zs
all_opened s post lane k zs e h = record { long = h.0 ∙ e; each = λ m lt. h.1 m (omega (arith, lt, e)) }

-- ---- the first points and their weights. Their number is one of 32 bits, and one more
pub first_distinct : (k : ℕ) (xs : List Fp) → k ≤ 2 ^ 32 → xs ≡ map fe (range_with_len 1 k) → Distinct xs
first_distinct k xs few e = subst Distinct (sym e) (distinct_from 1 k (omega (arith, few)))

pub weight_there : (k i : ℕ) (xs w : List Fp) → xs ≡ map fe (range_with_len 1 k) → WeighsAt zeroₚ xs w → i < k → i < length w
weight_there k i xs w e h lt = omega (arith, lt, h.long, ap length e, length-map-range_with_len fe 1 k)

pub corrected_by : (bound k m : ℕ) (xs w shares errors : List Fp) (x : Fp) → k ≡ bound + 1 → k ≤ 2 ^ 32 → m ≡ k → xs ≡ map fe (range_with_len 1 k) → WeighsAt zeroₚ xs w →
    x ≡ sum_to m (λ i. entry w i *ₚ (entry shares i -ₚ entry errors i)) → x ≡ corrected (bound + 1) (entry shares) (entry errors)
corrected_by bound k m xs w shares errors x ek few em e h ex =
    ex ∙ ap (λ n. sum_to n (λ i. entry w i *ₚ (entry shares i -ₚ entry errors i))) em
    ∙ any_weights k w (λ i. entry shares i -ₚ entry errors i) (omega (arith, few)) (subst (λ (l : List Fp). WeighsAt zeroₚ l w) e h)
    ∙ ap (λ n. corrected n (entry shares) (entry errors)) ek
