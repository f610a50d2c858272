-- The polynomial that is 0 on a set of members, and the sets themselves.
use Rattle.std.proofs.Common.{inl, inr, ◌≡◌, ℕ, zero, suc, ◌+◌, ◌-◌, ◌<◌, ◌≤◌, Bool, true, false, cond, List, [], ◌∷◌, length, refl, sym, ap, ap₂, ◌∙◌, arith}
use Rattle.std.proofs.lemmas.Bool.{cases_eq}
use Rattle.algebra61.specs.Field.{Fp, Prime, fe, zeroₚ, oneₚ, negₚ, ◌+ₚ◌, ◌*ₚ◌}
use Rattle.algebra61.specs.Poly.{eval, mul_list}
use Rattle.algebra61.specs.Inverse.{invₚ}
use Rattle.algebra61.proofs.Ring.{mul_zero, zero_add, add_zero, zero_mul, one_mul, dif-same, difs, by_dif1, by_dif2}
use Rattle.algebra61.proofs.Inverse.{mul_invₚ}
use Rattle.algebra61.proofs.PolyOps.{eval-mul, length-mul}
use Rattle.algebra61.proofs.Ext.{fe_apart}
use Rattle.sharing61.specs.Count.{how_many}
use Rattle.sharing61.proofs.Count.{how_many_more}
use Rattle.histories61.specs.Phases.{Within}
use Rattle.choices61.specs.Sets.{vanishing_at, vanisher_of, over_y, first_or, lowest_out}

-- ---- one member
at_zero_ring : (i : Fp) → oneₚ +ₚ zeroₚ *ₚ (negₚ i +ₚ zeroₚ *ₚ zeroₚ) ≡ oneₚ
at_zero_ring = by_dif1 _ (λ m. simp difs (dif-same _ _ _ _ (omega arith)))

at_member_ring : (x i : Fp) → oneₚ +ₚ x *ₚ (negₚ i +ₚ x *ₚ zeroₚ) ≡ oneₚ +ₚ negₚ (x *ₚ i)
at_member_ring = by_dif2 _ (λ m n. simp difs (dif-same _ _ _ _ (omega arith)))

none_ring : oneₚ +ₚ negₚ oneₚ ≡ zeroₚ
none_ring = simp difs (dif-same _ _ _ _ (omega arith))

vanishing_zero : (k : ℕ) → eval (vanishing_at k) zeroₚ ≡ oneₚ
vanishing_zero k = at_zero_ring (invₚ (fe k))

vanishing_root : (k : ℕ) → 1 ≤ k → k < Prime → eval (vanishing_at k) (fe k) ≡ zeroₚ
vanishing_root k from small =
    at_member_ring (fe k) (invₚ (fe k)) ∙ ap (λ v. oneₚ +ₚ negₚ v) (mul_invₚ (fe k) (fe_apart 0 k (omega (arith, from)) small)) ∙ none_ring

-- ---- the set
length_one : (q : List Fp) (k m : ℕ) (b : Bool) → length q ≤ m + 1 → length (cond b (mul_list (vanishing_at k) q) q) ≤ m + cond b 1 0 + 1
length_one q k m true le = omega (arith, length-mul (vanishing_at k) q, le)
length_one q k m false le = omega (arith, le)

pub length-vanisher_of : (n : ℕ) (set : ℕ → Bool) → length (vanisher_of n set) ≤ how_many n set + 1
unfolding vanisher_of
length-vanisher_of zero set = omega arith
length-vanisher_of (suc n) set = length_one (vanisher_of n set) (suc n) (how_many n set) (set (suc n)) (length-vanisher_of n set)

zero_one : (q : List Fp) (k : ℕ) (b : Bool) → eval q zeroₚ ≡ oneₚ → eval (cond b (mul_list (vanishing_at k) q) q) zeroₚ ≡ oneₚ
zero_one q k true e = eval-mul (vanishing_at k) q zeroₚ ∙ ap₂ (λ u v. u *ₚ v) (vanishing_zero k) e ∙ one_mul oneₚ
zero_one q k false e = e

constant_ring : (x : Fp) → oneₚ +ₚ x *ₚ zeroₚ ≡ oneₚ
constant_ring = by_dif1 _ (λ m. simp difs (dif-same _ _ _ _ (omega arith)))

pub vanisher_of_zero : (n : ℕ) (set : ℕ → Bool) → eval (vanisher_of n set) zeroₚ ≡ oneₚ
unfolding vanisher_of
vanisher_of_zero zero set = constant_ring zeroₚ
vanisher_of_zero (suc n) set = zero_one (vanisher_of n set) (suc n) (set (suc n)) (vanisher_of_zero n set)

root_before : (q : List Fp) (k j : ℕ) (b : Bool) → eval q (fe j) ≡ zeroₚ → eval (cond b (mul_list (vanishing_at k) q) q) (fe j) ≡ zeroₚ
root_before q k j true e = eval-mul (vanishing_at k) q (fe j) ∙ ap (λ v. eval (vanishing_at k) (fe j) *ₚ v) e ∙ mul_zero (eval (vanishing_at k) (fe j))
root_before q k j false e = e

root_here : (q : List Fp) (k : ℕ) (b : Bool) → b ≡ true → 1 ≤ k → k < Prime → eval (cond b (mul_list (vanishing_at k) q) q) (fe k) ≡ zeroₚ
root_here q k true e from small = eval-mul (vanishing_at k) q (fe k) ∙ ap (λ v. v *ₚ eval q (fe k)) (vanishing_root k from small) ∙ zero_mul (eval q (fe k))
root_here q k false e from small = let differ : false ≡ true = e in cc

pub vanisher_of_root : (n : ℕ) (set : ℕ → Bool) → n < Prime → (k : ℕ) → 1 ≤ k → k ≤ n → set k ≡ true → eval (vanisher_of n set) (fe k) ≡ zeroₚ
unfolding vanisher_of
vanisher_of_root zero set small k from to e = absurd (omega (arith, from, to))
vanisher_of_root (suc n) set small k from to e =
    elim (cases_eq k (suc n)) [
      | inl f ↦
          ap (λ j. eval (vanisher_of (suc n) set) (fe j)) f
          ∙ root_here (vanisher_of n set) (suc n) (set (suc n)) (ap set (sym f) ∙ e) (omega arith) small
      | inr ne ↦
          root_before (vanisher_of n set) (suc n) k (set (suc n)) (vanisher_of_root n set (omega (arith, small)) k from (omega (arith, ne, to)) e)
    ]

pub vanisher_of_same : (n : ℕ) (a b : ℕ → Bool) → ((k : ℕ) → 1 ≤ k → k ≤ n → a k ≡ b k) → vanisher_of n a ≡ vanisher_of n b
unfolding vanisher_of
vanisher_of_same zero a b h = refl
vanisher_of_same (suc n) a b h =
    ap₂ (λ (c : Bool) (q : List Fp). cond c (mul_list (vanishing_at (suc n)) q) q) (h (suc n) (omega arith) (omega arith)) (vanisher_of_same n a b (λ k l m. h k l (omega arith)))

-- a set within another that is no larger is the other
counted : (b : Bool) → b ≡ true → (1 ≤ cond b 1 0) × (cond b 1 0 ≤ 1)
counted true e = (omega arith, omega arith)
counted false e = let no : false ≡ true = e in cc

more_one : (b c : Bool) → (b ≡ true → c ≡ true) → cond b 1 0 ≤ cond c 1 0
more_one true c h = omega (arith, counted c (h refl))
more_one false c h = omega arith

same_one : (b c : Bool) → (b ≡ true → c ≡ true) → cond c 1 0 ≤ cond b 1 0 → b ≡ c
same_one true c h le = sym (h refl)
same_one false true h le = absurd (omega (arith, le))
same_one false false h le = refl

pub within_same : (n : ℕ) (a b : ℕ → Bool) → Within n a b → how_many n b ≤ how_many n a → (k : ℕ) → 1 ≤ k → k ≤ n → a k ≡ b k
within_same zero a b w le k k1 kn = absurd (omega (arith, k1, kn))
within_same (suc n) a b w le k k1 kn =
    let low = how_many_more n a b (λ i l m. w i l (omega arith)) in
    let top = more_one (a (suc n)) (b (suc n)) (w (suc n) (omega arith) (omega arith)) in
    elim (cases_eq k (suc n)) [
      | inl f ↦ ap a f ∙ same_one (a (suc n)) (b (suc n)) (w (suc n) (omega arith) (omega arith)) (omega (arith, low, le)) ∙ ap b (sym f)
      | inr ne ↦ within_same n a b (λ i l m. w i l (omega arith)) (omega (arith, top, le)) k k1 (omega (arith, ne, kn))
    ]

-- ---- the lowest that is left out
pub record IsLowest (n : ℕ) (set : ℕ → Bool) (k : ℕ) : Type 0 where
  pub most : k ≤ n
  pub out : 1 ≤ k → set k ≡ false
  pub none : k ≡ 0 → how_many n set ≡ n

lowest_one : (n f : ℕ) (set : ℕ → Bool) (b : Bool) → set (suc n) ≡ b → IsLowest n set f → IsLowest (suc n) set (first_or f b (suc n))
lowest_one n zero set true e low = record {
  most = omega arith;
  out = λ a. absurd (omega (arith, a));
  none = λ z. omega (arith, low.none refl, counted (set (suc n)) e);
}
lowest_one n zero set false e low = record { most = omega arith; out = λ a. e; none = λ z. absurd (omega (arith, z)) }
lowest_one n (suc f) set b e low = record { most = omega (arith, low.most); out = low.out; none = λ z. absurd (omega (arith, z)) }

pub lowest_is : (n : ℕ) (set : ℕ → Bool) → IsLowest n set (lowest_out n set)
lowest_is zero set = record { most = omega arith; out = λ a. absurd (omega (arith, a)); none = λ z. refl }
lowest_is (suc n) set = lowest_one n (lowest_out n set) set (set (suc n)) refl (lowest_is n set)

positive : (k : ℕ) → (k ≡ 0 → ⊥) → 1 ≤ k
positive zero h = absurd (h refl)
positive (suc k) h = omega arith

pub record LowestOut (n : ℕ) (set : ℕ → Bool) : Type 0 where
  pub from : 1 ≤ lowest_out n set
  pub to : lowest_out n set ≤ n
  pub out : set (lowest_out n set) ≡ false

pub lowest_there : (n : ℕ) (set : ℕ → Bool) → how_many n set < n → LowestOut n set
lowest_there n set lt =
    let low = lowest_is n set in
    let pos : 1 ≤ lowest_out n set = positive (lowest_out n set) (λ z. omega (arith, low.none z, lt)) in
    record { from = pos; to = low.most; out = low.out pos }

-- ---- the quotient by y
pub eval-over_y : (p : List Fp) (y : Fp) → eval p zeroₚ ≡ zeroₚ → y *ₚ eval (over_y p) y ≡ eval p y
eval-over_y [] y e = mul_zero y
eval-over_y (c ∷ cs) y e =
    let c0 : c ≡ zeroₚ = sym (ap (λ v. c +ₚ v) (zero_mul (eval cs zeroₚ)) ∙ add_zero c) ∙ e in
    sym (ap (λ v. v +ₚ y *ₚ eval cs y) c0 ∙ zero_add (y *ₚ eval cs y))

pub length-over_y : (p : List Fp) → length (over_y p) ≤ length p - 1
length-over_y [] = omega arith
length-over_y (c ∷ cs) = omega arith
