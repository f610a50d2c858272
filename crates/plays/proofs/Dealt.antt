-- A dealer's message and its reveals are read as what it holds.
use Rattle.std.proofs.Common.{◌≡◌, ℕ, zero, suc, ◌+◌, ◌*◌, ◌<◌, ◌≤◌, Bool, true, false, ◌&&◌, cond, eqb, List, [], ◌∷◌, ◌++◌, length, map, Option, Some, None, refl, sym, ap, ap₂, ◌∙◌, arith, take, drop, append_assoc, length-append}
use Rattle.std.specs.List.{flat_map, range_with_len}
use Rattle.std.proofs.lemmas.Bool.{eqb-true, and_parts}
use Rattle.std.proofs.lemmas.List.FromFn.{length-map-range_with_len}
use Rattle.algebra61.specs.Field.{Fp, Prime}
use Rattle.algebra61.specs.Poly.{eval, coeff}
use Rattle.algebra61.specs.Polynomial.{Polynomial, poly}
use Rattle.algebra61.proofs.Grid.{coeffs_from, eval_coeffs}
use Rattle.sharing61.specs.Rules.{Pair}
use Rattle.sharing61.specs.Agreement.{Short}
use Rattle.sharing61.proofs.Values.{poly_same, eval-poly, length-poly}
use Rattle.talk.specs.declared.messages.Ring.TheVariants.{Dealt}
use Rattle.talk.specs.Basics.{first_of}
use Rattle.plays.specs.Read.{reveal_at, part, dealt_in}
use Rattle.plays.specs.Said.{padded, pair_list, dealt_list, reveal_item, reveal_list}
use Rattle.plays.proofs.Bridge.{two_level}

padded_from : (p : List Fp) (n a : ℕ) → map (λ k. coeff p k) (range_with_len a n) ≡ coeffs_from n a p
padded_from p zero a = refl
padded_from p (suc n) a =
    let e : a + 1 ≡ suc a = omega arith in
    ap (λ cs. coeff p a ∷ cs) (ap (λ b. map (λ k. coeff p k) (range_with_len b n)) e ∙ padded_from p n (suc a))

pub length-padded : (n : ℕ) (p : List Fp) → length (padded n p) ≡ n
length-padded n p = length-map-range_with_len (λ k. coeff p k) 0 n

pub poly-padded : (n : ℕ) (p : Polynomial) → n < Prime → length p.coeffs ≤ n → poly (padded n p.coeffs) ≡ p
poly-padded n p small le =
    poly_same (poly (padded n p.coeffs)) p (omega (arith, length-poly (padded n p.coeffs), length-padded n p.coeffs)) (omega (arith, le))
    (λ x. eval-poly (padded n p.coeffs) x ∙ ap (λ cs. eval cs x) (padded_from p.coeffs n 0) ∙ eval_coeffs n p.coeffs x le)

-- ---- parts of equal length
drop_one : {A : Type 0} (n : ℕ) (xs ys : List A) → length xs ≡ n → drop n (xs ++ ys) ≡ ys
drop_one zero [] ys e = refl
drop_one zero (x ∷ xs) ys e = absurd (omega (arith, e))
drop_one (suc n) [] ys e = absurd (omega (arith, e))
drop_one (suc n) (x ∷ xs) ys e = drop_one n xs ys (omega (arith, e))

take_one : {A : Type 0} (n : ℕ) (xs ys : List A) → length xs ≡ n → take n (xs ++ ys) ≡ xs
take_one zero [] ys e = refl
take_one zero (x ∷ xs) ys e = absurd (omega (arith, e))
take_one (suc n) [] ys e = absurd (omega (arith, e))
take_one (suc n) (x ∷ xs) ys e = ap (λ zs. x ∷ zs) (take_one n xs ys (omega (arith, e)))

drop_nil : {A : Type 0} (n : ℕ) → let xs : List A = [] in drop n xs ≡ xs
drop_nil zero = refl
drop_nil (suc n) = refl

drop_sum : {A : Type 0} (m n : ℕ) (xs : List A) → drop (m + n) xs ≡ drop n (drop m xs)
drop_sum zero n xs = ap (λ k. drop k xs) (omega arith)
drop_sum (suc m) n [] = drop_nil (suc m + n) ∙ sym (drop_nil n)
drop_sum (suc m) n (x ∷ xs) = let e : suc m + n ≡ suc (m + n) = omega arith in rw e (drop_sum m n xs)

rest_of : {A : Type 0} (f : ℕ → List A) (n : ℕ) → ((j : ℕ) → length (f j) ≡ n) → (l m a : ℕ) → l < m →
    (ys : List A) × (drop (l * n) (flat_map f (range_with_len a m)) ≡ f (a + l) ++ ys)
rest_of f n h l zero a lt = absurd (omega (arith, lt))
rest_of f n h zero (suc m) a lt =
    let z : 0 * n ≡ 0 = omega arith in
    let k : a ≡ a + 0 = omega arith in
    (flat_map f (range_with_len (a + 1) m), ap (λ j. drop j (f a ++ flat_map f (range_with_len (a + 1) m))) z ∙ ap (λ j. f j ++ flat_map f (range_with_len (a + 1) m)) k)
rest_of f n h (suc l) (suc m) a lt =
    let z : suc l * n ≡ n + l * n = omega arith in
    let k : (a + 1) + l ≡ a + suc l = omega arith in
    let got = rest_of f n h l m (a + 1) (omega (arith, lt)) in (
      got.0,
      ap (λ j. drop j (f a ++ flat_map f (range_with_len (a + 1) m))) z
          ∙ drop_sum n (l * n) (f a ++ flat_map f (range_with_len (a + 1) m))
          ∙ ap (drop (l * n)) (drop_one n (f a) (flat_map f (range_with_len (a + 1) m)) (h a))
          ∙ got.1
          ∙ ap (λ j. f j ++ got.0) k,
    )

pub dealt_read : (d : ℕ) (pair : ℕ → Pair) → d + 1 < Prime → ((l : ℕ) → Short d (pair l)) → (l : ℕ) → l < 5 → dealt_in d l (Dealt (dealt_list d pair)) ≡ pair l
dealt_read d pair small sh l lt =
    let f : ℕ → List Fp = λ k. pair_list d (pair k) in
    let a : List Fp = padded (d + 1) (pair l).row.coeffs in
    let b : List Fp = padded (d + 1) (pair l).column.coeffs in
    let n : (j : ℕ) → length (f j) ≡ 2 * (d + 1) = λ j. omega (arith, length-append (padded (d + 1) (pair j).row.coeffs) (padded (d + 1) (pair j).column.coeffs), length-padded (d + 1) (pair j).row.coeffs, length-padded (d + 1) (pair j).column.coeffs) in
    let got = rest_of f (2 * (d + 1)) n l 5 0 lt in
    let z : 0 + l ≡ l = omega arith in
    let at : drop (l * (2 * (d + 1))) (dealt_list d pair) ≡ a ++ (b ++ got.0) = got.1 ∙ ap (λ j. f j ++ got.0) z ∙ append_assoc a b got.0 in
    let first : (2 * l) * (d + 1) ≡ l * (2 * (d + 1)) = omega arith in
    let second : (2 * l + 1) * (d + 1) ≡ l * (2 * (d + 1)) + (d + 1) = omega arith in
    let row : part (d + 1) (2 * l) (dealt_list d pair) ≡ a = ap (λ j. take (d + 1) (drop j (dealt_list d pair))) first ∙ ap (take (d + 1)) at ∙ take_one (d + 1) a (b ++ got.0) (length-padded (d + 1) (pair l).row.coeffs) in
    let col : part (d + 1) (2 * l + 1) (dealt_list d pair) ≡ b =
    ap (λ j. take (d + 1) (drop j (dealt_list d pair))) second
    ∙ ap (take (d + 1)) (drop_sum (l * (2 * (d + 1))) (d + 1) (dealt_list d pair) ∙ ap (drop (d + 1)) at ∙ drop_one (d + 1) a (b ++ got.0) (length-padded (d + 1) (pair l).row.coeffs))
    ∙ take_one (d + 1) b got.0 (length-padded (d + 1) (pair l).column.coeffs) in
    ap₂ (λ (r c : Polynomial). let q : Pair = record { row = r; column = c } in q)
    (ap poly row ∙ poly-padded (d + 1) (pair l).row small (sh l).across)
    (ap poly col ∙ poly-padded (d + 1) (pair l).column small (sh l).down)

-- ---- reveals
told_is : (d : ℕ) (p : Pair) → d + 1 < Prime → Short d p → (let q : Pair = record { row = poly (padded (d + 1) p.row.coeffs); column = poly (padded (d + 1) p.column.coeffs) } in q ≡ p)
told_is d p small s =
    ap₂ (λ (r c : Polynomial). let q : Pair = record { row = r; column = c } in q) (poly-padded (d + 1) p.row small s.across) (poly-padded (d + 1) p.column small s.down)

reveal_some : (d l j m k : ℕ) (o : ℕ → ℕ → Option Pair) (p q : Pair) (b : Bool) → q ≡ p → o m k ≡ Some p → (eqb m l && eqb k j) ≡ b → first_of b q None ≡ cond b (o l j) None
reveal_some d l j m k o p q true eq e h =
    let both = and_parts (eqb m l) (eqb k j) h in
    ap (λ (x : Pair). Some x) eq ∙ sym e ∙ ap₂ o (eqb-true m l both.0) (eqb-true k j both.1)
reveal_some d l j m k o p q false eq e h = refl

reveal_none : (l j m k : ℕ) (o : ℕ → ℕ → Option Pair) (b : Bool) → o m k ≡ None → (eqb m l && eqb k j) ≡ b → None ≡ cond b (o l j) None
reveal_none l j m k o true e h =
    let both = and_parts (eqb m l) (eqb k j) h in
    sym e ∙ ap₂ o (eqb-true m l both.0) (eqb-true k j both.1)
reveal_none l j m k o false e h = refl

reveal_item_at : (d l j m k : ℕ) (o : ℕ → ℕ → Option Pair) (q : Option Pair) → d + 1 < Prime → ((p : Pair) → q ≡ Some p → Short d p) → o m k ≡ q → reveal_at l j (reveal_item d m k q) ≡ cond (eqb m l && eqb k j) (o l j) None
reveal_item_at d l j m k o None small sh e = reveal_none l j m k o (eqb m l && eqb k j) e refl
reveal_item_at d l j m k o (Some p) small sh e = reveal_some d l j m k o p _ (eqb m l && eqb k j) (told_is d p small (sh p refl)) e refl

pub reveal_read : (d n : ℕ) (o : ℕ → ℕ → Option Pair) → d + 1 < Prime → ((l j : ℕ) (p : Pair) → o l j ≡ Some p → Short d p) → (l j : ℕ) → l < 5 → 1 ≤ j → j ≤ n → reveal_at l j (reveal_list d n o) ≡ o l j
reveal_read d n o small sh l j l5 j1 jn =
    two_level _ _ (λ m k. reveal_item d m k (o m k)) (o l j) l j 5 n (λ m k. reveal_item_at d l j m k o (o m k) small (λ p e. sh m k p e) refl) l5 j1 jn
