use Rattle.std.proofs.Common.{◌≡◌, ℕ, ◌+◌, ◌*◌, ◌%◌, ◌/◌, ◌<◌, refl, sym, ap, ◌∙◌, subst, arith}
use Rattle.std.proofs.lemmas.Nat.{mul-mod}
use Rattle.std.proofs.Math.Nat.{mod-eq_of_lt, div-add-mod, add-mod, add-mul-mod_self_left, mod-lt}
use Rattle.std.proofs.Math.Dec.{lit<}
use Rattle.algebra61.specs.Field.{Prime, Fp, fe, ◌+ₚ◌, ◌*ₚ◌, negₚ, ◌-ₚ◌, zeroₚ, oneₚ, fe-num, same_num}

pub fe-same : (m n : ℕ) → m % Prime ≡ n % Prime → fe m ≡ fe n
unfolding fe
fe-same m n e = same_num _ _ e

pub num-fe : (n : ℕ) → (fe n).num ≡ n % Prime
unfolding fe
num-fe n = refl

-- two numbers that differ by multiples of Prime
pub fe-by : (x y a b : ℕ) → x + Prime * a ≡ y + Prime * b → fe x ≡ fe y
fe-by x y a b e =
    fe-same x y (sym (add-mul-mod_self_left x Prime a) ∙ ap (λ n. n % Prime) e ∙ add-mul-mod_self_left y Prime b)

pub fe-add : (m n : ℕ) → fe m +ₚ fe n ≡ fe (m + n)
unfolding ◌+ₚ◌
fe-add m n = fe-same _ _ (rw (num-fe m, num-fe n) (sym (add-mod m n Prime)))

pub fe-mul : (m n : ℕ) → fe m *ₚ fe n ≡ fe (m * n)
unfolding ◌*ₚ◌
fe-mul m n = fe-same _ _ (rw (num-fe m, num-fe n) (sym (mul-mod m n Prime)))

-- the difference of two numbers, as an element
unfoldable pub dif : ℕ → ℕ → Fp
dif m n = fe (m + 2305843009213693950 * n)

pub fe_dif : (m : ℕ) → fe m ≡ dif m 0
unfolding dif
fe_dif m = ap fe (omega arith)

pub dif-same : (m n k l : ℕ) → m + l ≡ k + n → dif m n ≡ dif k l
unfolding dif
dif-same m n k l e = fe-by _ _ l n (omega arith)

pub dif-add : (m n k l : ℕ) → dif m n +ₚ dif k l ≡ dif (m + k) (n + l)
unfolding dif
dif-add m n k l = fe-add _ _ ∙ ap fe (omega arith)

pub dif-neg : (m n : ℕ) → negₚ (dif m n) ≡ dif n m
unfolding dif negₚ
dif-neg m n =
    let x : ℕ = m + 2305843009213693950 * n in
    fe-by _ _ (m + n) (x / Prime + 1)
    (rw num-fe (omega (arith, div-add-mod x Prime, mod-lt x {m = Prime} (lit< tt))))

pub dif-mul : (m n k l : ℕ) → dif m n *ₚ dif k l ≡ dif (m * k + n * l) (m * l + n * k)
unfolding dif
dif-mul m n k l =
    fe-mul _ _ ∙ fe-by _ _ 0 (2305843009213693949 * (n * l)) (omega arith)

pub dif-sub : (m n k l : ℕ) → dif m n -ₚ dif k l ≡ dif (m + l) (n + k)
unfolding ◌-ₚ◌
dif-sub m n k l = ap (λ x. dif m n +ₚ x) (dif-neg k l) ∙ dif-add m n l k

-- what each element is
pub as_dif : (a : Fp) → a ≡ dif a.num 0
as_dif a = sym (fe-num a) ∙ fe_dif a.num

pub by_dif1 : (Q : Fp → Type 0) → ((m : ℕ) → Q (dif m 0)) → (a : Fp) → Q a
by_dif1 Q h a = subst Q (sym (as_dif a)) (h a.num)

pub by_dif2 : (Q : Fp → Fp → Type 0) → ((m n : ℕ) → Q (dif m 0) (dif n 0)) → (a b : Fp) → Q a b
by_dif2 Q t a b = by_dif1 (λ x. Q x b) (λ y. by_dif1 (Q (dif y 0)) (t y) b) a

pub by_dif3 : (Q : Fp → Fp → Fp → Type 0) → ((m n k : ℕ) → Q (dif m 0) (dif n 0) (dif k 0)) → (a b c : Fp) → Q a b c
by_dif3 Q t a b c = by_dif1 (λ x. Q x b c) (λ y. by_dif2 (Q (dif y 0)) (t y) b c) a

pub by_dif4 : (Q : Fp → Fp → Fp → Fp → Type 0) → ((m n k l : ℕ) → Q (dif m 0) (dif n 0) (dif k 0) (dif l 0)) → (a b c d : Fp) → Q a b c d
by_dif4 Q t a b c d = by_dif1 (λ x. Q x b c d) (λ y. by_dif3 (Q (dif y 0)) (t y) b c d) a

pub by_dif5 : (Q : Fp → Fp → Fp → Fp → Fp → Type 0) → ((m n k l i : ℕ) → Q (dif m 0) (dif n 0) (dif k 0) (dif l 0) (dif i 0)) → (a b c d e : Fp) → Q a b c d e
by_dif5 Q t a b c d e = by_dif1 (λ x. Q x b c d e) (λ y. by_dif4 (Q (dif y 0)) (t y) b c d e) a

pub by_dif6 : (Q : Fp → Fp → Fp → Fp → Fp → Fp → Type 0) → ((m n k l i j : ℕ) → Q (dif m 0) (dif n 0) (dif k 0) (dif l 0) (dif i 0) (dif j 0)) → (a b c d e f : Fp) → Q a b c d e f
by_dif6 Q t a b c d e f = by_dif1 (λ x. Q x b c d e f) (λ y. by_dif5 (Q (dif y 0)) (t y) b c d e f) a

pub by_dif7 : (Q : Fp → Fp → Fp → Fp → Fp → Fp → Fp → Type 0) → ((m n k l i j u : ℕ) → Q (dif m 0) (dif n 0) (dif k 0) (dif l 0) (dif i 0) (dif j 0) (dif u 0)) → (a b c d e f g : Fp) → Q a b c d e f g
by_dif7 Q t a b c d e f g = by_dif1 (λ x. Q x b c d e f g) (λ y. by_dif6 (Q (dif y 0)) (t y) b c d e f g) a

pub by_dif8 : (Q : Fp → Fp → Fp → Fp → Fp → Fp → Fp → Fp → Type 0) → ((m n k l i j u v : ℕ) → Q (dif m 0) (dif n 0) (dif k 0) (dif l 0) (dif i 0) (dif j 0) (dif u 0) (dif v 0)) → (a b c d e f g h : Fp) → Q a b c d e f g h
by_dif8 Q t a b c d e f g h = by_dif1 (λ x. Q x b c d e f g h) (λ y. by_dif7 (Q (dif y 0)) (t y) b c d e f g h) a

pub zero_dif : zeroₚ ≡ dif 0 0
zero_dif = fe_dif 0

pub one_dif : oneₚ ≡ dif 1 0
one_dif = fe_dif 1

pub ruleset difs = (dif-add, dif-mul, dif-neg, dif-sub, zero_dif, one_dif)

-- ---- the laws of a commutative ring
pub add_zero : (a : Fp) → a +ₚ zeroₚ ≡ a
add_zero = by_dif1 _ (λ m. simp difs (dif-same _ _ _ _ (omega arith)))

pub zero_add : (a : Fp) → zeroₚ +ₚ a ≡ a
zero_add = by_dif1 _ (λ m. simp difs (dif-same _ _ _ _ (omega arith)))

pub add_commut : (a b : Fp) → a +ₚ b ≡ b +ₚ a
add_commut = by_dif2 _ (λ m n. simp difs (dif-same _ _ _ _ (omega arith)))

pub add_assocₚ : (a b c : Fp) → (a +ₚ b) +ₚ c ≡ a +ₚ (b +ₚ c)
add_assocₚ = by_dif3 _ (λ m n k. simp difs (dif-same _ _ _ _ (omega arith)))

pub add_left_swap : (a b c : Fp) → a +ₚ (b +ₚ c) ≡ b +ₚ (a +ₚ c)
add_left_swap = by_dif3 _ (λ m n k. simp difs (dif-same _ _ _ _ (omega arith)))

pub mul_commut : (a b : Fp) → a *ₚ b ≡ b *ₚ a
mul_commut = by_dif2 _ (λ m n. simp difs (dif-same _ _ _ _ (omega arith)))

pub mul_assocₚ : (a b c : Fp) → (a *ₚ b) *ₚ c ≡ a *ₚ (b *ₚ c)
mul_assocₚ = by_dif3 _ (λ m n k. simp difs (dif-same _ _ _ _ (omega arith)))

pub mul_left_swap : (a b c : Fp) → a *ₚ (b *ₚ c) ≡ b *ₚ (a *ₚ c)
mul_left_swap = by_dif3 _ (λ m n k. simp difs (dif-same _ _ _ _ (omega arith)))

pub mul_zero : (a : Fp) → a *ₚ zeroₚ ≡ zeroₚ
mul_zero = by_dif1 _ (λ m. simp difs (dif-same _ _ _ _ (omega arith)))

pub zero_mul : (a : Fp) → zeroₚ *ₚ a ≡ zeroₚ
zero_mul = by_dif1 _ (λ m. simp difs (dif-same _ _ _ _ (omega arith)))

pub mul_one : (a : Fp) → a *ₚ oneₚ ≡ a
mul_one = by_dif1 _ (λ m. simp difs (dif-same _ _ _ _ (omega arith)))

pub one_mul : (a : Fp) → oneₚ *ₚ a ≡ a
one_mul = by_dif1 _ (λ m. simp difs (dif-same _ _ _ _ (omega arith)))

pub distrib_left : (a b c : Fp) → a *ₚ (b +ₚ c) ≡ a *ₚ b +ₚ a *ₚ c
distrib_left = by_dif3 _ (λ m n k. simp difs (dif-same _ _ _ _ (omega arith)))

pub distrib_right : (a b c : Fp) → (a +ₚ b) *ₚ c ≡ a *ₚ c +ₚ b *ₚ c
distrib_right = by_dif3 _ (λ m n k. simp difs (dif-same _ _ _ _ (omega arith)))

pub sub_self : (a : Fp) → a -ₚ a ≡ zeroₚ
sub_self = by_dif1 _ (λ m. simp difs (dif-same _ _ _ _ (omega arith)))

pub sub_add : (a b : Fp) → a -ₚ b +ₚ b ≡ a
sub_add = by_dif2 _ (λ m n. simp difs (dif-same _ _ _ _ (omega arith)))

pub add_sub : (a b : Fp) → a +ₚ b -ₚ b ≡ a
add_sub = by_dif2 _ (λ m n. simp difs (dif-same _ _ _ _ (omega arith)))

pub sub_is : (a b : Fp) → a -ₚ b ≡ a +ₚ negₚ b
sub_is = by_dif2 _ (λ m n. simp difs (dif-same _ _ _ _ (omega arith)))

pub neg_neg : (a : Fp) → negₚ (negₚ a) ≡ a
neg_neg = by_dif1 _ (λ m. simp difs (dif-same _ _ _ _ (omega arith)))

pub sub_zero : (a : Fp) → a -ₚ zeroₚ ≡ a
sub_zero = by_dif1 _ (λ m. simp difs (dif-same _ _ _ _ (omega arith)))

pub mul_sub : (a b c : Fp) → a *ₚ (b -ₚ c) ≡ a *ₚ b -ₚ a *ₚ c
mul_sub = by_dif3 _ (λ m n k. simp difs (dif-same _ _ _ _ (omega arith)))

pub sub_mul : (a b c : Fp) → (a -ₚ b) *ₚ c ≡ a *ₚ c -ₚ b *ₚ c
sub_mul = by_dif3 _ (λ m n k. simp difs (dif-same _ _ _ _ (omega arith)))

pub ruleset sorted = (add_commut, add_assocₚ, add_left_swap, mul_commut, mul_assocₚ, mul_left_swap, distrib_left, distrib_right)

-- a ≡ b where a - b is a multiple of an equation
pub zero_sub : (a b : Fp) → a -ₚ b ≡ zeroₚ → a ≡ b
zero_sub a b h = sym (sub_add a b) ∙ ap (λ x. x +ₚ b) h ∙ zero_add b

pub by_one : (a b x u v : Fp) → u ≡ v → a -ₚ b ≡ x *ₚ (u -ₚ v) → a ≡ b
by_one a b x u v h e = zero_sub a b (e ∙ ap (λ w. x *ₚ (w -ₚ v)) h ∙ ap (λ w. x *ₚ w) (sub_self v) ∙ mul_zero x)

pub by_two : (a b x u v y s t : Fp) → u ≡ v → s ≡ t → a -ₚ b ≡ x *ₚ (u -ₚ v) +ₚ y *ₚ (s -ₚ t) → a ≡ b
by_two a b x u v y s t h k e =
    zero_sub a b (e ∙ ap (λ w. x *ₚ (w -ₚ v) +ₚ y *ₚ (s -ₚ t)) h ∙ ap (λ w. x *ₚ (v -ₚ v) +ₚ y *ₚ (w -ₚ t)) k ∙ simp (sub_self, mul_zero, add_zero))

pub num-fe_small : (n : ℕ) → n < Prime → (fe n).num ≡ n
num-fe_small n h = num-fe n ∙ mod-eq_of_lt h
