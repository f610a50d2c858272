-- A certificate that a number has no divisor but itself and 1: an element whose order is a product of small primes above the number's root.
use Rattle.std.proofs.Common.{◌≡◌, ◌≢◌, ℕ, zero, suc, ◌+◌, ◌-◌, ◌*◌, ◌/◌, ◌%◌, ◌^◌, ◌<◌, ◌≤◌, inl, inr, refl, sym, ap, ◌∙◌, subst, arith, Bool, true, false, cond, not, ◌&&◌, eqb, eqb→eq, List, [], ◌∷◌, le_refl, lit<, lit≤, subst₂, T}
use Rattle.std.proofs.Math.Nat.{mul-le-mul, zero-mul, mul-le-mul_right, mul_comm, pow-zero, div-add-mod, mod-lt, mod-eq_of_lt, zero-mod, mul-mod_right, eq_of_mul-eq-mul_left, pow-suc, one-mul, mul-le-mul_left}
use Rattle.std.proofs.lemmas.Nat.{pow-add}
use Rattle.std.proofs.lemmas.Bool.{cases_eq, cases_lt}
use Rattle.prime61.proofs.Cong.{Cong, Unity, cong-refl, cong-sym, cong-trans, cong-mul, cong_of_mod, mod_of_cong, cong_of_multiple, unity-mul, unity-sub, unity-mod, inverse_below}
use Rattle.prime61.specs.Divisor.{NoDivisor}
use Rattle.prime61.proofs.Pigeon.{pigeon, Clash}

-- b ^ e modulo n by squares, for e below 2 ^ fuel
unfoldable pub powm : ℕ → ℕ → ℕ → ℕ → ℕ
powm zero n b e = 1
powm (suc k) n b e = let h = powm k n b (e / 2) in (cond (eqb (e % 2) 1) b 1 * (h * h)) % n

power_even : (b e : ℕ) → e % 2 ≡ 0 → b ^ e ≡ 1 * (b ^ (e / 2) * b ^ (e / 2))
power_even b e h =
    let k : e ≡ e / 2 + e / 2 = omega arith in
    ap (λ i. b ^ i) k ∙ pow-add b (e / 2) (e / 2) ∙ sym (one-mul _)

power_odd : (b e : ℕ) → e % 2 ≡ 1 → b ^ e ≡ b * (b ^ (e / 2) * b ^ (e / 2))
power_odd b e h =
    let k : e ≡ suc (e / 2 + e / 2) = omega arith in
    ap (λ i. b ^ i) k ∙ pow-suc b (e / 2 + e / 2) ∙ ap (λ x. x * b) (pow-add b (e / 2) (e / 2)) ∙ omega arith

even_from : (e : ℕ) → eqb (e % 2) 1 ≡ false → e % 2 ≡ 0
even_from e t = grind arith

powm_step : (n b e h : ℕ) → Cong n (b ^ (e / 2)) h → (t : Bool) → eqb (e % 2) 1 ≡ t → Cong n (b ^ e) ((cond t b 1 * (h * h)) % n)
powm_step n b e h c true t =
    rw (power_odd b e (eqb→eq _ _ (subst T (sym t) tt)))
    (cong-trans n _ _ _ (cong-mul n _ _ _ _ (cong-refl n b) (cong-mul n _ _ _ _ c c)) (cong_of_mod n _))
powm_step n b e h c false t =
    rw (power_even b e (even_from e t))
    (cong-trans n _ _ _ (cong-mul n _ _ _ _ (cong-refl n 1) (cong-mul n _ _ _ _ c c)) (cong_of_mod n _))

powm_odd : (k n b e : ℕ) → Cong n (b ^ (e / 2)) (powm k n b (e / 2)) → Cong n (b ^ e) (powm (suc k) n b e)
unfolding powm
powm_odd k n b e c = powm_step n b e (powm k n b (e / 2)) c (eqb (e % 2) 1) refl

pub powm_is : (k n b e : ℕ) → e < 2 ^ k → Cong n (b ^ e) (powm k n b e)
unfolding powm
powm_is zero n b e lt = let z : e ≡ 0 = omega arith in rw (z, pow-zero) (cong-refl n 1)
powm_is (suc k) n b e lt = powm_odd k n b e (powm_is k n b (e / 2) (omega arith))

-- no number from 2 to k + 1 divides n
unfoldable pub trial : ℕ → ℕ → Bool
trial n zero = true
trial n (suc k) = not (eqb (n % suc (suc k)) 0) && trial n k

trial_here : (n d : ℕ) (b : Bool) → (not (eqb (n % d) 0) && b) ≡ true → n % d ≢ 0
trial_here n d b t e = grind arith

trial_rest : (r : ℕ) (b : Bool) → (not (eqb r 0) && b) ≡ true → b ≡ true
trial_rest r b t = grind arith

trial_out : (n k d : ℕ) → trial n k ≡ true → 2 ≤ d → d ≤ suc k → n % d ≢ 0
unfolding trial
trial_out n zero d t lo hi e = absurd (omega arith)
trial_out n (suc k) d t lo hi e =
    elim (cases_eq d (suc (suc k))) [
      | inl same ↦ trial_here n (suc (suc k)) (trial n k) t (subst (λ i. n % i ≡ 0) same e)
      | inr ne ↦ trial_out n k d (trial_rest (n % suc (suc k)) (trial n k) t) lo (omega arith) e
    ]

small_prime : (q : ℕ) → trial q (q - 2) ≡ true → NoDivisor q
small_prime q t d e lo lt h =
    trial_out q (q - 2) d t lo (omega arith) (subst (λ n. n % d ≡ 0) h (mul-mod_right d e))

-- ---- the order
-- q is a prime, and b ^ (f / q) is not 1 modulo d
pub record Ready (d b f q : ℕ) : Type 0 where
  pub whole : NoDivisor q
  pub big : 2 ≤ q
  pub apart : (g : ℕ) → q * g ≡ f → Unity d b g → ⊥

abbrev pub AllReady : ℕ → ℕ → ℕ → List ℕ → Type 0
AllReady d b f [] = Unit {0}
AllReady d b f (q ∷ qs) = Ready d b f q × AllReady d b f qs

abbrev pub product : List ℕ → ℕ
product [] = 1
product (q ∷ qs) = q * product qs

-- where q is whole and does not divide m, it can be dropped from a multiple of m
drop_one : (m q k r s a b : ℕ) → q * k + r ≡ m → r * s + q * a ≡ 1 + q * b → 1 + q * (k * s + b) ≡ m * s + q * a
drop_one m q k r s a b e h = omega (arith, ap (λ z. z * s) e, h)

drop_eq : (m q x s a c u v : ℕ) → 1 + q * c ≡ m * s + q * a → q * x + m * u ≡ 0 + m * v → x + m * (c * v + a * u) ≡ 0 + m * (s * x + a * v + u * c)
drop_eq m q x s a c u v e h = omega (arith, ap (λ z. z * x) e, ap (λ z. c * z) h, ap (λ z. a * z) h)

drop_factor : (m q x : ℕ) → NoDivisor q → 2 ≤ q → 0 < m % q → Cong m (q * x) 0 → Cong m x 0
drop_factor m zero x p lo pos c = absurd (omega arith)
drop_factor m (suc q) x p lo pos c =
    let r : ℕ = m % suc q in
    let lt : r < suc q = mod-lt m {m = suc q} (omega arith) in
    let i = inverse_below q p r r (le_refl r) pos lt in
    let k : ℕ = (m / suc q) * i.0 + i.1.down in
    record {
      up = k * c.down + i.1.up * c.up;
      down = i.0 * x + i.1.up * c.down + c.up * k;
      eq = drop_eq m (suc q) x i.0 i.1.up k c.up c.down (drop_one m (suc q) (m / suc q) r i.0 i.1.up i.1.down (div-add-mod m (suc q)) i.1.eq) c.eq;
    }

pub not_one : (m : ℕ) → 2 ≤ m → Cong m 1 0 → ⊥
not_one m lo c =
    let e = mod_of_cong m 1 0 c in
    omega (arith, e, mod-eq_of_lt {n = 1} {m = m} lo, zero-mod m)

le_zero : (n : ℕ) → n ≤ 0 → n ≡ 0
le_zero n h = omega arith

exact : (m q : ℕ) → m % q ≤ 0 → q * (m / q) ≡ m
exact m q h = omega (arith, div-add-mod m q)

cofactor_big : (f k : ℕ) → k < f → k * (f / k) + f % k ≡ f → f % k ≤ 0 → 2 ≤ f / k
cofactor_big f k lt e none_left =
    elim (cases_lt 1 (f / k)) [ inl big ↦ big | inr small ↦ absurd (omega (arith, mul-le-mul_left k small, e)) ]

-- b ^ k is not 1 modulo d for a proper divisor k of f
refute : (d b f k m : ℕ) → 2 ≤ m → k * m ≡ f → Unity d b k → (qs : List ℕ) → AllReady d b f qs → Cong m (product qs) 0 → ⊥
refute d b f k m lo e u [] r c = not_one m lo c
refute d b f k m lo e u (q ∷ qs) r c =
    elim (cases_lt 0 (m % q)) [
      | inl some ↦ refute d b f k m lo e u qs r.1 (drop_factor m q _ r.0.whole r.0.big some c)
      | inr none_left ↦ r.0.apart (k * (m / q)) (omega (arith, ap (λ n. k * n) (exact m q none_left), e)) (unity-mul d b k (m / q) u)
    ]

-- no power of b below f is 1 modulo d
order : (d b f : ℕ) (qs : List ℕ) → AllReady d b f qs → product qs ≡ f → Unity d b f → (fuel k : ℕ) → k ≤ fuel → 0 < k → k < f → Unity d b k → ⊥
order d b f qs r h uf zero k le pos lt u = absurd (omega arith)
order d b f qs r h uf (suc fuel) k le pos lt u =
    elim (cases_lt 0 (f % k)) [
      | inl some ↦ order d b f qs r h uf fuel (f % k) (omega (arith, mod-lt f {m = k} pos)) some (omega (arith, mod-lt f {m = k} pos)) (unity-mod d b k f u uf)
      | inr none_left ↦ refute d b f k (f / k) (cofactor_big f k lt (div-add-mod f k) none_left) (omega (arith, div-add-mod f k)) u qs r
          (record { up = 0; down = k; eq = omega (arith, h, exact f k none_left) })
    ]

-- ---- the certificate
-- a prime of f, f divided by it, and the inverse of b ^ rest - 1
pub record Step : Type 0 where
  pub prime : ℕ
  pub rest : ℕ
  pub unit : ℕ

abbrev pub primes : List Step → List ℕ
primes [] = []
primes (s ∷ ss) = s.prime ∷ primes ss

-- what is computed of each prime
abbrev pub Checked : ℕ → ℕ → ℕ → List Step → Type 0
Checked m b f [] = Unit {0}
Checked m b f (s ∷ ss) =
    ((trial s.prime (s.prime - 2) ≡ true)
    × (2 ≤ s.prime)
    × (s.prime * s.rest ≡ f)
    × (((powm 64 (suc m) b s.rest + m) * s.unit) % suc m ≡ 1))
    × Checked m b f ss

-- modulo a divisor the power b ^ rest is not 1
step_apart : (d e m b f : ℕ) (s : Step) → 2 ≤ d → d * e ≡ suc m → f < 2 ^ 64 → 2 ≤ s.prime → s.prime * s.rest ≡ f →
    ((powm 64 (suc m) b s.rest + m) * s.unit) % suc m ≡ 1 → (g : ℕ) → s.prime * g ≡ f → Unity d b g → ⊥
step_apart d e m b f s lo h small big whole unit g same u =
    let x : ℕ = powm 64 (suc m) b s.rest in
    let here : g ≡ s.rest = eq_of_mul-eq-mul_left s.prime (omega arith) g s.rest (same ∙ sym whole) in
    let fits : s.rest < 2 ^ 64 = omega (arith, mul-le-mul_right s.rest big, whole) in
    let at_n : Cong (suc m) (b ^ s.rest) x = powm_is 64 (suc m) b s.rest fits in
    let at_d : Cong d (b ^ s.rest) x = cong_of_multiple d e (suc m) _ _ h at_n in
    let one : Cong d x 1 = cong-trans d _ _ _ (cong-sym d _ _ at_d) (subst (Unity d b) here u) in
    let gone : Cong d (x + m) 0 = record { up = one.up; down = e + one.down; eq = omega (arith, one.eq, h) } in
    let kept : Cong d ((x + m) * s.unit) 1 =
    cong_of_multiple d e (suc m) _ _ h (subst (Cong (suc m) ((x + m) * s.unit)) unit (cong_of_mod (suc m) _)) in
    not_one d lo (rw zero-mul at (cong-trans d _ _ _ (cong-sym d _ _ kept) (cong-mul d _ 0 _ _ gone (cong-refl d s.unit))))

-- what is computed modulo m + 1 holds modulo each divisor d
all_ready : (d e m b f : ℕ) (ss : List Step) → 2 ≤ d → d * e ≡ suc m → f < 2 ^ 64 → Checked m b f ss → AllReady d b f (primes ss)
all_ready d e m b f [] lo h small c = tt
all_ready d e m b f (s ∷ ss) lo h small c = (
  record {
    whole = small_prime s.prime c.0.0;
    big = c.0.1;
    apart = step_apart d e m b f s lo h small c.0.1 c.0.2 c.0.3;
  },
  all_ready d e m b f ss lo h small c.1,
)

-- each divisor is at least f
-- two equal powers give a smaller exponent whose power is 1
clash_out : (d b f : ℕ) → 2 ≤ d → Unity d b f → Clash (λ i. b ^ i % d) f → (k : ℕ) × (0 < k) × (k < f) × Unity d b k
clash_out d b f lo u c =
    let k : ℕ = c.j - c.i in
    let r : ℕ = f - c.i in
    let same : Cong d (b ^ c.i) (b ^ c.j) =
    cong-trans d _ _ _ (cong_of_mod d (b ^ c.i)) (subst (λ n. Cong d n (b ^ c.j)) (sym c.same) (cong-sym d _ _ (cong_of_mod d (b ^ c.j)))) in
    let shifted : Cong d (b ^ c.i * b ^ r) (b ^ c.j * b ^ r) = cong-mul d _ _ _ _ same (cong-refl d (b ^ r)) in
    let low : b ^ c.i * b ^ r ≡ b ^ f = sym (pow-add b c.i r) ∙ ap (λ n. b ^ n) (omega (arith, c.apart, c.below)) in
    let high : b ^ c.j * b ^ r ≡ b ^ (f + k) = sym (pow-add b c.j r) ∙ ap (λ n. b ^ n) (omega (arith, c.apart, c.below)) in
    let far : Cong d (b ^ f) (b ^ (f + k)) = subst₂ (Cong d) low high shifted in (
      k,
      omega (arith, c.apart),
      omega (arith, c.apart, c.below),
      unity-sub d b f k u (cong-trans d _ _ _ (cong-sym d _ _ far) u),
    )

divisor_big : (d e m b f : ℕ) (ss : List Step) → 2 ≤ d → d * e ≡ suc m → f < 2 ^ 64 → Checked m b f ss → product (primes ss) ≡ f → powm 64 (suc m) b f ≡ 1 → f ≤ d
divisor_big d e m b f ss lo h small c p one =
    elim (cases_lt d f) [
      | inr big ↦ big
      | inl less ↦
          let u : Unity d b f = cong_of_multiple d e (suc m) _ _ h (subst (Cong (suc m) (b ^ f)) one (powm_is 64 (suc m) b f small)) in
          let k = clash_out d b f lo u (pigeon d f (λ i. b ^ i % d) (λ i lt. mod-lt (b ^ i) {m = d} (omega arith)) less) in
          absurd (order d b f (primes ss) (all_ready d e m b f ss lo h small c) p u k.0 k.0 (le_refl k.0) k.1 k.2 k.3)
    ]

-- Pocklington's criterion
pub certified : (m b f : ℕ) (ss : List Step) → f < 2 ^ 64 → suc m < f * f → product (primes ss) ≡ f → powm 64 (suc m) b f ≡ 1 → Checked m b f ss → NoDivisor (suc m)
certified m b f ss small root p one c d e lo lt h =
    elim (cases_lt 1 e) [
      | inr few ↦ omega (arith, mul-le-mul_left d few, h)
      | inl many ↦
          omega (arith, mul-le-mul {n₁ = f} {m₁ = f} {n₂ = d} {m₂ = e} (divisor_big d e m b f ss lo h small c p one) (divisor_big e d m b f ss many (mul_comm e d ∙ h) small c p one), h)
    ]

-- ---- the certificate of 2^61 - 1: the primes 61, 151, 331 and 1321, whose product f is above its root, and b = 3 ^ ((2^61 - 2) / f)
abbrev factors : List Step
factors =
    record { prime = 61; rest = 66024901; unit = 73219245529501761 }
    ∷ record { prime = 151; rest = 26672311; unit = 1896004468068488480 }
    ∷ record { prime = 331; rest = 12167731; unit = 1881382712785867029 }
    ∷ record { prime = 1321; rest = 3048841; unit = 828993518632009434 }
    ∷ []

pub prime_p : NoDivisor 2305843009213693951
unfolding powm trial
prime_p =
    certified 2305843009213693950 2254674356018424053 4027518961 factors (lit< tt) (lit< tt) refl refl
    ((refl, lit≤ tt, refl, refl), ((refl, lit≤ tt, refl, refl), ((refl, lit≤ tt, refl, refl), ((refl, lit≤ tt, refl, refl), tt))))
