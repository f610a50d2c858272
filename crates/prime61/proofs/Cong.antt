-- Congruence of numbers modulo d, by the multiples that make them equal: omega reads it.
use Rattle.std.proofs.Common.{◌≡◌, ℕ, zero, suc, ◌+◌, ◌*◌, ◌/◌, ◌%◌, ◌^◌, ◌<◌, ◌≤◌, inl, inr, refl, sym, ap, ◌∙◌, subst, arith}
use Rattle.std.proofs.Math.Nat.{mul-zero, mul-suc, pow-zero, div-add-mod, mod-lt, add-mul-mod_self_left}
use Rattle.std.proofs.lemmas.Nat.{pow-add}
use Rattle.std.proofs.lemmas.Bool.{cases_lt}
use Rattle.prime61.specs.Divisor.{NoDivisor}

-- x and y leave the same modulo d
pub record Cong (d x y : ℕ) : Type 0 where
  pub up : ℕ
  pub down : ℕ
  pub eq : x + d * up ≡ y + d * down

pub cong-refl : (d x : ℕ) → Cong d x x
cong-refl d x = record { up = 0; down = 0; eq = refl }

pub cong-sym : (d x y : ℕ) → Cong d x y → Cong d y x
cong-sym d x y c = record { up = c.down; down = c.up; eq = sym c.eq }

pub cong-trans : (d x y z : ℕ) → Cong d x y → Cong d y z → Cong d x z
cong-trans d x y z c e = record { up = c.up + e.up; down = c.down + e.down; eq = omega (arith, c.eq, e.eq) }

-- equal sums have equal products
mul-eq : (d x y u v a b k l : ℕ) → x + d * a ≡ y + d * b → u + d * k ≡ v + d * l → (x + d * a) * (u + d * k) ≡ (y + d * b) * (v + d * l)
mul-eq d x y u v a b k l e f = ap (λ n. n * (u + d * k)) e ∙ ap (λ n. (y + d * b) * n) f

pub cong-mul : (d x y u v : ℕ) → Cong d x y → Cong d u v → Cong d (x * u) (y * v)
cong-mul d x y u v c e = record {
  up = x * e.up + c.up * u + d * (c.up * e.up);
  down = y * e.down + c.down * v + d * (c.down * e.down);
  eq = omega (arith, mul-eq d x y u v c.up c.down e.up e.down c.eq e.eq);
}

-- a remainder, and what two equal remainders say
pub cong_of_mod : (d x : ℕ) → Cong d x (x % d)
cong_of_mod d x = record { up = 0; down = x / d; eq = omega (arith, div-add-mod x d) }

pub mod_of_cong : (d x y : ℕ) → Cong d x y → x % d ≡ y % d
mod_of_cong d x y c =
    sym (add-mul-mod_self_left x d c.up) ∙ ap (λ n. n % d) c.eq ∙ add-mul-mod_self_left y d c.down

-- a congruence holds modulo each divisor
pub cong_of_multiple : (d e n x y : ℕ) → d * e ≡ n → Cong n x y → Cong d x y
cong_of_multiple d e n x y h c = record { up = e * c.up; down = e * c.down; eq = omega (arith, c.eq, ap (λ m. m * c.up) h, ap (λ m. m * c.down) h) }

-- ---- powers that are 1
abbrev pub Unity : ℕ → ℕ → ℕ → Type 0
Unity d b k = Cong d (b ^ k) 1

pub unity-add : (d b k l : ℕ) → Unity d b k → Unity d b l → Unity d b (k + l)
unity-add d b k l p q = rw pow-add (cong-mul d _ 1 _ 1 p q)

pub unity-mul : (d b k m : ℕ) → Unity d b k → Unity d b (k * m)
unity-mul d b k zero p = rw (mul-zero, pow-zero) (cong-refl d 1)
unity-mul d b k (suc m) p = rw mul-suc (unity-add d b (k * m) k (unity-mul d b k m p) p)

pub unity-sub : (d b k l : ℕ) → Unity d b k → Unity d b (k + l) → Unity d b l
unity-sub d b k l p q =
    let e : Cong d (b ^ k * b ^ l) 1 = rw pow-add at q in
    let f : Cong d (b ^ k * b ^ l) (1 * b ^ l) = cong-mul d _ _ _ _ p (cong-refl d (b ^ l)) in
    cong-trans d _ _ _ (subst (λ n. Cong d n (b ^ k * b ^ l)) (omega arith) (cong-sym d _ _ f)) e

pub unity-mod : (d b k f : ℕ) → Unity d b k → Unity d b f → Unity d b (f % k)
unity-mod d b k f p q =
    unity-sub d b (k * (f / k)) (f % k) (unity-mul d b k (f / k) p) (subst (Unity d b) (sym (div-add-mod f k)) q)

-- ---- inverses modulo a number with no divisor but itself and 1
-- one division of m + 1 by a, multiplied by s
inverse_step : (m a q r s : ℕ) → a * q + r ≡ suc m → a * (m * q * s) + suc m * s ≡ r * s + suc m * (a * q * s)
inverse_step m a q r s e = omega (arith, ap (λ z. z * s) e)

-- where a isn't 1, an inverse of the remainder gives one of a
inverse_next : (m : ℕ) → NoDivisor (suc m) → (a : ℕ) → 1 < a → a < suc m →
    (0 < suc m % a → suc m % a < suc m → (s : ℕ) × Cong (suc m) (suc m % a * s) 1) →
    (s : ℕ) × Cong (suc m) (a * s) 1
inverse_next m p a big lt next =
    let r : ℕ = suc m % a in
    let q : ℕ = suc m / a in
    let e : a * q + r ≡ suc m = div-add-mod (suc m) a in
    let small : r < a = mod-lt (suc m) {m = a} (omega arith) in
    elim (cases_lt 0 r) [
      | inr none ↦ absurd (p a q big lt (omega (arith, e, none)))
      | inl some ↦ let i = next some (omega arith) in
          (m * q * i.0, cong-trans (suc m) _ _ _ (record { up = i.0; down = a * q * i.0; eq = inverse_step m a q r i.0 e }) i.1)
    ]

-- every number from 1 to m has an inverse modulo m + 1, by division of m + 1 again and again
pub inverse_below : (m : ℕ) → NoDivisor (suc m) → (fuel a : ℕ) → a ≤ fuel → 0 < a → a < suc m → (s : ℕ) × Cong (suc m) (a * s) 1
inverse_below m p zero a le pos lt = absurd (omega arith)
inverse_below m p (suc fuel) a le pos lt =
    elim (cases_lt 1 a) [
      | inr small ↦ (1, subst (λ n. Cong (suc m) n 1) (omega arith) (cong-refl (suc m) 1))
      | inl big ↦ inverse_next m p a big lt (inverse_below m p fuel (suc m % a) (omega (arith, mod-lt (suc m) {m = a} pos)))
    ]
