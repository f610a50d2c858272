-- Choices and lists that are equal where their parts are.
use Rattle.std.proofs.Common.{◌≡◌, ℕ, zero, suc, ◌+◌, ◌<◌, ◌≤◌, Bool, true, false, cond, List, ◌∷◌, map, refl, ap, ap₂, ◌∙◌, arith}
use Rattle.std.specs.List.{range_with_len}
use Rattle.plays.specs.Said.{unless_down}

pub cond_same : {A : Type 0} (b : Bool) (x y u v : A) → (b ≡ true → x ≡ u) → y ≡ v → cond b x y ≡ cond b u v
cond_same true x y u v f e = f refl
cond_same false x y u v f e = e

-- by two tests that agree
pub cond_both : {A : Type 0} (b c : Bool) (x y u v : A) → b ≡ c → (c ≡ true → x ≡ u) → y ≡ v → cond b x y ≡ cond c u v
cond_both b c x y u v t f e = ap (λ d. cond d x y) t ∙ cond_same c x y u v f e

pub unless_same : {A : Type 0} (b : Bool) (said x y : A) → (b ≡ false → x ≡ y) → unless_down b said x ≡ unless_down b said y
unless_same true said x y e = refl
unless_same false said x y e = e refl

pub unless_given : {A : Type 0} (b : Bool) (said given x : A) → (b ≡ true → said ≡ given) → unless_down b said x ≡ unless_down b given x
unless_given true said given x e = e refl
unless_given false said given x e = refl

pub map_same : {A : Type 0} (f g : ℕ → A) (n a : ℕ) → ((k : ℕ) → a ≤ k → k < a + n → f k ≡ g k) → map f (range_with_len a n) ≡ map g (range_with_len a n)
map_same f g zero a h = refl
map_same {A} f g (suc n) a h =
    ap₂ (λ (x : A) (xs : List A). x ∷ xs) (h a (omega arith) (omega arith)) (map_same f g n (a + 1) (λ k l m. h k (omega arith) (omega arith)))
