-- Polynomials as lists of coefficients, the constant first.
use Rattle.std.specs.Prelude.{◌≡◌, ℕ, ◌+◌, ◌*◌, ◌≤◌, List, [], ◌∷◌, length, Bool, true, false, eqb, get_or}
use Rattle.algebra61.specs.Field.{Fp, ◌+ₚ◌, ◌*ₚ◌, zeroₚ}

-- the value at x
abbrev pub eval : List Fp → Fp → Fp
eval [] x = zeroₚ
eval (c ∷ cs) x = c +ₚ x *ₚ eval cs x

-- the coefficient of x^k, 0 past the end
abbrev pub coeff : List Fp → ℕ → Fp
coeff cs k = get_or cs k zeroₚ

-- the sum
abbrev pub add_list : List Fp → List Fp → List Fp
add_list [] q = q
add_list (a ∷ p) [] = a ∷ p
add_list (a ∷ p) (b ∷ q) = (a +ₚ b) ∷ add_list p q

-- the multiple by k
abbrev pub scale_list : Fp → List Fp → List Fp
scale_list k [] = []
scale_list k (c ∷ cs) = (k *ₚ c) ∷ scale_list k cs

-- the product
abbrev pub mul_list : List Fp → List Fp → List Fp
mul_list [] q = []
mul_list (a ∷ p) q = add_list (scale_list a q) (zeroₚ ∷ mul_list p q)

-- every entry is 0
abbrev pub AllZero : List Fp → Type 0
AllZero [] = Unit {0}
AllZero (c ∷ cs) = (c ≡ zeroₚ) × AllZero cs

-- x is none of the list
abbrev pub Outside : Fp → List Fp → Type 0
Outside x [] = Unit {0}
Outside x (y ∷ ys) = (x ≡ y → ⊥) × Outside x ys

-- no two entries are the same
abbrev pub Distinct : List Fp → Type 0
Distinct [] = Unit {0}
Distinct (x ∷ xs) = Outside x xs × Distinct xs

-- p is 0 at each of the points
abbrev pub AllRoots : List Fp → List Fp → Type 0
AllRoots p [] = Unit {0}
AllRoots p (x ∷ xs) = (eval p x ≡ zeroₚ) × AllRoots p xs

-- a point and a value
pub record Point : Type 0 where
  pub at : Fp
  pub value : Fp

-- the points without the values
abbrev pub points : List Point → List Fp
points [] = []
points (q ∷ qs) = q.at ∷ points qs

-- p has the values of the points
abbrev pub Passes : List Fp → List Point → Type 0
Passes p [] = Unit {0}
Passes p (q ∷ qs) = (eval p q.at ≡ q.value) × Passes p qs

-- p is a polynomial of degree at most d with these values
pub record Through (d : ℕ) (qs : List Point) (p : List Fp) : Type 0 where
  pub short : length p ≤ d + 1
  pub passes : Passes p qs

abbrev pub misses_one : Bool → ℕ
misses_one true = 0
misses_one false = 1

-- at how many points p has another value
abbrev pub misses : List Fp → List Point → ℕ
misses p [] = 0
misses p (q ∷ qs) = misses_one (eqb (eval p q.at).num q.value.num) + misses p qs

-- p has degree at most d and misses e of the points, where 2 * e + d + 1 is at most their number
pub record Near (d : ℕ) (qs : List Point) (p : List Fp) : Type 0 where
  pub short : length p ≤ d + 1
  pub close : 2 * misses p qs + d + 1 ≤ length qs

-- the values of p at the points
abbrev pub values : List Fp → List Fp → List Fp
values p [] = []
values p (x ∷ xs) = eval p x ∷ values p xs

-- the sum of the products of the entries at equal places
abbrev pub dot : List Fp → List Fp → Fp
dot [] v = zeroₚ
dot (a ∷ r) [] = zeroₚ
dot (a ∷ r) (x ∷ v) = a *ₚ x +ₚ dot r v

-- w are the weights with which the values at the points xs give the value at y, for each polynomial with no more coefficients than there are points
pub record WeighsAt (y : Fp) (xs w : List Fp) : Type 0 where
  pub long : length w ≡ length xs
  pub weighs : (p : List Fp) → length p ≤ length xs → dot w (values p xs) ≡ eval p y
