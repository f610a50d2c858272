-- The mask of the members that a test names.
use Rattle.std.proofs.Common.{◌≡◌, ◌≢◌, ℕ, zero, suc, ◌+◌, ◌-◌, ◌*◌, ◌^◌, ◌<◌, ◌≤◌, Bool, true, false, cond, eqb, refl, sym, ap, ap₂, ◌∙◌, subst, arith, inl, inr}
use Rattle.std.specs.Int.{bit_at}
use Rattle.std.proofs.lemmas.Bool.{cases_eq}
use Rattle.std.proofs.lemmas.Nat.Bits.{bit_at_cat_low, bit_at_cat_high, bit_at-zero}
use Rattle.std.proofs.Math.Pow.{pow_mono}
use Rattle.sharing61.specs.Count.{how_many}
use Rattle.sharing61.proofs.Count.{how_many_same}
use Rattle.talk.specs.Sync.{has}
use Rattle.scenes.specs.Members.{mask_of}

below_step : (b : Bool) (count mask : ℕ) → mask < 2 ^ count → mask + cond b (2 ^ count) 0 < 2 ^ suc count
below_step true count mask lt = omega (arith, lt)
below_step false count mask lt = omega (arith, lt)

pub mask_below : (n : ℕ) (test : ℕ → Bool) → mask_of n test < 2 ^ n
mask_below zero test = omega arith
mask_below (suc n) test = below_step (test (suc n)) n (mask_of n test) (mask_below n test)

-- the highest member
bit_of : Bool → ℕ
bit_of true = 1
bit_of false = 0

own_bit : (b : Bool) (count mask : ℕ) → mask < 2 ^ count → eqb (bit_at (mask + cond b (2 ^ count) 0) count) 1 ≡ b
own_bit true count mask lt =
    let shape : mask + 2 ^ count ≡ 1 * 2 ^ count + mask = omega arith in
    let none : count - count ≡ 0 = omega arith in
    let at : bit_at (1 * 2 ^ count + mask) count ≡ bit_at 1 (count - count) = bit_at_cat_high 1 count mask count lt (omega arith) in
    let one : bit_at (mask + 2 ^ count) count ≡ 1 = ap (λ (k : ℕ). bit_at k count) shape ∙ at ∙ ap (bit_at 1) none in
    ap (λ k. eqb k 1) one
own_bit false count mask lt =
    let shape : mask + 0 ≡ 0 * 2 ^ count + mask = omega arith in
    let at : bit_at (0 * 2 ^ count + mask) count ≡ bit_at 0 (count - count) = bit_at_cat_high 0 count mask count lt (omega arith) in
    let none : bit_at (mask + 0) count ≡ 0 = ap (λ (k : ℕ). bit_at k count) shape ∙ at ∙ bit_at-zero (count - count) in
    ap (λ k. eqb k 1) none

-- a lower one
low_bit : (b : Bool) (count mask place : ℕ) → place < count → bit_at (mask + cond b (2 ^ count) 0) place ≡ bit_at mask place
low_bit true count mask place lt =
    let shape : mask + 2 ^ count ≡ 1 * 2 ^ count + mask = omega arith in
    ap (λ (k : ℕ). bit_at k place) shape ∙ bit_at_cat_low 1 count mask place lt
low_bit false count mask place lt = let shape : mask + 0 ≡ mask = omega arith in ap (λ (k : ℕ). bit_at k place) shape

-- the mask has whom the test names
pub mask_has : (n : ℕ) (test : ℕ → Bool) (member : ℕ) → 1 ≤ member → member ≤ n → has (mask_of n test) member ≡ test member
mask_has zero test member from to = absurd (omega (arith, from, to))
mask_has (suc n) test member from to =
    elim (cases_eq member (suc n)) [
      | inl same ↦
          let place : member - 1 ≡ n = omega (arith, same) in
          ap (λ k. eqb (bit_at (mask_of (suc n) test) k) 1) place ∙ own_bit (test (suc n)) n (mask_of n test) (mask_below n test) ∙ ap test (sym same)
      | inr ne ↦
          let lower : member ≤ n = omega (arith, ne, to) in
          ap (λ k. eqb k 1) (low_bit (test (suc n)) n (mask_of n test) (member - 1) (omega (arith, from, lower))) ∙ mask_has n test member from lower
    ]

pub mask_count : (n : ℕ) (test : ℕ → Bool) → how_many n (has (mask_of n test)) ≡ how_many n test
mask_count n test = how_many_same n (has (mask_of n test)) test (mask_has n test)

-- nobody is in the mask 0
pub none_in : (member : ℕ) → has 0 member ≡ false
none_in member = ap (λ k. eqb k 1) (bit_at-zero (member - 1))

pub none_count : (n : ℕ) → how_many n (has 0) ≡ 0
none_count zero = refl
none_count (suc n) = let out : has 0 (suc n) ≡ false = none_in (suc n) in rw out (let before : how_many n (has 0) ≡ 0 = none_count n in omega (arith, before))

-- a mask of at most 30 members is a small number
pub small_mask : (n mask : ℕ) → n ≤ 30 → mask < 2 ^ n → mask < 2 ^ 30
small_mask n mask few lt = let up : 2 ^ n ≤ 2 ^ 30 = pow_mono few in omega (arith, lt, up)

-- one more member in a loop
pub mask_more : (test : ℕ → Bool) (member mask result : ℕ) (named : Bool) → 1 ≤ member → mask ≡ mask_of (member - 1) test → named ≡ test member → result ≡ mask + cond named (2 ^ (member - 1)) 0 → result ≡ mask_of (member + 1 - 1) test
mask_more test member mask result named from e f g =
    let own : member ≡ suc (member - 1) = omega (arith, from) in
    let next : suc (member - 1) ≡ member + 1 - 1 = omega (arith, from) in
    g
    ∙ ap₂ (λ (m : ℕ) (b : Bool). m + cond b (2 ^ (member - 1)) 0) e (f ∙ ap test own)
    ∙ ap (λ (k : ℕ). mask_of k test) next

-- it is a mask of lower members
pub mask_lower : (test : ℕ → Bool) (count mask : ℕ) → mask ≡ mask_of count test → mask < 2 ^ count
mask_lower test count mask e = subst (λ (k : ℕ). k < 2 ^ count) (sym e) (mask_below count test)
