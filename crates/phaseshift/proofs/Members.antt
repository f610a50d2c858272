-- The lowest member that a mask leaves out, and masks read from their first bit on.
use Rattle.std.proofs.Common.{inl, inr, ◌≡◌, ℕ, zero, suc, ◌+◌, ◌-◌, ◌≤◌, Bool, true, false, refl, sym, ap, ◌∙◌, arith}
use Rattle.std.proofs.lemmas.Bool.{cases_eq}
use Rattle.sharing61.specs.Count.{how_many}
use Rattle.sharing61.proofs.Count.{how_many_same}
use Rattle.talk.specs.Sync.{has}
use Rattle.choices61.specs.Sets.{first_or, lowest_out}
use Rattle.phaseshift.specs.Members.{behind}

-- where one is found, it stays
stays : (f k : ℕ) (b : Bool) → 1 ≤ f → first_or f b k ≡ f
stays zero k b from = absurd (omega (arith, from))
stays (suc f) k b from = refl

found : (f k : ℕ) (b : Bool) → f ≡ 0 → b ≡ false → first_or f b k ≡ k
found zero k true ef eb = let differ : true ≡ false = eb in cc
found zero k false ef eb = refl
found (suc f) k b ef eb = absurd (omega (arith, ef))

-- the first that isn't named, where none before it is left out
pub first_out : (n : ℕ) (set : ℕ → Bool) (k : ℕ) → 1 ≤ k → k ≤ n → lowest_out (k - 1) set ≡ 0 → set k ≡ false → lowest_out n set ≡ k
first_out zero set k from to none out = absurd (omega (arith, from, to))
first_out (suc n) set k from to none out =
    elim (cases_eq k (suc n)) [
      | inl same ↦
          let before : k - 1 ≡ n = omega (arith, same) in
          found (lowest_out n set) (suc n) (set (suc n)) (ap (λ i. lowest_out i set) (sym before) ∙ none) (ap set (sym same) ∙ out) ∙ sym same
      | inr ne ↦
          let low : lowest_out n set ≡ k = first_out n set k from (omega (arith, ne, to)) none out in
          stays (lowest_out n set) (suc n) (set (suc n)) (omega (arith, low, from)) ∙ low
    ]

-- from the first bit on
pub front : (mask k : ℕ) → behind mask 0 k ≡ has mask k
front mask k = let e : 0 + k ≡ k = omega arith in ap (has mask) e

pub count_front : (n mask : ℕ) → how_many n (behind mask 0) ≡ how_many n (has mask)
count_front n mask = how_many_same n (behind mask 0) (has mask) (λ k a b. front mask k)
