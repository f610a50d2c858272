-- Members of a committee, who are numbered from 1: their masks, and their circle.
use Rattle.std.specs.Prelude.{ℕ, zero, suc, ◌+◌, ◌-◌, ◌/◌, ◌%◌, ◌^◌, Bool, not, eqb, cond, List, map, Option}
use Rattle.std.specs.List.{find}
use Rattle.talk.specs.Basics.{places}

-- the mask of those of the members 1 to n that the test names: member i has bit i - 1
abbrev pub mask_of : ℕ → (ℕ → Bool) → ℕ
mask_of zero test = 0
mask_of (suc count) test = mask_of count test + cond (test (suc count)) (2 ^ count) 0

-- the members 1 to n in their circle, from the one with index 1 + (first mod n) on
abbrev pub circle_from : ℕ → ℕ → List ℕ
circle_from n first = map (λ steps. 1 + (first + steps) % n) (places n)

-- the first in the circle whom the test doesn't name
abbrev pub first_unnamed : ℕ → ℕ → (ℕ → Bool) → Option ℕ
first_unnamed n first test = find (λ member. not (test member)) (circle_from n first)

-- the size that follows in the circle 4, 5, 7, 10, 13
abbrev pub size_after : ℕ → ℕ
size_after n = cond (eqb n 4) 5 (cond (eqb n 5) 7 (cond (eqb n 7) 10 (cond (eqb n 10) 13 4)))

-- the largest bound of a committee of n
abbrev pub largest_bound : ℕ → ℕ
largest_bound n = (n - 1) / 3
