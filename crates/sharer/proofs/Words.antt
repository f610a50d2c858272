-- What a seat says: a message for each seat.
use Rattle.std.proofs.Common.{◌≡◌, ℕ, ◌+◌, ◌-◌, ◌≤◌, List, ◌∷◌, [], ◌++◌, map, sym, ap, ◌∙◌, subst, arith}
use Rattle.std.proofs.lemmas.List.FromFn.{map-range_with_len_more}
use Rattle.talk.specs.declared.messages.Ring.{Ring}
use Rattle.algebra61.specs.Field.{Fp}
use Rattle.talk.specs.Shape.{Shape, seats}
use Rattle.talk.specs.Hears.{OneEach}
use Rattle.plays.specs.Said.{points_up_to}
use Rattle.plays.specs.Stage.{Stage}
use Rattle.members.specs.Member.{Member, rings_said}
use Rattle.members.proofs.Turns.{one_each}

-- a loop over the seats
pub rings_step : (to : ℕ → Ring) (k : ℕ) (xs ys : List Ring) (r : Ring) → 1 ≤ k → xs ≡ map to (points_up_to (k - 1)) → ys ≡ xs ++ r ∷ [] → r ≡ to k → ys ≡ map to (points_up_to (k + 1 - 1))
rings_step to k xs ys r le e ey er =
    let z : k + 1 - 1 ≡ (k - 1) + 1 = omega arith in
    let o : 1 + (k - 1) ≡ k = omega (arith, le) in
    ey ∙ ap (λ (a : Ring). xs ++ a ∷ []) er ∙ ap (λ (a : List Ring). a ++ to k ∷ []) e ∙ sym (map-range_with_len_more to 1 (k - 1) k o) ∙ ap (λ n. map to (points_up_to n)) (sym z)

-- the ring messages of a member are one for each seat
pub each_said : (m : Member) (s : Shape) (seat : ℕ) (own : List (List (List Fp))) (stage : Stage) (rings : List Ring) → m.shape ≡ s → m.seat ≡ seat → 1 ≤ seat → seat ≤ seats s →
    rings ≡ rings_said s seat own stage → OneEach m.shape m.seat rings
each_said m s seat own stage rings es em from to er =
    subst (λ (z : Shape). OneEach z m.seat rings) (sym es) (subst (λ (k : ℕ). OneEach s k rings) (sym em) (subst (OneEach s seat) (sym er) (one_each s seat own stage from to)))
