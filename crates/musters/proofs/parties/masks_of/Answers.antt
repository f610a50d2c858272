use Rattle.std.proofs.Common.{rules, ◌≡◌, ℕ, ◌+◌, List, [], ◌∷◌, refl}
use Rattle.talk.specs.Shape.{Shape, seats}
use Rattle.talk.specs.Hears.{Hearing, Seated}
use Rattle.musters.proofs.parties.masks_of.Goals as goal

hearing_all : {M : Type 0} (ms : List M) → Hearing {M = M} (λ _ _. Unit {0}) 1 ms
hearing_all [] = tt
hearing_all (m ∷ ms) = (tt, hearing_all ms)

seated_all : {M : Type 0} (s : Shape) → seats s ≡ 4 → (seat : ℕ) (ms : List M) → Seated {M = M} (λ _ t _. seats t ≡ 4) s seat ms
seated_all s four seat [] = tt
seated_all s four seat (m ∷ ms) = (four, seated_all s four (seat + 1) ms)

pub run_phase-requires-after_bounds : goal.run_phase-requires-after_bounds
run_phase-requires-after_bounds g c = λ κs apart. (search rules, (search rules, (search rules, (search rules, (hearing_all c.in_ok-minds.minds.items, seated_all c.create-setting.result (search rules) 1 c.in_ok-minds.minds.items)))))
