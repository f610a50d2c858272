-- Where nobody is cut: nobody is late, and a command that has come to its phase isn't refused for want of members.
use Rattle.std.specs.Prelude.{◌≡◌, ◌≤◌, ℕ, List, length, Option, Ok}
use Rattle.drillbook.specs.declared.order.Order.{Order}
use Rattle.drillbook.specs.Orders.{names}
use Rattle.talk.specs.Shape.{create_shape}
use Rattle.shelf.specs.Held.{Held}
use Rattle.keyroom.specs.declared.status.Status.TheVariants.{Done}
use Rattle.keyroom.specs.Outcome.{Outcome}
use Rattle.keyroom.specs.Words.{Create, IsInRange}
use Rattle.commands.specs.Create.{create_asked, AreCreateMasks, MeansCreate}
use Rattle.commands.specs.Late.{IsLate, WasCut}
use Rattle.commands.specs.Refresh.{refresh_asked, AreRefreshMasks, MeansRefresh}
use Rattle.commands.specs.Standing.{Standing, down_in}

-- nobody was cut in any round
abbrev pub IsUncut : (ℕ → ℕ) → Type 0
IsUncut cuts = (round : ℕ) → cuts round ≡ 0

-- under the masks of a create a member that is late was cut in one of its five rounds
abbrev pub LateInCreate : Type 0
LateInCreate =
    (name : List ℕ) (n t : ℕ) (drill : Option (List ℕ)) (orders : List Order) (seeds : List (List ℕ)) (cuts : ℕ → ℕ) (masks : List ℕ) (j : ℕ) →
    IsInRange (Create name n t drill) → length seeds ≡ n → AreCreateMasks n t orders seeds cuts masks → 1 ≤ j → j ≤ n →
    IsLate (names orders) masks j → WasCut cuts 5 j

-- the same under those of a refresh
abbrev pub LateInRefresh : Type 0
LateInRefresh =
    (name : List ℕ) (drill : Option (List ℕ)) (held : Held) (st : Standing) (seeds : List (List ℕ)) (cuts : ℕ → ℕ) (masks : List ℕ) (j : ℕ) →
    refresh_asked name drill held ≡ Ok st → AreRefreshMasks st seeds cuts masks → 1 ≤ j → j ≤ st.now.n →
    IsLate (down_in st) masks j → WasCut cuts 5 j

-- a create that has come to its phase, in which nobody is cut, is done
abbrev pub UncutCreatesAreDone : Type 0
UncutCreatesAreDone =
    (name : List ℕ) (n t : ℕ) (drill : Option (List ℕ)) (held : Held) (orders : List Order) (coming : Option (List (List ℕ))) (cuts : ℕ → ℕ) (masks : List ℕ) (outcome : Outcome) →
    IsInRange (Create name n t drill) → create_asked name (create_shape n t) drill held ≡ Ok orders → IsUncut cuts →
    MeansCreate name n t drill held coming cuts masks outcome → outcome.status ≡ Done

-- so is a refresh
abbrev pub UncutRefreshesAreDone : Type 0
UncutRefreshesAreDone =
    (name : List ℕ) (drill : Option (List ℕ)) (held : Held) (st : Standing) (coming : Option (List (List ℕ))) (cuts : ℕ → ℕ) (masks : List ℕ) (outcome : Outcome) →
    refresh_asked name drill held ≡ Ok st → IsUncut cuts →
    MeansRefresh name drill held coming cuts masks outcome → outcome.status ≡ Done
