-- What the drilled members of a phase are told: one order for each committee that has a drilled member.
use Rattle.std.specs.Prelude.{ℕ, ◌+◌, ◌%◌, eqb, cond, List, [], ◌∷◌, ◌++◌, Option, Some, None}
use Rattle.algebra61.specs.Field.{oneₚ}
use Rattle.talk.specs.Shape.{Shape, create_shape, refresh_shape, move_shape}
use Rattle.drillbook.specs.declared.order.Verb.{Verb}
use Rattle.drillbook.specs.declared.order.Verb.TheVariants.{Silent, Skew, Wrong, Accuse, Veto}
use Rattle.drillbook.specs.declared.order.Order.{Order}
use Rattle.scenes.specs.declared.side.Side.{Side}
use Rattle.scenes.specs.declared.scene.Scene.{Scene}
use Rattle.scenes.specs.declared.scene.Scene.TheVariants.{Create, Refresh, Move}

abbrev pub order : ℕ → ℕ → Verb → Order
order party round verb = record { party = party; round = round; verb = verb }

-- by its manner, from 0 to 3
abbrev pub by_manner : {A : Type 0} → ℕ → A → A → A → A → A
by_manner manner first second third fourth = cond (eqb manner 0) first (cond (eqb manner 1) second (cond (eqb manner 2) third fourth))

-- the member that follows in the circle of n
abbrev pub following : ℕ → ℕ → ℕ
following n member = member % n + 1

-- the order for who is drilled, if anybody is
abbrev pub for_drilled : (ℕ → Order) → Option ℕ → Option Order
for_drilled order None = None
for_drilled order (Some member) = Some (order member)

-- of a committee that deals and receives
abbrev pub told_among : Side → Option Order
told_among side =
    for_drilled
    (λ member.
    by_manner side.manner
    (order member 1 Silent)
    (order member 1 (Skew oneₚ))
    (order member 3 (Accuse (following side.members member)))
    (order member 5 Veto))
    side.drilled

-- of one that hands a key on
abbrev pub told_leaving : Side → Option Order
told_leaving side =
    for_drilled
    (λ member.
    by_manner side.manner
    (order member 1 Silent)
    (order member 1 (Skew oneₚ))
    (order member 1 (Wrong oneₚ))
    (order member 4 Silent))
    side.drilled

-- of one that gets it, whose members sit behind so many others
abbrev pub told_coming : ℕ → Side → Option Order
told_coming shift side =
    for_drilled
    (λ member.
    by_manner side.manner
    (order (shift + member) 1 Silent)
    (order (shift + member) 2 (Skew oneₚ))
    (order (shift + member) 3 (Accuse (following side.members member)))
    (order (shift + member) 5 Veto))
    side.drilled

-- the order in a list, if there is one
abbrev pub listed : Option Order → List Order
listed None = []
listed (Some order) = order ∷ []

abbrev pub orders_of : Scene → List Order
orders_of (Create side) = listed (told_among side)
orders_of (Refresh side) = listed (told_among side)
orders_of (Move old new) = listed (told_leaving old) ++ listed (told_coming old.members new)

-- the setting of a phase
abbrev pub shape_of : Scene → Shape
shape_of (Create side) = create_shape side.members side.bound
shape_of (Refresh side) = refresh_shape side.members side.bound
shape_of (Move old new) = move_shape old.members old.bound new.members new.bound
