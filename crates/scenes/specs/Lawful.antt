-- What the orders of a phase are.
use Rattle.std.specs.Prelude.{◌≡◌, ℕ, ◌-◌, Bool, true, false, ◌&&◌, ◌||◌, not}
use Rattle.std.specs.List.{list_all}
use Rattle.std.proofs.Common.{ltb}
use Rattle.sizes.specs.Committees.{is_bound, is_size}
use Rattle.drillbook.specs.declared.order.Verb.{Verb}
use Rattle.drillbook.specs.declared.order.Verb.TheVariants.{Silent, Late, Garble, Skew, Wrong, Accuse, Veto}
use Rattle.drillbook.specs.Orders.{AllLawful, names}
use Rattle.scenes.specs.declared.scene.Scene.{Scene}
use Rattle.scenes.specs.declared.scene.Scene.TheVariants.{Create, Refresh, Move}
use Rattle.scenes.specs.Scenes.{is_drilled, scene_at}
use Rattle.scenes.specs.Orders.{orders_of, shape_of}

-- who sits on the seats of a phase and is drilled
abbrev pub is_drilled_seat : Scene → ℕ → Bool
is_drilled_seat (Create side) seat = is_drilled side.drilled seat
is_drilled_seat (Refresh side) seat = is_drilled side.drilled seat
is_drilled_seat (Move old new) seat = is_drilled old.drilled seat || (ltb old.members seat && is_drilled new.drilled (seat - old.members))

abbrev pub is_late : Verb → Bool
is_late Silent = false
is_late Late = true
is_late Garble = false
is_late (Skew k) = false
is_late (Wrong k) = false
is_late (Accuse j) = false
is_late Veto = false

pub record AreOrders (scene : Scene) : Type 0 where
  -- each may stand in a drill for the setting
  pub lawful : AllLawful (shape_of scene) (orders_of scene)
  -- they name the drilled ones alone
  pub named : (seat : ℕ) → names (orders_of scene) seat ≡ is_drilled_seat scene seat
  -- nobody speaks late
  pub in_time : list_all (λ order. not (is_late order.verb)) (orders_of scene) ≡ true

abbrev pub OrdersAreLawful : Type 0
OrdersAreLawful = (members bound number phase : ℕ) → is_size members ≡ true → is_bound members bound ≡ true → AreOrders (scene_at members bound number phase)
