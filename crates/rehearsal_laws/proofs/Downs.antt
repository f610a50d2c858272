-- Who is down in a drawn phase: at most the bound of each committee, and who was down before.
use Rattle.std.proofs.Common.{◌≡◌, ℕ, ◌+◌, ◌-◌, ◌≤◌, Bool, true, cond, leb, refl, sym, ap, ◌∙◌, arith}
use Rattle.std.proofs.lemmas.Bool.{le-leb, lt-leb, or_right}
use Rattle.sharing61.specs.Count.{how_many}
use Rattle.sharing61.proofs.Count.{how_many_more, how_many_same}
use Rattle.talk.specs.Shape.{seats}
use Rattle.talk.specs.Sync.{has}
use Rattle.scenes.specs.declared.side.Side.{Side}
use Rattle.scenes.specs.declared.scene.Scene.{Scene}
use Rattle.scenes.specs.declared.scene.Scene.TheVariants.{Create, Refresh, Move}
use Rattle.scenes.specs.Law.{AreSides}
use Rattle.scenes.specs.Orders.{shape_of}
use Rattle.scenes.specs.Scenes.{is_down_on, is_drilled, new_side, old_side}
use Rattle.rehearsal_laws.specs.Down.{down_on}
use Rattle.rehearsal_laws.specs.Played.{IsLater}

-- ---- the setting
pub receivers_are : (scene : Scene) → (shape_of scene).receivers ≡ (new_side scene).members
receivers_are (Create side) = refl
receivers_are (Refresh side) = refl
receivers_are (Move old new) = refl

pub bound_is : (scene : Scene) → (shape_of scene).bound ≡ (new_side scene).bound
bound_is (Create side) = refl
bound_is (Refresh side) = refl
bound_is (Move old new) = refl

-- the old members are among the seats
pub old_seats : (scene : Scene) → (old_side scene).members ≤ seats (shape_of scene)
old_seats (Create side) = omega arith
old_seats (Refresh side) = omega arith
old_seats (Move old new) = omega arith

-- ---- who is down
pub drilled_down : (side : Side) (member : ℕ) → is_drilled side.drilled member ≡ true → is_down_on side member ≡ true
drilled_down side member e = or_right (has side.shareless member) (is_drilled side.drilled member) e

pub old_on : (old new : Side) (seat : ℕ) → seat ≤ old.members → down_on (Move old new) seat ≡ is_down_on old seat
old_on old new seat le = ap (λ (b : Bool). cond b (is_down_on old seat) (is_drilled new.drilled (seat - old.members))) (le-leb seat old.members le)

pub new_on : (old new : Side) (member : ℕ) → 1 ≤ member → down_on (Move old new) (old.members + member) ≡ is_drilled new.drilled member
new_on old new member from =
    let e : old.members + member - old.members ≡ member = omega arith in
    ap (λ (b : Bool). cond b (is_down_on old (old.members + member)) (is_drilled new.drilled (old.members + member - old.members))) (lt-leb (old.members + member) old.members (omega (arith, from)))
    ∙ ap (is_drilled new.drilled) e

-- a receiver that is down is down on the side that holds the key then
pub receiver_down : (scene : Scene) (member : ℕ) → 1 ≤ member → down_on scene ((shape_of scene).shift + member) ≡ true → is_down_on (new_side scene) member ≡ true
receiver_down (Create side) member from e =
    let same : member ≡ 0 + member = omega arith in drilled_down side member (ap (is_drilled side.drilled) same ∙ e)
receiver_down (Refresh side) member from e = let same : member ≡ 0 + member = omega arith in ap (is_down_on side) same ∙ e
receiver_down (Move old new) member from e = drilled_down new member (sym (new_on old new member from) ∙ e)

-- on the first seats of a later phase who is down is down on the side that begins it
pub beginner_down : (scene : Scene) (seat : ℕ) → IsLater scene → seat ≤ (old_side scene).members → down_on scene seat ≡ is_down_on (old_side scene) seat
beginner_down (Create side) seat later to = absurd later
beginner_down (Refresh side) seat later to = refl
beginner_down (Move old new) seat later to = old_on old new seat to

-- ---- they are few
pub few_receivers : (scene : Scene) → AreSides scene → how_many (new_side scene).members (λ member. down_on scene ((shape_of scene).shift + member)) ≤ (new_side scene).bound
few_receivers scene sides =
    omega (
      arith,
      how_many_more (new_side scene).members (λ member. down_on scene ((shape_of scene).shift + member)) (is_down_on (new_side scene)) (λ k from to e. receiver_down scene k from e),
      sides.1.few,
    )

pub few_beginners : (scene : Scene) → IsLater scene → AreSides scene → how_many (old_side scene).members (down_on scene) ≤ (old_side scene).bound
few_beginners scene later sides =
    omega (
      arith,
      how_many_same (old_side scene).members (down_on scene) (is_down_on (old_side scene)) (λ k from to. beginner_down scene k later to),
      sides.0.few,
    )
