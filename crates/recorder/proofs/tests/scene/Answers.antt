use Rattle.std.proofs.Common.{◌≡◌, ℕ, ◌+◌, ◌<◌, ◌≤◌, List, length, Option, refl, sym, ◌∙◌, subst, arith}
use Rattle.algebra61.specs.Field.{Fp}
use Rattle.scenes.specs.declared.scene.Scene.{Scene}
use Rattle.scenes.specs.Law.{AreSides}
use Rattle.scenes.specs.Lawful.{AreOrders}
use Rattle.scenes.specs.Scenes.{old_side, scene_at}
use Rattle.scenes.proofs.Filling.{scene_there, scenes_count}
use Rattle.scenes.proofs.LawfulOrders.{orders_are}
use Rattle.scenes.proofs.Sides.{scenes_are}
use Rattle.recorder.specs.Begun.{HaveShares, IsBegun}
use Rattle.recorder.proofs.Begins.{begins_at}
use Rattle.recorder.proofs.tests.scene.Goals as goal

pub index-requires : goal.index-requires
index-requires c =
    let count : length c.in_ok-scenes.scenes.items ≡ c.args.place + 1 = scenes_count 4 1 c.args.number (c.args.place + 1) c.in_ok-scenes.scenes.items c.in_ok-scenes.ensures in
    omega (arith, count)

pub returns-clause-sides : goal.returns-clause-sides
returns-clause-sides c =
    let here : c.index.result.now ≡ scene_at 4 1 c.args.number c.args.place =
    c.index.ensures ∙ scene_there 4 1 c.args.number (c.args.place + 1) c.args.place c.in_ok-scenes.scenes.items c.index.result.now c.in_ok-scenes.ensures (omega arith) in
    subst AreSides (sym here) (scenes_are 4 1 c.args.number c.args.place refl refl)

pub returns-clause-told : goal.returns-clause-told
returns-clause-told c =
    let here : c.index.result.now ≡ scene_at 4 1 c.args.number c.args.place =
    c.index.ensures ∙ scene_there 4 1 c.args.number (c.args.place + 1) c.args.place c.in_ok-scenes.scenes.items c.index.result.now c.in_ok-scenes.ensures (omega arith) in
    subst AreOrders (sym here) (orders_are 4 1 c.args.number c.args.place refl refl)

pub returns-clause-begins : goal.returns-clause-begins
returns-clause-begins c =
    let here : c.index.result.now ≡ scene_at 4 1 c.args.number c.args.place =
    c.index.ensures ∙ scene_there 4 1 c.args.number (c.args.place + 1) c.args.place c.in_ok-scenes.scenes.items c.index.result.now c.in_ok-scenes.ensures (omega arith) in
    subst (λ (scene : Scene). (shares : List (Option (List Fp))) → HaveShares (old_side scene) shares → IsBegun c.args.place scene shares) (sym here)
    (λ shares have. begins_at 4 1 c.args.number c.args.place shares c.requires have)
