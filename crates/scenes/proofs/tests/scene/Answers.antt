use Rattle.std.proofs.Common.{◌≡◌, ℕ, ◌+◌, ◌<◌, ◌≤◌, length, sym, ◌∙◌, subst, arith}
use Rattle.scenes.specs.Law.{AreSides}
use Rattle.scenes.specs.Scenes.{scene_at}
use Rattle.scenes.proofs.Filling.{scene_there, scenes_count}
use Rattle.scenes.proofs.Sides.{scenes_are}
use Rattle.scenes.proofs.tests.scene.Goals as goal

pub index-requires : goal.index-requires
index-requires c =
    let committee = c.args.committee in
    let count : length c.in_ok-scenes.scenes.items ≡ c.args.phase + 1 =
    scenes_count committee.members committee.bound c.args.number (c.args.phase + 1) c.in_ok-scenes.scenes.items
    c.in_ok-scenes.ensures in
    omega (arith, count)

pub returns : goal.returns
returns c =
    let committee = c.args.committee in
    let here : c.index.result.now ≡ scene_at committee.members committee.bound c.args.number c.args.phase =
    c.index.ensures
    ∙ scene_there committee.members committee.bound c.args.number (c.args.phase + 1) c.args.phase
    c.in_ok-scenes.scenes.items c.index.result.now c.in_ok-scenes.ensures (omega arith) in
    subst AreSides (sym here)
    (scenes_are committee.members committee.bound c.args.number c.args.phase c.requires.size c.requires.bound)
