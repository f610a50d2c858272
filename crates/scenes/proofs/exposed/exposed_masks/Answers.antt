use Rattle.std.proofs.Common.{◌≡◌, ℕ, ◌+◌, ◌<◌, ◌≤◌, length, map, sym, ap, ap₂, ◌∙◌, subst, arith}
use Rattle.talk.specs.Basics.{places}
use Rattle.scenes.specs.declared.side.Side.{Side}
use Rattle.scenes.specs.declared.scene.Scene.{Scene}
use Rattle.scenes.specs.Exposed.{exposed_at, exposed_on}
use Rattle.scenes.specs.Scenes.{is_down_on, new_side, old_side, scene_at}
use Rattle.scenes.proofs.Draws.{pushed}
use Rattle.scenes.proofs.Filling.{at_last, between, scene_there, scenes_count}
use Rattle.scenes.proofs.Following.{scenes_follow}
use Rattle.scenes.proofs.Sides.{few_members, scenes_are}
use Rattle.scenes.proofs.exposed.exposed_masks.Goals as goal

pub loop-phase-init : goal.loop-phase-init
loop-phase-init c = c.new-masks.ensures

pub index-requires : goal.index-requires
index-requires c =
    let count : length c.in_ok-scenes.scenes.items ≡ c.args.periods + 1 =
    scenes_count c.args.committee.members c.args.committee.bound c.args.number (c.args.periods + 1) c.in_ok-scenes.scenes.items c.in_ok-scenes.ensures in
    omega (arith, count, c.loop-phase-test.true)

pub index-requires-in-loop-phase : goal.index-requires-in-loop-phase
index-requires-in-loop-phase c =
    let count : length c.in_ok-scenes.scenes.items ≡ c.args.periods + 1 =
    scenes_count c.args.committee.members c.args.committee.bound c.args.number (c.args.periods + 1) c.in_ok-scenes.scenes.items c.in_ok-scenes.ensures in
    omega (arith, count, c.loop-phase-test.true)

pub exposed_on-requires-clause-members : goal.exposed_on-requires-clause-members
exposed_on-requires-clause-members c =
    let here : c.index.result.now ≡ scene_at c.args.committee.members c.args.committee.bound c.args.number c.loop-phase.phase =
    c.index.ensures
    ∙ scene_there c.args.committee.members c.args.committee.bound c.args.number (c.args.periods + 1) c.loop-phase.phase c.in_ok-scenes.scenes.items c.index.result.now c.in_ok-scenes.ensures
    (omega (arith, c.loop-phase-test.true)) in
    let next : c.index-in-loop-phase.result.now ≡ scene_at c.args.committee.members c.args.committee.bound c.args.number (c.loop-phase.phase + 1) =
    c.index-in-loop-phase.ensures
    ∙ scene_there c.args.committee.members c.args.committee.bound c.args.number (c.args.periods + 1) (c.loop-phase.phase + 1) c.in_ok-scenes.scenes.items c.index-in-loop-phase.result.now c.in_ok-scenes.ensures
    (omega (arith, c.loop-phase-test.true)) in
    ap (λ (side : Side). side.members) (c.new_side-holding.ensures ∙ ap new_side here)
    ∙ sym (scenes_follow c.args.committee.members c.args.committee.bound c.args.number c.loop-phase.phase).members
    ∙ sym (ap (λ (side : Side). side.members) (c.old_side-seen.ensures ∙ ap old_side next))

pub exposed_on-requires-clause-few : goal.exposed_on-requires-clause-few
exposed_on-requires-clause-few c =
    let next : c.index-in-loop-phase.result.now ≡ scene_at c.args.committee.members c.args.committee.bound c.args.number (c.loop-phase.phase + 1) =
    c.index-in-loop-phase.ensures
    ∙ scene_there c.args.committee.members c.args.committee.bound c.args.number (c.args.periods + 1) (c.loop-phase.phase + 1) c.in_ok-scenes.scenes.items c.index-in-loop-phase.result.now c.in_ok-scenes.ensures
    (omega (arith, c.loop-phase-test.true)) in
    subst (λ (side : Side). side.members ≤ 30) (sym (c.old_side-seen.ensures ∙ ap old_side next))
    (few_members _ (scenes_are c.args.committee.members c.args.committee.bound c.args.number (c.loop-phase.phase + 1) c.requires.size c.requires.bound).0)

pub loop-phase-preserved : goal.loop-phase-preserved
loop-phase-preserved c =
    let here : c.index.result.now ≡ scene_at c.args.committee.members c.args.committee.bound c.args.number c.loop-phase.phase =
    c.index.ensures
    ∙ scene_there c.args.committee.members c.args.committee.bound c.args.number (c.args.periods + 1) c.loop-phase.phase c.in_ok-scenes.scenes.items c.index.result.now c.in_ok-scenes.ensures
    (omega (arith, c.loop-phase-test.true)) in
    let next : c.index-in-loop-phase.result.now ≡ scene_at c.args.committee.members c.args.committee.bound c.args.number (c.loop-phase.phase + 1) =
    c.index-in-loop-phase.ensures
    ∙ scene_there c.args.committee.members c.args.committee.bound c.args.number (c.args.periods + 1) (c.loop-phase.phase + 1) c.in_ok-scenes.scenes.items c.index-in-loop-phase.result.now c.in_ok-scenes.ensures
    (omega (arith, c.loop-phase-test.true)) in
    let exposed : c.exposed_on.result ≡ exposed_at c.args.committee.members c.args.committee.bound c.args.number c.args.periods c.loop-phase.phase =
    c.exposed_on.ensures
    ∙ ap₂ (λ (holding seen : Side). exposed_on holding (is_down_on seen)) (c.new_side-holding.ensures ∙ ap new_side here) (c.old_side-seen.ensures ∙ ap old_side next)
    ∙ between c.args.committee.members c.args.committee.bound c.args.number c.args.periods c.loop-phase.phase c.loop-phase-test.true in
    pushed (exposed_at c.args.committee.members c.args.committee.bound c.args.number c.args.periods) c.loop-phase.phase c.loop-phase.masks c.push.new.self c.exposed_on.result
    c.loop-phase.invariant exposed c.in_ok-push.ensures

pub index-requires-2 : goal.index-requires-2
index-requires-2 c =
    let count : length c.in_ok-scenes.scenes.items ≡ c.args.periods + 1 =
    scenes_count c.args.committee.members c.args.committee.bound c.args.number (c.args.periods + 1) c.in_ok-scenes.scenes.items c.in_ok-scenes.ensures in
    omega (arith, count)

pub exposed_on-requires-2-clause-few : goal.exposed_on-requires-2-clause-few
exposed_on-requires-2-clause-few c =
    let last : c.index-2.result.now ≡ scene_at c.args.committee.members c.args.committee.bound c.args.number c.args.periods =
    c.index-2.ensures
    ∙ scene_there c.args.committee.members c.args.committee.bound c.args.number (c.args.periods + 1) c.args.periods c.in_ok-scenes.scenes.items c.index-2.result.now c.in_ok-scenes.ensures
    (omega arith) in
    subst (λ (side : Side). side.members ≤ 30) (sym (c.new_side-last.ensures ∙ ap new_side last))
    (few_members _ (scenes_are c.args.committee.members c.args.committee.bound c.args.number c.args.periods c.requires.size c.requires.bound).1)

pub returns : goal.returns
returns c =
    let last : c.index-2.result.now ≡ scene_at c.args.committee.members c.args.committee.bound c.args.number c.args.periods =
    c.index-2.ensures
    ∙ scene_there c.args.committee.members c.args.committee.bound c.args.number (c.args.periods + 1) c.args.periods c.in_ok-scenes.scenes.items c.index-2.result.now c.in_ok-scenes.ensures
    (omega arith) in
    let exposed : c.exposed_on-2.result ≡ exposed_at c.args.committee.members c.args.committee.bound c.args.number c.args.periods c.args.periods =
    c.exposed_on-2.ensures
    ∙ ap (λ (side : Side). exposed_on side (is_down_on side)) (c.new_side-last.ensures ∙ ap new_side last)
    ∙ at_last c.args.committee.members c.args.committee.bound c.args.number c.args.periods in
    let all : c.loop-phase.phase ≡ c.args.periods = omega (arith, c.loop-phase-test.false, c.loop-phase.auto.phase-end) in
    pushed (exposed_at c.args.committee.members c.args.committee.bound c.args.number c.args.periods) c.args.periods c.loop-phase.masks c.push-2.new.self c.exposed_on-2.result
    (c.loop-phase.invariant ∙ ap (λ (k : ℕ). map (exposed_at c.args.committee.members c.args.committee.bound c.args.number c.args.periods) (places k)) all) exposed c.in_ok-push-2.ensures
