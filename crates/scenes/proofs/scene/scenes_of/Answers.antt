use Rattle.std.proofs.Common.{◌≡◌, ℕ, ◌+◌, ◌-◌, List, [], ◌∷◌, ◌++◌, map, sym, ap, ◌∙◌, subst, arith}
use Rattle.talk.specs.Basics.{places}
use Rattle.scenes.specs.declared.scene.Scene.{Scene}
use Rattle.scenes.specs.Law.{IsSide}
use Rattle.scenes.specs.Scenes.{HasCome, new_side, scene_at}
use Rattle.scenes.proofs.Draws.{pushed}
use Rattle.scenes.proofs.Sides.{scenes_are}
use Rattle.scenes.proofs.scene.scenes_of.Goals as goal

pub loop-phase-init : goal.loop-phase-init
loop-phase-init c =
    let come : HasCome c.args.committee.members c.args.committee.bound c.args.number 0 c.first-scene.result c.first-scene.new.numbers =
    c.first-scene.ensures c.args.number c.new-numbers.ensures in
    record {
      come = come;
      all =
          c.in_ok-push.ensures.items
          ∙ ap (λ (scenes : List Scene). scenes ++ c.first-scene.result ∷ []) c.new-scenes.ensures.items
          ∙ ap (λ (scene : Scene). scene ∷ []) come.scene_is;
    }

pub next-scene-requires-clause-side : goal.next-scene-requires-clause-side
next-scene-requires-clause-side c =
    subst (λ (scene : Scene). IsSide (new_side scene)) (sym c.loop-phase.invariant.come.scene_is)
    (scenes_are c.args.committee.members c.args.committee.bound c.args.number (c.loop-phase.phase - 1) c.requires.size c.requires.bound).1

pub loop-phase-preserved : goal.loop-phase-preserved
loop-phase-preserved c =
    let come : HasCome c.args.committee.members c.args.committee.bound c.args.number c.loop-phase.phase c.next-scene.result c.next-scene.new.numbers =
    c.next-scene.ensures c.args.committee.members c.args.committee.bound c.args.number c.loop-phase.invariant.come in
    let same : c.loop-phase.phase ≡ c.loop-phase.phase + 1 - 1 = omega arith in
    record {
      come = subst (λ (k : ℕ). HasCome c.args.committee.members c.args.committee.bound c.args.number k c.next-scene.result c.next-scene.new.numbers) same come;
      all =
          pushed (scene_at c.args.committee.members c.args.committee.bound c.args.number) c.loop-phase.phase c.loop-phase.scenes.items c.push-in-loop-phase.new.self.items c.next-scene.result
          c.loop-phase.invariant.all come.scene_is c.in_ok-push-2.ensures.items;
    }

pub returns : goal.returns
returns c =
    let all : c.loop-phase.phase ≡ c.args.periods + 1 = omega (arith, c.loop-phase-test.false, c.loop-phase.auto.phase-end (omega arith)) in
    c.loop-phase.invariant.all ∙ ap (λ (k : ℕ). map (scene_at c.args.committee.members c.args.committee.bound c.args.number) (places k)) all
