use Rattle.std.proofs.Common.{◌≡◌, ℕ, ◌+◌, ◌-◌, ◌^◌, min, length, ap, sym, ◌∙◌, arith, rules}
use Rattle.talk.specs.Shape.{seats}
use Rattle.scenes.specs.declared.scene.Scene.{Scene}
use Rattle.scenes.specs.Orders.{shape_of}
use Rattle.scenes.specs.Scenes.{scene_at}
use Rattle.rehearsal_laws.specs.Rehearsal.{scenes_to}
use Rattle.rehearsal.specs.Lived.{seats_in}
use Rattle.rehearsal.proofs.Played.{attended_more, next_scene, nothing_lived, seats_more}
use Rattle.rehearsal.proofs.life.live.Goals as goal

pub loop-place-init : goal.loop-place-init
loop-place-init g c = record {
  lived = nothing_lived c.args.committee.members c.args.committee.bound c.args.number (record { phases = c.new.result; accepted = c.new-2.result; shares = c.new-3.result }) c.new.ensures c.new-2.ensures c.new-3.ensures.items;
  count = ap length c.new.ensures;
  lent = record { faults = omega arith; attended = omega arith; stays_calm = λ calm. calm };
  attended = omega (arith, g.C.Crew.attended_has_a_last_value c.args.crew.now);
}

pub live_on-requires-clause-scene : goal.live_on-requires-clause-scene
live_on-requires-clause-scene g c κs within =
    next_scene c.args.committee.members c.args.committee.bound c.args.number c.loop-place.place c.args.scenes.now _ c.loop-place.life.phases c.requires.scenes c.loop-place-test.true c.loop-place.invariant.count

pub loop-place-preserved : goal.loop-place-preserved
loop-place-preserved g c =
    let there = next_scene c.args.committee.members c.args.committee.bound c.args.number c.loop-place.place c.args.scenes.now _ c.loop-place.life.phases c.requires.scenes c.loop-place-test.true c.loop-place.invariant.count
    ∙ ap (scene_at c.args.committee.members c.args.committee.bound c.args.number) c.loop-place.invariant.count in
    record {
      lived = c.in_ok-life.ensures.lived;
      count = c.in_ok-life.ensures.more ∙ ap (λ (n : ℕ). n + 1) c.loop-place.invariant.count;
      lent = record {
        faults = omega (arith, c.loop-place.invariant.lent.faults, c.in_ok-life.ensures.lent.faults);
        attended = omega (arith, c.loop-place.invariant.lent.attended, c.in_ok-life.ensures.lent.attended);
        stays_calm = λ calm. c.in_ok-life.ensures.lent.stays_calm (c.loop-place.invariant.lent.stays_calm calm);
      };
      attended = attended_more _ _ _ _ _ _ c.loop-place.invariant.attended c.in_ok-life.ensures.attended
          (seats_more c.args.committee.members c.args.committee.bound c.args.number c.loop-place.place
          ∙ ap (λ (scene : Scene). seats_in (scenes_to c.args.committee.members c.args.committee.bound c.args.number c.loop-place.place) + seats (shape_of scene)) (sym there));
    }

pub returns-clause-attended : goal.returns-clause-attended
returns-clause-attended g c =
    let all : c.loop-place.place ≡ length c.args.scenes.now = search rules in
    c.loop-place.invariant.attended
    ∙ ap (λ (n : ℕ). min (g.C.Crew.attended_count c.args.crew.now + n) (2 ^ 64 - 1)) (ap (λ (n : ℕ). seats_in (scenes_to c.args.committee.members c.args.committee.bound c.args.number n)) all ∙ ap seats_in (sym c.requires.scenes))
