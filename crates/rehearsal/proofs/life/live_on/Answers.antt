use Rattle.std.proofs.Common.{List, Option, refl, sym, ap, ◌∙◌, subst, arith}
use Rattle.algebra61.specs.Field.{Fp}
use Rattle.viewshift.specs.Walk.{IsAt}
use Rattle.scenes.specs.Law.{AreSides}
use Rattle.scenes.specs.Lawful.{AreOrders}
use Rattle.scenes.proofs.LawfulOrders.{orders_are}
use Rattle.scenes.proofs.Sides.{scenes_are}
use Rattle.rehearsal.specs.Lived.{begun_with}
use Rattle.rehearsal.proofs.Living.{are_before, begins, each_fits_to, lives_on}
use Rattle.rehearsal.proofs.life.live_on.Goals as goal

pub record_phase-requires-clause-sides : goal.record_phase-requires-clause-sides
record_phase-requires-clause-sides g c κs within =
    subst AreSides (sym c.requires.scene) (scenes_are c.args.committee.members c.args.committee.bound c.args.number _ c.requires.size c.requires.bound)

pub record_phase-requires-clause-told : goal.record_phase-requires-clause-told
record_phase-requires-clause-told g c κs within =
    subst AreOrders (sym c.requires.scene) (orders_are c.args.committee.members c.args.committee.bound c.args.number _ c.requires.size c.requires.bound)

pub record_phase-requires-clause-begun : goal.record_phase-requires-clause-begun
record_phase-requires-clause-begun g c κs within =
    begins c.args.committee.members c.args.committee.bound c.args.number c.requires.size c.requires.bound c.args.life c.requires.lived c.args.scene.now c.old_side.result c.len-place.result c.as_slice-2.result.now
    c.len-place.ensures c.requires.scene c.old_side.ensures (c.as_slice-2.ensures.value ∙ c.in_ok-begun.ensures ∙ ap (begun_with c.old_side.result.shareless) c.as_slice.ensures.value) c.requires.few

pub play_at-requires-clause-fits : goal.play_at-requires-clause-fits
play_at-requires-clause-fits g c =
    each_fits_to c.args.committee.members c.args.committee.bound c.args.number c.requires.size c.requires.bound c.args.life c.requires.lived c.args.scene.now c.old_side.result c.len-place.result c.as_slice-2.result.now
    c.len-place.ensures c.requires.scene c.old_side.ensures (c.as_slice-2.ensures.value ∙ c.in_ok-begun.ensures ∙ ap (begun_with c.old_side.result.shareless) c.as_slice.ensures.value)
    c.in_ok-recorded.recorded.phase c.push.new.self c.in_ok-push.ensures c.in_ok-recorded.ensures.played

pub shares_left-requires-clause-fits : goal.shares_left-requires-clause-fits
shares_left-requires-clause-fits g c =
    each_fits_to c.args.committee.members c.args.committee.bound c.args.number c.requires.size c.requires.bound c.args.life c.requires.lived c.args.scene.now c.old_side.result c.len-place.result c.as_slice-2.result.now
    c.len-place.ensures c.requires.scene c.old_side.ensures (c.as_slice-2.ensures.value ∙ c.in_ok-begun.ensures ∙ ap (begun_with c.old_side.result.shareless) c.as_slice.ensures.value)
    c.in_ok-recorded.recorded.phase c.push.new.self c.in_ok-push.ensures c.in_ok-recorded.ensures.played c.len-place.result (omega arith)

pub shares_left-requires-clause-before : goal.shares_left-requires-clause-before
shares_left-requires-clause-before g c =
    subst (λ (shares : List (Option (List Fp))). IsAt c.push.new.self c.len-place.result shares) (sym c.as_slice-3.ensures.value)
    (are_before c.args.committee.members c.args.committee.bound c.args.number c.requires.size c.requires.bound c.args.life c.requires.lived c.args.scene.now c.old_side.result c.len-place.result c.as_slice-2.result.now
    c.len-place.ensures c.requires.scene c.old_side.ensures (c.as_slice-2.ensures.value ∙ c.in_ok-begun.ensures ∙ ap (begun_with c.old_side.result.shareless) c.as_slice.ensures.value)
    c.in_ok-recorded.recorded.phase c.push.new.self c.in_ok-push.ensures c.in_ok-recorded.ensures.played)

pub returns-clause-lived : goal.returns-clause-lived
returns-clause-lived g c =
    lives_on c.args.committee.members c.args.committee.bound c.args.number c.requires.size c.requires.bound c.args.life c.requires.lived c.args.scene.now c.old_side.result c.len-place.result c.as_slice-2.result.now
    c.len-place.ensures c.requires.scene c.old_side.ensures (c.as_slice-2.ensures.value ∙ c.in_ok-begun.ensures ∙ ap (begun_with c.old_side.result.shareless) c.as_slice.ensures.value)
    c.in_ok-recorded.recorded.phase c.push.new.self c.in_ok-push.ensures c.in_ok-recorded.ensures.played
    _ refl c.in_ok-recorded.recorded.accepted c.in_ok-recorded.ensures.accepted c.in_ok-push-2.ensures c.in_ok-shares.ensures
