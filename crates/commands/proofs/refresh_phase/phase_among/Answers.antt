use Rattle.std.proofs.Common.{◌∙◌, ◌-◌, refl, sym, arith}
use Rattle.talk.specs.Part.{part_made_for, part_may}
use Rattle.zeroshare.specs.Refresh.{keeper_made_for, keeper_may}
use Rattle.commands.specs.Phase.{standing_of}
use Rattle.commands.specs.Standing.{down_in}
use Rattle.commands.specs.Refresh.{holdings_in, keepers_on, setting_of}
use Rattle.commands.proofs.Phases.{drilled_hearing, drilled_seated, length-marks}
use Rattle.commands.proofs.Committees.{committee_of, largest}
use Rattle.commands.proofs.Refreshed.{length-keepers, keepers_hearing, keepers_seated, refresh_done, refresh_masks, refresh_is_phase}
use Rattle.commands.proofs.refresh_phase.phase_among.Goals as goal

pub phase_of-requires-clause-few : goal.phase_of-requires-clause-few
phase_of-requires-clause-few g c =
    rw (c.in_ok-minds.ensures, c.deref.ensures.value, c.requires.size, c.requires.bound)
    (omega (arith, length-keepers (setting_of (standing_of c.args.asked.now)) c.args.asked.now.drill (c.args.asked.now.file.t - 1) c.args.asked.now.files.items c.args.seeds.now, c.requires.ready.all, largest c.args.asked.now.file.n c.requires.ready.is_now.size))

pub phase_of-requires-clause-some : goal.phase_of-requires-clause-some
phase_of-requires-clause-some g c =
    let whole = committee_of c.args.asked.now.file.n c.args.asked.now.file.t c.requires.ready.is_now.size c.requires.ready.is_now.bound in
    omega (arith, c.requires.size, whole.third, whole.some_bad)

pub phase_of-requires-clause-seats : goal.phase_of-requires-clause-seats
phase_of-requires-clause-seats g c = rw c.refresh-setting.ensures (omega arith)

pub phase_of-requires-clause-all : goal.phase_of-requires-clause-all
phase_of-requires-clause-all g c = λ κs within.
    rw (c.in_ok-minds.ensures, c.deref.ensures.value, c.refresh-setting.ensures, c.requires.size, c.requires.bound)
    (length-keepers (setting_of (standing_of c.args.asked.now)) c.args.asked.now.drill (c.args.asked.now.file.t - 1) c.args.asked.now.files.items c.args.seeds.now ∙ c.requires.ready.all ∙ omega arith)

pub phase_of-requires-clause-fresh : goal.phase_of-requires-clause-fresh
phase_of-requires-clause-fresh g c = λ κs within.
    rw (c.in_ok-minds.ensures, c.deref.ensures.value, c.requires.size, c.requires.bound)
    (drilled_hearing (part_may keeper_may) (setting_of (standing_of c.args.asked.now)) c.args.asked.now.drill 1 (keepers_on (setting_of (standing_of c.args.asked.now)) (holdings_in (standing_of c.args.asked.now) c.args.seeds.now))
    (keepers_hearing (setting_of (standing_of c.args.asked.now)) 1 (holdings_in (standing_of c.args.asked.now) c.args.seeds.now)))

pub phase_of-requires-clause-made : goal.phase_of-requires-clause-made
phase_of-requires-clause-made g c = λ κs within.
    rw (c.in_ok-minds.ensures, c.deref.ensures.value, c.refresh-setting.ensures, c.requires.size, c.requires.bound)
    (drilled_seated (part_made_for keeper_made_for) (setting_of (standing_of c.args.asked.now)) c.args.asked.now.drill 1 (keepers_on (setting_of (standing_of c.args.asked.now)) (holdings_in (standing_of c.args.asked.now) c.args.seeds.now))
    (keepers_seated (setting_of (standing_of c.args.asked.now)) 1 (holdings_in (standing_of c.args.asked.now) c.args.seeds.now) refl))

pub phase_of-requires-clause-marks : goal.phase_of-requires-clause-marks
phase_of-requires-clause-marks g c = λ κs within.
    rw (c.in_ok-minds.ensures, c.deref.ensures.value, c.requires.size, c.requires.bound, c.requires.before)
    (length-marks (down_in (standing_of c.args.asked.now)) c.args.asked.now.file.n
    ∙ sym (length-keepers (setting_of (standing_of c.args.asked.now)) c.args.asked.now.drill (c.args.asked.now.file.t - 1) c.args.asked.now.files.items c.args.seeds.now ∙ c.requires.ready.all))

pub phase_of-requires-clause-ends : goal.phase_of-requires-clause-ends
phase_of-requires-clause-ends g c = λ κs within.
    rw (c.in_ok-minds.ensures, c.deref.ensures.value, c.refresh-setting.ensures, c.requires.size, c.requires.bound, c.requires.before)
    (refresh_done (standing_of c.args.asked.now) (committee_of c.args.asked.now.file.n c.args.asked.now.file.t c.requires.ready.is_now.size c.requires.ready.is_now.bound) c.requires.ready.all c.args.seeds.now)

pub returns-clause-left : goal.returns-clause-left
returns-clause-left g c =
    let off = rw (c.in_ok-minds.ensures, c.deref.ensures.value, c.refresh-setting.ensures, c.requires.size, c.requires.bound, c.requires.before) at c.in_ok-phase.ensures.left in (
      refresh_masks (standing_of c.args.asked.now) (committee_of c.args.asked.now.file.n c.args.asked.now.file.t c.requires.ready.is_now.size c.requires.ready.is_now.bound) c.requires.ready.all c.args.seeds.now _ c.in_ok-phase.phase off,
      refresh_is_phase (standing_of c.args.asked.now) (committee_of c.args.asked.now.file.n c.args.asked.now.file.t c.requires.ready.is_now.size c.requires.ready.is_now.bound) c.requires.ready.all c.args.seeds.now _ c.in_ok-phase.phase off,
    )
