use Rattle.std.proofs.Common.{◌∙◌, ℕ, ◌+◌, List, Bool, drop, ap, refl, sym, subst, arith, length}
use Rattle.std.proofs.lemmas.Result.{err_from_is_err_and}
use Rattle.talk.specs.Shape.{Shape}
use Rattle.commands.specs.Move.{moving}
use Rattle.commands.specs.MovePhase.{AllCome}
use Rattle.commands.specs.Phase.{marked, standing_of}
use Rattle.commands.specs.Standing.{holdings}
use Rattle.commands.proofs.Asking.{phase_of_crew}
use Rattle.commands.proofs.Committees.{largest}
use Rattle.commands.proofs.Downs.{length-before, behind_after, left_after, phase_of_work, crew_refuses_nothing}
use Rattle.commands.proofs.MovingMinds.{sized_setting, sized_minds, all_minds, fresh_minds, made_minds, ended_long, behind_long, behind_done, phase_masks, leaves_phase}
use Rattle.commands.proofs.moving_phase.phase_among.Goals as goal

pub run_minds-requires-clause-all : goal.run_minds-requires-clause-all
run_minds-requires-clause-all g c = λ κs lives.
    all_minds (standing_of c.args.asked.now) c.args.committee.members c.args.committee.bound c.requires.may c.args.seeds.now _ _
    (sized_setting g.row.N g.row.M c.args.bound c.args.asked.now.file.n c.args.committee.members c.args.asked.now.file.t c.args.committee.bound _ c.requires.old c.requires.new c.requires.bound c.moving-setting.ensures)
    (sized_minds c.args.bound c.args.asked.now.file.n c.args.committee.members c.args.asked.now.file.t c.args.committee.bound c.args.asked.now.drill (holdings (moving c.args.asked.now.drill c.args.committee.bound) 1 c.args.asked.now.files.items c.args.seeds.now) _ c.requires.old c.requires.new c.requires.bound c.in_ok-minds.ensures)

pub run_minds-requires-clause-fresh : goal.run_minds-requires-clause-fresh
run_minds-requires-clause-fresh g c = λ κs lives.
    fresh_minds (standing_of c.args.asked.now) c.args.committee.members c.args.committee.bound c.requires.may c.args.seeds.now _ _
    (sized_setting g.row.N g.row.M c.args.bound c.args.asked.now.file.n c.args.committee.members c.args.asked.now.file.t c.args.committee.bound _ c.requires.old c.requires.new c.requires.bound c.moving-setting.ensures)
    (sized_minds c.args.bound c.args.asked.now.file.n c.args.committee.members c.args.asked.now.file.t c.args.committee.bound c.args.asked.now.drill (holdings (moving c.args.asked.now.drill c.args.committee.bound) 1 c.args.asked.now.files.items c.args.seeds.now) _ c.requires.old c.requires.new c.requires.bound c.in_ok-minds.ensures)

pub run_minds-requires-clause-made : goal.run_minds-requires-clause-made
run_minds-requires-clause-made g c = λ κs lives.
    made_minds (standing_of c.args.asked.now) c.args.committee.members c.args.committee.bound c.requires.may c.args.seeds.now _ _
    (sized_setting g.row.N g.row.M c.args.bound c.args.asked.now.file.n c.args.committee.members c.args.asked.now.file.t c.args.committee.bound _ c.requires.old c.requires.new c.requires.bound c.moving-setting.ensures)
    (sized_minds c.args.bound c.args.asked.now.file.n c.args.committee.members c.args.asked.now.file.t c.args.committee.bound c.args.asked.now.drill (holdings (moving c.args.asked.now.drill c.args.committee.bound) 1 c.args.asked.now.files.items c.args.seeds.now) _ c.requires.old c.requires.new c.requires.bound c.in_ok-minds.ensures)

pub returns-in_err-ran-clause-few : goal.returns-in_err-ran-clause-few
returns-in_err-ran-clause-few g c =
    let p = err_from_is_err_and c.from_residual-in_err-ran.result c.from_residual-in_err-ran.ensures.1 in
    rw (p.1, p.2) (λ refusal. absurd (crew_refuses_nothing _ _ c.in_err-ran.field-0.0 c.in_err-ran.ensures.cause refusal))

pub returns-in_err-ran-clause-cause : goal.returns-in_err-ran-clause-cause
returns-in_err-ran-clause-cause g c =
    let p = err_from_is_err_and c.from_residual-in_err-ran.result c.from_residual-in_err-ran.ensures.1 in
    rw (p.1, p.2) (phase_of_crew _ _ c.in_err-ran.field-0.0 c.in_err-ran.ensures.cause)

pub new_down_after-requires-clause-all : goal.new_down_after-requires-clause-all
new_down_after-requires-clause-all g c = omega (arith, length-before (standing_of c.args.asked.now) c.args.committee.members c.args.committee.bound c.args.seeds.now c.args.before.now c.in_ok-ran.ran.masks c.requires.before, c.requires.old)

pub returns-in_err-down-clause-few : goal.returns-in_err-down-clause-few
returns-in_err-down-clause-few g c =
    let p = err_from_is_err_and c.from_residual-in_err-down.result c.from_residual-in_err-down.ensures.1 in
    rw (p.1, p.2) (λ refusal. (
      c.in_ok-ran.ran.masks,
      phase_masks (standing_of c.args.asked.now) c.args.committee.members c.args.committee.bound c.requires.may c.args.seeds.now _ _
          (sized_setting g.row.N g.row.M c.args.bound c.args.asked.now.file.n c.args.committee.members c.args.asked.now.file.t c.args.committee.bound _ c.requires.old c.requires.new c.requires.bound c.moving-setting.ensures)
          (sized_minds c.args.bound c.args.asked.now.file.n c.args.committee.members c.args.asked.now.file.t c.args.committee.bound c.args.asked.now.drill (holdings (moving c.args.asked.now.drill c.args.committee.bound) 1 c.args.asked.now.files.items c.args.seeds.now) _ c.requires.old c.requires.new c.requires.bound c.in_ok-minds.ensures)
          _ c.in_ok-ran.ran.masks c.in_ok-ran.ensures.rounds c.in_ok-ran.ensures.allowed,
      sym (left_after (standing_of c.args.asked.now) c.args.committee.members c.args.committee.bound c.args.seeds.now c.args.before.now c.in_ok-ran.ran.masks c.requires.before g.row.N c.args.bound c.requires.old c.requires.bound) ∙ c.in_err-down.ensures.few refusal,
    ))

pub returns-in_err-down-clause-cause : goal.returns-in_err-down-clause-cause
returns-in_err-down-clause-cause g c =
    let p = err_from_is_err_and c.from_residual-in_err-down.result c.from_residual-in_err-down.ensures.1 in
    rw (p.1, p.2) (phase_of_work _ _ c.in_err-down.field-0.0 c.in_err-down.ensures.cause)

pub new_minds-receivers-requires : goal.new_minds-receivers-requires
new_minds-receivers-requires g c =
    let setting = (sized_setting g.row.N g.row.M c.args.bound c.args.asked.now.file.n c.args.committee.members c.args.asked.now.file.t c.args.committee.bound _ c.requires.old c.requires.new c.requires.bound c.moving-setting.ensures) in
    let all = ended_long c.moving-setting.result c.in_ok-ran.ran.masks c.in_ok-minds.minds.items c.in_ok-ran.ran.minds.items (all_minds (standing_of c.args.asked.now) c.args.committee.members c.args.committee.bound c.requires.may c.args.seeds.now _ _
    (sized_setting g.row.N g.row.M c.args.bound c.args.asked.now.file.n c.args.committee.members c.args.asked.now.file.t c.args.committee.bound _ c.requires.old c.requires.new c.requires.bound c.moving-setting.ensures)
    (sized_minds c.args.bound c.args.asked.now.file.n c.args.committee.members c.args.asked.now.file.t c.args.committee.bound c.args.asked.now.drill (holdings (moving c.args.asked.now.drill c.args.committee.bound) 1 c.args.asked.now.files.items c.args.seeds.now) _ c.requires.old c.requires.new c.requires.bound c.in_ok-minds.ensures)) c.in_ok-ran.ensures.minds in
    omega (arith, ap length c.deref.ensures.value, all, ap (λ (s : Shape). s.shift + s.receivers) setting, c.requires.old)

pub accepted_by-accepted-requires-clause-few : goal.accepted_by-accepted-requires-clause-few
accepted_by-accepted-requires-clause-few g c =
    omega (
      arith,
      largest c.args.committee.members c.requires.may.size,
      behind_long (standing_of c.args.asked.now) c.args.committee.members c.args.committee.bound c.requires.may c.args.seeds.now _ _
          (sized_setting g.row.N g.row.M c.args.bound c.args.asked.now.file.n c.args.committee.members c.args.asked.now.file.t c.args.committee.bound _ c.requires.old c.requires.new c.requires.bound c.moving-setting.ensures)
          (sized_minds c.args.bound c.args.asked.now.file.n c.args.committee.members c.args.asked.now.file.t c.args.committee.bound c.args.asked.now.drill (holdings (moving c.args.asked.now.drill c.args.committee.bound) 1 c.args.asked.now.files.items c.args.seeds.now) _ c.requires.old c.requires.new c.requires.bound c.in_ok-minds.ensures)
          _ c.in_ok-ran.ran.masks c.in_ok-ran.ran.minds.items c.new_minds-receivers.result.now c.deref-2.result.now c.in_ok-ran.ensures.rounds c.in_ok-ran.ensures.allowed c.in_ok-ran.ensures.minds
          (c.new_minds-receivers.ensures ∙ ap (λ (k : ℕ). drop k c.deref.result.now) c.requires.old ∙ ap (drop c.args.asked.now.file.n) c.deref.ensures.value)
          (c.deref-2.ensures.value ∙ behind_after (standing_of c.args.asked.now) c.args.committee.members c.args.committee.bound c.args.seeds.now c.args.before.now c.in_ok-ran.ran.masks c.requires.before g.row.N c.in_ok-down.down.items c.requires.old c.in_ok-down.ensures.down),
    )

pub accepted_by-accepted-requires-clause-done : goal.accepted_by-accepted-requires-clause-done
accepted_by-accepted-requires-clause-done g c =
    behind_done (standing_of c.args.asked.now) c.args.committee.members c.args.committee.bound c.requires.may c.args.seeds.now _ _
    (sized_setting g.row.N g.row.M c.args.bound c.args.asked.now.file.n c.args.committee.members c.args.asked.now.file.t c.args.committee.bound _ c.requires.old c.requires.new c.requires.bound c.moving-setting.ensures)
    (sized_minds c.args.bound c.args.asked.now.file.n c.args.committee.members c.args.asked.now.file.t c.args.committee.bound c.args.asked.now.drill (holdings (moving c.args.asked.now.drill c.args.committee.bound) 1 c.args.asked.now.files.items c.args.seeds.now) _ c.requires.old c.requires.new c.requires.bound c.in_ok-minds.ensures)
    _ c.in_ok-ran.ran.masks c.in_ok-ran.ran.minds.items c.new_minds-receivers.result.now c.deref-2.result.now c.in_ok-ran.ensures.rounds c.in_ok-ran.ensures.allowed c.in_ok-ran.ensures.minds
    (c.new_minds-receivers.ensures ∙ ap (λ (k : ℕ). drop k c.deref.result.now) c.requires.old ∙ ap (drop c.args.asked.now.file.n) c.deref.ensures.value)
    (c.deref-2.ensures.value ∙ behind_after (standing_of c.args.asked.now) c.args.committee.members c.args.committee.bound c.args.seeds.now c.args.before.now c.in_ok-ran.ran.masks c.requires.before g.row.N c.in_ok-down.down.items c.requires.old c.in_ok-down.ensures.down)

pub outs_of-requires : goal.outs_of-requires
outs_of-requires g c = (
  omega arith,
  (
    omega (
      arith,
      largest c.args.committee.members c.requires.may.size,
      behind_long (standing_of c.args.asked.now) c.args.committee.members c.args.committee.bound c.requires.may c.args.seeds.now _ _
          (sized_setting g.row.N g.row.M c.args.bound c.args.asked.now.file.n c.args.committee.members c.args.asked.now.file.t c.args.committee.bound _ c.requires.old c.requires.new c.requires.bound c.moving-setting.ensures)
          (sized_minds c.args.bound c.args.asked.now.file.n c.args.committee.members c.args.asked.now.file.t c.args.committee.bound c.args.asked.now.drill (holdings (moving c.args.asked.now.drill c.args.committee.bound) 1 c.args.asked.now.files.items c.args.seeds.now) _ c.requires.old c.requires.new c.requires.bound c.in_ok-minds.ensures)
          _ c.in_ok-ran.ran.masks c.in_ok-ran.ran.minds.items c.new_minds-receivers.result.now c.deref-3.result.now c.in_ok-ran.ensures.rounds c.in_ok-ran.ensures.allowed c.in_ok-ran.ensures.minds
          (c.new_minds-receivers.ensures ∙ ap (λ (k : ℕ). drop k c.deref.result.now) c.requires.old ∙ ap (drop c.args.asked.now.file.n) c.deref.ensures.value)
          (c.deref-3.ensures.value ∙ behind_after (standing_of c.args.asked.now) c.args.committee.members c.args.committee.bound c.args.seeds.now c.args.before.now c.in_ok-ran.ran.masks c.requires.before g.row.N c.in_ok-down.down.items c.requires.old c.in_ok-down.ensures.down),
    ),
    behind_done (standing_of c.args.asked.now) c.args.committee.members c.args.committee.bound c.requires.may c.args.seeds.now _ _
        (sized_setting g.row.N g.row.M c.args.bound c.args.asked.now.file.n c.args.committee.members c.args.asked.now.file.t c.args.committee.bound _ c.requires.old c.requires.new c.requires.bound c.moving-setting.ensures)
        (sized_minds c.args.bound c.args.asked.now.file.n c.args.committee.members c.args.asked.now.file.t c.args.committee.bound c.args.asked.now.drill (holdings (moving c.args.asked.now.drill c.args.committee.bound) 1 c.args.asked.now.files.items c.args.seeds.now) _ c.requires.old c.requires.new c.requires.bound c.in_ok-minds.ensures)
        _ c.in_ok-ran.ran.masks c.in_ok-ran.ran.minds.items c.new_minds-receivers.result.now c.deref-3.result.now c.in_ok-ran.ensures.rounds c.in_ok-ran.ensures.allowed c.in_ok-ran.ensures.minds
        (c.new_minds-receivers.ensures ∙ ap (λ (k : ℕ). drop k c.deref.result.now) c.requires.old ∙ ap (drop c.args.asked.now.file.n) c.deref.ensures.value)
        (c.deref-3.ensures.value ∙ behind_after (standing_of c.args.asked.now) c.args.committee.members c.args.committee.bound c.args.seeds.now c.args.before.now c.in_ok-ran.ran.masks c.requires.before g.row.N c.in_ok-down.down.items c.requires.old c.in_ok-down.ensures.down),
  ),
)

pub returns-clause-left : goal.returns-clause-left
returns-clause-left g c =
    leaves_phase (standing_of c.args.asked.now) c.args.committee.members c.args.committee.bound c.requires.may c.args.seeds.now _ _
    (sized_setting g.row.N g.row.M c.args.bound c.args.asked.now.file.n c.args.committee.members c.args.asked.now.file.t c.args.committee.bound _ c.requires.old c.requires.new c.requires.bound c.moving-setting.ensures)
    (sized_minds c.args.bound c.args.asked.now.file.n c.args.committee.members c.args.asked.now.file.t c.args.committee.bound c.args.asked.now.drill (holdings (moving c.args.asked.now.drill c.args.committee.bound) 1 c.args.asked.now.files.items c.args.seeds.now) _ c.requires.old c.requires.new c.requires.bound c.in_ok-minds.ensures)
    _ c.in_ok-ran.ran.masks c.in_ok-ran.ran.minds.items c.new_minds-receivers.result.now c.deref-2.result.now c.in_ok-ran.ensures.rounds c.in_ok-ran.ensures.allowed c.in_ok-ran.ensures.minds
    (c.new_minds-receivers.ensures ∙ ap (λ (k : ℕ). drop k c.deref.result.now) c.requires.old ∙ ap (drop c.args.asked.now.file.n) c.deref.ensures.value)
    (c.deref-2.ensures.value ∙ behind_after (standing_of c.args.asked.now) c.args.committee.members c.args.committee.bound c.args.seeds.now c.args.before.now c.in_ok-ran.ran.masks c.requires.before g.row.N c.in_ok-down.down.items c.requires.old c.in_ok-down.ensures.down)
    c.in_ok-down.ensures.left.0 (sym (left_after (standing_of c.args.asked.now) c.args.committee.members c.args.committee.bound c.args.seeds.now c.args.before.now c.in_ok-ran.ran.masks c.requires.before g.row.N c.args.bound c.requires.old c.requires.bound) ∙ c.in_ok-down.ensures.left.1)
    _ refl (sym c.deref-2.ensures.value) c.accepted_by-accepted.ensures
    (subst (λ (marks : List Bool). AllCome (marked marks) 1 c.new_minds-receivers.result.now c.in_ok-outs.outs.items) (c.deref-3.ensures.value ∙ sym c.deref-2.ensures.value) c.in_ok-outs.ensures)
