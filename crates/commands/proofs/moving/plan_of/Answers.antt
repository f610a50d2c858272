use Rattle.std.proofs.Common.{◌≡◌, ◌∙◌, ◌+◌, ◌≤◌, ℕ, Bool, List, length, map, ap, sym, subst, arith}
use Rattle.std.proofs.lemmas.Result.{err_from_is_err_and}
use Rattle.sharing61.specs.Count.{how_many}
use Rattle.drillbook.specs.Orders.{names}
use Rattle.keyroom.specs.declared.steps.Found.{Found}
use Rattle.keyroom.specs.Sound.{is_down_in_move}
use Rattle.keyroom.specs.Texts.{move_text}
use Rattle.commands.specs.Links.{following_now}
use Rattle.commands.specs.Move.{play_moved, new_down}
use Rattle.commands.specs.MovePhase.{AreOpened, shares_at, first_end, members_in}
use Rattle.commands.specs.Phase.{marked, marks_of, next_with, indexes_of, standing_of}
use Rattle.commands.specs.Standing.{Standing}
use Rattle.commands.proofs.Outs.{outs_opened}
use Rattle.commands.proofs.Phases.{marked_count}
use Rattle.commands.proofs.Planned.{phase_few, planned_move, refused_move, refused_few}
use Rattle.commands.proofs.moving.plan_of.Goals as goal

pub run_move-requires-clause-before : goal.run_move-requires-clause-before
run_move-requires-clause-before g c = λ κs within.
    c.deref-2.ensures.value ∙ c.in_ok-before.ensures
    ∙ ap (λ (files : List Found). marks_of (is_down_in_move (names c.args.asked.now.drill) files) (length files + c.args.committee.members)) c.deref.ensures.value
    ∙ ap (λ (n : ℕ). marks_of (is_down_in_move (names c.args.asked.now.drill) c.args.asked.now.files.items) (n + c.args.committee.members)) c.requires.may.ready.all

pub returns-in_err-moved-clause-meaning : goal.returns-in_err-moved-clause-meaning
returns-in_err-moved-clause-meaning g c =
    let p = err_from_is_err_and c.from_residual-in_err-moved.result c.from_residual-in_err-moved.ensures.1 in
    rw (p.1, p.2) (refused_few (standing_of c.args.asked.now) c.args.committee.members c.args.committee.bound c.args.seeds.now _ c.in_err-moved.field-0.0 c.in_err-moved.ensures.few)

pub corrected_by-requires : goal.corrected_by-requires
corrected_by-requires g c =
    subst AreOpened (sym c.deref-3.ensures.value)
    (outs_opened (play_moved (standing_of c.args.asked.now) c.args.committee.members c.args.committee.bound c.args.seeds.now c.in_ok-moved.moved.masks) 1 c.in_ok-moved.moved.outs.items c.in_ok-moved.ensures.left.outs)

pub returns-in_err-corrected-clause-meaning : goal.returns-in_err-corrected-clause-meaning
returns-in_err-corrected-clause-meaning g c =
    let p = err_from_is_err_and c.from_residual-in_err-corrected.result c.from_residual-in_err-corrected.ensures.1 in
    rw (p.1, p.2) (λ refusal. (
      c.in_ok-moved.moved.masks,
      c.in_ok-moved.ensures.left.masks,
      refused_move (standing_of c.args.asked.now) c.args.committee.members c.args.committee.bound c.requires.may c.args.seeds.now _ c.in_ok-moved.moved c.in_ok-moved.ensures.left c.in_err-corrected.field-0.0
          (sym (ap first_end c.deref-3.ensures.value) ∙ c.in_err-corrected.ensures.gives refusal),
    ))

pub following_now-now-requires-clause-few : goal.following_now-now-requires-clause-few
following_now-now-requires-clause-few g c =
    let down : ℕ → Bool = new_down (play_moved (standing_of c.args.asked.now) c.args.committee.members c.args.committee.bound c.args.seeds.now c.in_ok-moved.moved.masks) in
    subst (λ (xs : List Bool). how_many c.args.committee.members (marked xs) ≤ c.args.committee.bound) (sym (c.deref-4.ensures.value ∙ c.in_ok-moved.ensures.left.down))
    (omega (
      arith,
      marked_count down c.args.committee.members,
      phase_few (standing_of c.args.asked.now) c.args.committee.members c.args.committee.bound c.requires.may c.args.seeds.now _ c.in_ok-moved.moved c.in_ok-moved.ensures.left,
    ))

pub returns-clause-meaning : goal.returns-clause-meaning
returns-clause-meaning g c =
    let st : Standing = standing_of c.args.asked.now in
    let is : c.following_now-now.result ≡ following_now c.args.asked.now.file c.args.committee.members c.args.committee.bound (marked c.in_ok-moved.moved.down.items) =
    c.following_now-now.ensures ∙ ap (λ (xs : List Bool). following_now c.args.asked.now.file c.args.committee.members c.args.committee.bound (marked xs)) c.deref-4.ensures.value in (
      c.in_ok-moved.moved.masks,
      c.in_ok-moved.ensures.left.masks,
      planned_move st c.args.committee.members c.args.committee.bound c.requires.may c.args.seeds.now _ c.in_ok-moved.moved c.in_ok-moved.ensures.left
          c.in_ok-corrected.corrected (sym (ap first_end c.deref-3.ensures.value) ∙ c.in_ok-corrected.ensures.gives)
          c.following_now-now.result c.in_ok-shares.shares.items _ _ is
          (c.in_ok-shares.ensures ∙ ap (map shares_at) c.deref-5.ensures.value)
          (c.in_ok-changes.ensures ∙ ap (next_with c.args.asked.now.file c.following_now-now.result) c.deref-6.ensures.value)
          (c.in_ok-text.ensures ∙ ap (λ xs. move_text c.args.asked.now.file c.following_now-now.result c.in_ok-moved.moved.masks c.in_ok-moved.moved.accepted (members_in c.in_ok-corrected.corrected c.args.asked.now.file.n) (indexes_of 1 xs)) c.deref-7.ensures.value),
    )
