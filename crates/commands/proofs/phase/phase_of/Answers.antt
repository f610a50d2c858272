use Rattle.std.proofs.Common.{◌∙◌, length, ap, sym, subst, arith}
use Rattle.talk.specs.Sync.{ways}
use Rattle.machines.proofs.Runs.{length-sync}
use Rattle.drillbook.specs.Word.{drilled_ways}
use Rattle.commands.specs.Late.{down_after}
use Rattle.commands.specs.Phase.{marked, AllDone}
use Rattle.commands.proofs.Phases.{done_marked}
use Rattle.commands.proofs.phase.phase_of.Goals as goal

pub accepted_by-accepted-requires-clause-few : goal.accepted_by-accepted-requires-clause-few
accepted_by-accepted-requires-clause-few g c =
    let all = ap length c.deref-2.ensures.value ∙ ap length c.in_ok-ran.ensures.minds ∙ length-sync (drilled_ways (ways g.M.Mind.word g.M.Mind.after_say g.M.Mind.after_hear)) c.args.setting.now 1 c.in_ok-ran.ran.masks c.args.minds.items in
    omega (arith, all, c.requires.few)

pub accepted_by-accepted-requires-clause-done : goal.accepted_by-accepted-requires-clause-done
accepted_by-accepted-requires-clause-done g c =
    let same = c.deref-2.ensures.value ∙ c.in_ok-ran.ensures.minds in
    let all = length-sync (drilled_ways (ways g.M.Mind.word g.M.Mind.after_say g.M.Mind.after_hear)) c.args.setting.now 1 c.in_ok-ran.ran.masks c.args.minds.items in
    subst (AllDone g.M.Party.is_done (marked c.deref.result.now) 1) (sym same)
    (done_marked g.M.Party.is_done (down_after (marked c.args.before.now) c.in_ok-ran.ran.masks) c.deref.result.now (length c.args.before.now) 1 _ (c.deref.ensures.value ∙ c.in_ok-down.ensures)
    (omega arith) (omega (arith, all, c.requires.marks)) (c.requires.ends c.in_ok-ran.ran.masks c.in_ok-ran.ensures.rounds))

pub shares_of-requires-clause-few : goal.shares_of-requires-clause-few
shares_of-requires-clause-few g c =
    let all = ap length c.deref-4.ensures.value ∙ ap length c.in_ok-ran.ensures.minds ∙ length-sync (drilled_ways (ways g.M.Mind.word g.M.Mind.after_say g.M.Mind.after_hear)) c.args.setting.now 1 c.in_ok-ran.ran.masks c.args.minds.items in
    omega (arith, all, c.requires.few)

pub shares_of-requires-clause-done : goal.shares_of-requires-clause-done
shares_of-requires-clause-done g c =
    let same = c.deref-4.ensures.value ∙ c.in_ok-ran.ensures.minds in
    let all = length-sync (drilled_ways (ways g.M.Mind.word g.M.Mind.after_say g.M.Mind.after_hear)) c.args.setting.now 1 c.in_ok-ran.ran.masks c.args.minds.items in
    subst (AllDone g.M.Party.is_done (marked c.deref-3.result.now) 1) (sym same)
    (done_marked g.M.Party.is_done (down_after (marked c.args.before.now) c.in_ok-ran.ran.masks) c.deref-3.result.now (length c.args.before.now) 1 _ (c.deref-3.ensures.value ∙ c.in_ok-down.ensures)
    (omega arith) (omega (arith, all, c.requires.marks)) (c.requires.ends c.in_ok-ran.ran.masks c.in_ok-ran.ensures.rounds))
