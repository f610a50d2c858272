use Rattle.std.proofs.Common.{refl, ◌∙◌, Ok, Err}
use Rattle.keyroom.specs.Words.{texts, Rehearse}
use Rattle.keyroom.specs.Causes.{cause_of}
use Rattle.playbill.specs.Printed.{IsTextOf}
use Rattle.keyroom.specs.Commands.{command_of}
use Rattle.keyroom.specs.Changes.{changes_of, outcome_of}
use Rattle.std.specs.Prelude.{string_bytes}
use Rattle.commands.specs.Late.{cuts_in}
use Rattle.committee.specs.Meaning.{Means, AskForSeeds}
use Rattle.committee.proofs.Doing.{if_told, does_then, read_under, refused_does, completes, written, never_rose, carries_no_entropy, carries_no_crew, usage_does, usage_whole}
use Rattle.committee.proofs.Attending.{attended_for}
use Rattle.committee.proofs.CreateClauses.{run_on_one_line, run_stopped}
use Rattle.committee.proofs.Plain.{run_plain}
use Rattle.committee.proofs.RefreshClauses.{run_by_one, run_keeps_the_key, unchanged_keeps}
use Rattle.committee.proofs.MoveClauses.{run_moved, run_lacks_word, run_carried, unchanged_carried}
use Rattle.committee.proofs.Recovery.{run_honestly, no_command}
use Rattle.committee.proofs.Rehearsing.{planned_for, ends_told, ends_untold}
use Rattle.committee.proofs.top.run.Goals as goal

pub returns-in-Ok-clause-meaning : goal.returns-in-Ok-clause-meaning
returns-in-Ok-clause-meaning g c =
    if_told (g.H.Shelf.held c.args.shelf.now)
    (λ m plans. does_then
    (Means (texts c.args.words.now) (record { held = m; coming = g.E.Entropy.coming c.args.entropy.now; cuts = cuts_in g.Q.Pace.answered_count g.Q.Pace.cuts_of c.args.pace.now c.plan.new.pace })) (AskForSeeds (texts c.args.words.now) m)
    (record { held = g.H.Shelf.held c.args.shelf.now; coming = g.E.Entropy.coming c.args.entropy.now; told = g.K.Sink.told c.args.out.now })
    (record { held = g.H.Shelf.held c.carry_out.new.shelf; coming = g.E.Entropy.coming c.plan.new.entropy; told = g.K.Sink.told c.carry_out.new.out })
    (outcome_of plans.0 c.in-Ok.plan) (read_under (texts c.args.words.now) (record { held = m; coming = g.E.Entropy.coming c.args.entropy.now; cuts = cuts_in g.Q.Pace.answered_count g.Q.Pace.cuts_of c.args.pace.now c.plan.new.pace }) (command_of c.in-Some.command) (outcome_of plans.0 c.in-Ok.plan) c.in-Some.ensures.found plans.1) refl plans.2 _ _ c.in-Ok.ensures.reads.same c.carry_out.ensures.carried)
    c.in-Ok.ensures.meaning

pub returns-in-Ok-clause-complete : goal.returns-in-Ok-clause-complete
returns-in-Ok-clause-complete g c =
    if_told (g.H.Shelf.held c.args.shelf.now)
    (λ m does. λ shelf entropy crew sink enough.
    let mid = c.in-Ok.ensures.reads.stays_calm shelf in
    completes (Means (texts c.args.words.now) (record { held = m; coming = g.E.Entropy.coming c.args.entropy.now; cuts = cuts_in g.Q.Pace.answered_count g.Q.Pace.cuts_of c.args.pace.now c.plan.new.pace })) (AskForSeeds (texts c.args.words.now) m) _ _ c.carry_out.result c.carry_out.ensures.done
    (λ e. never_rose _ _ (g.met.H.Shelf.calm_has_no_faults _ mid) (g.met.H.Shelf.calm_has_no_faults _ (c.carry_out.ensures.shelf_calm mid)) (c.carry_out.ensures.shelf_fault e))
    (λ e. carries_no_entropy (changes_of c.in-Ok.plan.changes.items) (string_bytes c.in-Ok.plan.text) (g.H.Shelf.held c.plan.new.shelf) (g.H.Shelf.held c.carry_out.new.shelf) (g.K.Sink.told c.args.out.now) (g.K.Sink.told c.carry_out.new.out) _ c.carry_out.ensures.carried e)
    (λ e. carries_no_crew (changes_of c.in-Ok.plan.changes.items) (string_bytes c.in-Ok.plan.text) (g.H.Shelf.held c.plan.new.shelf) (g.H.Shelf.held c.carry_out.new.shelf) (g.K.Sink.told c.args.out.now) (g.K.Sink.told c.carry_out.new.out) _ c.carry_out.ensures.carried e)
    (λ e. never_rose _ _ (g.met.K.Sink.calm_has_no_faults _ sink) (g.met.K.Sink.calm_has_no_faults _ (c.carry_out.ensures.sink_calm sink)) (c.carry_out.ensures.sink_fault e))
    does)
    (returns-in-Ok-clause-meaning g c)

pub returns-in-Ok-clause-agreement : goal.returns-in-Ok-clause-agreement
returns-in-Ok-clause-agreement g c = λ made. run_on_one_line (texts c.args.words.now) _ _ _ _ _ c.carry_out.result _ _ (returns-in-Ok-clause-meaning g c) made

pub returns-in-Ok-clause-stopped : goal.returns-in-Ok-clause-stopped
returns-in-Ok-clause-stopped g c = run_stopped (texts c.args.words.now) _ _ _ _ _ c.carry_out.result _ _ (returns-in-Ok-clause-meaning g c)

pub returns-in-Ok-clause-plain : goal.returns-in-Ok-clause-plain
returns-in-Ok-clause-plain g c = λ made uncut. run_plain (texts c.args.words.now) _ _ _ _ _ c.carry_out.result _ _ (returns-in-Ok-clause-meaning g c) made uncut

pub returns-in-Ok-clause-refreshed : goal.returns-in-Ok-clause-refreshed
returns-in-Ok-clause-refreshed g c = λ made. run_by_one (texts c.args.words.now) _ _ _ _ _ c.carry_out.result _ _ (returns-in-Ok-clause-meaning g c) (command_of c.in-Some.command) c.in-Some.ensures.found c.in-Ok.ensures.now made

pub returns-in-Ok-clause-kept : goal.returns-in-Ok-clause-kept
returns-in-Ok-clause-kept g c = run_keeps_the_key (texts c.args.words.now) _ _ _ _ _ c.carry_out.result _ _ (returns-in-Ok-clause-meaning g c) (command_of c.in-Some.command) c.in-Some.ensures.found c.in-Ok.ensures.now

pub returns-in-Ok-clause-moved : goal.returns-in-Ok-clause-moved
returns-in-Ok-clause-moved g c = λ made. run_moved (texts c.args.words.now) _ _ _ _ _ c.carry_out.result _ _ (returns-in-Ok-clause-meaning g c) (command_of c.in-Some.command) c.in-Some.ensures.found c.in-Ok.ensures.now made

pub returns-in-Ok-clause-no_word : goal.returns-in-Ok-clause-no_word
returns-in-Ok-clause-no_word g c = run_lacks_word (texts c.args.words.now) _ _ _ _ _ c.carry_out.result _ _ (returns-in-Ok-clause-meaning g c)

pub returns-in-Ok-clause-carried : goal.returns-in-Ok-clause-carried
returns-in-Ok-clause-carried g c = run_carried (texts c.args.words.now) _ _ _ _ _ c.carry_out.result _ _ (returns-in-Ok-clause-meaning g c) (command_of c.in-Some.command) c.in-Some.ensures.found c.in-Ok.ensures.now

pub returns-in-Ok-clause-honest : goal.returns-in-Ok-clause-honest
returns-in-Ok-clause-honest g c = run_honestly (texts c.args.words.now) _ _ _ _ _ c.carry_out.result _ _ (returns-in-Ok-clause-meaning g c)

pub returns-in-Ok-clause-attended : goal.returns-in-Ok-clause-attended
returns-in-Ok-clause-attended g c = λ made. attended_for (texts c.args.words.now) (command_of c.in-Some.command) (g.H.Shelf.held c.args.shelf.now) _ _ c.in-Some.ensures.found c.in-Ok.ensures.attended

pub returns-in-Ok-clause-rehearsed : goal.returns-in-Ok-clause-rehearsed
returns-in-Ok-clause-rehearsed g c members bound periods number reads =
    let left = planned_for (texts c.args.words.now) (command_of c.in-Some.command) members bound periods number c.args.shelf.now c.plan.new.shelf c.args.entropy.now c.plan.new.entropy (Ok c.in-Ok.plan) c.in-Some.ensures.found reads c.in-Ok.ensures.rehearsed in (
      c.carry_out.ensures.untouched left.2.0 ∙ left.0,
      left.1,
      ends_told (IsTextOf members bound periods number) c.in-Ok.plan (g.H.Shelf.held c.plan.new.shelf) (g.H.Shelf.held c.carry_out.new.shelf) (g.K.Sink.told c.args.out.now) (g.K.Sink.told c.carry_out.new.out) _ left.2.0 left.2.1 c.carry_out.ensures.carried,
    )

pub returns-in-Err-clause-rehearsed : goal.returns-in-Err-clause-rehearsed
returns-in-Err-clause-rehearsed g c members bound periods number reads =
    let left = planned_for (texts c.args.words.now) (command_of c.in-Some.command) members bound periods number c.args.shelf.now c.plan.new.shelf c.args.entropy.now c.plan.new.entropy (Err c.in-Err.status) c.in-Some.ensures.found reads c.in-Err.ensures.rehearsed in
    (left.0, left.1, ends_untold (IsTextOf members bound periods number) (g.K.Sink.told c.args.out.now) (cause_of c.in-Err.status) left.2)

pub returns-in_default-clause-rehearsed : goal.returns-in_default-clause-rehearsed
returns-in_default-clause-rehearsed g c members bound periods number reads = absurd (c.in_default.ensures.none (Rehearse members bound periods number) reads)

pub returns-in-Ok-clause-writes : goal.returns-in-Ok-clause-writes
returns-in-Ok-clause-writes g c = written (changes_of c.in-Ok.plan.changes.items) (string_bytes c.in-Ok.plan.text) _ _ _ _ c.carry_out.result c.carry_out.ensures.carried

pub returns-in-Err-clause-meaning : goal.returns-in-Err-clause-meaning
returns-in-Err-clause-meaning g c =
    if_told (g.H.Shelf.held c.args.shelf.now)
    (λ m h. refused_does (texts c.args.words.now) (record { held = m; coming = g.E.Entropy.coming c.args.entropy.now; cuts = cuts_in g.Q.Pace.answered_count g.Q.Pace.cuts_of c.args.pace.now c.plan.new.pace }) (command_of c.in-Some.command) c.in-Some.ensures.found
    (g.H.Shelf.held c.args.shelf.now) (g.H.Shelf.held c.plan.new.shelf) (g.E.Entropy.coming c.plan.new.entropy) (g.K.Sink.told c.args.out.now) c.in-Err.ensures.reads.same c.in-Err.status h)
    c.in-Err.ensures.meaning

pub returns-in-Err-clause-complete : goal.returns-in-Err-clause-complete
returns-in-Err-clause-complete g c =
    if_told (g.H.Shelf.held c.args.shelf.now)
    (λ m does. λ shelf entropy crew sink enough.
    completes (Means (texts c.args.words.now) (record { held = m; coming = g.E.Entropy.coming c.args.entropy.now; cuts = cuts_in g.Q.Pace.answered_count g.Q.Pace.cuts_of c.args.pace.now c.plan.new.pace })) (AskForSeeds (texts c.args.words.now) m) _ _ c.in-Err.status
    (λ e. absurd (c.in-Err.ensures.cause.undone e))
    (λ e. never_rose _ _ (g.met.H.Shelf.calm_has_no_faults _ shelf) (g.met.H.Shelf.calm_has_no_faults _ (c.in-Err.ensures.reads.stays_calm shelf)) (c.in-Err.ensures.cause.counted.shelf e))
    (λ e. never_rose _ _ (g.met.E.Entropy.calm_has_no_faults _ entropy) (g.met.E.Entropy.calm_has_no_faults _ (c.in-Err.ensures.calm entropy (enough (command_of c.in-Some.command) c.in-Some.ensures.found))) (c.in-Err.ensures.cause.counted.entropy e))
    (λ e. never_rose _ _ (g.C.Crew.calm_has_no_faults _ crew) (g.C.Crew.calm_has_no_faults _ (c.in-Err.ensures.lent.stays_calm crew)) (c.in-Err.ensures.cause.counted.crew e))
    (λ e. never_rose 0 0 refl refl (c.in-Err.ensures.cause.counted.sink e))
    does)
    (returns-in-Err-clause-meaning g c)

pub returns-in-Err-clause-kept : goal.returns-in-Err-clause-kept
returns-in-Err-clause-kept g c = unchanged_keeps (texts c.args.words.now) _ _ _ _ c.in-Err.ensures.reads.same

pub returns-in-Err-clause-no_word : goal.returns-in-Err-clause-no_word
returns-in-Err-clause-no_word g c = run_lacks_word (texts c.args.words.now) _ _ _ _ _ c.in-Err.status _ _ (returns-in-Err-clause-meaning g c)

pub returns-in-Err-clause-carried : goal.returns-in-Err-clause-carried
returns-in-Err-clause-carried g c = unchanged_carried (texts c.args.words.now) _ _ _ _ c.in-Err.ensures.reads.same

pub returns-in-Err-clause-no_crew_fault : goal.returns-in-Err-clause-no_crew_fault
returns-in-Err-clause-no_crew_fault g c = λ calm e. never_rose _ _ (g.C.Crew.calm_has_no_faults _ calm) (g.C.Crew.calm_has_no_faults _ (c.in-Err.ensures.lent.stays_calm calm)) (c.in-Err.ensures.cause.counted.crew e)

pub returns-in-Err-clause-honest : goal.returns-in-Err-clause-honest
returns-in-Err-clause-honest g c = run_honestly (texts c.args.words.now) _ _ _ _ _ c.in-Err.status _ _ (returns-in-Err-clause-meaning g c)

pub returns-in_default-clause-meaning : goal.returns-in_default-clause-meaning
returns-in_default-clause-meaning g c = usage_does (texts c.args.words.now) _ (g.H.Shelf.held c.args.shelf.now) (g.E.Entropy.coming c.args.entropy.now) (g.K.Sink.told c.args.out.now) c.in_default.ensures.none

pub returns-in_default-clause-complete : goal.returns-in_default-clause-complete
returns-in_default-clause-complete g c = usage_whole (texts c.args.words.now) _ (g.H.Shelf.held c.args.shelf.now) (g.E.Entropy.coming c.args.entropy.now) (g.K.Sink.told c.args.out.now) _ _ _ _ _ c.in_default.ensures.none

pub returns-in_default-clause-kept : goal.returns-in_default-clause-kept
returns-in_default-clause-kept g c = unchanged_keeps (texts c.args.words.now) _ _ (g.H.Shelf.held c.args.shelf.now) (g.H.Shelf.held c.args.shelf.now) refl

pub returns-in_default-clause-carried : goal.returns-in_default-clause-carried
returns-in_default-clause-carried g c = unchanged_carried (texts c.args.words.now) _ _ (g.H.Shelf.held c.args.shelf.now) (g.H.Shelf.held c.args.shelf.now) refl

pub returns-in_default-clause-honest : goal.returns-in_default-clause-honest
returns-in_default-clause-honest g c =
    no_command (texts c.args.words.now) _ _ _ (g.H.Shelf.held c.args.shelf.now) c.in_default.ensures.none
