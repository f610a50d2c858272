use Rattle.std.proofs.Common.{sym, subst}
use Rattle.std.proofs.lemmas.Result.{IfOk-weaker}
use Rattle.talk.specs.Shape.{Lawful}
use Rattle.playback.specs.declared.phase.Phase.{Phase}
use Rattle.playback.specs.Recorded.{play_of}
use Rattle.playback.specs.Kept.{IsKept}
use Rattle.playback.specs.Shares.{IsPlayed}
use Rattle.viewshift.proofs.Standing.{phase_is, lawful_at, each_with}
use Rattle.viewshift.proofs.Leaving.{left_created, left_refreshed, left_moved, size_refreshed, moving_at, errors_at}
use Rattle.viewshift.proofs.phases.shares_left.Goals as goal

pub created_shares-requires-clause-kept : goal.created_shares-requires-clause-kept
created_shares-requires-clause-kept c = subst IsKept (sym (phase_is c.args.phases.now c.args.place c.at-phase.result.now c.at-phase.ensures)) c.requires.fits.kept

pub created_shares-requires-clause-setting : goal.created_shares-requires-clause-setting
created_shares-requires-clause-setting c =
    subst (λ (q : Phase). Lawful q.setting) (sym (phase_is c.args.phases.now c.args.place c.at-phase.result.now c.at-phase.ensures))
    (lawful_at c.args.phases.now c.args.place (each_with c.args.phases.now c.args.place c.requires.before.each c.requires.fits))

pub created_shares-requires-clause-played : goal.created_shares-requires-clause-played
created_shares-requires-clause-played c =
    subst (λ (q : Phase). IsPlayed (play_of q) c.args.played.now) (sym (phase_is c.args.phases.now c.args.place c.at-phase.result.now c.at-phase.ensures)) c.requires.played

pub refreshed_shares-requires-clause-kept : goal.refreshed_shares-requires-clause-kept
refreshed_shares-requires-clause-kept c = subst IsKept (sym (phase_is c.args.phases.now c.args.place c.at-phase.result.now c.at-phase.ensures)) c.requires.fits.kept

pub refreshed_shares-requires-clause-setting : goal.refreshed_shares-requires-clause-setting
refreshed_shares-requires-clause-setting c =
    subst (λ (q : Phase). Lawful q.setting) (sym (phase_is c.args.phases.now c.args.place c.at-phase.result.now c.at-phase.ensures))
    (lawful_at c.args.phases.now c.args.place (each_with c.args.phases.now c.args.place c.requires.before.each c.requires.fits))

pub refreshed_shares-requires-clause-played : goal.refreshed_shares-requires-clause-played
refreshed_shares-requires-clause-played c =
    subst (λ (q : Phase). IsPlayed (play_of q) c.args.played.now) (sym (phase_is c.args.phases.now c.args.place c.at-phase.result.now c.at-phase.ensures)) c.requires.played

pub refreshed_shares-requires-clause-all : goal.refreshed_shares-requires-clause-all
refreshed_shares-requires-clause-all c =
    size_refreshed c.args.phases.now c.args.place c.at-phase.result.now c.args.before.now (phase_is c.args.phases.now c.args.place c.at-phase.result.now c.at-phase.ensures) c.in-Refresh.is c.requires.fits c.requires.before

pub moved_shares-requires-clause-kept : goal.moved_shares-requires-clause-kept
moved_shares-requires-clause-kept c = subst IsKept (sym (phase_is c.args.phases.now c.args.place c.at-phase.result.now c.at-phase.ensures)) c.requires.fits.kept

pub moved_shares-requires-clause-moving : goal.moved_shares-requires-clause-moving
moved_shares-requires-clause-moving c =
    moving_at c.args.phases.now c.args.place c.at-phase.result.now (phase_is c.args.phases.now c.args.place c.at-phase.result.now c.at-phase.ensures) c.in-Move.is c.requires.before.each c.requires.fits

pub moved_shares-requires-clause-played : goal.moved_shares-requires-clause-played
moved_shares-requires-clause-played c =
    subst (λ (q : Phase). IsPlayed (play_of q) c.args.played.now) (sym (phase_is c.args.phases.now c.args.place c.at-phase.result.now c.at-phase.ensures)) c.requires.played

pub moved_shares-requires-clause-errors : goal.moved_shares-requires-clause-errors
moved_shares-requires-clause-errors c =
    errors_at c.args.phases.now c.args.place c.at-phase.result.now (phase_is c.args.phases.now c.args.place c.at-phase.result.now c.at-phase.ensures) c.in-Move.is c.requires.before.each c.requires.fits

pub returns-in-Create : goal.returns-in-Create
returns-in-Create c =
    IfOk-weaker c.created_shares.result _ _
    (λ v is. left_created c.args.phases.now c.args.place c.at-phase.result.now v.items c.args.before.now (phase_is c.args.phases.now c.args.place c.at-phase.result.now c.at-phase.ensures) c.in-Create.is c.requires.fits c.requires.before is) c.created_shares.ensures

pub returns-in-Refresh : goal.returns-in-Refresh
returns-in-Refresh c =
    IfOk-weaker c.refreshed_shares.result _ _
    (λ v is. left_refreshed c.args.phases.now c.args.place c.at-phase.result.now v.items c.args.before.now (phase_is c.args.phases.now c.args.place c.at-phase.result.now c.at-phase.ensures) c.in-Refresh.is c.requires.fits c.requires.before is) c.refreshed_shares.ensures

pub returns-in-Move : goal.returns-in-Move
returns-in-Move c =
    IfOk-weaker c.moved_shares.result _ _
    (λ v is. left_moved c.args.phases.now c.args.place c.at-phase.result.now v.items c.args.before.now (phase_is c.args.phases.now c.args.place c.at-phase.result.now c.at-phase.ensures) c.in-Move.is c.requires.fits c.requires.before is) c.moved_shares.ensures
