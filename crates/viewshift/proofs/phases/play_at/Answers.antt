use Rattle.std.proofs.Common.{◌≡◌, IfOk, sym, subst, arith}
use Rattle.talk.specs.Shape.{Lawful, rounds}
use Rattle.moveshare.specs.Seat.{IsMoving}
use Rattle.playback.specs.declared.phase.Phase.{Phase}
use Rattle.playback.specs.Recorded.{play_of}
use Rattle.playback.specs.Kept.{IsKept}
use Rattle.playback.specs.Shares.{IsPlayed}
use Rattle.viewshift.proofs.Standing.{phase_is, lawful_at, sixth_at}
use Rattle.viewshift.proofs.phases.play_at.Goals as goal

pub play-requires-clause-kept : goal.play-requires-clause-kept
play-requires-clause-kept c = subst IsKept (sym (phase_is c.args.phases.now c.args.place c.at.result.now c.at.ensures)) (c.requires.fits c.args.place (omega arith)).kept

pub play-requires-clause-setting : goal.play-requires-clause-setting
play-requires-clause-setting c =
    subst (λ (q : Phase). Lawful q.setting) (sym (phase_is c.args.phases.now c.args.place c.at.result.now c.at.ensures)) (lawful_at c.args.phases.now c.args.place c.requires.fits)

pub play-requires-clause-sixth : goal.play-requires-clause-sixth
play-requires-clause-sixth c =
    subst (λ (q : Phase). rounds q.setting ≡ 6 → IsMoving q.setting) (sym (phase_is c.args.phases.now c.args.place c.at.result.now c.at.ensures)) (sixth_at c.args.phases.now c.args.place c.requires.fits)

pub returns : goal.returns
returns c = subst (λ (q : Phase). IfOk c.play.result (IsPlayed (play_of q))) (phase_is c.args.phases.now c.args.place c.at.result.now c.at.ensures) c.play.ensures
