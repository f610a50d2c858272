use Rattle.std.proofs.Common.{sym, subst}
use Rattle.talk.specs.Hears.{Fits}
use Rattle.playback.specs.Recorded.{play_of}
use Rattle.playback.proofs.Formed.{formed}
use Rattle.playback.proofs.Fits.{heard_fits}
use Rattle.playback.proofs.Steps.{heard_is}
use Rattle.playback.proofs.words.heard_on.Goals as goal

pub returns-clause-is : goal.returns-clause-is
returns-clause-is c =
    heard_is (play_of c.args.phase.now) c.args.round c.args.to c.args.words.now _ _ _ c.requires.words c.requires.round.1 c.requires.to.0 c.requires.to.1 c.in_ok-posts.ensures c.new-rings.ensures c.in_ok-push_sent.ensures

pub returns-clause-fits : goal.returns-clause-fits
returns-clause-fits c =
    subst (Fits c.args.phase.now.setting c.args.to c.args.round)
    (sym (heard_is (play_of c.args.phase.now) c.args.round c.args.to c.args.words.now _ _ _ c.requires.words c.requires.round.1 c.requires.to.0 c.requires.to.1 c.in_ok-posts.ensures c.new-rings.ensures c.in_ok-push_sent.ensures))
    (heard_fits (play_of c.args.phase.now) (formed c.args.phase.now c.requires.kept c.requires.setting) c.args.round c.args.to)
