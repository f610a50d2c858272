use Rattle.std.proofs.Common.{rules, ◌≡◌, ℕ}
use Rattle.roundboard.specs.Wardens.{watched}
use Rattle.paces.proofs.Pacing.{looked_on}
use Rattle.paces.proofs.conducting.conduct_round.Goals as goal

pub loop-preserved : goal.loop-preserved
loop-preserved g c = (
  tt,
  tt,
  c.cut_missing.ensures.warden,
  λ first o.
      c.cut_missing.ensures.paced first (looked_on (g.Q.Pace.cuts_of c.loop.pace) (g.Q.Pace.asked_of c.loop.pace) (g.Q.Pace.answered_count c.loop.pace) first (watched c.loop.warden) (watched c.look_warden.new.warden) c.look_warden.ensures.sheets (c.loop.invariant.3 first o)),
)

pub returns-in-Frozen-clause-paced : goal.returns-in-Frozen-clause-paced
returns-in-Frozen-clause-paced g c = λ first o.
    looked_on (g.Q.Pace.cuts_of c.loop.pace) (g.Q.Pace.asked_of c.loop.pace) (g.Q.Pace.answered_count c.loop.pace) first (watched c.loop.warden) (watched c.look_warden.new.warden) c.look_warden.ensures.sheets (c.loop.invariant.3 first o)

pub returns-in-Aborted-clause-paced : goal.returns-in-Aborted-clause-paced
returns-in-Aborted-clause-paced g c = λ first o.
    looked_on (g.Q.Pace.cuts_of c.loop.pace) (g.Q.Pace.asked_of c.loop.pace) (g.Q.Pace.answered_count c.loop.pace) first (watched c.loop.warden) (watched c.look_warden.new.warden) c.look_warden.ensures.sheets (c.loop.invariant.3 first o)
