use Rattle.std.proofs.Common.{rules, ◌≡◌, ◌≤◌, ◌<◌, ℕ, ◌-◌, ◌^◌, sym, subst, ◌∙◌, arith}
use Rattle.roundboard.specs.Wardens.{watched}
use Rattle.paces.proofs.Pacing.{below_bits, part_low, still_step, cut_step}
use Rattle.paces.proofs.conducting.cut_missing.Goals as goal

pub cut-cut-requires : goal.cut-cut-requires
cut-cut-requires g c = (search rules, (search rules, (search rules, (search rules, part_low c.cut-late.result c.missing_in-missing.result g.row.S c.cut-late.ensures.part (below_bits c.missing_in-missing.result g.row.S c.missing_in-missing.ensures.low)))))

pub returns-then-late-ne0-clause-paced : goal.returns-then-late-ne0-clause-paced
returns-then-late-ne0-clause-paced g c = λ first o.
    let q = c.args.pace.now in let p = c.cut-late.new.self in
    cut_step c.args.round c.requires.round.0 (g.Q.Pace.cuts_of q) (g.Q.Pace.asked_of q) (g.Q.Pace.cuts_of p) (g.Q.Pace.asked_of p) (g.Q.Pace.answered_count q) (g.Q.Pace.answered_count p) first c.cut-late.result
    (watched c.args.warden.now) (watched c.cut-shown.new.warden) (watched c.cut-cut.new.warden)
    c.cut-shown.ensures.sheet c.cut-shown.ensures.others c.cut-late.ensures.cuts c.cut-late.ensures.other_cuts c.cut-late.ensures.asked c.cut-late.ensures.other_asked c.cut-late.ensures.grows
    (c.cut-late.ensures.rose (search rules)) (search rules) c.cut-cut.ensures.sheet c.cut-cut.ensures.others o

pub returns-else-late-ne0-clause-paced : goal.returns-else-late-ne0-clause-paced
returns-else-late-ne0-clause-paced g c = λ first o.
    let q = c.args.pace.now in let p = c.cut-late.new.self in
    still_step c.args.round c.requires.round.0 (g.Q.Pace.cuts_of q) (g.Q.Pace.asked_of q) (g.Q.Pace.cuts_of p) (g.Q.Pace.asked_of p) (g.Q.Pace.answered_count q) (g.Q.Pace.answered_count p) first c.cut-late.result
    (watched c.args.warden.now) (watched c.cut-shown.new.warden) (watched c.cut-shown.new.warden)
    c.cut-shown.ensures.sheet c.cut-shown.ensures.others c.cut-late.ensures.cuts c.cut-late.ensures.other_cuts c.cut-late.ensures.asked c.cut-late.ensures.other_asked c.cut-late.ensures.grows
    (search rules) (c.cut-late.ensures.silent (search rules)) o
