use Rattle.std.proofs.Common.{◌≡◌, ◌+◌, ◌↔◌, true, subst, arith}
use Rattle.talk.specs.Sync.{has}
use Rattle.histories61.specs.Phases.{Within}
use Rattle.viewshift.specs.Members.{behind}
use Rattle.viewshift.proofs.Standing.{phase_is}
use Rattle.viewshift.proofs.Naming.{next_named}
use Rattle.viewshift.proofs.masks.has_next.Goals as goal

pub returns : goal.returns
returns c =
    next_named c.args.phases.now c.args.place c.at.result.now c.at-2.result.now c.args.mask c.is_within.result
    (phase_is c.args.phases.now c.args.place c.at.result.now c.at.ensures) (phase_is c.args.phases.now (c.args.place + 1) c.at-2.result.now c.at-2.ensures)
    (omega arith)
    (subst (λ n. (c.is_within.result ≡ true) ↔ Within n (behind c.at-2.result.now.down 0) (has c.args.mask)) c.receivers-members.ensures.is c.is_within.ensures)
