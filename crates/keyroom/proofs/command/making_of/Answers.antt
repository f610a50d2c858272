use Rattle.keyroom.specs.Words.{optional}
use Rattle.keyroom.specs.Commands.{text_of}
use Rattle.keyroom.proofs.Makings.{no_committee, if_none}
use Rattle.keyroom.proofs.command.making_of.Goals as goal

pub returns-in_err-committee-clause-none : goal.returns-in_err-committee-clause-none
returns-in_err-committee-clause-none c =
    if_none c.from_residual-in_err-committee.result (no_committee c.args.name.now c.args.members.now c.args.bound.now (optional (text_of c.args.drill)) c.in_err-committee.ensures.none)
