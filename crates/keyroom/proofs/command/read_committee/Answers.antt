use Rattle.std.proofs.Common.{◌≡◌, ◌∙◌, sym, arith, rules}
use Rattle.std.specs.Prelude.{decimal}
use Rattle.keyroom.proofs.Makings.{spells_none}
use Rattle.keyroom.proofs.command.read_committee.Goals as goal

pub returns-else-can_be_made-clause-none : goal.returns-else-can_be_made-clause-none
returns-else-can_be_made-clause-none c =
    let size : c.args.members.now ≡ decimal c.in_ok-size.size = search rules in
    let most : c.args.bound.now ≡ decimal c.in_ok-most.most = search rules in
    spells_none c.args.members.now c.args.bound.now c.in_ok-size.size c.in_ok-most.most (omega arith) (omega arith) size most (sym c.can_be_made.ensures.made ∙ c.if-can_be_made.false)
