use Rattle.commands.specs.Phase.{marked}
use Rattle.commands.proofs.Links.{first_is_now}
use Rattle.commands.proofs.holders.first_now.Goals as goal

pub invariant_of-result : goal.invariant_of-result
invariant_of-result c = rw (c.committee_digest-digest.ensures, c.holders_of-holders.ensures) (first_is_now c.args.name.now c.args.committee.members c.args.committee.bound (marked c.args.down.now) c.requires.name c.requires.size c.requires.bound c.requires.few)
