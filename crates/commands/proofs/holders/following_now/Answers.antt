use Rattle.std.proofs.Common.{◌∙◌, ap, sym, subst}
use Rattle.sharefile.specs.Files.{Now, IsNow}
use Rattle.commands.specs.Links.{digest_in, following_now}
use Rattle.commands.specs.Phase.{marked}
use Rattle.commands.proofs.Links.{following_is_now}
use Rattle.commands.proofs.holders.following_now.Goals as goal

pub invariant_of-result : goal.invariant_of-result
invariant_of-result c =
    rw (c.committee_digest-digest.ensures, c.holders_of-holders.ensures, c.digest_of-previous.ensures ∙ ap (λ (f : Now). digest_in f.link) (sym c.before-2.view_is))
    (subst (λ (f : Now). IsNow (following_now f c.args.committee.members c.args.committee.bound (marked c.args.down.now))) (sym c.before-2.view_is)
    (following_is_now c.args.before.now c.args.committee.members c.args.committee.bound (marked c.args.down.now) (subst IsNow c.before-2.view_is c.before-2.invariant) c.requires.next c.requires.size c.requires.bound c.requires.few))
