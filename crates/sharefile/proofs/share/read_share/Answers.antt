use Rattle.std.proofs.Common.{ap, subst, ◌∙◌, arith}
use Rattle.sharefile.specs.Reading.{IsRead, share_at}
use Rattle.sharefile.proofs.ShareLaws.{share_again, found}
use Rattle.sharefile.proofs.share.read_share.Goals as goal

pub returns-clause-found : goal.returns-clause-found
returns-clause-found c = found c.args.bytes.now c.share_of.result (λ i. omega (arith, c.type_inv.bytes i)) c.share_of.ensures

pub returns-clause-only : goal.returns-clause-only
returns-clause-only c = λ f is e. subst (λ r. IsRead (λ f. f) c.share_of.result r) (ap share_at e ∙ share_again f is) c.share_of.ensures
