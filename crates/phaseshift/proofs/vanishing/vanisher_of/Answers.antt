use Rattle.std.proofs.Common.{sym, ◌∙◌}
use Rattle.phaseshift.specs.Members.{behind}
use Rattle.phaseshift.proofs.Coefficients.{vanisher_start, vanisher_with, vanisher_without}
use Rattle.phaseshift.proofs.vanishing.vanisher_of.Goals.{then-in_mask+in_ok-vanishing_at+in_ok-product-2, else-in_mask}
use Rattle.phaseshift.proofs.vanishing.vanisher_of.Goals as goal

pub loop-member-init : goal.loop-member-init
loop-member-init c = vanisher_start (behind c.args.mask c.args.shift) c.in_ok-product.product c.in_ok-product.ensures

pub loop-member-preserved : goal.loop-member-preserved
loop-member-preserved c =
    elim c.if-in_mask.branch [
      | then-in_mask+in_ok-vanishing_at+in_ok-product-2 w ↦
          w.product-is
          ∙ vanisher_with c.loop-member.member (behind c.args.mask c.args.shift) c.loop-member.product w.in_ok-vanishing_at.field-0 w.in_ok-product-2.product c.loop-member.auto.member
          (sym c.in_mask.ensures ∙ w.if-in_mask.true) c.loop-member.invariant w.in_ok-vanishing_at.ensures w.in_ok-product-2.ensures
      | else-in_mask w ↦
          w.product-is ∙ vanisher_without c.loop-member.member (behind c.args.mask c.args.shift) c.loop-member.product c.loop-member.auto.member (sym c.in_mask.ensures ∙ w.if-in_mask.false) c.loop-member.invariant
    ]
