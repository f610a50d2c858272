use Rattle.std.proofs.Common.{sym, ◌∙◌, arith}
use Rattle.poly61.proofs.Lists.{end_here, end_further}
use Rattle.poly61.proofs.trimmed_len.Goals as goal

pub returns-then-get-ne0-clause-trimmed : goal.returns-then-get-ne0-clause-trimmed
returns-then-get-ne0-clause-trimmed c =
    sym (end_here _ _ _ c.loop-len-test.true c.loop-len.invariant.0 c.index-coeffs-len.is (λ z. c.if-get-ne0.true (c.get.ensures ∙ z)))
    ∙ c.loop-len.invariant.1

pub loop-len-preserved : goal.loop-len-preserved
loop-len-preserved c = (
  omega (arith, c.loop-len.invariant.0),
  end_further _ _ _ c.loop-len-test.true c.loop-len.invariant.0 c.index-coeffs-len.is (sym c.get.ensures ∙ c.if-get-ne0.false)
      ∙ c.loop-len.invariant.1,
)
