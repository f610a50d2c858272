use Rattle.std.proofs.Common.{◌-◌, sym, ◌∙◌, arith}
use Rattle.talk.proofs.Bits.{no_seat, set_below, set_own, set_other}
use Rattle.talk.proofs.masks.mask_with.Goals as goal

pub returns-then-named-clause-below : goal.returns-then-named-clause-below
returns-then-named-clause-below c = set_below c.args.mask (c.args.seat - 1) c.args.seat (omega arith) (omega arith) c.requires.lower

pub returns-then-named-clause-own : goal.returns-then-named-clause-own
returns-then-named-clause-own c = set_own c.args.mask c.args.seat (omega arith) ∙ sym c.if-named.true

pub returns-then-named-clause-others : goal.returns-then-named-clause-others
returns-then-named-clause-others c = λ k low high. set_other c.args.mask c.args.seat k (omega arith) (λ e. omega (arith, low, high, e))

pub returns-else-named-clause-own : goal.returns-else-named-clause-own
returns-else-named-clause-own c = no_seat c.args.mask c.args.seat c.requires.lower ∙ sym c.if-named.false
