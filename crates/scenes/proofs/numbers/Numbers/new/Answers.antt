use Rattle.std.proofs.Common.{sym, ◌∙◌}
use Rattle.scenes.proofs.Draws.{at_first}
use Rattle.scenes.proofs.numbers.Numbers.new.Goals as goal

pub returns : goal.returns
returns c = c.from.ensures ∙ sym (at_first c.args.number)
