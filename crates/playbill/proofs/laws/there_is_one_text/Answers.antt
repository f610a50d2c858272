use Rattle.playbill.proofs.One.{one_text}
use Rattle.playbill.proofs.laws.there_is_one_text.Goals as goal

pub returns : goal.returns
returns c = one_text
