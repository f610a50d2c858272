use Rattle.keyroom.proofs.Rising.{numbers_rise as law}
use Rattle.keyroom.proofs.laws.document_numbers_rise.Goals as goal

pub returns : goal.returns
returns c = law
