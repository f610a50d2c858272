use Rattle.std.proofs.Common.{◌∙◌}
use Rattle.docvault.proofs.Words.{IsMasked-four}
use Rattle.docvault.proofs.cipher.mask_four.Goals as goal

pub returns : goal.returns
returns c = IsMasked-four c.args.bytes.now c.copy_from_slice.new.self c.args.place c.word_from.result c.args.word c.requires c.word_from.ensures (c.copy_from_slice.ensures.after ∙ c.to_le_bytes.ensures)
