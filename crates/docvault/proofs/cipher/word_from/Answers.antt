use Rattle.std.proofs.Common.{arith}
use Rattle.docvault.proofs.Words.{read_bytes}
use Rattle.docvault.proofs.cipher.word_from.Goals as goal

pub returns : goal.returns
returns c = read_bytes c.args.bytes.now c.args.place c.from_le_bytes.result c.requires (λ i. omega (arith, c.type_inv.bytes i)) c.from_le_bytes.ensures
