use Rattle.std.proofs.Common.{◌-◌, length, arith}
use Rattle.std.proofs.lemmas.Slice.{take-put_mid_below}
use Rattle.docvault.proofs.Keystream.{IsSealed-behind}
use Rattle.docvault.proofs.cipher.apply_keystream_from.Goals as goal

pub returns-clause-front : goal.returns-clause-front
returns-clause-front c = take-put_mid_below c.args.start (length c.args.bytes.now - c.args.start) c.args.bytes.now c.apply_keystream.new.bytes c.args.start (omega arith) c.requires

pub returns-clause-behind : goal.returns-clause-behind
returns-clause-behind c = IsSealed-behind c.args.start c.args.bytes.now c.apply_keystream.new.bytes c.args.enc_key c.args.number c.requires c.apply_keystream.ensures
