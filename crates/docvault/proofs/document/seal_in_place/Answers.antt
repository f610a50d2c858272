use Rattle.std.proofs.Common.{arith}
use Rattle.docvault.proofs.Boxes.{sealed_is_box}
use Rattle.docvault.proofs.document.seal_in_place.Goals as goal

pub returns : goal.returns
returns c = sealed_is_box c.args.key.now c.args.name.now c.args.number c.args.doc.items c.in_ok-text.text.items c.masked.result.items c.tagged.result c.in_ok-text.ensures.name (omega (arith, c.ranges.number)) c.in_ok-text.ensures.head c.masked.ensures.front c.masked.ensures.behind c.tagged.ensures
