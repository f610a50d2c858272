use Rattle.std.proofs.Common.{◌<◌, length, get_or, ap, arith, length-append, length-take, length-drop}
use Rattle.std.specs.Prelude.{bit_xor}
use Rattle.std.proofs.lemmas.List.{get_or_default, length-map}
use Rattle.std.proofs.lemmas.List.Edits.{map_over_more}
use Rattle.docvault.proofs.hmac.xor_each.Goals as goal

pub loop-i-preserved : goal.loop-i-preserved
loop-i-preserved c =
    let within : c.loop-i.i < length c.loop-i.padded = omega (arith, simp (length-append, length-map, length-take, length-drop) at (ap length c.loop-i.invariant)) in
    map_over_more (λ b. bit_xor b c.args.pad) c.args.block.now c.loop-i.padded c.loop-i.i (get_or c.loop-i.padded c.loop-i.i 0) (omega arith) c.loop-i.invariant (get_or_default c.loop-i.padded c.loop-i.i 0 (get_or c.loop-i.padded c.loop-i.i 0) within)
