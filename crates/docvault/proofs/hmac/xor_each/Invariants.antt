use Rattle.std.proofs.Common.{◌≡◌, ◌++◌, take, drop}
use Rattle.docvault.specs.Hmac.{xor_each}
use Rattle.docvault.proofs.hmac.xor_each.Given as goal

abbrev pub invariant-loop-i : goal.invariant-loop-i
invariant-loop-i l = l.padded ≡ xor_each l.pad (take l.i l.block) ++ drop l.i l.block
