use Rattle.std.proofs.Common.{◌∷◌, take}
use Rattle.sha2.specs.Hashers.{Holds256}
use Rattle.docvault.specs.Keys.{key_bytes}
use Rattle.docvault.proofs.keys.digest_of.Given as goal

abbrev pub invariant-loop-lane : goal.invariant-loop-lane
invariant-loop-lane l = Holds256 l.hasher (l.first ∷ key_bytes (take l.lane-index l.key))
