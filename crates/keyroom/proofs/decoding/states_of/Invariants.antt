use Rattle.std.proofs.Common.{◌≡◌, take}
use Rattle.keyroom.specs.Decoding.{states_of}
use Rattle.keyroom.proofs.decoding.states_of.Given as goal

abbrev pub invariant-loop-k : goal.invariant-loop-k
invariant-loop-k l = l.states ≡ states_of l.polys 1 (take l.k l.files)
