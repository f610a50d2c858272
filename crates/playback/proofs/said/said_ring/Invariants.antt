use Rattle.std.proofs.Common.{◌≡◌, drop}
use Rattle.playback.specs.Recorded.{said_ring}
use Rattle.playback.proofs.said.said_ring.Given as goal

abbrev pub invariant-loop-item : goal.invariant-loop-item
invariant-loop-item l = said_ring l.said l.round l.seat l.to ≡ said_ring (drop l.item-index l.said) l.round l.seat l.to
