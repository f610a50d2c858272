use Rattle.std.proofs.Common.{◌≡◌, ◌-◌}
use Rattle.scenes.specs.Members.{mask_of}
use Rattle.rehearsal_laws.specs.Down.{down_on}
use Rattle.recorder.proofs.down.down_seats.Given as goal

abbrev pub invariant-loop-seat : goal.invariant-loop-seat
invariant-loop-seat l = l.mask ≡ mask_of (l.seat - 1) (down_on l.scene)
