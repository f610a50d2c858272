use Rattle.std.proofs.Common.{◌≡◌, ◌++◌, take}
use Rattle.std.specs.List.{flat_map}
use Rattle.sharefile.specs.Files.{lane_bytes}
use Rattle.sharefile.proofs.share.put_lanes.Given as goal

abbrev pub invariant-loop-lane : goal.invariant-loop-lane
invariant-loop-lane l = l.out.items ≡ l.fn.out.items ++ flat_map lane_bytes (take l.lane-index l.lanes)
