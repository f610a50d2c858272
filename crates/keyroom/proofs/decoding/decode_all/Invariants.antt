use Rattle.std.proofs.Common.{◌≡◌, ◌<◌, ℕ, length}
use Rattle.algebra61.specs.Nearest.{IsNearest}
use Rattle.keyroom.specs.Decoding.{values_in, lane_of}
use Rattle.keyroom.proofs.decoding.decode_all.Given as goal

abbrev pub invariant-loop-lane : goal.invariant-loop-lane
invariant-loop-lane l = record {
  count : length l.polys ≡ l.lane;
  nearest : (k : ℕ) → k < l.lane → IsNearest l.t (values_in k l.files) (lane_of l.polys k);
}
