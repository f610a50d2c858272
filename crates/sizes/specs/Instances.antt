-- The instances of a phase: each dealer shares in five lanes. Dealers are numbered from 1, lanes and instances from 0.
use Rattle.std.specs.Prelude.{ℕ, ◌+◌, ◌-◌, ◌*◌, ◌/◌, ◌%◌}

-- the dealer of an instance
abbrev pub dealer_of : ℕ → ℕ
dealer_of i = i / 5 + 1

-- the lane of an instance
abbrev pub lane_of : ℕ → ℕ
lane_of i = i % 5

-- the instance of a dealer and a lane
abbrev pub instance_at : ℕ → ℕ → ℕ
instance_at dealer lane = (dealer - 1) * 5 + lane
