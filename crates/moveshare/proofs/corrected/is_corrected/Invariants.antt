use Rattle.std.proofs.Common.{◌≡◌, drop}
use Rattle.moveshare.specs.Result.{has_error}
use Rattle.moveshare.proofs.corrected.is_corrected.Given as goal

abbrev pub invariant-loop-lane : goal.invariant-loop-lane
invariant-loop-lane l = has_error (drop l.lane l.errors) l.dealer ≡ has_error l.errors l.dealer
