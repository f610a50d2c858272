use Rattle.std.proofs.Common.{◌≡◌, ℕ, ◌-◌, ◌≤◌, ◌<◌, false, get_or}
use Rattle.std.specs.Prelude.{None}
use Rattle.talk.specs.Sync.{has}
use Rattle.playback.specs.Recorded.{play_of}
use Rattle.viewshift.specs.Constants.{LanesFit}
use Rattle.viewshift.proofs.fitting.constants_fit.Given as goal

abbrev pub invariant-loop-dealer : goal.invariant-loop-dealer
invariant-loop-dealer l = (k : ℕ) → 1 ≤ k → k < l.dealer → has l.phase.down k ≡ false → LanesFit (play_of l.phase) k 5 (get_or l.shares (k - 1) None)
