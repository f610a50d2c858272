use Rattle.std.proofs.Common.{◌≡◌, ℕ, ◌+◌, ◌-◌, ◌*◌, ◌<◌, length, drop}
use Rattle.plays.specs.Read.{complaint_at}
use Rattle.vss_core.specs.Complaints.{cell_of}
use Rattle.vss_core.proofs.complaints.cells_of.Given as goal

abbrev pub invariant-loop-done : goal.invariant-loop-done
invariant-loop-done l =
    (i k : ℕ) → k < 16 → i * 16 + k < length l.cells.items → cell_of l.cells.items i k ≡ complaint_at i k (drop (length l.complaints - l.done) l.complaints)
