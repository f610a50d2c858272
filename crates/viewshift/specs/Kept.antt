-- A history that is kept.
use Rattle.std.specs.Prelude.{ℕ, List}
use Rattle.playback.specs.declared.phase.Phase.{Phase}

-- the phases, and a mask for each period
pub record HistoryValue : Type 0 where
  pub phases : List Phase
  pub exposed : List ℕ
