-- What is told of the two histories of a rehearsal beside what they are.
use Rattle.std.specs.Prelude.{List}
use Rattle.algebra61.specs.Field.{Fp}
use Rattle.viewshift.specs.Kept.{HistoryValue}
use Rattle.viewshift.specs.Key.{HasKey}
use Rattle.viewshift.specs.Others.{FirstComesAgain, SameButGrids, SameViews, meant}
use Rattle.rehearsal_laws.specs.Rehearsal.{raised}

-- they differ in the grids of honest dealers alone, each lane of the other's key is one greater, the same is seen of both, and
-- the first comes again from the other
pub record Rehearses (history other : HistoryValue) : Type 0 where
  pub grids : SameButGrids history other
  pub key : List Fp
  pub is_key : HasKey (meant history) key
  pub other_key : HasKey (meant other) (raised key)
  pub views : SameViews history other
  pub again : FirstComesAgain history other
