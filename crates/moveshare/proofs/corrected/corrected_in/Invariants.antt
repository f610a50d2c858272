use Rattle.moveshare.specs.Result.{AreCorrected}
use Rattle.moveshare.proofs.corrected.corrected_in.Given as goal

abbrev pub invariant-loop-index : goal.invariant-loop-index
invariant-loop-index l = AreCorrected l.index l.errors l.mask
