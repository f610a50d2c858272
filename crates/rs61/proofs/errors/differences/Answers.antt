use Rattle.algebra61.specs.Field.{fe, zeroₚ, ◌-ₚ◌}
use Rattle.algebra61.specs.Poly.{eval}
use Rattle.checks61.specs.Checks.{entry}
use Rattle.lists.proofs.Places.{at_or}
use Rattle.rs61.proofs.ErrorLoops.{more_from, difference_entry}
use Rattle.rs61.proofs.errors.differences.Goals as goal

pub loop-k-preserved : goal.loop-k-preserved
loop-k-preserved c =
    more_from (λ i. entry c.args.word.now i -ₚ eval c.args.poly.now.coeffs (fe i)) 1 c.loop-k.k c.loop-k.list c.push.new.self c.sub.result c.loop-k.invariant c.in_ok-push.ensures
    (difference_entry c.args.word.now c.args.poly.now.coeffs c.loop-k.k c.at.result.now c.eval.result c.sub.result (at_or c.args.word.now c.loop-k.k zeroₚ c.at.result.now c.at.ensures) (rw c.reduce-x.ensures at c.eval.ensures) c.sub.ensures)
