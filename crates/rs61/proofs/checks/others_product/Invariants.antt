use Rattle.std.proofs.Common.{◌≡◌}
use Rattle.checks61.specs.Checks.{others_product}
use Rattle.rs61.proofs.checks.others_product.Given as goal

abbrev pub invariant-loop-k : goal.invariant-loop-k
invariant-loop-k l = l.product ≡ others_product l.k l.point l.x
