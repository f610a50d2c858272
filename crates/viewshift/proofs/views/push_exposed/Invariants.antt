use Rattle.std.proofs.Common.{◌≡◌, ◌-◌, ◌++◌}
use Rattle.viewshift.specs.Through.{coeffs_in}
use Rattle.viewshift.specs.Seen.{shares_seen}
use Rattle.viewshift.proofs.views.push_exposed.Given as goal

abbrev pub invariant-loop-member : goal.invariant-loop-member
invariant-loop-member l = l.list ≡ l.fn.list ++ shares_seen (l.member - 1) l.mask (coeffs_in l.polynomials)
