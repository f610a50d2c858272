use Rattle.std.proofs.Common.{◌≡◌, map}
use Rattle.std.specs.List.{range_with_len}
use Rattle.periods.specs.Move.{syndrome_in}
use Rattle.subshare.specs.Opening.{post_of}
use Rattle.subshare.proofs.opening.values_at.Given as goal

abbrev pub invariant-loop-index : goal.invariant-loop-index
invariant-loop-index l = l.list.items ≡ map (λ receiver. syndrome_in l.k (post_of l.setting l.posts receiver)) (range_with_len 1 l.index)
