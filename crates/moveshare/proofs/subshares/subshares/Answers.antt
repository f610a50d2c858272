use Rattle.std.proofs.Common.{◌≡◌, ℕ, ◌+◌, ◌-◌, ◌*◌, ap, ◌∙◌, arith}
use Rattle.algebra61.specs.Field.{zeroₚ}
use Rattle.algebra61.specs.Poly.{eval}
use Rattle.sizes.specs.Instances.{instance_at}
use Rattle.plays.specs.Seat.{pair_at}
use Rattle.members.specs.Shares.{kept_in}
use Rattle.periods.specs.Mover.{subshare_in}
use Rattle.rs61.proofs.ErrorLoops.{more_from}
use Rattle.moveshare.proofs.subshares.subshares.Goals as goal

pub loop-index-preserved : goal.loop-index-preserved
loop-index-preserved c =
    let next : c.number.result ≡ instance_at (1 + c.loop-index.index) c.args.lane = c.number.ensures.is ∙ omega arith in
    more_from (subshare_in (kept_in c.args.sharer.now.stage) c.args.lane) 1 c.loop-index.index c.loop-index.list c.push.new.self c.share.result c.loop-index.invariant c.in_ok-push.ensures
    (c.share.ensures ∙ ap (λ (k : ℕ). eval (pair_at (kept_in c.args.sharer.now.stage) k).row.coeffs zeroₚ) next)
