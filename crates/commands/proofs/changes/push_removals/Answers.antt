use Rattle.std.proofs.Common.{arith}
use Rattle.commands.specs.Period.{removal}
use Rattle.commands.proofs.Pushing.{pushed_more, pushed_all}
use Rattle.commands.proofs.changes.push_removals.Goals as goal

pub loop-index-preserved : goal.loop-index-preserved
loop-index-preserved c = record {
  low = omega arith;
  pushed = pushed_more (removal c.args.name.now c.args.period) _ _ _ c.loop-index.index c.loop-index.invariant.low c.loop-index.invariant.pushed c.in_ok-push_removal.ensures;
}

pub returns : goal.returns
returns c = pushed_all (removal c.args.name.now c.args.period) _ _ c.loop-index.index 15 (omega (arith, c.loop-index-test.false, c.loop-index.auto.index-end)) c.loop-index.invariant.pushed
