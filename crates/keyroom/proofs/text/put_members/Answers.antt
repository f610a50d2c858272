use Rattle.std.proofs.Common.{arith}
use Rattle.keyroom.specs.declared.state.MemberState.TheVariants.{Missing}
use Rattle.keyroom.proofs.Loops.{line_written}
use Rattle.keyroom.proofs.text.put_members.Goals as goal

pub loop-k-preserved : goal.loop-k-preserved
loop-k-preserved c = line_written c.as_slice-state-items.result.now c.loop-k.k Missing _ _ _ (omega arith) c.loop-k.invariant c.in_ok-writeln.ensures.bytes
