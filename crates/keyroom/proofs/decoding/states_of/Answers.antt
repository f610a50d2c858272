use Rattle.std.proofs.Common.{sym, arith}
use Rattle.keyroom.proofs.Loops.{states_more}
use Rattle.keyroom.proofs.decoding.states_of.Goals as goal

pub loop-k-preserved : goal.loop-k-preserved
loop-k-preserved c = rw (c.in_ok-push.ensures, c.loop-k.invariant, c.state_of.ensures) (sym (states_more c.args.polys.now c.args.files.now c.loop-k.k _ _ (omega arith) c.index-files-k.is (omega arith)))
