use Rattle.std.proofs.Common.{ap, arith}
use Rattle.std.proofs.lemmas.List.{length_push}
use Rattle.sharefile.specs.Files.{Now}
use Rattle.keyroom.specs.Steps.{share_of}
use Rattle.keyroom.proofs.Asking.{reads_then}
use Rattle.keyroom.proofs.Loops.{found_more, found_all}
use Rattle.keyroom.proofs.steps.files_of.Goals as goal

pub loop-index-preserved : goal.loop-index-preserved
loop-index-preserved g c = record {
  reads = reads_then c.loop-index.invariant.reads c.in_ok-found.ensures.reads;
  low = omega arith;
  count = rw c.in_ok-push.ensures.items (omega (arith, length_push c.loop-index.files.items c.in_ok-found.found, c.loop-index.invariant.count, c.loop-index.invariant.low));
  found = found_more (share_of c.args.now.now) _ _ _ _ _ _ c.loop-index.invariant.reads.same c.loop-index.invariant.low c.loop-index.invariant.found c.in_ok-found.ensures.found c.in_ok-push.ensures.items;
}

pub returns-clause-found : goal.returns-clause-found
returns-clause-found g c = found_all (share_of c.args.now.now) _ _ _ c.args.now.now.n (omega (arith, c.loop-index.invariant.low, c.loop-index.auto.index-end, c.loop-index-test.false, ap (λ (f : Now). f.n) c.now.view_is)) c.loop-index.invariant.found
