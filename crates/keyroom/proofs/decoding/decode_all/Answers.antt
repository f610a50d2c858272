use Rattle.std.proofs.Common.{arith}
use Rattle.std.proofs.lemmas.Result.{err_from_is_err_and}
use Rattle.std.proofs.lemmas.List.{length_push}
use Rattle.keyroom.proofs.Deciding.{decode_failed, decode_more}
use Rattle.keyroom.proofs.decoding.decode_all.Goals as goal

pub returns-in_err-poly : goal.returns-in_err-poly
returns-in_err-poly c =
    let p = err_from_is_err_and c.from_residual.result c.from_residual.ensures.1 in
    rw (p.1, p.2) (decode_failed c.args.t c.loop-lane.lane c.args.files.now c.loop-lane.polys c.in_err-poly.field-0.0 (omega arith) c.loop-lane.invariant.nearest c.in_err-poly.ensures)

pub loop-lane-preserved : goal.loop-lane-preserved
loop-lane-preserved c = record {
  count = rw c.in_ok-push.ensures (omega (arith, length_push c.loop-lane.polys c.in_ok-poly.poly, c.loop-lane.invariant.count));
  nearest = decode_more c.args.t c.loop-lane.lane c.args.files.now c.loop-lane.polys _ c.in_ok-poly.poly c.loop-lane.invariant.count c.loop-lane.invariant.nearest c.in_ok-poly.ensures c.in_ok-push.ensures;
}
