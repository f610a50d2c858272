use Rattle.std.proofs.Common.{◌∙◌, ap, map, arith}
use Rattle.plays.specs.Said.{points_up_to}
use Rattle.playback.proofs.Places.{points_map_step}
use Rattle.rehearsal.specs.Lived.{kept_of}
use Rattle.rehearsal.proofs.begun.begun_with.Goals as goal

pub loop-member-preserved : goal.loop-member-preserved
loop-member-preserved c =
    points_map_step (kept_of c.args.shareless c.args.shares.now) c.loop-member.member c.loop-member.begun.items _ _ (omega arith) c.loop-member.invariant c.in_ok-push.ensures.items c.kept_of.ensures

pub returns : goal.returns
returns c = c.loop-member.invariant ∙ ap (λ n. map (kept_of c.args.shareless c.args.shares.now) (points_up_to n)) (omega arith)
