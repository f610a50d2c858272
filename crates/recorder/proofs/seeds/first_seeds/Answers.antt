use Rattle.std.proofs.Common.{arith}
use Rattle.playback.proofs.Places.{points_map_step}
use Rattle.scenes.specs.Numbers.{seed_of}
use Rattle.recorder.proofs.seeds.first_seeds.Goals as goal

pub loop-member-preserved : goal.loop-member-preserved
loop-member-preserved c =
    let here = c.loop-member in
    record {
      low = omega arith;
      so_far = points_map_step (seed_of c.args.number 0) here.member here.seeds.items c.push.new.self.items c.seed_of.result here.invariant.low here.invariant.so_far c.in_ok-push.ensures.items c.seed_of.ensures;
    }
