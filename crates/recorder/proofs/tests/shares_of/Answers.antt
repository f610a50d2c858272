use Rattle.std.proofs.Common.{◌≡◌, ℕ, ◌-◌, ap, ◌∙◌, arith}
use Rattle.talk.specs.Sync.{has}
use Rattle.playback.proofs.Places.{points_map_step}
use Rattle.commands.specs.Phase.{shares_given, unless_down}
use Rattle.recorder.proofs.Begins.{ones}
use Rattle.recorder.proofs.tests.shares_of.Goals as goal

pub loop-member-preserved : goal.loop-member-preserved
loop-member-preserved c =
    let here = c.loop-member in
    record {
      low = omega arith;
      so_far = points_map_step (λ (member : ℕ). unless_down (has c.args.side.now.shareless member) ones) here.member here.shares.items c.push.new.self.items c.share_of.result here.invariant.low here.invariant.so_far
          c.in_ok-push.ensures.items c.share_of.ensures;
    }

pub returns : goal.returns
returns c =
    let all : c.loop-member.member - 1 ≡ c.args.side.now.members = omega arith in
    ((λ member. ones), c.loop-member.invariant.so_far ∙ ap (shares_given (has c.args.side.now.shareless) (λ member. ones)) all)
