use Rattle.talk.specs.Shape.{Shape}
use Rattle.subshare.specs.Opening.{post_of}
use Rattle.moveshare.proofs.Answering.{found}
use Rattle.moveshare.proofs.lanes.lane_errors.Goals as goal

pub returns : goal.returns
returns c =
    let s : Shape = c.args.setting.now in
    found s (post_of s c.args.posts.now) c.in_ok-syndromes.syndromes c.errors_of.result c.in_ok-syndromes.ensures c.errors_of.ensures
