use Rattle.std.proofs.Common.{◌≡◌, ◌<◌, arith}
use Rattle.talk.specs.Shape.{Shape}
use Rattle.subshare.specs.Opening.{post_of}
use Rattle.subshare.proofs.Steps.{opened_more, first_unopened, all_opened}
use Rattle.subshare.proofs.opening.open_syndrome.Goals as goal

pub returns-in_default : goal.returns-in_default
returns-in_default c =
    let s : Shape = c.args.setting.now in
    let within : c.loop-place.place < s.checks = omega (arith, c.loop-place-test.true, c.checks-place-end.ensures.is) in
    first_unopened s (post_of s c.args.posts.now) c.args.lane c.loop-place.place c.loop-place.list within c.loop-place.invariant (rw c.in_default.is at c.in_ok-opened.ensures)

pub loop-place-preserved : goal.loop-place-preserved
loop-place-preserved c =
    let s : Shape = c.args.setting.now in
    opened_more s (post_of s c.args.posts.now) c.args.lane c.loop-place.place c.loop-place.list c.push.new.self c.in-Some.value c.loop-place.invariant
    (rw c.in-Some.is at c.in_ok-opened.ensures) c.in_ok-push.ensures

pub returns : goal.returns
returns c =
    let s : Shape = c.args.setting.now in
    let end : c.loop-place.place ≡ s.checks = omega (arith, c.loop-place-test.false, c.loop-place.auto.place-end, c.checks-place-end.ensures.is) in
    all_opened s (post_of s c.args.posts.now) c.args.lane c.loop-place.place c.loop-place.list end c.loop-place.invariant
