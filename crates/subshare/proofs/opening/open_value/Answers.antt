use Rattle.std.proofs.Common.{ℕ, ◌+◌, ◌*◌, ◌≤◌, refl, ◌∙◌, arith}
use Rattle.talk.specs.declared.messages.Post.{Post}
use Rattle.talk.specs.Shape.{Shape}
use Rattle.subshare.specs.Opening.{post_of}
use Rattle.subshare.proofs.Steps.{place_values, few_values, opened_by, unopened_by}
use Rattle.subshare.proofs.opening.open_value.Goals as goal

pub nearest_to-requires-clause-few : goal.nearest_to-requires-clause-few
nearest_to-requires-clause-few c =
    let s : Shape = c.args.setting.now in
    let few : s.receivers ≤ 15 = omega (arith, c.receivers-receivers.ensures.is, c.receivers-receivers.ensures.most) in
    few_values s (post_of s c.args.posts.now) (c.args.lane * c.checks-checks.result + c.args.place) c.as_slice.result.now few (c.as_slice.ensures.value ∙ c.in_ok-values.ensures)

pub returns-in_default : goal.returns-in_default
returns-in_default c =
    let s : Shape = c.args.setting.now in
    let post : ℕ → Post = post_of s c.args.posts.now in
    let k : ℕ = c.args.lane * c.checks-checks.result + c.args.place in
    unopened_by s post c.args.lane c.args.place c.degree.result c.as_slice.result.now c.degree.ensures.is
    (place_values s post c.args.lane c.args.place c.checks-checks.result k c.as_slice.result.now c.checks-checks.ensures.is refl (c.as_slice.ensures.value ∙ c.in_ok-values.ensures))
    (rw c.in_default.is at c.in_ok-nearest.ensures)

pub returns : goal.returns
returns c =
    let s : Shape = c.args.setting.now in
    let post : ℕ → Post = post_of s c.args.posts.now in
    let k : ℕ = c.args.lane * c.checks-checks.result + c.args.place in
    opened_by s post c.args.lane c.args.place c.degree.result c.as_slice.result.now c.in-Some.poly c.eval.result c.degree.ensures.is
    (place_values s post c.args.lane c.args.place c.checks-checks.result k c.as_slice.result.now c.checks-checks.ensures.is refl (c.as_slice.ensures.value ∙ c.in_ok-values.ensures))
    (rw c.in-Some.is at c.in_ok-nearest.ensures) c.eval.ensures
