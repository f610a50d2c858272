use Rattle.std.proofs.Common.{◌≡◌, ℕ, List, length, sym, ap, subst, arith}
use Rattle.playback.specs.declared.phase.Phase.{Phase}
use Rattle.viewshift.specs.Fits.{AreHistory}
use Rattle.viewshift.specs.Seen.{AreSeen}
use Rattle.viewshift.proofs.Sights.{all_seen}
use Rattle.viewshift.proofs.views.views_of.Goals as goal

pub play_at-requires-clause-fits : goal.play_at-requires-clause-fits
play_at-requires-clause-fits c =
    let are : AreHistory c.phases-phases.result.now c.args.history.now.exposed = subst (λ (l : List Phase). AreHistory l c.args.history.now.exposed) (sym c.phases-phases.ensures.is) c.phases-phases.ensures.history in
    λ k le. are.phases_fit.1 k (omega (arith, le, c.loop-place-test.true, c.len-place-end.ensures))

pub returns : goal.returns
returns c =
    let seen : AreSeen c.args.history.now.phases c.args.history.now.exposed c.loop-place.place c.loop-place.views =
    subst (λ (l : List Phase). AreSeen l c.args.history.now.exposed c.loop-place.place c.loop-place.views) c.phases-phases.ensures.is c.loop-place.invariant.1 in
    let all : c.loop-place.place ≡ length c.args.history.now.phases = omega (arith, c.loop-place-test.false, c.loop-place.auto, c.len-place-end.ensures, ap (λ (l : List Phase). length l) c.phases-phases.ensures.is) in
    all_seen c.args.history.now.phases c.args.history.now.exposed c.loop-place.views c.phases-phases.ensures.history
    (subst (λ (n : ℕ). AreSeen c.args.history.now.phases c.args.history.now.exposed n c.loop-place.views) all seen)
