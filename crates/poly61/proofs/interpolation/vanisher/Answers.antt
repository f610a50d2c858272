use Rattle.std.proofs.Common.{◌≡◌, ◌∷◌, ◌∙◌}
use Rattle.std.proofs.lemmas.Result.{IfOk-weaker}
use Rattle.algebra61.specs.Field.{zeroₚ, oneₚ}
use Rattle.poly61.proofs.Newton.{roots, all_pushed, vanisher_differs, vanisher_is}
use Rattle.poly61.proofs.interpolation.vanisher.Goals as goal

pushed : (c : goal.After-as_slice) → c.as_slice.result.now ≡ (zeroₚ, oneₚ) ∷ roots c.args.set.now
pushed c = c.as_slice.ensures.value ∙ all_pushed c.loop-i.points.items c.loop-i.i-index c.args.set.now _ c.loop-i-test.false c.loop-i.invariant

pub interpolate-requires : goal.interpolate-requires
interpolate-requires c = vanisher_differs c.args.set.now c.as_slice.result.now c.requires.differ c.requires.within (pushed c)

pub returns : goal.returns
returns c =
    IfOk-weaker c.interpolate.result _ _
    (λ p h. vanisher_is c.args.set.now c.as_slice.result.now p (c.as_slice.ensures.value ∙ all_pushed c.loop-i.points.items c.loop-i.i-index c.args.set.now _ c.loop-i-test.false c.loop-i.invariant) h)
    c.interpolate.ensures
