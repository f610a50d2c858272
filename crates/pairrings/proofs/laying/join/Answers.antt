use Rattle.std.proofs.Common.{◌≡◌, ◌<◌, ◌∙◌, ℕ, refl, arith, length, length-set, le_refl}
use Rattle.pairrings.proofs.LayLemmas.{none_joined, one_joined, rest_same}
use Rattle.pairrings.proofs.laying.join.Goals as goal

pub loop-k-init : goal.loop-k-init
loop-k-init g c = (none_joined _ _ _ c.new-ends.ensures.items, (refl, λ j d le. refl), (refl, λ j d le. refl))

pub loop-k-preserved : goal.loop-k-preserved
loop-k-preserved g c =
    let heads = c.args.heads.items in let tails = c.args.tails.items in (
      one_joined c.loop-k.k heads tails c.loop-k.ends.items c.push.new.self.items _ c.index_mut.result.now c.index_mut-in-loop-k.result.now c.in_ok-push.ensures.items
          (omega (arith, c.requires.heads.0)) (omega (arith, c.requires.tails.0))
          c.replace-own_heads.ensures.value (c.index_mut.ensures.value ∙ c.loop-k.invariant.1.1 c.loop-k.k _ (le_refl c.loop-k.k))
          c.replace-own_tails.ensures.value (c.index_mut-in-loop-k.ensures.value ∙ c.loop-k.invariant.2.1 c.loop-k.k _ (le_refl c.loop-k.k))
          c.loop-k.invariant.0,
      (length-set c.loop-k.heads.items c.loop-k.k _ ∙ c.loop-k.invariant.1.0, rest_same c.loop-k.k heads c.loop-k.heads.items _ c.loop-k.invariant.1.1),
      (length-set c.loop-k.tails.items c.loop-k.k _ ∙ c.loop-k.invariant.2.0, rest_same c.loop-k.k tails c.loop-k.tails.items _ c.loop-k.invariant.2.1),
    )
