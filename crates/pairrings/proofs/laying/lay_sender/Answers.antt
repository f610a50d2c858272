use Rattle.std.proofs.Common.{◌≡◌, ◌<◌, ◌+◌, ◌++◌, ◌∷◌, [], ℕ, List, refl, sym, subst, arith, length, set, Vec, Global}
use Rattle.pairrings.specs.declared.heads.Head.{Head}
use Rattle.pairrings.specs.declared.tails.Tail.{Tail}
use Rattle.pairrings.specs.Laying.{Grown, GrownBelow}
use Rattle.pairrings.proofs.LayLemmas.{none_grown, one_grown, rest_same}
use Rattle.pairrings.proofs.laying.lay_sender.Goals as goal

pub loop-k-init : goal.loop-k-init
loop-k-init g c = (none_grown _ _ _ c.new-heads.ensures.items, λ j d le. refl)

pub loop-k-preserved : goal.loop-k-preserved
loop-k-preserved g c =
    let olds = c.args.tails.now in let now = c.loop-k.tails in (
      subst (λ (l : List (Head g.row.M.Denot)). GrownBelow c.args.rounds (c.loop-k.k + 1) olds l (set now c.loop-k.k c.lay_ring.new.tails)) (sym c.in_ok-push.ensures.items)
          (one_grown c.args.rounds c.loop-k.k olds now c.loop-k.heads.items c.index-tails-k.result c.lay_ring.new.tails c.in_ok-lay_ring.field-0
          (omega arith) (omega (arith, c.loop-k.auto.tails)) c.loop-k.invariant.1 c.index-tails-k.is
          (subst (λ (v : Vec (Tail g.row.M.Denot) Global). Grown c.args.rounds v c.in_ok-lay_ring.field-0 c.lay_ring.new.tails) (sym c.index-tails-k.is) c.in_ok-lay_ring.ensures) c.loop-k.invariant.0),
      rest_same c.loop-k.k olds now c.lay_ring.new.tails c.loop-k.invariant.1,
    )
