use Rattle.std.proofs.Common.{All, take, sym, subst, refl, arith}
use Rattle.std.proofs.lemmas.List.{take_all}
use Rattle.bivar61.specs.Grids.{IsGrid}
use Rattle.playback.proofs.Places.{take_item, all_more}
use Rattle.playback.proofs.kept.are_of_degree.Goals as goal

pub loop-grid-preserved : goal.loop-grid-preserved
loop-grid-preserved c =
    subst (All (IsGrid c.args.degree)) (sym (take_item c.args.grids.now c.loop-grid.grid-index c.grid-item.result (omega arith) c.grid-item.is))
    (all_more (IsGrid c.args.degree) (take c.loop-grid.grid-index c.args.grids.now) c.grid-item.result c.loop-grid.invariant
    (subst (λ d. IsGrid d c.grid-item.result) (omega arith) c.degree.ensures))

pub returns : goal.returns
returns c = (
  λ e. subst (All (IsGrid c.args.degree)) (take_all c.loop-grid.grid-index c.args.grids.now (omega arith)) c.loop-grid.invariant,
  λ all. refl,
)
