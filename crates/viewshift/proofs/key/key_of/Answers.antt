use Rattle.std.proofs.Common.{List, Option, length, sym, ap, ◌∙◌, subst, ◌≤◌}
use Rattle.algebra61.specs.Field.{Fp}
use Rattle.playback.specs.declared.phase.Phase.{Phase}
use Rattle.viewshift.specs.Walk.{IsAt}
use Rattle.viewshift.proofs.Keys.{few_after, key_is}
use Rattle.viewshift.proofs.key.key_of.Goals as goal

pub polynomials_of-requires : goal.polynomials_of-requires
polynomials_of-requires c =
    subst (λ (l : List (Option (List Fp))). length l ≤ 30) (sym c.as_slice-2.ensures.value) (few_after c.phases-phases.result.now 0 c.in_ok-shares.shares.items c.in_ok-shares.ensures)

pub returns : goal.returns
returns c =
    key_is c.args.history.now.phases c.args.history.now.exposed c.as_slice-2.result.now c.in_ok-polynomials.polynomials c.values_at.result c.phases-phases.ensures.history
    (subst (λ (l : List Phase). IsAt l 1 c.as_slice-2.result.now) c.phases-phases.ensures.is
    (subst (λ (l : List (Option (List Fp))). IsAt c.phases-phases.result.now 1 l) (sym c.as_slice-2.ensures.value) c.in_ok-shares.ensures))
    c.in_ok-polynomials.ensures c.values_at.ensures
