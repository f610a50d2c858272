use Rattle.std.proofs.Common.{length, ◌≡◌, ◌++◌, [], List, All, get_or, ap, sym, ◌∙◌, subst, arith}
use Rattle.algebra61.specs.Field.{Fp, zeroₚ}
use Rattle.algebra61.specs.Grid.{grid_at}
use Rattle.bivar61.specs.Grids.{IsGrid}
use Rattle.chance61.specs.Draws.{Source, drawn_for, grid_drawn_with, five_grids_drawn_with}
use Rattle.chance61.proofs.DrawLemmas.{for_end, source_same, drawn_with_grids, drawn_with_constants, length-drawn_with}
use Rattle.chance61.proofs.Chance.draw_grids_with.Goals as goal

pub loop-constant-init : goal.loop-constant-init
unfolding five_grids_drawn_with
loop-constant-init c =
    let draw = grid_drawn_with c.args.degree c.args.self.now.seed in
    let constants = c.args.constants.now in
    let taken = ap (λ (s : Source). s.taken) c.in_ok-ahead.ensures in (
      ap (λ (s : Source). s.seed) c.in_ok-ahead.ensures,
      record {
        items = ap (λ (l : List (List (List Fp))). l ++ (drawn_for draw constants c.in_ok-ahead.ahead.taken).0) c.new-grids.ensures ∙ ap (λ p. (drawn_for draw constants p).0) taken;
        after = ap (λ p. (drawn_for draw constants p).1) taken;
      },
    )

whole : (c : goal.After-loop-constant) →
    (c.loop-constant.grids ≡ (five_grids_drawn_with c.args.degree c.args.constants.now c.args.self.now.seed c.args.self.now.taken).0)
    × (c.loop-constant.ahead.taken ≡ (five_grids_drawn_with c.args.degree c.args.constants.now c.args.self.now.seed c.args.self.now.taken).1)
whole c =
    for_end (grid_drawn_with c.args.degree c.args.self.now.seed) c.args.constants.now c.loop-constant.constant-index c.loop-constant.ahead.taken c.loop-constant.grids
    (five_grids_drawn_with c.args.degree c.args.constants.now c.args.self.now.seed c.args.self.now.taken) (omega (arith, c.loop-constant-test.false, c.told-constants)) c.loop-constant.invariant.1

pub returns-clause-grids : goal.returns-clause-grids
returns-clause-grids c = (whole c).0

pub returns-clause-five : goal.returns-clause-five
returns-clause-five c =
    ap length (whole c).0 ∙ length-drawn_with c.args.degree c.args.constants.now c.args.self.now.seed c.args.self.now.taken ∙ c.told-constants

pub returns-clause-shapes : goal.returns-clause-shapes
returns-clause-shapes c =
    subst (λ (l : List (List (List Fp))). All (IsGrid c.args.degree) l) (sym (whole c).0)
    (drawn_with_grids c.args.degree c.args.constants.now c.args.self.now.seed c.args.self.now.taken c.requires)

pub returns-clause-constants : goal.returns-clause-constants
returns-clause-constants c = λ lane lt.
    ap (λ (l : List (List (List Fp))). grid_at (get_or l lane []) zeroₚ zeroₚ) (whole c).0
    ∙ drawn_with_constants c.args.degree c.args.constants.now c.args.self.now.seed c.args.self.now.taken lane (omega (arith, lt, c.told-constants))

pub returns-clause-after : goal.returns-clause-after
returns-clause-after c = source_same _ _ _ c.loop-constant.invariant.0 (whole c).1
