use Rattle.std.proofs.Common.{◌≡◌, ◌-◌, ◌+◌, ◌++◌, List, All, ap, sym, ◌∙◌, subst, arith}
use Rattle.algebra61.specs.Field.{Fp}
use Rattle.bivar61.specs.Grids.{IsGrid}
use Rattle.chance61.specs.Draws.{Source, drawn_in_turn, grid_drawn, five_grids_drawn}
use Rattle.chance61.proofs.DrawLemmas.{Turns, turn_step, turn_end, source_same, all_more}
use Rattle.chance61.proofs.Chance.draw_grids.Goals as goal

pub loop-lane-init : goal.loop-lane-init
unfolding five_grids_drawn
loop-lane-init c =
    let draw = grid_drawn c.args.d c.args.self.now.seed in
    let taken = ap (λ (s : Source). s.taken) c.in_ok-ahead.ensures in (
      ap (λ (s : Source). s.seed) c.in_ok-ahead.ensures,
      record {
        items = ap (λ (l : List (List (List Fp))). l ++ (drawn_in_turn draw 5 c.in_ok-ahead.ahead.taken).0) c.new-grids.ensures ∙ ap (λ p. (drawn_in_turn draw 5 p).0) taken;
        after = ap (λ p. (drawn_in_turn draw 5 p).1) taken;
      },
      subst (λ (l : List (List (List Fp))). All (IsGrid c.args.d) l) (sym c.new-grids.ensures) (λ k d lt. absurd (omega arith)),
    )

pub loop-lane-preserved : goal.loop-lane-preserved
loop-lane-preserved c =
    let seed = c.args.self.now.seed in
    let same = c.loop-lane.invariant.0 in
    let whole = five_grids_drawn c.args.d seed c.args.self.now.taken in
    let step = turn_step (grid_drawn c.args.d seed) 5 c.loop-lane._lane c.loop-lane.ahead.taken c.loop-lane.grids
    whole _ c.draw_grid.new.self.taken c.loop-lane-test.true c.loop-lane.invariant.1
    (c.in_ok-draw_grid.ensures.grid ∙ ap (λ s. (grid_drawn c.args.d s c.loop-lane.ahead.taken).0) same)
    (ap (λ (s : Source). s.taken) c.in_ok-draw_grid.ensures.after ∙ ap (λ s. (grid_drawn c.args.d s c.loop-lane.ahead.taken).1) same) in
    let all = all_more c.args.d c.loop-lane.grids _ c.loop-lane.invariant.2 c.in_ok-draw_grid.ensures.shape in (
      ap (λ (s : Source). s.seed) c.in_ok-draw_grid.ensures.after ∙ same,
      subst (λ (l : List (List (List Fp))). Turns (grid_drawn c.args.d seed) (5 - (c.loop-lane._lane + 1)) c.draw_grid.new.self.taken l whole) (sym c.in_ok-push.ensures) step,
      subst (λ (l : List (List (List Fp))). All (IsGrid c.args.d) l) (sym c.in_ok-push.ensures) all,
    )

whole : (c : goal.After-loop-lane) → (c.loop-lane.grids ≡ (five_grids_drawn c.args.d c.args.self.now.seed c.args.self.now.taken).0) × (c.loop-lane.ahead.taken ≡ (five_grids_drawn c.args.d c.args.self.now.seed c.args.self.now.taken).1)
whole c = turn_end _ 5 c.loop-lane._lane c.loop-lane.ahead.taken c.loop-lane.grids _ c.loop-lane-test.false c.loop-lane.invariant.1

pub returns-clause-grids : goal.returns-clause-grids
returns-clause-grids c = (whole c).0

pub returns-clause-shapes : goal.returns-clause-shapes
returns-clause-shapes c = c.loop-lane.invariant.2

pub returns-clause-after : goal.returns-clause-after
returns-clause-after c = source_same _ _ _ c.loop-lane.invariant.0 (whole c).1
