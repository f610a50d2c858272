use Rattle.std.proofs.Common.{◌≡◌, ℕ, ◌+◌, ◌-◌, ◌*◌, take, drop, ap, sym, ◌∙◌, arith, length, subst}
use Rattle.bivar61.specs.Grids.{IsGrid, rows_of, grid_of, coefficient}
use Rattle.bivar61.proofs.GridLemmas.{one_row_more, grid_of_is, placed}
use Rattle.bivar61.proofs.Grid.from_elements.Goals as goal

whole : (c : goal.After-loop-a) → c.loop-a.rows.items ≡ grid_of c.args.d c.args.c.now
whole c =
    let end : c.loop-a.a ≡ c.args.d + 1 = omega (arith, c.loop-a-test.false, c.loop-a.auto.a-end) in
    c.loop-a.invariant ∙ ap (λ k. rows_of (c.args.d + 1) k c.args.c.now) end

shape : (c : goal.After-loop-a) → IsGrid c.args.d c.loop-a.rows.items
shape c = subst (IsGrid c.args.d) (sym (whole c)) (grid_of_is c.args.d c.args.c.now c.requires.degree c.requires.size)

pub loop-a-preserved : goal.loop-a-preserved
loop-a-preserved c =
    let width : ℕ = c.args.d + 1 in
    let long : c.loop-a.a * width + width - c.loop-a.a * width ≡ width = omega arith in
    one_row_more width c.loop-a.a c.args.c.now c.in_ok-list_of.field-0 c.loop-a.rows.items c.push.new.self.items c.loop-a.invariant
    (c.in_ok-list_of.ensures ∙ ap (λ n. take n (drop (c.loop-a.a * width) c.args.c.now)) long) c.in_ok-push.ensures.items

pub invariant_of-result : goal.invariant_of-result
invariant_of-result c = shape c

pub returns-clause-shape : goal.returns-clause-shape
returns-clause-shape c = shape c

pub returns-clause-placed : goal.returns-clause-placed
returns-clause-placed c a b la lb =
    ap (λ g. coefficient g a b) (whole c) ∙ placed (c.args.d + 1) (c.args.d + 1) c.args.c.now a b (omega (arith, la)) (omega (arith, lb))
