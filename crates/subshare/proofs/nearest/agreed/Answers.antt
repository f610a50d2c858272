use Rattle.std.proofs.Common.{◌≡◌, ◌+◌, true, false, ◌∙◌, arith}
use Rattle.subshare.proofs.Agreement.{first_differ, none_by_few, IsFirst, interpolant, agrees, none_by_wrong}
use Rattle.subshare.proofs.nearest.agreed.Goals as goal

pub returns-then-first-count : goal.returns-then-first-count
returns-then-first-count c =
    none_by_few c.args.degree c.args.values.now c.as_slice-first.result.now (c.as_slice-first.ensures.value ∙ c.in_ok-list.ensures) (omega (arith, c.if-first-count.true))

pub interpolate-requires : goal.interpolate-requires
interpolate-requires c = first_differ (c.args.degree + 1) c.args.values.now c.as_slice-first.result.now c.requires (c.as_slice-first.ensures.value ∙ c.in_ok-list.ensures)

pub returns-then-is_right : goal.returns-then-is_right
returns-then-is_right c =
    let first : IsFirst c.args.degree c.args.values.now c.in_ok-poly.poly = interpolant c.args.degree c.args.values.now c.as_slice-first.result.now c.in_ok-poly.poly
    (c.as_slice-first.ensures.value ∙ c.in_ok-list.ensures) (omega (arith, c.if-first-count.false)) c.in_ok-poly.ensures in
    agrees c.args.degree c.args.values.now c.in_ok-poly.poly first (c.is_right.ensures.0 c.if-is_right.true)

pub returns : goal.returns
returns c =
    let first : IsFirst c.args.degree c.args.values.now c.in_ok-poly.poly = interpolant c.args.degree c.args.values.now c.as_slice-first.result.now c.in_ok-poly.poly
    (c.as_slice-first.ensures.value ∙ c.in_ok-list.ensures) (omega (arith, c.if-first-count.false)) c.in_ok-poly.ensures in
    none_by_wrong c.args.degree c.args.values.now c.in_ok-poly.poly c.requires first
    (λ e. let yes : c.is_right.result ≡ true = c.is_right.ensures.1 e in let no : c.is_right.result ≡ false = c.if-is_right.false in cc)
