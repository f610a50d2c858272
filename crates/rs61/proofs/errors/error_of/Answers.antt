use Rattle.std.proofs.Common.{◌≤◌, ◌<◌, length, ◌∙◌, arith}
use Rattle.rs61.proofs.ErrorLoops.{few_entries, few_values, error_of_none, error_of_many, error_of_near}
use Rattle.rs61.proofs.errors.error_of.Goals as goal

pub decode-requires-clause-few : goal.decode-requires-clause-few
decode-requires-clause-few c =
    few_values c.args.points c.args.bound c.args.syndrome.now c.in_ok-word.word c.as_slice.result.now c.requires.third c.requires.few c.requires.long c.in_ok-word.ensures (c.as_slice.ensures.value ∙ c.in_ok-values.ensures)

pub returns-in-Err-NoPolynomial : goal.returns-in-Err-NoPolynomial
returns-in-Err-NoPolynomial c =
    error_of_none c.args.points c.args.bound c.args.syndrome.now c.in_ok-word.word c.as_slice.result.now c.requires.third c.requires.few c.requires.long c.in_ok-word.ensures (c.as_slice.ensures.value ∙ c.in_ok-values.ensures)
    (rw c.in-Err-NoPolynomial.field-0-is at c.in-Err-NoPolynomial.ensures)

pub returns-then-len-bound : goal.returns-then-len-bound
returns-then-len-bound c =
    let many : c.args.bound < length c.in-Ok.found.wrong = omega (arith, c.if-len-bound.true, c.len.ensures) in
    error_of_many c.args.points c.args.bound c.args.syndrome.now c.in_ok-word.word c.as_slice.result.now c.requires.third c.requires.few c.requires.long c.in_ok-word.ensures (c.as_slice.ensures.value ∙ c.in_ok-values.ensures)
    c.in-Ok.found.poly c.in-Ok.found.wrong c.in-Ok.ensures.0 c.in-Ok.ensures.1 many

pub differences-requires : goal.differences-requires
differences-requires c =
    few_entries c.args.points c.args.bound c.args.syndrome.now c.in_ok-word.word c.as_slice.result.now c.requires.third c.requires.few c.requires.long c.in_ok-word.ensures (c.as_slice.ensures.value ∙ c.in_ok-values.ensures)

pub returns : goal.returns
returns c =
    let right : length c.in-Ok.found.wrong ≤ c.args.bound = omega (arith, c.if-len-bound.false, c.len.ensures) in
    error_of_near c.args.points c.args.bound c.args.syndrome.now c.in_ok-word.word c.as_slice.result.now c.requires.third c.requires.few c.requires.long c.in_ok-word.ensures (c.as_slice.ensures.value ∙ c.in_ok-values.ensures)
    c.in-Ok.found.poly c.in-Ok.found.wrong c.in_ok-error.error c.in-Ok.ensures.0 c.in-Ok.ensures.1 right c.in_ok-error.ensures
