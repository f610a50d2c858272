use Rattle.std.proofs.Common.{◌≡◌, ◌∙◌, [], ◌∷◌, length, IfNone, sym, ap, subst, arith}
use Rattle.std.specs.Prelude.{string_bytes}
use Rattle.std.proofs.lemmas.Grind.{common_steps}
use Rattle.std.proofs.lemmas.List.{length-map, get_or-map}
use Rattle.keyroom.specs.Words.{texts, is_file_name, MakesNothing}
use Rattle.keyroom.proofs.Makings.{no_making}
use Rattle.keyroom.proofs.command.making_words.Goals as goal
use Rattle.keyroom.proofs.command.making_words.Goals.{in_default-via-then-rest-lt3, in_default-via-in-len4+else-is_file_name, in_default-via-else-rest-lt3+else-rest-lt4+else-rest-lt5}

pub returns-in-len3-clause-none : goal.returns-in-len3-clause-none
returns-in-len3-clause-none c =
    let same : c.as_str.result.now ∷ c.as_str-in-len3.result.now ∷ c.as_str-in-len3-2.result.now ∷ [] ≡ texts c.args.rest.now = grind (arith, common_steps) in
    subst (λ words. IfNone c.making_of.result (MakesNothing words)) same c.making_of.ensures.none

pub returns-in-len4-clause-none : goal.returns-in-len4-clause-none
returns-in-len4-clause-none c =
    let same : c.as_str-in-len4.result.now ∷ c.as_str-in-len4-2.result.now ∷ c.as_str-in-len4-3.result.now ∷ c.as_str-in-len4-4.result.now ∷ [] ≡ texts c.args.rest.now = grind (arith, common_steps) in
    subst (λ words. IfNone c.making_of-in-len4.result (MakesNothing words)) same c.making_of-in-len4.ensures.none

pub returns-in_default-clause-none : goal.returns-in_default-clause-none
returns-in_default-clause-none c =
    let same : length (texts c.args.rest.now) ≡ length c.args.rest.now = length-map c.args.rest.now string_bytes in
    elim c.in_default.branch [
      | in_default-via-then-rest-lt3 w ↦ no_making (texts c.args.rest.now) (λ e. grind (arith, common_steps, same, e)) (λ e. absurd (grind (arith, common_steps, same, e)))
      | in_default-via-in-len4+else-is_file_name w ↦ no_making (texts c.args.rest.now) (λ e. omega (arith, same, e))
          (λ e. ap is_file_name (get_or-map string_bytes c.args.rest.now 3 w.drill-item.result [] (omega (arith, w.in-len4.len_at_least)) ∙ ap string_bytes (sym w.drill-item.is) ∙ sym w.as_str-then-rest-lt5.ensures.value) ∙ sym w.is_file_name.ensures ∙ w.if-is_file_name.false)
      | in_default-via-else-rest-lt3+else-rest-lt4+else-rest-lt5 w ↦ no_making (texts c.args.rest.now) (λ e. grind (arith, common_steps, same, e)) (λ e. absurd (grind (arith, common_steps, same, e)))
    ]
