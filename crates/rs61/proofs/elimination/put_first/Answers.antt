use Rattle.std.proofs.Common.{sym, ap, ◌∙◌, [], ◌∷◌, ◌++◌}
use Rattle.lists.proofs.Places.{take_at}
use Rattle.rs61.proofs.elimination.put_first.Goals as goal

pub loop-k-preserved : goal.loop-k-preserved
loop-k-preserved c =
    c.in_ok-push-2.ensures ∙ ap (λ l. l ++ c.at.result.now ∷ []) c.loop-k.invariant
    ∙ ap (λ l. c.args.first ∷ l) (sym (take_at c.args.rest.now c.loop-k.k c.at.result.now c.at.ensures))
