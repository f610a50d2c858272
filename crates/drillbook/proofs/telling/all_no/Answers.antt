use Rattle.std.proofs.Common.{◌≡◌, ℕ, ◌+◌, ◌<◌, Bool, false, List, [], ◌∷◌, ◌++◌, length, drop, map, ap, sym, ◌∙◌, append_assoc, add-one, drop-cons}
use Rattle.drillbook.proofs.telling.all_no.Goals as goal

step : (votes list new : List Bool) (i : ℕ) → i < length votes → list ++ map (λ _. false) (drop i votes) ≡ map (λ _. false) votes → new ≡ list ++ false ∷ [] → new ++ map (λ _. false) (drop (i + 1) votes) ≡ map (λ _. false) votes
step votes list new i lt e more =
    ap (λ (xs : List Bool). xs ++ map (λ _. false) (drop (i + 1) votes)) more
    ∙ append_assoc list (false ∷ []) (map (λ _. false) (drop (i + 1) votes))
    ∙ ap (λ (k : ℕ). list ++ false ∷ map (λ _. false) (drop k votes)) (add-one i)
    ∙ sym (ap (λ (xs : List Bool). list ++ map (λ _. false) xs) (drop-cons votes i false lt))
    ∙ e

pub loop-vote-preserved : goal.loop-vote-preserved
loop-vote-preserved c = step c.args.votes.now c.loop-vote.list _ c.loop-vote.vote-index c.loop-vote-test.true c.loop-vote.invariant c.in_ok-push.ensures
