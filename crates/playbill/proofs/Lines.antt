-- One more line in the loop over the phases.
use Rattle.std.proofs.Common.{◌≡◌, ℕ, zero, suc, ◌+◌, ◌<◌, List, [], ◌∷◌, ◌++◌, length, get_or, take, sym, ap, ◌∙◌, arith, append_assoc, append-nil}
use Rattle.scenes.specs.declared.scene.Scene.{Scene}
use Rattle.playbill.specs.Text.{phase_line, phase_lines}

-- the line behind those of the phases before it
lines_more : (scenes : List Scene) (accepted : List ℕ) (k : ℕ) (d : Scene) → k < length scenes → k < length accepted →
    phase_lines (take (suc k) scenes) (take (suc k) accepted) ≡ phase_lines (take k scenes) (take k accepted) ++ phase_line (get_or scenes k d) (get_or accepted k 0)
lines_more [] accepted k d lt less = absurd (omega (arith, lt))
lines_more (scene ∷ scenes) [] k d lt less = absurd (omega (arith, less))
lines_more (scene ∷ scenes) (count ∷ accepted) zero d lt less = append-nil (phase_line scene count)
lines_more (scene ∷ scenes) (count ∷ accepted) (suc k) d lt less =
    ap (λ (t : List ℕ). phase_line scene count ++ t) (lines_more scenes accepted k d (omega (arith, lt)) (omega (arith, less)))
    ∙ sym (append_assoc (phase_line scene count) (phase_lines (take k scenes) (take k accepted)) (phase_line (get_or scenes k d) (get_or accepted k 0)))

pub phase_written : (scenes : List Scene) (accepted : List ℕ) (k : ℕ) (d : Scene) (front old new : List ℕ) → k < length scenes → k < length accepted →
    old ≡ front ++ phase_lines (take k scenes) (take k accepted) → new ≡ old ++ phase_line (get_or scenes k d) (get_or accepted k 0) →
    new ≡ front ++ phase_lines (take (k + 1) scenes) (take (k + 1) accepted)
phase_written scenes accepted k d front old new lt less so_far wrote =
    let one : suc k ≡ k + 1 = omega arith in
    let l = phase_line (get_or scenes k d) (get_or accepted k 0) in
    wrote ∙ ap (λ (t : List ℕ). t ++ l) so_far ∙ append_assoc front (phase_lines (take k scenes) (take k accepted)) l
    ∙ ap (λ (t : List ℕ). front ++ t) (sym (lines_more scenes accepted k d lt less))
    ∙ ap (λ n. front ++ phase_lines (take n scenes) (take n accepted)) one
