-- What the warden cut in a phase is what the pace answered.
use Rattle.std.proofs.Common.{◌≡◌, ◌⊎◌, inl, inr, ⊎_elim, ℕ, ◌+◌, ◌-◌, ◌<◌, ◌≤◌, List, [], refl, sym, ap, ◌∙◌, subst, arith}
use Rattle.std.specs.Int.{bit_at}
use Rattle.std.proofs.lemmas.Nat.Bits.{bit_at-zero}
use Rattle.std.proofs.lemmas.Bool.{cases_lt}
use Rattle.std.proofs.lemmas.List.{get_or_past}
use Rattle.talk.specs.declared.messages.Post.{Post}
use Rattle.talk.specs.Shape.{Shape}
use Rattle.talk.specs.Sync.{Ways, all_seats, AllAllowed}
use Rattle.counters.specs.Counts.{Rose}
use Rattle.roundboard.specs.declared.view.Event.{Event}
use Rattle.roundboard.specs.declared.page.Sheet.{Sheet}
use Rattle.roundboard.specs.declared.finish.ClosedBoard.{ClosedBoard}
use Rattle.roundboard.specs.Rule.{IsPart}
use Rattle.roundboard.specs.Sheets.{empty, sheet_of}
use Rattle.roundboard.specs.Closed.{sheet_at, cut_at, rounds_closed}
use Rattle.paces.specs.Conducts.{Paced}
use Rattle.turns.proofs.Cuts.{all_more}
use Rattle.party_crew.specs.Phase.{PhasePaced, board_cuts}

-- nothing was cut and nothing was asked when the phase began
begun : (cuts asked : ℕ → ℕ) (n : ℕ) → ((r : ℕ) → asked r ≡ 0) → Paced cuts asked n n []
begun cuts asked n none = record {
  part = λ r k. let z = bit_at-zero k in omega arith;
  shown = λ r. let a = none (r + 1) in omega arith;
  grown = omega arith;
  quiet = inl (λ r. refl);
}

pub phase_paced : {S : ℕ} (cuts asked cuts0 asked0 : ℕ → ℕ) (before n0 after : ℕ) (c : ClosedBoard Post S) (es0 es : List Event) → es0 ≡ [] → ((r : ℕ) → asked0 r ≡ 0) → n0 ≡ before
    → ((first : ℕ) → Paced cuts0 asked0 n0 first es0 → Paced cuts asked after first es) → ((r : ℕ) → r < rounds_closed c → sheet_at c r ≡ sheet_of es r) → PhasePaced cuts asked before after c
phase_paced cuts asked cuts0 asked0 before n0 after c es0 es quiet none same keeps sheets =
    let p : Paced cuts asked after n0 es = keeps n0 (subst (λ (l : List Event). Paced cuts0 asked0 n0 n0 l) (sym quiet) (begun cuts0 asked0 n0 none)) in
    record {
      part = λ r lt. subst (λ (s : Sheet). IsPart s.cut (cuts (r + 1))) (sym (sheets r lt)) (p.part r);
      shown = λ r lt. subst (λ (s : Sheet). asked (r + 1) ≤ s.shown) (sym (sheets r lt)) (p.shown r);
      quiet = ⊎_elim (λ (t : (r : ℕ) → (sheet_of es r).cut ≡ 0). inl (λ r lt. ap (λ (s : Sheet). s.cut) (sheets r lt) ∙ t r))
          (λ (t : Rose n0 after). inr (subst (λ (x : ℕ). Rose x after) same t)) p.quiet;
    }

-- so the masks that are allowed with what the warden cut are allowed with what the pace answered
pub pace_allows : {M : Type 0} {S : ℕ} (w : Ways M) (s : Shape) (cuts asked : ℕ → ℕ) (before after : ℕ) (c : ClosedBoard Post S) → PhasePaced cuts asked before after c →
    (masks : List ℕ) (minds : List M) → AllAllowed w s 1 (all_seats s) (board_cuts c) masks minds → AllAllowed w s 1 (all_seats s) cuts masks minds
pace_allows w s cuts asked before after c p masks minds h =
    all_more w s (board_cuts c) cuts
    (λ r lo. let row : (r - 1) + 1 ≡ r = omega (arith, lo) in elim (cases_lt (r - 1) (rounds_closed c)) [
      | inl lt ↦ subst (λ (q : ℕ). IsPart (board_cuts c r) (cuts q)) row (p.part (r - 1) lt)
      | inr past ↦ λ k. (let none : board_cuts c r ≡ 0 = ap (λ (x : Sheet). x.cut) (get_or_past c.sheets.items (r - 1) empty (let n = c.sheeted in omega (arith, n, past))) in
          let zero_bit : bit_at (board_cuts c r) k ≡ 0 = ap (λ (x : ℕ). bit_at x k) none ∙ bit_at-zero k in omega (arith, zero_bit))
    ])
    1 (all_seats s) (omega arith) masks minds h
