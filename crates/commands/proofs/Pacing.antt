-- The masks of a phase are allowed where those were cut whom the pace answered, and where nobody was if it answered nobody.
use Rattle.std.proofs.Common.{◌≡◌, ⊎_elim, ℕ, ◌+◌, ◌-◌, ◌^◌, ◌<◌, ◌≤◌, Bool, true, false, cond, min, List, sym, ap, ◌∙◌, refl, arith}
use Rattle.std.specs.Prelude.{nat_le}
use Rattle.std.specs.Int.{bit_at}
use Rattle.std.proofs.lemmas.Bool.{le-leb}
use Rattle.talk.specs.declared.messages.Post.{Post}
use Rattle.talk.specs.Shape.{Shape}
use Rattle.talk.specs.Sync.{Ways, all_seats, AllAllowed}
use Rattle.counters.specs.Counts.{Rose}
use Rattle.roundboard.specs.declared.finish.ClosedBoard.{ClosedBoard}
use Rattle.roundboard.specs.Rule.{IsPart}
use Rattle.roundboard.specs.Closed.{cut_at, rounds_closed}
use Rattle.party_crew.specs.Phase.{PhasePaced, board_cuts}
use Rattle.party_crew.proofs.PhasePace.{pace_allows}
use Rattle.commands.specs.Late.{cuts_since}

module _ {S : ℕ} (cuts asked : ℕ → ℕ) (before after : ℕ) (c : ClosedBoard Post S) (p : PhasePaced cuts asked before after c) where
  no_rise : nat_le (min (before + 1) (2 ^ 64 - 1)) after ≡ false → Rose before after → ⊥
  no_rise none rose = let some : nat_le (min (before + 1) (2 ^ 64 - 1)) after ≡ true = le-leb (min (before + 1) (2 ^ 64 - 1)) after rose in let e = sym none ∙ some in cc

  nobody_cut : (cut k : ℕ) → cut ≡ 0 → bit_at cut k ≤ bit_at 0 k
  nobody_cut cut k none = let e : bit_at cut k ≡ bit_at 0 k = ap (λ (m : ℕ). bit_at m k) none in omega (arith, e)

  part_by : (b : Bool) → nat_le (min (before + 1) (2 ^ 64 - 1)) after ≡ b → (r : ℕ) → r < rounds_closed c → IsPart (cut_at c r) (cond b (cuts (r + 1)) 0)
  part_by true e r lt = p.part r lt
  part_by false e r lt = λ k.
      ⊎_elim (λ (none : (q : ℕ) → q < rounds_closed c → cut_at c q ≡ 0). nobody_cut (cut_at c r) k (none r lt)) (λ (rose : Rose before after). absurd (no_rise e rose)) p.quiet

  since_paced : PhasePaced (cuts_since before after cuts) asked before after c
  since_paced = record { part = λ r lt. part_by (nat_le (min (before + 1) (2 ^ 64 - 1)) after) refl r lt; shown = p.shown; quiet = p.quiet }

  pub since_allows : {M : Type 0} (w : Ways M) (s : Shape) (masks : List ℕ) (minds : List M) → AllAllowed w s 1 (all_seats s) (board_cuts c) masks minds → AllAllowed w s 1 (all_seats s) (cuts_since before after cuts) masks minds
  since_allows w s masks minds h = pace_allows w s (cuts_since before after cuts) asked before after c since_paced masks minds h
