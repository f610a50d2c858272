-- The created shares of a lane lie on one polynomial, instance by instance.
use Rattle.std.proofs.Common.{◌≡◌, ℕ, zero, suc, ◌+◌, ◌*◌, ◌<◌, ◌≤◌, Bool, true, false, List, [], length, refl, sym, ap, ap₂, ◌∙◌, arith}
use Rattle.algebra61.specs.Field.{Fp, fe, zeroₚ, ◌+ₚ◌}
use Rattle.algebra61.specs.Poly.{eval, add_list}
use Rattle.algebra61.specs.Grid.{row, column}
use Rattle.algebra61.proofs.PolyOps.{eval-add, length-add}
use Rattle.algebra61.proofs.Grid.{eval-column, length-column}
use Rattle.sharing61.specs.Rules.{Pair, kept_of, zero_pair}
use Rattle.sharing61.specs.Instance.{Instance, held, shown, accepted, kept, share}
use Rattle.sharing61.specs.Agreement.{Proper, HonestReceiver}
use Rattle.sharing61.proofs.Values.{eval-poly}
use Rattle.sharing61.proofs.Agree.{agreement}
use Rattle.sizes.specs.Instances.{instance_at}
use Rattle.plays.specs.Play.{Play, instance_of, lane_sum}
use Rattle.plays.specs.Law.{ProperPlay, HonestIn, CreatedLine}

kept_none : (i : Instance) (j : ℕ) → accepted i ≡ false → kept i j ≡ zero_pair
unfolding kept
kept_none i j e = ap (λ b. kept_of b (shown i j) (held i j)) e

abbrev Line : ℕ → Instance → Type 0
Line d i = (f : List Fp) × (length f ≤ d + 1) × ((j : ℕ) → HonestReceiver i j → share i j ≡ eval f (fe j))

line_by : (d : ℕ) (i : Instance) (b : Bool) → accepted i ≡ b → Proper d i → Line d i
line_by d i true e p =
    let got = agreement d i p e in (
      column got.0 zeroₚ,
      omega (arith, length-column (d + 1) got.0 zeroₚ got.1.in_y),
      λ j s. ap (λ (q : Pair). eval q.row.coeffs zeroₚ) (got.2 j s) ∙ eval-poly (row got.0 (fe j)) zeroₚ ∙ sym (eval-column got.0 zeroₚ (fe j)),
    )
line_by d i false e p = ([], omega arith, λ j s. ap (λ (q : Pair). eval q.row.coeffs zeroₚ) (kept_none i j e) ∙ eval-poly [] zeroₚ)

honest_at : (p : Play) (i j : ℕ) → HonestIn p j → HonestReceiver (instance_of p i) j
unfolding instance_of
honest_at p i j s = record { from = s.from; to = s.to; up = s.up }

sums : (p : Play) (l : ℕ) → ProperPlay p → l < 5 → (n : ℕ) → n ≤ p.shape.dealers →
    (f : List Fp) × (length f ≤ p.shape.degree + 1) × ((j : ℕ) → HonestIn p j → lane_sum n p l j ≡ eval f (fe j))
sums p l proper l5 zero le = ([], omega arith, λ j s. refl)
sums p l proper l5 (suc n) le =
    let before = sums p l proper l5 n (omega (arith, le)) in
    let here = line_by p.shape.degree (instance_of p (instance_at (suc n) l)) (accepted (instance_of p (instance_at (suc n) l))) refl (proper (instance_at (suc n) l) (omega (arith, le, l5))) in (
      add_list before.0 here.0,
      omega (arith, length-add before.0 here.0, before.1, here.1),
      λ j s. ap₂ (λ a b. a +ₚ b) (before.2 j s) (here.2 j (honest_at p (instance_at (suc n) l) j s)) ∙ sym (eval-add before.0 here.0 (fe j)),
    )

pub created_line : CreatedLine
created_line p l proper l5 = sums p l proper l5 p.shape.dealers (omega arith)
