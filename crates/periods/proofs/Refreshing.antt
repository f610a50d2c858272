-- A refresh adds j times a polynomial's value at j.
use Rattle.std.proofs.Common.{List, ◌∷◌, sym, ap, ap₂, ◌∙◌, arith}
use Rattle.algebra61.specs.Field.{Fp, fe, zeroₚ, ◌+ₚ◌, ◌*ₚ◌}
use Rattle.algebra61.specs.Poly.{eval, add_list}
use Rattle.algebra61.proofs.Ring.{zero_add, zero_mul, add_zero}
use Rattle.algebra61.proofs.PolyOps.{eval-add, length-add}
use Rattle.plays.proofs.Lanes.{created_line}
use Rattle.periods.specs.Laws.{RefreshedByOne, RefreshKeeps}

pub refreshed_by_one : RefreshedByOne
refreshed_by_one p lane proper l5 =
    let got = created_line p lane proper l5 in
    (got.0, record { short = got.1; values = got.2 }, λ j old s. ap (λ v. old +ₚ fe j *ₚ v) (got.2 j s))

pub refresh_keeps : RefreshKeeps
refresh_keeps p lane old q proper l5 on =
    let got = refreshed_by_one p lane proper l5 in
    let h : List Fp = zeroₚ ∷ got.0 in (
      add_list q h,
      eval-add q h zeroₚ ∙ simp (zero_mul, add_zero),
      record {
        short = omega (arith, length-add q h, on.short, got.1.short);
        values = λ j s.
            got.2 j (old j) s ∙ ap₂ (λ a b. a +ₚ b) (on.values j s) (sym (zero_add (fe j *ₚ eval got.0 (fe j))))
            ∙ sym (eval-add q h (fe j));
      },
    )
