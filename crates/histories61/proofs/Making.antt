-- Phases that fit one after another fit together: the error vectors of their moves are there.
use Rattle.std.proofs.Common.{inl, inr, ◌≡◌, ℕ, zero, suc, ◌<◌, ◌≤◌, cond, eqb, List, [], refl, sym, ap, ◌∙◌, subst, arith}
use Rattle.std.proofs.lemmas.Bool.{cases_eq, cond-true, cond-false, eq-eqb, ne_eqb}
use Rattle.algebra61.specs.Field.{Fp}
use Rattle.histories61.specs.Phases.{Kind, Created, Refreshed, Moved}
use Rattle.histories61.specs.Course.{Course, HasErrors, PhaseFits, FitsTo}
use Rattle.histories61.specs.Laws.{PhasesFitTogether}
use Rattle.histories61.proofs.Polynomials.{moves_have_errors}

module _ (course : Course) where
  -- each of the first n phases fits after those before it
  abbrev EachFits : ℕ → Type 0
  EachFits n = (k : ℕ) → k < n → (errors : ℕ → List (List Fp)) → FitsTo course errors k → PhaseFits course errors k

  -- the moves among them have these error vectors
  abbrev Have : (ℕ → List (List Fp)) → ℕ → Type 0
  Have errors n = (k : ℕ) → k < n → course.kind k ≡ Moved → HasErrors (course.play k) (errors k)

  -- so they fit with error vectors that their moves have
  fits_by : (n : ℕ) (errors : ℕ → List (List Fp)) → EachFits n → Have errors n → FitsTo course errors n
  fits_by zero errors each have = record { phases_fit = λ k lt. absurd (omega (arith, lt)); have_errors = have }
  fits_by (suc n) errors each have =
      let before : FitsTo course errors n = fits_by n errors (λ k lt. each k (omega (arith, lt))) (λ k lt e. have k (omega (arith, lt)) e) in
      record {
        phases_fit = λ k lt.
            elim (cases_eq k n) [
              | inl e ↦ subst (PhaseFits course errors) (sym e) (each n (omega arith) errors before)
              | inr ne ↦ before.phases_fit k (omega (arith, ne, lt))
            ];
        have_errors = have;
      }

  -- the error vectors of the phase n, where it is a move
  errors_at : (n : ℕ) (errors : ℕ → List (List Fp)) (kind : Kind) → course.kind n ≡ kind → FitsTo course errors n → PhaseFits course errors n →
      (found : List (List Fp)) × (kind ≡ Moved → HasErrors (course.play n) found)
  errors_at n errors Created e fits here = ([], λ m. let differ : Created ≡ Moved = m in cc)
  errors_at n errors Refreshed e fits here = ([], λ m. let differ : Refreshed ≡ Moved = m in cc)
  errors_at zero errors Moved e fits here = let differ : Created ≡ Moved = sym here.create ∙ e in cc
  errors_at (suc n) errors Moved e fits here = let got = moves_have_errors course errors n fits here e in (got.0, λ m. got.1)

  -- the error vectors with those of the phase n in their place
  abbrev with_errors : (ℕ → List (List Fp)) → ℕ → List (List Fp) → ℕ → List (List Fp)
  with_errors errors n found k = cond (eqb k n) found (errors k)

  errors_to : (n : ℕ) → EachFits n → (errors : ℕ → List (List Fp)) × Have errors n
  errors_to zero each = (λ k. [], λ k lt. absurd (omega (arith, lt)))
  errors_to (suc n) each =
      let before = errors_to n (λ k lt. each k (omega (arith, lt))) in
      let fits : FitsTo course before.0 n = fits_by n before.0 (λ k lt. each k (omega (arith, lt))) before.1 in
      let found = errors_at n before.0 (course.kind n) refl fits (each n (omega arith) before.0 fits) in (
        with_errors before.0 n found.0,
        λ k lt m.
            elim (cases_eq k n) [
              | inl e ↦
                  subst (HasErrors (course.play k)) (sym (cond-true (eqb k n) found.0 (before.0 k) (eq-eqb k n e)))
                  (subst (λ i. HasErrors (course.play i) found.0) (sym e) (found.1 (ap course.kind (sym e) ∙ m)))
              | inr ne ↦
                  subst (HasErrors (course.play k)) (sym (cond-false (eqb k n) found.0 (before.0 k) (ne_eqb k n ne)))
                  (before.1 k (omega (arith, ne, lt)) m)
            ],
      )

pub phases_fit_together : PhasesFitTogether
phases_fit_together course n each =
    let got = errors_to course n each in
    (got.0, fits_by course n got.0 each got.1)
