-- The witness is a history.
use Rattle.std.proofs.Common.{◌≡◌, ℕ, zero, suc, ◌+◌, ◌*◌, ◌<◌, ◌≤◌, Bool, true, false, List, [], refl, sym, ap, ap₂, ◌∙◌, arith}
use Rattle.algebra61.specs.Field.{Fp, fe, zeroₚ, ◌+ₚ◌}
use Rattle.algebra61.specs.Poly.{eval}
use Rattle.algebra61.specs.Grid.{row}
use Rattle.algebra61.proofs.Ring.{add_zero}
use Rattle.sizes.specs.Committees.{IsCommittee}
use Rattle.sharing61.specs.Rules.{Pair}
use Rattle.sharing61.specs.Instance.{share}
use Rattle.sharing61.specs.Agreement.{HonestReceiver}
use Rattle.sharing61.proofs.Values.{eval-poly}
use Rattle.sizes.specs.Instances.{instance_at}
use Rattle.talk.specs.Shape.{Shape, Lawful, create_shape, refresh_shape, move_shape}
use Rattle.plays.specs.Play.{Play, instance_of, lane_sum}
use Rattle.plays.specs.Law.{IsPlay, ProperPlay, HonestIn}
use Rattle.plays.proofs.Proper.{honest_dealers_in_plays}
use Rattle.histories61.specs.Phases.{Created, Refreshed, Moved, FirstFits, RefreshFits, MoveFits}
use Rattle.histories61.specs.Course.{HasErrors, FitsTo, PhaseFits, ExposedFits}
use Rattle.histories61.specs.Witness.{zero_play, nobody_of, the_first, example_kind, example_play, example_course, ExampleIsHistory}
use Rattle.histories61.proofs.Fits.{proper_first, lawful_create, lawful_refresh, lawful_move}
use Rattle.histories61.proofs.Polynomials.{moves_have_errors}

-- ---- plays of zero grids
zero_is_play : (s : Shape) (down : ℕ → Bool) → Lawful s → IsPlay (zero_play s down)
zero_is_play s down lw = record {
  setting = lw;
  degrees = λ i lt up. record { in_x = omega arith; in_y = tt };
  posts = λ round seat a b d. refl;
  rings = λ round seat to a b d. refl;
}

four_one : IsCommittee 4 1
four_one = record { some_bad = omega arith; third = omega arith; most = omega arith }

honest_at : (p : Play) (i j : ℕ) → HonestIn p j → HonestReceiver (instance_of p i) j
unfolding instance_of
honest_at p i j s = record { from = s.from; to = s.to; up = s.up }

-- where nobody is down, all shares are 0
zero_share : (s : Shape) (i j : ℕ) → ProperPlay (zero_play s nobody_of) → i < s.dealers * 5 → HonestIn (zero_play s nobody_of) j → share (instance_of (zero_play s nobody_of) i) j ≡ zeroₚ
zero_share s i j proper lt honest =
    ap (λ (q : Pair). eval q.row.coeffs zeroₚ) ((honest_dealers_in_plays (zero_play s nobody_of) i proper lt refl).own j (honest_at (zero_play s nobody_of) i j honest))
    ∙ eval-poly (row [] (fe j)) zeroₚ

zero_sum : (s : Shape) (l j : ℕ) → ProperPlay (zero_play s nobody_of) → l < 5 → HonestIn (zero_play s nobody_of) j → (n : ℕ) → n ≤ s.dealers → lane_sum n (zero_play s nobody_of) l j ≡ zeroₚ
zero_sum s l j proper l5 honest zero le = refl
zero_sum s l j proper l5 honest (suc n) le =
    ap₂ (λ a b. a +ₚ b) (zero_sum s l j proper l5 honest n (omega (arith, le))) (zero_share s (instance_at (suc n) l) j proper (omega (arith, le, l5)) honest) ∙ add_zero zeroₚ

-- ---- the phases
first_fits : FirstFits Created (example_play 0)
first_fits = record {
  create = refl;
  committee = four_one;
  setting = refl;
  play_is = zero_is_play (create_shape 4 1) nobody_of (lawful_create 4 1 four_one);
  few = omega arith;
}

nobody_there : (b : Bool) → false ≡ true → b ≡ true
nobody_there b e = let differ : false ≡ true = e in cc

move_fits : (share : ℕ → ℕ → Fp) → ((l j : ℕ) → l < 5 → 1 ≤ j → j ≤ 4 → share l j ≡ zeroₚ) → MoveFits (example_play 0) (example_play 1) share
move_fits share zeros = record {
  committee = four_one;
  setting = refl;
  play_is = zero_is_play (move_shape 4 1 4 1) nobody_of (lawful_move 4 1 4 1 four_one four_one);
  few_old = omega arith;
  few = omega arith;
  stays = λ k a b e. nobody_there _ e;
  constants = λ i l a b l5 up. sym (zeros l i l5 a b);
}

refresh_fits : RefreshFits (example_play 1) (example_play 2)
refresh_fits = record {
  setting = refl;
  play_is = zero_is_play (refresh_shape 4 1) the_first (lawful_refresh 4 1 four_one);
  few = omega arith;
  stays = λ k a b e. nobody_there _ e;
}

first_to_fits : (errors : ℕ → List (List Fp)) (k : ℕ) → k < 1 → PhaseFits example_course errors k
first_to_fits errors zero lt = first_fits
first_to_fits errors (suc k) lt = absurd (omega (arith, lt))

first_to_errors : (errors : ℕ → List (List Fp)) (k : ℕ) → k < 1 → example_kind k ≡ Moved → HasErrors (example_play k) (errors k)
first_to_errors errors zero lt e = let differ : Created ≡ Moved = e in cc
first_to_errors errors (suc k) lt e = absurd (omega (arith, lt))

first_to : (errors : ℕ → List (List Fp)) → FitsTo example_course errors 1
first_to errors = record { phases_fit = first_to_fits errors; have_errors = first_to_errors errors }

created_zero : (l j : ℕ) → l < 5 → 1 ≤ j → j ≤ 4 → lane_sum 4 (example_play 0) l j ≡ zeroₚ
created_zero l j l5 a b =
    zero_sum (create_shape 4 1) l j (proper_first Created (example_play 0) first_fits) l5 (record { from = a; to = b; up = refl }) 4 (omega arith)

-- the move's error vectors are there
found : (es : List (List Fp)) × HasErrors (example_play 1) es
found = moves_have_errors example_course (λ k. []) 0 (first_to (λ k. [])) (move_fits _ created_zero) refl

abbrev example_errors : ℕ → List (List Fp)
example_errors zero = []
example_errors (suc k) = found.0

phases_fit : (k : ℕ) → k < 3 → PhaseFits example_course example_errors k
phases_fit zero lt = first_fits
phases_fit (suc zero) lt = move_fits _ created_zero
phases_fit (suc (suc zero)) lt = refresh_fits
phases_fit (suc (suc (suc k))) lt = absurd (omega (arith, lt))

have_errors : (k : ℕ) → k < 3 → example_kind k ≡ Moved → HasErrors (example_play k) (example_errors k)
have_errors zero lt e = let differ : Created ≡ Moved = e in cc
have_errors (suc zero) lt e = found.1
have_errors (suc (suc k)) lt e = let differ : Refreshed ≡ Moved = e in cc

exposed_fit : (k : ℕ) → k < 3 → ExposedFits example_course k
exposed_fit zero lt = record { own = record { few = omega arith; seen = λ k a b e. nobody_there _ e }; next = λ l k a b e. nobody_there _ e }
exposed_fit (suc zero) lt = record { own = record { few = omega arith; seen = λ k a b e. nobody_there _ e }; next = λ l k a b e. e }
exposed_fit (suc (suc zero)) lt = record { own = record { few = omega arith; seen = λ k a b e. let same : k ≡ 0 + k = omega arith in ap the_first same ∙ e }; next = λ l. absurd (omega (arith, l)) }
exposed_fit (suc (suc (suc k))) lt = absurd (omega (arith, lt))

pub example_is_history : ExampleIsHistory
example_is_history = (
  example_errors,
  record {
    some_phase = omega arith;
    fits = record { phases_fit = phases_fit; have_errors = have_errors };
    exposed_fit = exposed_fit;
  },
)
