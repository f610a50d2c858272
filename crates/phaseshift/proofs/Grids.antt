-- The grids that are made are those of the definition: zeros at the end of a factor make no difference.
use Rattle.std.proofs.Common.{◌≡◌, ℕ, ◌+◌, ◌<◌, ◌≤◌, Bool, true, false, cond, List, [], length, map, refl, sym, ap, ap₂, ◌∙◌, subst, arith}
use Rattle.std.proofs.lemmas.Bool.{cond-true}
use Rattle.algebra61.specs.Field.{Fp, ◌+ₚ◌, ◌*ₚ◌}
use Rattle.algebra61.specs.Poly.{coeff}
use Rattle.algebra61.specs.Polynomial.{Polynomial, poly}
use Rattle.algebra61.specs.Grid.{add_product}
use Rattle.algebra61.proofs.PolyOps.{length-scale}
use Rattle.bivar61.specs.Grids.{IsGrid, coefficient}
use Rattle.sizes.specs.Instances.{dealer_of, lane_of, instance_at}
use Rattle.talk.specs.Shape.{Shape, instances}
use Rattle.talk.specs.Sync.{has}
use Rattle.plays.specs.Said.{places}
use Rattle.plays.proofs.Steps.{flat_same}
use Rattle.histories61.specs.Phases.{Kind}
use Rattle.histories61.proofs.Lists.{cond_same, map_same}
use Rattle.choices61.specs.Translation.{factor_in_x, factor_in_y, is_translated}
use Rattle.choices61.proofs.Squares.{coefficient-product, square_added, square_same}
use Rattle.playback.specs.declared.phase.Phase.{Phase}
use Rattle.playback.specs.Recorded.{kind_of, play_of}
use Rattle.playback.specs.Kept.{IsKept}
use Rattle.playback.proofs.Formed.{grid_there}
use Rattle.phaseshift.specs.declared.factors.Factors.{Factors}
use Rattle.phaseshift.specs.Factors.{unit_in_y, AreFactors, multiplied, HavePlace, grid_with, dealer_with, grids_with}
use Rattle.phaseshift.specs.Shift.{HasRoom, other_grid, grids_of_dealer, other_grids}
use Rattle.phaseshift.proofs.Coefficients.{coeff_of}
use Rattle.phaseshift.proofs.Multiples.{AreShort, are_short, factor_is, multiplied_is, multiplied_short, have_place}

-- ---- one product
pub product_same : (d : ℕ) (g : List (List Fp)) (u v more other : List Fp) → IsGrid d g → length u ≤ d + 1 → length v ≤ d + 1 → length more ≤ d + 1 → length other ≤ d + 1 →
    ((k : ℕ) → coeff u k ≡ coeff more k) → ((k : ℕ) → coeff v k ≡ coeff other k) → add_product g u v ≡ add_product g more other
product_same d g u v more other is lu lv lm lo eu ev =
    square_same d (add_product g u v) (add_product g more other) (square_added d g u v is lu lv) (square_added d g more other is lm lo)
    (λ a b la lb.
    coefficient-product g u v a b
    ∙ ap₂ (λ x y. coefficient g a b +ₚ x *ₚ y) (eu a) (ev b)
    ∙ sym (coefficient-product g more other a b))

-- a grid with the coefficients of the sum is the sum
pub added_is : (d : ℕ) (g h : List (List Fp)) (u v : List Fp) (p q : Polynomial) → IsGrid d g → IsGrid d h → p.coeffs ≡ u → q ≡ poly v → length u ≤ d + 1 → length v ≤ d + 1 →
    ((a b : ℕ) → a < length g → b < length g → coefficient h a b ≡ coefficient g a b +ₚ coeff p.coeffs a *ₚ coeff q.coeffs b) → h ≡ add_product g u v
added_is d g h u v p q ig ih ep eq lu lv at =
    square_same d h (add_product g u v) ih (square_added d g u v ig lu lv)
    (λ a b la lb.
    at a b (omega (arith, la, ig.in_x)) (omega (arith, lb, ig.in_x))
    ∙ ap₂ (λ x y. coefficient g a b +ₚ x *ₚ y) (ap (λ cs. coeff cs a) ep) (coeff_of q v eq b)
    ∙ sym (coefficient-product g u v a b))

-- ---- one grid
pub dealer_back : (dealer lane : ℕ) → 1 ≤ dealer → lane < 5 → dealer_of (instance_at dealer lane) ≡ dealer
dealer_back dealer lane from small = omega (arith, from, small)

lane_back : (dealer lane : ℕ) → lane < 5 → lane_of (instance_at dealer lane) ≡ lane
lane_back dealer lane small = omega (arith, small)

instance_below : (shape : Shape) (dealer lane : ℕ) → 1 ≤ dealer → dealer ≤ shape.dealers → lane < 5 → instance_at dealer lane < instances shape
instance_below shape dealer lane from to small = omega (arith, from, to, small)

-- the grid of a dealer that isn't down
pub grid_at_dealer : (phase : Phase) → IsKept phase → (dealer lane : ℕ) → 1 ≤ dealer → dealer ≤ phase.setting.dealers → lane < 5 → has phase.down dealer ≡ false →
    IsGrid phase.setting.degree ((play_of phase).grid (instance_at dealer lane))
grid_at_dealer phase kept dealer lane from to small up =
    grid_there phase kept (instance_at dealer lane) (instance_below phase.setting dealer lane from to small) (ap (has phase.down) (dealer_back dealer lane from small) ∙ up)

-- what is made for it
pub grid_made : (phase : Phase) (factors : Factors) (difference : ℕ → Fp) → IsKept phase → HavePlace phase factors → (dealer lane : ℕ) → 1 ≤ dealer → dealer ≤ phase.setting.dealers → lane < 5 → has phase.down dealer ≡ false →
    is_translated (kind_of phase.kind) phase.setting (has phase.down) dealer ≡ true → (g h : List (List Fp)) (q : Polynomial) (by : Fp) → g ≡ (play_of phase).grid (instance_at dealer lane) → by ≡ difference lane →
    q ≡ poly (multiplied factors by dealer) → ((d : ℕ) → IsGrid d g → IsGrid d h) →
    ((a b : ℕ) → a < length g → b < length g → coefficient h a b ≡ coefficient g a b +ₚ coeff factors.in_x.coeffs a *ₚ coeff q.coeffs b) → h ≡ grid_with phase factors difference dealer lane
grid_made phase factors difference kept have dealer lane from to small up named g h q by eg ey eq shape at =
    let d : ℕ = phase.setting.degree in
    let is : IsGrid d g = subst (IsGrid d) (sym eg) (grid_at_dealer phase kept dealer lane from to small up) in
    let place = have (dealer, named) in
    added_is d g h factors.in_x.coeffs (multiplied factors by dealer) factors.in_x q is (shape d is) refl eq place.0 (multiplied_short factors by dealer (d + 1) place.1) at
    ∙ ap₂ (λ (x : List (List Fp)) (v : Fp). add_product x factors.in_x.coeffs (multiplied factors v dealer)) eg ey
    ∙ sym (cond-true (is_translated (kind_of phase.kind) phase.setting (has phase.down) dealer) _ _ named)

module _ (phase : Phase) (before after : ℕ → Bool) (difference : ℕ → Fp) (factors : Factors) (kept : IsKept phase) (room : HasRoom (kind_of phase.kind) phase.setting (has phase.down) before after) (are : AreFactors (kind_of phase.kind) phase.setting (has phase.down) before after factors) where
  in_product : (dealer lane : ℕ) → 1 ≤ dealer → dealer ≤ phase.setting.dealers → lane < 5 → has phase.down dealer ≡ false → is_translated (kind_of phase.kind) phase.setting (has phase.down) dealer ≡ true →
      add_product ((play_of phase).grid (instance_at dealer lane)) factors.in_x.coeffs (multiplied factors (difference lane) dealer)
      ≡ add_product ((play_of phase).grid (instance_at dealer lane)) (factor_in_x phase.setting (has phase.down)) (factor_in_y (kind_of phase.kind) phase.setting before after (difference lane) dealer)
  in_product dealer lane from to small up e =
      let d : ℕ = phase.setting.degree in
      let kind : Kind = kind_of phase.kind in
      let short : AreShort kind phase.setting (has phase.down) before after = are_short kind phase.setting (has phase.down) before after dealer room e in
      let place = have_place phase before after factors room are (dealer, e) in
      let long : length (factor_in_y kind phase.setting before after (difference lane) dealer) ≡ length (unit_in_y kind phase.setting before after) =
      ap (λ (cs : List Fp). length cs) (factor_is kind phase.setting before after (difference lane) dealer)
      ∙ length-scale _ (unit_in_y kind phase.setting before after) in
      product_same d ((play_of phase).grid (instance_at dealer lane)) factors.in_x.coeffs (multiplied factors (difference lane) dealer) (factor_in_x phase.setting (has phase.down))
      (factor_in_y kind phase.setting before after (difference lane) dealer) (grid_at_dealer phase kept dealer lane from to small up) place.0 (multiplied_short factors (difference lane) dealer (d + 1) place.1) short.short_x
      (omega (arith, long, short.short_y)) (coeff_of factors.in_x (factor_in_x phase.setting (has phase.down)) are.in_x_is)
      (λ k. multiplied_is kind phase.setting (has phase.down) before after factors (difference lane) dealer k are)

  at_dealer : (dealer lane : ℕ) → 1 ≤ dealer → dealer ≤ phase.setting.dealers → lane < 5 → has phase.down dealer ≡ false → grid_with phase factors difference dealer lane ≡ other_grid phase before after difference dealer lane
  at_dealer dealer lane from to small up =
      cond_same (is_translated (kind_of phase.kind) phase.setting (has phase.down) dealer) _ _ _ _ (in_product dealer lane from to small up) refl
      ∙ sym
      (ap₂
      (λ k l.
      cond (is_translated (kind_of phase.kind) phase.setting (has phase.down) k)
      (add_product ((play_of phase).grid (instance_at dealer lane)) (factor_in_x phase.setting (has phase.down)) (factor_in_y (kind_of phase.kind) phase.setting before after (difference l) k))
      ((play_of phase).grid (instance_at dealer lane)))
      (dealer_back dealer lane from small) (lane_back dealer lane small))

  -- ---- all grids
  by_dealer : (dealer : ℕ) (b : Bool) → has phase.down dealer ≡ b → 1 ≤ dealer → dealer ≤ phase.setting.dealers →
      cond b [] (map (grid_with phase factors difference dealer) (places 5)) ≡ cond b [] (map (other_grid phase before after difference dealer) (places 5))
  by_dealer dealer true e from to = refl
  by_dealer dealer false e from to =
      map_same (grid_with phase factors difference dealer) (other_grid phase before after difference dealer) 5 0 (λ lane low high. at_dealer dealer lane from to (omega (arith, high)) e)

  pub all_same : grids_with phase factors difference ≡ other_grids phase before after difference
  all_same =
      flat_same (dealer_with phase factors difference) (grids_of_dealer phase before after difference) phase.setting.dealers 1
      (λ dealer from to. by_dealer dealer (has phase.down dealer) refl from (omega (arith, to)))
