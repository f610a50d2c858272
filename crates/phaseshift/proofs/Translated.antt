-- The play of the other phase is the translated play.
use mathlib.Core.Path.{fun_ext}
use Rattle.std.proofs.Common.{inl, inr, ◌≡◌, ℕ, zero, suc, ◌+◌, ◌-◌, ◌*◌, ◌<◌, ◌≤◌, Bool, true, false, not, eqb, ltb, leb, cond, List, [], ◌∷◌, ◌++◌, length, map, get_or, refl, sym, ap, ◌∙◌, arith}
use Rattle.std.specs.List.{flat_map}
use Rattle.std.proofs.lemmas.Bool.{cases_eq, eqb-true, and_parts, and_from, leb-true, ltb-true, lt-ltb, not-true}
use Rattle.std.proofs.lemmas.List.FromFn.{get_or-map-range_with_len}
use Rattle.algebra61.specs.Field.{Fp}
use Rattle.algebra61.specs.Grid.{add_product}
use Rattle.sharing61.specs.Count.{how_many}
use Rattle.sizes.specs.Instances.{dealer_of, lane_of}
use Rattle.talk.specs.Shape.{Shape, instances}
use Rattle.talk.specs.Sync.{has}
use Rattle.plays.specs.Play.{Play}
use Rattle.plays.specs.Said.{places, points_up_to}
use Rattle.plays.proofs.Lists.{points_more}
use Rattle.plays.proofs.Ends.{place_is, lane_below}
use Rattle.histories61.specs.Phases.{Kind, Created, Refreshed, Moved}
use Rattle.choices61.specs.Sets.{lowest_out}
use Rattle.choices61.specs.Translation.{factor_in_x, factor_in_y, is_translated, translated_phase}
use Rattle.choices61.proofs.Sets.{lowest_is}
use Rattle.playback.specs.declared.phase.Phase.{Phase}
use Rattle.playback.specs.Recorded.{kind_of, is_dealt, grid_place, play_of}
use Rattle.playback.proofs.Formed.{more_below, dealer_most}
use Rattle.phaseshift.specs.Shift.{other_grid, other_grids, other_phase, OtherPhaseIsTranslated}

-- ---- parts of a list
get_front : {A : Type 0} (xs ys : List A) (k : ℕ) (d : A) → k < length xs → get_or (xs ++ ys) k d ≡ get_or xs k d
get_front [] ys k d lt = absurd (omega arith)
get_front (x ∷ xs) ys zero d lt = refl
get_front (x ∷ xs) ys (suc k) d lt = get_front xs ys k d (omega (arith, lt))

get_behind : {A : Type 0} (xs ys : List A) (k : ℕ) (d : A) → get_or (xs ++ ys) (length xs + k) d ≡ get_or ys k d
get_behind [] ys k d = let e : 0 + k ≡ k = omega arith in ap (λ n. get_or ys n d) e
get_behind (x ∷ xs) ys k d = let e : suc (length xs) + k ≡ suc (length xs + k) = omega arith in rw e (get_behind xs ys k d)

length-both : {A : Type 0} (xs ys : List A) → length (xs ++ ys) ≡ length xs + length ys
length-both [] ys = omega arith
length-both (x ∷ xs) ys = omega (arith, length-both xs ys)

-- ---- five for each dealer that isn't down
module _ {A : Type 0} where
  length-part : (f : ℕ → ℕ → A) (k : ℕ) (b : Bool) → length (cond b [] (map (f k) (places 5))) ≡ 5 * cond (not b) 1 0
  length-part f k true = omega arith
  length-part f k false = omega arith

  length-parts : (down : ℕ → Bool) (f : ℕ → ℕ → A) (n : ℕ) → length (flat_map (λ k. cond (down k) [] (map (f k) (places 5))) (points_up_to n)) ≡ 5 * how_many n (λ k. not (down k))
  length-parts down f zero = omega arith
  length-parts down f (suc n) =
      let one : n + 1 ≡ suc n = omega arith in
      let g : ℕ → List A = λ k. cond (down k) [] (map (f k) (places 5)) in
      let e : flat_map g (points_up_to (suc n)) ≡ flat_map g (points_up_to n) ++ g (suc n) =
      ap (λ k. flat_map g (points_up_to k)) (sym one) ∙ points_more g n ∙ ap (λ k. flat_map g (points_up_to n) ++ g k) one in
      ap length e ∙ length-both (flat_map g (points_up_to n)) (g (suc n)) ∙ omega (arith, length-parts down f n, length-part f (suc n) (down (suc n)))

  in_part : (f : ℕ → ℕ → A) (k l : ℕ) (d : A) (b : Bool) → b ≡ false → l < 5 → get_or (cond b [] (map (f k) (places 5))) l d ≡ f k l
  in_part f k l d true e lt = let no : true ≡ false = e in cc
  in_part f k l d false e lt = get_or-map-range_with_len (f k) 0 5 l l d lt (omega arith)

  pub in_parts : (down : ℕ → Bool) (f : ℕ → ℕ → A) (n k l : ℕ) (d : A) → 1 ≤ k → k ≤ n → down k ≡ false → l < 5 →
      get_or (flat_map (λ k. cond (down k) [] (map (f k) (places 5))) (points_up_to n)) (5 * how_many (k - 1) (λ k. not (down k)) + l) d ≡ f k l
  in_parts down f zero k l d k1 kn up lt = absurd (omega (arith, k1, kn))
  in_parts down f (suc n) k l d k1 kn up lt =
      let one : n + 1 ≡ suc n = omega arith in
      let g : ℕ → List A = λ k. cond (down k) [] (map (f k) (places 5)) in
      let e : flat_map g (points_up_to (suc n)) ≡ flat_map g (points_up_to n) ++ g (suc n) =
      ap (λ k. flat_map g (points_up_to k)) (sym one) ∙ points_more g n ∙ ap (λ k. flat_map g (points_up_to n) ++ g k) one in
      ap (λ xs. get_or xs (5 * how_many (k - 1) (λ k. not (down k)) + l) d) e
      ∙ elim (cases_eq k (suc n)) [
        | inl same ↦
            let m : k - 1 ≡ n = omega (arith, same) in
            ap (λ i. get_or (flat_map g (points_up_to n) ++ g (suc n)) (5 * how_many i (λ k. not (down k)) + l) d) m
            ∙ ap (λ i. get_or (flat_map g (points_up_to n) ++ g (suc n)) (i + l) d) (sym (length-parts down f n))
            ∙ get_behind (flat_map g (points_up_to n)) (g (suc n)) l d
            ∙ in_part f (suc n) l d (down (suc n)) (ap down (sym same) ∙ up) lt
            ∙ ap (λ i. f i l) (sym same)
        | inr ne ↦
            get_front (flat_map g (points_up_to n)) (g (suc n)) (5 * how_many (k - 1) (λ k. not (down k)) + l) d
            (omega (arith, lt, length-parts down f n, more_below down (k - 1) n k (omega (arith, k1)) (omega (arith, ne, kn)) up))
            ∙ in_parts down f n k l d k1 (omega (arith, ne, kn)) up lt
      ]

-- ---- who is translated has grids
lowest_there : (shape : Shape) (down : ℕ → Bool) (k : ℕ) → eqb k (lowest_out shape.dealers down) ≡ true → 1 ≤ k → (k ≤ shape.dealers) × (down k ≡ false)
lowest_there shape down k e k1 =
    let low = lowest_is shape.dealers down in
    let same : k ≡ lowest_out shape.dealers down = eqb-true k _ e in
    (omega (arith, same, low.most), ap down same ∙ low.out (omega (arith, same, k1)))

translated_there : (kind : Kind) (shape : Shape) (down : ℕ → Bool) (k : ℕ) → is_translated kind shape down k ≡ true → 1 ≤ k → (k ≤ shape.dealers) × (down k ≡ false)
translated_there Created shape down k e k1 = lowest_there shape down k e k1
translated_there Refreshed shape down k e k1 = lowest_there shape down k (and_parts (eqb k (lowest_out shape.dealers down)) _ e).0 k1
translated_there Moved shape down k e k1 = let both = and_parts (leb k shape.dealers) _ e in (leb-true k shape.dealers both.0, not-true (down k) both.1)

-- ---- one phase
dealer_least : (i : ℕ) → 1 ≤ dealer_of i
dealer_least i = omega arith

below : (shape : Shape) (i : ℕ) → dealer_of i ≤ shape.dealers → i < instances shape
below shape i le = omega (arith, le)

not_translated : (p : Phase) (i : ℕ) (b : Bool) → is_translated (kind_of p.kind) p.setting (has p.down) (dealer_of i) ≡ b → is_dealt p.setting p.down i ≡ false → b ≡ false
not_translated p i true e n =
    let at = translated_there (kind_of p.kind) p.setting (has p.down) (dealer_of i) e (dealer_least i) in
    let dealt : is_dealt p.setting p.down i ≡ true =
    and_from (ltb i (instances p.setting)) (not (has p.down (dealer_of i))) (lt-ltb i (instances p.setting) (below p.setting i at.0)) (ap not at.1) in
    let differ : true ≡ false = sym dealt ∙ n in cc
not_translated p i false e n = refl

module _ (p : Phase) (before after : ℕ → Bool) (difference : ℕ → Fp) where
  grid_by : (i : ℕ) (b : Bool) → is_dealt p.setting p.down i ≡ b →
      cond b (get_or (other_grids p before after difference) (grid_place p.down i) []) [] ≡ (translated_phase (kind_of p.kind) (play_of p) before after difference).grid i
  grid_by i true e =
      let both = and_parts (ltb i (instances p.setting)) (not (has p.down (dealer_of i))) e in
      in_parts (has p.down) (other_grid p before after difference) p.setting.dealers (dealer_of i) (lane_of i) [] (dealer_least i) (dealer_most p.setting i (ltb-true i (instances p.setting) both.0)) (not-true (has p.down (dealer_of i)) both.1) (lane_below i)
      ∙ ap (λ k. (translated_phase (kind_of p.kind) (play_of p) before after difference).grid k) (place_is i)
  grid_by i false e =
      sym
      (ap (λ t. cond t (add_product ((play_of p).grid i) (factor_in_x p.setting (has p.down)) (factor_in_y (kind_of p.kind) p.setting before after (difference (lane_of i)) (dealer_of i))) ((play_of p).grid i)) (not_translated p i _ refl e)
      ∙ ap (λ t. cond t (get_or p.grids (grid_place p.down i) []) []) e)

  play_same : play_of (other_phase p before after difference) ≡ translated_phase (kind_of p.kind) (play_of p) before after difference
  play_same = ap (λ (g : ℕ → List (List Fp)). let q : Play = record (play_of p) { grid = g } in q) (fun_ext (λ i. grid_by i (is_dealt p.setting p.down i) refl))

pub other_phase_is_translated : OtherPhaseIsTranslated
other_phase_is_translated p before after difference = play_same p before after difference
