-- What the old members of a move share: each that is neither drilled nor late its share. So with enough sound share files it is near to the
-- polynomials that these lie on.
use Rattle.std.proofs.Common.{◌≡◌, inl, inr, ℕ, zero, suc, ◌+◌, ◌-◌, ◌<◌, ◌≤◌, Bool, true, false, cond, not, ◌||◌, eqb, List, [], length, get_or, Option, refl, sym, ap, ◌∙◌, subst, arith}
use Rattle.std.proofs.lemmas.Bool.{cases_lt}
use Rattle.std.proofs.lemmas.List.{ext_get_or}
use Rattle.std.proofs.lemmas.List.FromFn.{get_or-map-range_with_len, length-map-range_with_len}
use Rattle.algebra61.specs.Field.{Fp, fe, zeroₚ, ◌+ₚ◌, ◌-ₚ◌}
use Rattle.algebra61.specs.Grid.{grid_at}
use Rattle.algebra61.specs.Poly.{eval}
use Rattle.algebra61.specs.Polynomial.{Polynomial}
use Rattle.algebra61.proofs.Inverse.{num-zero}
use Rattle.algebra61.proofs.Ring.{add_zero, sub_self}
use Rattle.chance61.proofs.DrawLemmas.{drawn_with_constants}
use Rattle.checks61.specs.Checks.{check_of, syndrome_of, entry, nonzero_to, difference_from}
use Rattle.checks61.proofs.Errors.{difference_at}
use Rattle.sharing61.specs.Count.{how_many}
use Rattle.sizes.specs.Instances.{lane_of, instance_at}
use Rattle.plays.specs.Play.{Play, instance_of}
use Rattle.periods.specs.Move.{syndromes_heard, IsOpenedSyndrome, AreConstants, IsWithin, IsMove}
use Rattle.periods.proofs.Opening.{opened_is, one_opened}
use Rattle.periods.proofs.Polynomials.{Constants, constants_of, one_constant, honest_constant, dealer_there, number_below}
use Rattle.drillbook.specs.declared.order.Order.{Order}
use Rattle.drillbook.specs.Orders.{names, added_by, wrong_of}
use Rattle.drillbook.proofs.Ordered.{unnamed_has_no_order}
use Rattle.shelf.specs.Held.{Held}
use Rattle.sharefile.specs.Files.{Share}
use Rattle.keyroom.specs.declared.steps.Found.{Found}
use Rattle.keyroom.specs.declared.steps.Found.TheVariants.{Absent, Valid}
use Rattle.keyroom.specs.Decoding.{lane_of as lane_in, EnoughLieOn}
use Rattle.keyroom.specs.Sound.{is_valid}
use Rattle.keyroom.specs.Steps.{share_of, files_of}
use Rattle.keyroom.proofs.Counting.{old_seat}
use Rattle.commands.specs.Kept.{files_without}
use Rattle.commands.specs.Late.{in_each, down_after}
use Rattle.commands.specs.Move.{dealt_shares, seats_in, down_moving, play_moved}
use Rattle.commands.specs.Moved.{AreShared}
use Rattle.commands.specs.Standing.{Standing, Holding, holding_or_none, held_on}
use Rattle.commands.proofs.GoingOn.{file_at}
use Rattle.commands.proofs.Late.{after_up, up_after}
use Rattle.commands.proofs.Movers.{CanMove, old_takes}
use Rattle.commands.proofs.Staying.{fine_counts, is_sound_on, sound_many}

-- ---- what a seat is told to add
-- 0 where no order names it
pub unnamed_adds : (orders : List Order) (seat : ℕ) → names orders seat ≡ false → wrong_of orders seat ≡ zeroₚ
unnamed_adds orders seat unnamed = ap added_by (unnamed_has_no_order orders seat 1 unnamed)

-- ---- entries other than 0, counted
one_at_most : (b : Bool) → cond b 0 1 ≤ 1
one_at_most true = omega arith
one_at_most false = omega arith

one_or_none : (x : Fp) (good : Bool) → (good ≡ true → x ≡ zeroₚ) → cond (eqb x.num 0) 0 1 + cond good 1 0 ≤ 1
one_or_none x true none = let zero_is : cond (eqb zeroₚ.num 0) 0 1 + 1 ≤ 1 = rw num-zero (omega arith) in subst (λ (y : Fp). cond (eqb y.num 0) 0 1 + 1 ≤ 1) (sym (none refl)) zero_is
one_or_none x false none = omega (arith, one_at_most (eqb x.num 0))

-- there are no more than members for whom the test doesn't hold
few_nonzero : (n : ℕ) (vector : ℕ → Fp) (good : ℕ → Bool) → ((i : ℕ) → 1 ≤ i → i ≤ n → good i ≡ true → vector i ≡ zeroₚ) → nonzero_to n vector + how_many n good ≤ n
few_nonzero zero vector good none = omega arith
few_nonzero (suc n) vector good none =
    omega (arith, few_nonzero n vector good (λ i from to. none i from (omega (arith, to))), one_or_none (vector (suc n)) (good (suc n)) (none (suc n) (omega arith) (omega arith)))

up_where : (named valid : Bool) → named ≡ false → valid ≡ true → (named || not valid) ≡ false
up_where named valid unnamed is = rw (unnamed, is) refl

module _ (st : Standing) (m u : ℕ) (can : CanMove st m u) (seeds : List (List ℕ)) (masks : List ℕ) (moves : IsMove st.now.t (play_moved st m u seeds masks)) where
  abbrev play : Play
  play = play_moved st m u seeds masks

  lane_there : (index lane : ℕ) → lane < 5 → lane_of (instance_at index lane) ≡ lane
  lane_there index lane lt = omega (arith, lt)

  old_is_up : (index : ℕ) (file : Share) → index ≤ st.now.n → names st.orders index ≡ false → get_or st.files (index - 1) Absent ≡ Valid file → down_moving st index ≡ false
  old_is_up index file to unnamed is =
      old_seat (names st.orders) st.files index (omega (arith, to, can.all))
      ∙ up_where (names st.orders index) (is_valid (get_or st.files (index - 1) Absent)) unnamed (ap is_valid is)

  -- the grid that a member deals in a lane has its share as constant
  pub deals_own : (lane index : ℕ) (file : Share) → lane < 5 → 1 ≤ index → index ≤ st.now.n → names st.orders index ≡ false → get_or st.files (index - 1) Absent ≡ Valid file →
      grid_at ((play_moved st m u seeds masks).grid (instance_at index lane)) zeroₚ zeroₚ ≡ get_or file.lanes lane zeroₚ
  deals_own lane index file lt from to unnamed is =
      let t = old_takes st m u can seeds index from to (old_is_up index file to unnamed is) in
      let same : t.share ≡ file = let e = sym t.file_is ∙ is in cc in
      let lanes : List Fp = t.share.lanes in
      let five : length (dealt_shares st.orders index lanes) ≡ 5 = length-map-range_with_len (λ l. get_or lanes l zeroₚ +ₚ wrong_of st.orders index) 0 5 in
      ap (λ (k : ℕ). grid_at (get_or (held_on (seats_in st m u seeds) k).grids (lane_of (instance_at index lane)) []) zeroₚ zeroₚ) (dealer_there index lane from lt)
      ∙ ap (λ (l : ℕ). grid_at (get_or (held_on (seats_in st m u seeds) index).grids l []) zeroₚ zeroₚ) (lane_there index lane lt)
      ∙ ap (λ (h : Option Holding). grid_at (get_or (holding_or_none h).grids lane []) zeroₚ zeroₚ) t.is
      ∙ drawn_with_constants u (dealt_shares st.orders index lanes) t.seed 0 lane (omega (arith, lt, five))
      ∙ get_or-map-range_with_len (λ l. get_or lanes l zeroₚ +ₚ wrong_of st.orders index) 0 5 lane lane zeroₚ lt (omega arith)
      ∙ ap (λ (w : Fp). get_or lanes lane zeroₚ +ₚ w) (unnamed_adds st.orders index unnamed) ∙ add_zero (get_or lanes lane zeroₚ)
      ∙ ap (λ (f : Share). get_or f.lanes lane zeroₚ) same

  -- so that is what it shares
  shares_own : (lane : ℕ) (shared : ℕ → Fp) → lane < 5 → AreConstants (play_moved st m u seeds masks) lane shared →
      (index : ℕ) (file : Share) → 1 ≤ index → index ≤ st.now.n → names st.orders index ≡ false → in_each masks index ≡ true → get_or st.files (index - 1) Absent ≡ Valid file → shared index ≡ get_or file.lanes lane zeroₚ
  shares_own lane shared lt are index file from to unnamed in_all is =
      one_constant u (instance_of play (instance_at index lane)) (shared index) (grid_at (play.grid (instance_at index lane)) zeroₚ zeroₚ)
      (moves.proper (instance_at index lane) (number_below play index lane from to lt)) (are index from to)
      (honest_constant play index lane moves.proper from to lt (up_after (down_moving st) masks index (old_is_up index file to unnamed is) in_all))
      ∙ deals_own lane index file lt from to unnamed is

  -- in all lanes
  pub record AllShared : Type 0 where
    pub value : ℕ → ℕ → Fp
    pub are : (lane : ℕ) → lane < 5 → AreConstants (play_moved st m u seeds masks) lane (value lane)

  pub all_shared : AllShared
  all_shared =
      let pick : (lane : ℕ) → (c : ℕ → Fp) × (lane < 5 → AreConstants (play_moved st m u seeds masks) lane c) = λ lane.
      elim (cases_lt lane 5) [
        | inl lt ↦ let got : Constants play lane = constants_of play lane moves.proper lt in (got.value, λ less. got.are)
        | inr le ↦ ((λ (index : ℕ). zeroₚ), λ less. absurd (omega (arith, le, less)))
      ] in
      record { value = λ lane. (pick lane).0; are = λ lane lt. (pick lane).1 lt }

  -- what is opened in a lane is the syndrome of what was shared
  pub opened_shared : (lane : ℕ) (shared : ℕ → Fp) (syndrome : List Fp) → lane < 5 → AreConstants (play_moved st m u seeds masks) lane shared → IsOpenedSyndrome (play_moved st m u seeds masks).shape (syndromes_heard (play_moved st m u seeds masks)) lane syndrome →
      syndrome ≡ syndrome_of st.now.n (st.now.n - st.now.t - 1) shared
  opened_shared lane shared syndrome lt are opened =
      let rows : ℕ = st.now.n - st.now.t - 1 in
      let long : length (syndrome_of st.now.n rows shared) ≡ rows = length-map-range_with_len (λ row. check_of st.now.n row shared) 0 rows in
      ext_get_or zeroₚ syndrome (syndrome_of st.now.n rows shared) (opened.long ∙ sym long)
      (λ row less.
      let within : row < rows = omega (arith, less, opened.long) in
      one_opened play.shape (syndromes_heard play) lane row (get_or syndrome row zeroₚ) (check_of st.now.n row shared) moves.setting (opened.each row within) (opened_is st.now.t play lane row shared moves lt within are)
      ∙ sym (get_or-map-range_with_len (λ k. check_of st.now.n k shared) 0 rows row row zeroₚ within (omega arith)))

  -- ---- with what the shelf holds
  module _ (held : Held) (files : st.files ≡ files_of st.now held) where
    file_here : (index : ℕ) → 1 ≤ index → index ≤ st.now.n → get_or st.files (index - 1) Absent ≡ share_of st.now held index
    file_here index from to = ap (λ (fs : List Found). get_or fs (index - 1) Absent) files ∙ file_at st.now held index from to

    pub are_shared : (lane : ℕ) (shared : ℕ → Fp) → lane < 5 → AreConstants (play_moved st m u seeds masks) lane shared → AreShared st held masks (play_moved st m u seeds masks) lane shared
    are_shared lane shared lt are = record {
      are = are;
      own = λ index file from to unnamed in_all has. shares_own lane shared lt are index file from to unnamed in_all (file_here index from to ∙ has);
    }

    -- the polynomials of enough sound share files are near
    pub near_sound : (polys : List Polynomial) → EnoughLieOn st.now.n st.now.t (files_without (down_after (names st.orders) masks) 1 (files_of st.now held)) polys → (lane : ℕ) (shared : ℕ → Fp) → lane < 5 → AreConstants (play_moved st m u seeds masks) lane shared →
        IsWithin st.now.n st.now.t shared (lane_in polys lane).coeffs
    near_sound polys enough lane shared lt are =
        let q : List Fp = (lane_in polys lane).coeffs in
        record {
          short = enough.short lane lt;
          few =
              omega (
                arith,
                sound_many st.now held (down_after (names st.orders) masks) polys enough,
                few_nonzero st.now.n (entry (difference_from st.now.n shared q)) (is_sound_on polys (down_after (names st.orders) masks) (share_of st.now held))
                    (λ index from to good.
                    let c = fine_counts polys index (down_after (names st.orders) masks index) (share_of st.now held index) good in
                    let up = after_up (names st.orders) masks index c.kept in
                    difference_at st.now.n index shared q from to
                    ∙ ap (λ (v : Fp). v -ₚ eval q (fe index)) (shares_own lane shared lt are index c.file from to up.0 up.1 (file_here index from to ∙ c.is) ∙ sym (c.on lane lt))
                    ∙ sub_self (eval q (fe index))),
              );
        }
