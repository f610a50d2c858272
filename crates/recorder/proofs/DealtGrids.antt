-- What the members of a drawn phase deal are the grids of its play.
use Rattle.std.proofs.Common.{◌≡◌, ℕ, zero, suc, ◌+◌, ◌-◌, ◌<◌, ◌≤◌, Bool, true, false, ◌||◌, cond, List, [], ◌∷◌, ◌++◌, length, map, drop, get_or, Option, Some, None, refl, sym, ap, ap₂, ◌∙◌, subst, arith}
use Rattle.std.specs.Prelude.{replicate}
use Rattle.std.specs.List.{flat_map, range_with_len}
use Rattle.std.proofs.lemmas.List.{get_or-map, get_or_append_left, length-map}
use Rattle.std.proofs.lemmas.List.FromFn.{length-map-range_with_len}
use Rattle.algebra61.specs.Field.{Fp, zeroₚ, ◌+ₚ◌}
use Rattle.chance61.specs.Draws.{grids_drawn, five_grids_drawn}
use Rattle.chance61.proofs.DrawLemmas.{length-drawn_with}
use Rattle.sizes.specs.Instances.{dealer_of, lane_of, instance_at}
use Rattle.talk.specs.Sync.{has}
use Rattle.plays.specs.Play.{Play}
use Rattle.plays.specs.Said.{places, points_up_to}
use Rattle.periods.proofs.Polynomials.{dealer_there}
use Rattle.drillbook.specs.declared.order.Order.{Order}
use Rattle.drillbook.specs.Orders.{wrong_of}
use Rattle.sharefile.specs.Files.{Now}
use Rattle.hearsay.specs.Record.{dealer_grids, grids_in}
use Rattle.commands.specs.Create.{dealt_by, grids_on, play_created}
use Rattle.commands.specs.Move.{dealt_shares, moving, new_member, seats_in, play_moved}
use Rattle.commands.specs.Phase.{unless_down, shares_given}
use Rattle.commands.specs.Refresh.{keeping, holdings_in, play_refreshed}
use Rattle.commands.specs.Standing.{Holding, holdings, holding_or_none, held_on}
use Rattle.commands.proofs.Holdings.{length-holdings}
use Rattle.scenes.specs.declared.side.Side.{Side}
use Rattle.scenes.specs.declared.scene.Scene.TheVariants.{Create, Refresh, Move}
use Rattle.scenes.specs.Orders.{orders_of}
use Rattle.scenes.specs.Scenes.{is_down_on, is_drilled}
use Rattle.rehearsal_laws.specs.Standing.{files_with, now_before, standing_before}
use Rattle.rehearsal_laws.proofs.Downs.{old_on}
use Rattle.rehearsal_laws.proofs.Files.{length_files}
use Rattle.recorder.specs.Begun.{HaveShares}
use Rattle.recorder.specs.Dealt.{AreGridsOf}
use Rattle.recorder.proofs.Walks.{dealt, fresh, handed, up_ones}

-- ---- five grids
pub fresh_five : (degree : ℕ) (seed : List ℕ) → length (grids_drawn degree seed) ≡ 5
unfolding five_grids_drawn
fresh_five degree seed = refl

pub handed_five : (orders : List Order) (degree member : ℕ) (lanes : List Fp) (seed : List ℕ) → length (handed orders degree member lanes seed) ≡ 5
handed_five orders degree member lanes seed =
    length-drawn_with degree (dealt_shares orders member lanes) seed 0
    ∙ length-map-range_with_len (λ l. get_or lanes l zeroₚ +ₚ wrong_of orders member) 0 5

module _ {A : Type 0} where
  -- a list is made of its items, place by place
  listed : (f : ℕ → A) (d : A) (first : ℕ) (xs : List A) → ((number place : ℕ) → number ≡ first + place → place < length xs → f number ≡ get_or xs place d) → map f (range_with_len first (length xs)) ≡ xs
  listed f d first [] each = refl
  listed f d first (x ∷ xs) each =
      ap₂ (λ (y : A) (ys : List A). y ∷ ys) (each first 0 (omega arith) (omega arith))
      (listed f d (first + 1) xs (λ number place at lt. each number (suc place) (omega (arith, at)) (omega (arith, lt))))

  -- so are the lists of the members, one after the other
  flat_up : (drilled : Option ℕ) (f : ℕ → List A) (first : ℕ) (all : List (List A)) → ((member place : ℕ) → member ≡ first + place → place < length all → f member ≡ cond (is_drilled drilled member) [] (get_or all place [])) →
      flat_map f (range_with_len first (length all)) ≡ up_ones drilled first all
  flat_up drilled f first [] each = refl
  flat_up drilled f first (own ∷ all) each =
      ap₂ (λ (xs ys : List A). xs ++ ys) (each first 0 (omega arith) (omega arith))
      (flat_up drilled f (first + 1) all (λ member place at lt. each member (suc place) (omega (arith, at)) (omega (arith, lt))))

-- ---- dealer by dealer
grid_there : (own : ℕ → List (List (List Fp))) (dealer lane : ℕ) → 1 ≤ dealer → lane < 5 → get_or (own (dealer_of (instance_at dealer lane))) (lane_of (instance_at dealer lane)) [] ≡ get_or (own dealer) lane []
grid_there own dealer lane from lt =
    let l : lane_of (instance_at dealer lane) ≡ lane = omega (arith, lt) in
    ap₂ (λ (n m : ℕ). get_or (own n) m []) (dealer_there dealer lane from lt) l

module _ (play : Play) (own : ℕ → List (List (List Fp))) (grid_is : (i : ℕ) → play.grid i ≡ get_or (own (dealer_of i)) (lane_of i) []) where
  -- those of a dealer are its own five
  dealer_five : (dealer : ℕ) → 1 ≤ dealer → length (own dealer) ≡ 5 → dealer_grids play dealer ≡ own dealer
  dealer_five dealer from five =
      ap (λ (n : ℕ). map (λ lane. play.grid (instance_at dealer lane)) (places n)) (sym five)
      ∙ listed (λ lane. play.grid (instance_at dealer lane)) [] 0 (own dealer)
      (λ number place at lt.
      let lane : number ≡ place = omega (arith, at) in
      grid_is (instance_at dealer number)
      ∙ grid_there own dealer number from (omega (arith, at, lt, five))
      ∙ ap (λ (l : ℕ). get_or (own dealer) l []) lane)

-- those of the play, where each dealer's are known
all_up : (play : Play) (drilled : Option ℕ) (all : List (List (List (List Fp)))) → play.shape.dealers ≡ length all →
    ((dealer : ℕ) → 1 ≤ dealer → dealer ≤ length all → cond (play.down dealer) [] (dealer_grids play dealer) ≡ cond (is_drilled drilled dealer) [] (get_or all (dealer - 1) [])) →
    up_ones drilled 1 all ≡ grids_in play
all_up play drilled all dealers each =
    sym (
    ap (λ (n : ℕ). flat_map (λ dealer. cond (play.down dealer) [] (dealer_grids play dealer)) (points_up_to n)) dealers
    ∙ flat_up drilled (λ dealer. cond (play.down dealer) [] (dealer_grids play dealer)) 1 all
    (λ member place at lt.
    let there : member - 1 ≡ place = omega (arith, at) in
    each member (omega (arith, at)) (omega (arith, at, lt))
    ∙ ap (λ (k : ℕ). cond (is_drilled drilled member) [] (get_or all k [])) there)
    )

-- ---- of a create
pub created : (side : Side) (seeds : List (List ℕ)) (masks : List ℕ) → length seeds ≡ side.members →
    AreGridsOf (Create side) (play_created side.members side.bound (orders_of (Create side)) seeds masks) (up_ones side.drilled 1 (dealt_by side.bound seeds))
created side seeds masks count down =
    let play : Play = play_created side.members side.bound (orders_of (Create side)) seeds masks in
    let all : length (dealt_by side.bound seeds) ≡ side.members = length-map seeds (grids_drawn side.bound) ∙ count in
    all_up play side.drilled (dealt_by side.bound seeds) (sym all)
    (λ dealer from to.
    let below : dealer - 1 < length seeds = omega (arith, from, to, all, count) in
    ap₂ (λ (b : Bool) (grids : List (List (List Fp))). cond b [] grids) (down dealer from (omega (arith, to, all)))
    (dealer_five play (grids_on (dealt_by side.bound seeds)) (λ i. refl) dealer from
    (ap length (get_or-map (grids_drawn side.bound) seeds (dealer - 1) [] [] below) ∙ fresh_five side.bound (get_or seeds (dealer - 1) []))))

-- ---- of a later phase
-- nothing where a member is without shares, else five
abbrev pub HasFive : Bool → List (List (List Fp)) → Type 0
HasFive true own = own ≡ []
HasFive false own = length own ≡ 5

module _ (take : ℕ → List Fp → List ℕ → List (List (List Fp))) (five : (member : ℕ) (lanes : List Fp) (seed : List ℕ) → length (take member lanes seed) ≡ 5) where
  first_has : (member : ℕ) (without : Bool) (lanes : List Fp) (shares : List (Option (List Fp))) (seeds : List (List ℕ)) → HasFive without (get_or (dealt take member (unless_down without lanes ∷ shares) seeds) 0 [])
  first_has member true lanes shares seeds = refl
  first_has member false lanes shares seeds = five member lanes (get_or seeds 0 [])

  next_has : (P : List (List (List Fp)) → Type 0) (member place : ℕ) (without : Bool) (lanes : List Fp) (shares : List (Option (List Fp))) (seeds : List (List ℕ)) →
      ((coming : List (List ℕ)) → P (get_or (dealt take (member + 1) shares coming) place [])) → P (get_or (dealt take member (unless_down without lanes ∷ shares) seeds) (suc place) [])
  next_has P member place true lanes shares seeds each = each seeds
  next_has P member place false lanes shares seeds each = each (drop 1 seeds)

  each_has : (without : ℕ → Bool) (lanes : ℕ → List Fp) (first n member place : ℕ) (seeds : List (List ℕ)) → member ≡ first + place → place < n →
      HasFive (without member) (get_or (dealt take first (map (λ j. unless_down (without j) (lanes j)) (range_with_len first n)) seeds) place [])
  each_has without lanes first zero member place seeds at lt = absurd (omega (arith, lt))
  each_has without lanes first (suc n) member zero seeds at lt =
      let here : first ≡ member = omega (arith, at) in
      subst (λ (k : ℕ). HasFive (without k) (get_or (dealt take first (unless_down (without first) (lanes first) ∷ map (λ j. unless_down (without j) (lanes j)) (range_with_len (first + 1) n)) seeds) 0 [])) here
      (first_has first (without first) (lanes first) (map (λ j. unless_down (without j) (lanes j)) (range_with_len (first + 1) n)) seeds)
  each_has without lanes first (suc n) member (suc place) seeds at lt =
      next_has (HasFive (without member)) first place (without first) (lanes first) (map (λ j. unless_down (without j) (lanes j)) (range_with_len (first + 1) n)) seeds
      (λ coming. each_has without lanes (first + 1) n member place coming (omega (arith, at)) (omega (arith, lt)))

  length_dealt : (member : ℕ) (shares : List (Option (List Fp))) (seeds : List (List ℕ)) → length (dealt take member shares seeds) ≡ length shares
  length_dealt member [] seeds = refl
  length_dealt member (None ∷ shares) seeds = ap suc (length_dealt (member + 1) shares seeds)
  length_dealt member (Some lanes ∷ shares) seeds = ap suc (length_dealt (member + 1) shares (drop 1 seeds))

-- who is without shares deals nothing, whether it is down or not
deals_as : (down without drilled : Bool) (all own : List (List (List Fp))) → down ≡ (without || drilled) → HasFive without own → (length own ≡ 5 → all ≡ own) → cond down [] all ≡ cond drilled [] own
deals_as down true true all own e none five = ap (λ (b : Bool). cond b [] all) e
deals_as down true false all own e none five = ap (λ (b : Bool). cond b [] all) e ∙ sym none
deals_as down false drilled all own e some five = ap₂ (λ (b : Bool) (xs : List (List (List Fp))). cond b [] xs) e (five some)

module _ (take : ℕ → List Fp → List ℕ → List (List (List Fp))) (five : (member : ℕ) (lanes : List Fp) (seed : List ℕ) → length (take member lanes seed) ≡ 5) (side : Side) (lanes : ℕ → List Fp) (seeds : List (List ℕ)) where
  abbrev all_dealt : List (List (List (List Fp)))
  all_dealt = dealt take 1 (shares_given (has side.shareless) lanes side.members) seeds

  later : (play : Play) (own : ℕ → List (List (List Fp))) → ((i : ℕ) → play.grid i ≡ get_or (own (dealer_of i)) (lane_of i) []) → play.shape.dealers ≡ side.members →
      ((dealer : ℕ) → 1 ≤ dealer → dealer ≤ side.members → get_or all_dealt (dealer - 1) [] ≡ own dealer) →
      ((dealer : ℕ) → 1 ≤ dealer → dealer ≤ side.members → play.down dealer ≡ is_down_on side dealer) → up_ones side.drilled 1 all_dealt ≡ grids_in play
  later play own grid_is dealers own_is down =
      let count : length all_dealt ≡ side.members =
      length_dealt take five 1 (shares_given (has side.shareless) lanes side.members) seeds
      ∙ length-map-range_with_len (λ j. unless_down (has side.shareless j) (lanes j)) 1 side.members in
      all_up play side.drilled all_dealt (dealers ∙ sym count)
      (λ dealer from to.
      let most : dealer ≤ side.members = omega (arith, to, count) in
      deals_as (play.down dealer) (has side.shareless dealer) (is_drilled side.drilled dealer) (dealer_grids play dealer) (get_or all_dealt (dealer - 1) []) (down dealer from most)
      (each_has take five (has side.shareless) lanes 1 side.members dealer (dealer - 1) seeds (omega (arith, from)) (omega (arith, from, most)))
      (λ is. dealer_five play own grid_is dealer from (ap length (sym (own_is dealer from most)) ∙ is) ∙ sym (own_is dealer from most)))

-- ---- what the members take part with
module _ (take : ℕ → List Fp → List ℕ → Holding) (now : Now) where
  held_at : (member : ℕ) (shares : List (Option (List Fp))) (seeds : List (List ℕ)) (place : ℕ) →
      get_or (dealt (λ index lanes seed. (take index lanes seed).grids) member shares seeds) place [] ≡ (holding_or_none (get_or (holdings take member (files_with now member shares) seeds) place None)).grids
  held_at member [] seeds place = refl
  held_at member (None ∷ shares) seeds zero = refl
  held_at member (None ∷ shares) seeds (suc place) = held_at (member + 1) shares seeds place
  held_at member (Some lanes ∷ shares) seeds zero = refl
  held_at member (Some lanes ∷ shares) seeds (suc place) = held_at (member + 1) shares (drop 1 seeds) place

-- ---- of a refresh
module _ (side : Side) (place : ℕ) (seeds : List (List ℕ)) (masks : List ℕ) where
  refreshed_by : (lanes : ℕ → List Fp) →
      AreGridsOf (Refresh side) (play_refreshed (standing_before place (Refresh side) (shares_given (has side.shareless) lanes side.members)) seeds masks)
      (up_ones side.drilled 1 (dealt (fresh (side.bound - 1)) 1 (shares_given (has side.shareless) lanes side.members) seeds))
  refreshed_by lanes down =
      let shares : List (Option (List Fp)) = shares_given (has side.shareless) lanes side.members in
      later (fresh (side.bound - 1)) (λ member l seed. fresh_five (side.bound - 1) seed) side lanes seeds
      (play_refreshed (standing_before place (Refresh side) shares) seeds masks)
      (λ seat. (held_on (holdings_in (standing_before place (Refresh side) shares) seeds) seat).grids) (λ i. refl) refl
      (λ dealer from to. held_at (keeping (side.bound - 1)) (now_before place side) 1 shares seeds (dealer - 1))
      down

  pub refreshed : (shares : List (Option (List Fp))) → HaveShares side shares →
      AreGridsOf (Refresh side) (play_refreshed (standing_before place (Refresh side) shares) seeds masks) (up_ones side.drilled 1 (dealt (fresh (side.bound - 1)) 1 shares seeds))
  refreshed shares have =
      subst (λ (s : List (Option (List Fp))). AreGridsOf (Refresh side) (play_refreshed (standing_before place (Refresh side) s) seeds masks) (up_ones side.drilled 1 (dealt (fresh (side.bound - 1)) 1 s seeds)))
      (sym have.1) (refreshed_by have.0)

-- ---- of a move
module _ (old new : Side) (place : ℕ) (seeds : List (List ℕ)) (masks : List ℕ) where
  abbrev orders : List Order
  orders = orders_of (Move old new)

  moved_by : (lanes : ℕ → List Fp) →
      AreGridsOf (Move old new) (play_moved (standing_before place (Move old new) (shares_given (has old.shareless) lanes old.members)) new.members new.bound seeds masks)
      (up_ones old.drilled 1 (dealt (handed (orders_of (Move old new)) new.bound) 1 (shares_given (has old.shareless) lanes old.members) seeds))
  moved_by lanes down =
      let shares : List (Option (List Fp)) = shares_given (has old.shareless) lanes old.members in
      let now : Now = now_before place old in
      let take : ℕ → List Fp → List ℕ → Holding = moving orders new.bound in
      let count : length (holdings take 1 (files_with now 1 shares) seeds) ≡ old.members =
      length-holdings take 1 (files_with now 1 shares) seeds ∙ length_files now (has old.shareless) lanes old.members in
      later (handed orders new.bound) (handed_five orders new.bound) old lanes seeds
      (play_moved (standing_before place (Move old new) shares) new.members new.bound seeds masks)
      (λ seat. (held_on (seats_in (standing_before place (Move old new) shares) new.members new.bound seeds) seat).grids) (λ i. refl) refl
      (λ dealer from to.
      held_at take now 1 shares seeds (dealer - 1)
      ∙ ap (λ (h : Option Holding). (holding_or_none h).grids)
      (sym (get_or_append_left (holdings take 1 (files_with now 1 shares) seeds) (replicate new.members (Some new_member)) None (dealer - 1) (omega (arith, from, to, count)))))
      (λ dealer from to. down dealer from to ∙ old_on old new dealer to)

  pub moved : (shares : List (Option (List Fp))) → HaveShares old shares →
      AreGridsOf (Move old new) (play_moved (standing_before place (Move old new) shares) new.members new.bound seeds masks) (up_ones old.drilled 1 (dealt (handed (orders_of (Move old new)) new.bound) 1 shares seeds))
  moved shares have =
      subst (λ (s : List (Option (List Fp))). AreGridsOf (Move old new) (play_moved (standing_before place (Move old new) s) new.members new.bound seeds masks) (up_ones old.drilled 1 (dealt (handed (orders_of (Move old new)) new.bound) 1 s seeds)))
      (sym have.1) (moved_by have.0)
