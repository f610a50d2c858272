-- The grids of a record are those of the play.
use Rattle.std.proofs.Common.{inl, inr, ◌≡◌, ℕ, zero, suc, ◌+◌, ◌-◌, ◌*◌, ◌<◌, ◌≤◌, Bool, true, false, not, cond, ltb, List, [], ◌++◌, length, get_or, All, refl, sym, ap, ◌∙◌, arith, add-one, length-append}
use Rattle.std.specs.List.{flat_map}
use Rattle.std.proofs.lemmas.Bool.{cases_eq, cond-true, and_from, lt-ltb}
use Rattle.std.proofs.lemmas.List.{get_or_append_left, get_or-append-add}
use Rattle.std.proofs.lemmas.List.FromFn.{get_or-map-range_with_len, length-map-range_with_len}
use Rattle.algebra61.specs.Field.{Fp}
use Rattle.bivar61.specs.Grids.{IsGrid}
use Rattle.sharing61.specs.Count.{how_many}
use Rattle.sharing61.proofs.Count.{how_many_same}
use Rattle.sizes.specs.Instances.{dealer_of, lane_of, instance_at}
use Rattle.talk.specs.Shape.{Lawful, instances}
use Rattle.talk.specs.Sync.{has}
use Rattle.plays.specs.Play.{Play}
use Rattle.plays.specs.Said.{points_up_to}
use Rattle.plays.proofs.Ends.{lane_below}
use Rattle.plays.proofs.Lists.{points_more}
use Rattle.plays.proofs.Proper.{dealers_seated}
use Rattle.playback.specs.Recorded.{up_to, is_dealt, grid_place}
use Rattle.playback.proofs.Formed.{more_below, dealer_most}
use Rattle.hearsay.specs.Said.{Marks}
use Rattle.hearsay.specs.Record.{dealer_grids, grids_in, HasGrids}
use Rattle.hearsay.proofs.Lists.{every_flat, every_map, every_unless, every_all}

-- the grids of a dealer that isn't down
abbrev pub dealt : Play → ℕ → List (List (List Fp))
dealt play dealer = cond (play.down dealer) [] (dealer_grids play dealer)

points_suc : {A : Type 0} (f : ℕ → List A) (n : ℕ) → flat_map f (points_up_to (suc n)) ≡ flat_map f (points_up_to n) ++ f (suc n)
points_suc f n =
    ap (λ k. flat_map f (points_up_to k)) (sym (add-one n)) ∙ points_more f n ∙ ap (λ k. flat_map f (points_up_to n) ++ f k) (add-one n)

-- ---- how many there are
length_five : (play : Play) (dealer : ℕ) (b : Bool) → length (cond b [] (dealer_grids play dealer)) ≡ 5 * cond (not b) 1 0
length_five play dealer true = refl
length_five play dealer false = length-map-range_with_len (λ lane. play.grid (instance_at dealer lane)) 0 5

pub length_dealt : (play : Play) (n : ℕ) → length (flat_map (dealt play) (points_up_to n)) ≡ 5 * how_many n (λ k. not (play.down k))
length_dealt play zero = refl
length_dealt play (suc n) =
    omega (
      arith,
      ap length (points_suc (dealt play) n),
      length-append (flat_map (dealt play) (points_up_to n)) (dealt play (suc n)),
      length_dealt play n,
      length_five play (suc n) (play.down (suc n)),
    )

module _ (play : Play) (mask : ℕ) (lawful : Lawful play.shape) (marks : Marks play.shape mask play.down) where
  -- the dealers that aren't down
  counted : (n : ℕ) → n ≤ play.shape.dealers → up_to mask n ≡ how_many n (λ k. not (play.down k))
  counted n le = how_many_same n _ _ (λ k a b. ap not (marks k a (omega (arith, b, le, dealers_seated play.shape lawful))))

  pub length_grids : length (grids_in play) ≡ 5 * up_to mask play.shape.dealers
  length_grids = length_dealt play play.shape.dealers ∙ ap (λ n. 5 * n) (sym (counted play.shape.dealers (omega arith)))

-- ---- where they stand
pub dealt_at : (play : Play) (dealer lane : ℕ) → play.down dealer ≡ false → lane < 5 → get_or (dealt play dealer) lane [] ≡ play.grid (instance_at dealer lane)
dealt_at play dealer lane up l5 =
    ap (λ (b : Bool). get_or (cond b [] (dealer_grids play dealer)) lane []) up
    ∙ get_or-map-range_with_len (λ l. play.grid (instance_at dealer l)) 0 5 lane lane [] l5 (omega arith)

last_at : (play : Play) (n dealer lane : ℕ) → dealer ≡ suc n → lane < 5 → play.down dealer ≡ false →
    get_or (flat_map (dealt play) (points_up_to n) ++ dealt play (suc n)) (5 * how_many (dealer - 1) (λ k. not (play.down k)) + lane) [] ≡ play.grid (instance_at dealer lane)
last_at play n dealer lane e l5 up =
    let before : dealer - 1 ≡ n = omega (arith, e) in
    let here : 5 * how_many n (λ k. not (play.down k)) + lane ≡ length (flat_map (dealt play) (points_up_to n)) + lane = omega (arith, length_dealt play n) in
    ap (λ i. get_or (flat_map (dealt play) (points_up_to n) ++ dealt play (suc n)) i []) (ap (λ k. 5 * how_many k (λ k. not (play.down k)) + lane) before ∙ here)
    ∙ get_or-append-add (flat_map (dealt play) (points_up_to n)) (dealt play (suc n)) lane []
    ∙ ap (λ d. get_or (dealt play d) lane []) (sym e)
    ∙ dealt_at play dealer lane up l5

all_at : (play : Play) (n dealer lane : ℕ) → 1 ≤ dealer → dealer ≤ n → lane < 5 → play.down dealer ≡ false →
    get_or (flat_map (dealt play) (points_up_to n)) (5 * how_many (dealer - 1) (λ k. not (play.down k)) + lane) [] ≡ play.grid (instance_at dealer lane)
all_at play zero dealer lane a b l5 up = absurd (omega (arith, a, b))
all_at play (suc n) dealer lane a b l5 up =
    let i : ℕ = 5 * how_many (dealer - 1) (λ k. not (play.down k)) + lane in
    ap (λ (xs : List (List (List Fp))). get_or xs i []) (points_suc (dealt play) n)
    ∙ elim (cases_eq dealer (suc n)) [
      | inl e ↦ last_at play n dealer lane e l5 up
      | inr ne ↦
          get_or_append_left (flat_map (dealt play) (points_up_to n)) (dealt play (suc n)) [] i
          (omega (arith, length_dealt play n, l5, more_below play.down (dealer - 1) n dealer (omega (arith, a)) (omega (arith, b, ne)) up))
          ∙ all_at play n dealer lane a (omega (arith, b, ne)) l5 up
    ]

same_instance : (i : ℕ) → instance_at (dealer_of i) (lane_of i) ≡ i
same_instance i = omega arith

module _ (play : Play) (mask : ℕ) (lawful : Lawful play.shape) (marks : Marks play.shape mask play.down) where
  pub grid_is : (i : ℕ) → i < instances play.shape → play.down (dealer_of i) ≡ false →
      cond (is_dealt play.shape mask i) (get_or (grids_in play) (grid_place mask i) []) [] ≡ play.grid i
  grid_is i lt up =
      let most : dealer_of i ≤ play.shape.dealers = dealer_most play.shape i lt in
      let seated : has mask (dealer_of i) ≡ false = marks (dealer_of i) (omega arith) (omega (arith, most, dealers_seated play.shape lawful)) ∙ up in
      cond-true (is_dealt play.shape mask i) _ [] (and_from (ltb i (instances play.shape)) (not (has mask (dealer_of i))) (lt-ltb i (instances play.shape) lt) (ap not seated))
      ∙ ap (λ n. get_or (grids_in play) (5 * n + lane_of i) []) (counted play mask lawful marks (dealer_of i - 1) (omega (arith, most)))
      ∙ all_at play play.shape.dealers (dealer_of i) (lane_of i) (omega arith) most (lane_below i) up
      ∙ ap play.grid (same_instance i)

-- ---- each is one of the setting's degree
pub all_grids : (play : Play) → HasGrids play → All (IsGrid play.shape.degree) (grids_in play)
all_grids play whole =
    every_all (IsGrid play.shape.degree) (grids_in play)
    (every_flat (IsGrid play.shape.degree) (dealt play) play.shape.dealers 1
    (λ dealer from most.
    every_unless (IsGrid play.shape.degree) (play.down dealer) (dealer_grids play dealer)
    (λ up.
    every_map (IsGrid play.shape.degree) (λ lane. play.grid (instance_at dealer lane)) 5 0
    (λ lane zero l5.
    let there : dealer_of (instance_at dealer lane) ≡ dealer = omega (arith, from, l5) in
    whole (instance_at dealer lane) (omega (arith, from, most, l5)) (ap play.down there ∙ up)))))
