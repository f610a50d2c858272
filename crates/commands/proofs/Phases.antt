-- What a phase of five rounds leaves is what the play of its run defines, whichever minds go like members of the sharing.
use Rattle.std.proofs.Common.{◌≡◌, inl, inr, ◌⊎◌, ℕ, zero, suc, ◌+◌, ◌-◌, ◌*◌, ◌<◌, ◌≤◌, Bool, true, false, ◌||◌, not, cond, List, [], ◌∷◌, length, map, get_or, take, Some, refl, sym, ap, ap₂, ◌∙◌, subst, arith, All}
use Rattle.std.specs.Prelude.{◌==◌}
use Rattle.std.specs.List.{range_with_len}
use Rattle.std.proofs.lemmas.Bool.Decides.{nat_tests}
use Rattle.std.proofs.lemmas.List.{take_all}
use Rattle.std.proofs.lemmas.List.FromFn.{get_or-map-range_with_len, length-map-range_with_len}
use Rattle.algebra61.specs.Field.{Fp}
use Rattle.algebra61.specs.Grid.{Degree, AllShort}
use Rattle.bivar61.specs.Grids.{IsGrid}
use Rattle.bivar61.proofs.GridLemmas.{grid_of_is}
use Rattle.chance61.specs.Draws.{grids_drawn, grid_drawn, five_grids_drawn, drawn_in_turn, elements_drawn}
use Rattle.chance61.proofs.DrawLemmas.{length-elements_drawn}
use Rattle.sharing61.specs.Count.{how_many}
use Rattle.sharing61.proofs.Count.{how_many_same}
use Rattle.talk.specs.Shape.{Shape, Lawful, rounds}
use Rattle.sizes.specs.Committees.{IsCommittee}
use Rattle.talk.specs.Hears.{Hearing, Seated}
use Rattle.talk.specs.Sync.{Ways, AllAllowed, all_seats, has, sync}
use Rattle.talk.specs.Basics.{Nth}
use Rattle.plays.specs.Play.{Play}
use Rattle.plays.specs.Law.{ProperPlay, HonestIn}
use Rattle.plays.specs.Transcript.{HonestSeat}
use Rattle.members.specs.Member.{Member, member_at, member_ways, member_turn}
use Rattle.members.specs.Shares.{accepted_count}
use Rattle.members.specs.Laws.{BeginSharing, member_done}
use Rattle.members.proofs.Minds.{ends_done, proper, honest_in_masks}
use Rattle.machines.specs.Machines.{GoesLike, InMasks}
use Rattle.machines.proofs.Runs.{length-sync}
use Rattle.drillbook.specs.declared.order.Order.{Order}
use Rattle.drillbook.specs.Orders.{names}
use Rattle.drillbook.specs.Word.{DrilledMind, drilled_ways}
use Rattle.drillbook.proofs.Ordered.{unnamed_speaks}
use Rattle.commands.specs.Late.{in_each, down_after, IsLate, WasCut}
use Rattle.commands.specs.Run.{numbered, drilled_on, drilled_all, AreMasks, phase_play}
use Rattle.commands.specs.declared.phase.Phase.{Phase}
use Rattle.commands.specs.Phase.{marked, marks_of, unless_down, shares_given, AllDone, shares_in, accepted_first, EndDone, IsReadOff, IsPhase}
use Rattle.commands.proofs.Late.{each_has, has_each, after_up, cut_or_not}

-- ---- items with their numbers
module _ {A B : Type 0} where
  pub length-numbered : (f : ℕ → A → B) (k : ℕ) (xs : List A) → length (numbered f k xs) ≡ length xs
  length-numbered f k [] = refl
  length-numbered f k (x ∷ xs) = ap suc (length-numbered f (k + 1) xs)

  pub nth_numbered : (f : ℕ → A → B) (d : A) (k i : ℕ) (xs : List A) → i < length xs → Nth i (f (k + i) (get_or xs i d)) (numbered f k xs)
  nth_numbered f d k i [] lt = absurd (omega (arith, lt))
  nth_numbered f d k zero (x ∷ xs) lt = let e : k ≡ k + 0 = omega arith in ap (λ (n : ℕ). f n x) e
  nth_numbered f d k (suc i) (x ∷ xs) lt =
      let e : (k + 1) + i ≡ k + suc i = omega arith in
      subst (λ (n : ℕ). Nth i (f n (get_or xs i d)) (numbered f (k + 1) xs)) e (nth_numbered f d (k + 1) i xs (omega (arith, lt)))

pub nth_get : {A : Type 0} (d : A) (i : ℕ) (x : A) (xs : List A) → Nth i x xs → (i < length xs) × (get_or xs i d ≡ x)
nth_get d i x [] h = absurd h
nth_get d zero x (y ∷ ys) h = (omega arith, h)
nth_get d (suc i) x (y ∷ ys) h = let r = nth_get d i x ys h in (omega (arith, r.0), r.1)

module _ {M : Type 0} where
  -- the drilled minds at the start
  pub drilled_nth : (s : Shape) (orders : List Order) (minds : List M) (k i : ℕ) (m : M) → Nth i m minds → Nth i (drilled_on s orders (k + i) m) (numbered (drilled_on s orders) k minds)
  drilled_nth s orders minds k i m at =
      let g = nth_get m i m minds at in
      subst (λ (x : M). Nth i (drilled_on s orders (k + i) x) (numbered (drilled_on s orders) k minds)) g.1 (nth_numbered (drilled_on s orders) m k i minds g.0)

  pub drilled_hearing : (may : M → ℕ → Type 0) (s : Shape) (orders : List Order) (k : ℕ) (minds : List M) → Hearing may 1 minds →
      Hearing (λ (d : DrilledMind M) (round : ℕ). may d.inner round) 1 (numbered (drilled_on s orders) k minds)
  drilled_hearing may s orders k [] h = tt
  drilled_hearing may s orders k (m ∷ ms) h = (h.0, drilled_hearing may s orders (k + 1) ms h.1)

  pub drilled_seated : (made : M → Shape → ℕ → Type 0) (s : Shape) (orders : List Order) (k : ℕ) (minds : List M) → Seated made s k minds →
      Seated (λ (d : DrilledMind M) (t : Shape) (seat : ℕ). (d.shape ≡ t) × (d.seat ≡ seat) × made d.inner t seat) s k (numbered (drilled_on s orders) k minds)
  drilled_seated made s orders k [] h = tt
  drilled_seated made s orders k (m ∷ ms) h = ((refl, refl, h.0), drilled_seated made s orders (k + 1) ms h.1)

-- ---- the grids of a seed
all_short : (n : ℕ) (g : List (List Fp)) → All (λ (p : List Fp). length p ≡ n) g → AllShort n g
all_short n [] h = tt
all_short n (p ∷ g) h = (omega (arith, h 0 p (omega arith)), all_short n g (λ k z lt. h (suc k) z (omega (arith, lt))))

degree_of : (d : ℕ) (g : List (List Fp)) → IsGrid d g → Degree d g
degree_of d g h = record { in_x = omega (arith, h.in_x); in_y = all_short (d + 1) g h.in_y }

one_drawn : (d : ℕ) (seed : List ℕ) (place : ℕ) → d ≤ 14 → IsGrid d (grid_drawn d seed place).0
unfolding grid_drawn
one_drawn d seed place small = grid_of_is d (elements_drawn ((d + 1) * (d + 1)) seed place).0 small (length-elements_drawn ((d + 1) * (d + 1)) seed place)

pub none_degree : (d : ℕ) → Degree d []
none_degree d = record { in_x = omega arith; in_y = tt }

drawn_degree : (d : ℕ) (seed : List ℕ) (n place l : ℕ) → d ≤ 14 → Degree d (get_or (drawn_in_turn (grid_drawn d seed) n place).0 l [])
drawn_degree d seed zero place l small = none_degree d
drawn_degree d seed (suc n) place zero small = degree_of d _ (one_drawn d seed place small)
drawn_degree d seed (suc n) place (suc l) small = drawn_degree d seed n (grid_drawn d seed place).1 l small

pub grids_degree : (d : ℕ) (seed : List ℕ) (lane : ℕ) → d ≤ 14 → Degree d (get_or (grids_drawn d seed) lane [])
unfolding five_grids_drawn
grids_degree d seed lane small = drawn_degree d seed 5 0 lane small

-- the grids of a list, each of this degree
pub each_degree : (d : ℕ) (grids : List (List (List Fp))) (lane : ℕ) → All (IsGrid d) grids → Degree d (get_or grids lane [])
each_degree d [] lane h = none_degree d
each_degree d (g ∷ gs) zero h = degree_of d g (h 0 g (omega arith))
each_degree d (g ∷ gs) (suc lane) h = each_degree d gs lane (λ k z lt. h (suc k) z (omega (arith, lt)))

-- ---- who isn't down
-- someone isn't down
pub record SomeUp (down : ℕ → Bool) (seat n : ℕ) : Type 0 where
  pub place : ℕ
  pub within : place < n
  pub up : down (seat + place) ≡ false

true_not_false : true ≡ false → ⊥
true_not_false e = cc

accepted_cases : (b : Bool) (x y z : ℕ) → (b ≡ true → x ≡ z) → (b ≡ false → y ≡ z) → cond b x y ≡ z
accepted_cases true x y z f g = f refl
accepted_cases false x y z f g = g refl

either : (b : Bool) → (b ≡ true) ⊎ (b ≡ false)
either true = inl refl
either false = inr refl

pub up_step : (down : ℕ → Bool) (seat n place : ℕ) → down seat ≡ true → place < suc n → down (seat + place) ≡ false → SomeUp down (seat + 1) n
up_step down seat n zero out lt up = let e : seat + 0 ≡ seat = omega arith in absurd (true_not_false (sym out ∙ sym (ap down e) ∙ up))
up_step down seat n (suc k) out lt up = let e : (seat + 1) + k ≡ seat + suc k = omega arith in record { place = k; within = omega (arith, lt); up = ap down e ∙ up }

unless_same : (b : Bool) (xs ys : List Fp) → (b ≡ false → xs ≡ ys) → unless_down b xs ≡ unless_down b ys
unless_same true xs ys h = refl
unless_same false xs ys h = ap (λ zs. Some zs) (h refl)

-- ---- minds that end where machines do
module _ {M C : Type 0} (is : M → C → Type 0) (ended : ℕ → C) where
  -- the mind on each seat that isn't down stands where `ended` says of it; the first of these minds is on the seat `seat`
  unfoldable pub EndsAs : (ℕ → Bool) → ℕ → List (DrilledMind M) → Type 0
  EndsAs down seat ms = (k : ℕ) → k < length ms → down (seat + k) ≡ false → (m : DrilledMind M) × Nth k m ms × is m.inner (ended (seat + k))

  pub ends_here : (down : ℕ → Bool) (seat : ℕ) (m : DrilledMind M) (ms : List (DrilledMind M)) → EndsAs down seat (m ∷ ms) → down seat ≡ false → is m.inner (ended seat)
  unfolding EndsAs
  ends_here down seat m ms h up =
      let e : seat + 0 ≡ seat = omega arith in
      let r = h 0 (omega arith) (ap down e ∙ up) in
      subst (λ (n : ℕ). is m.inner (ended n)) e (subst (λ (x : DrilledMind M). is x.inner (ended (seat + 0))) (sym r.1) r.2)

  pub ends_later : (down : ℕ → Bool) (seat : ℕ) (m : DrilledMind M) (ms : List (DrilledMind M)) → EndsAs down seat (m ∷ ms) → EndsAs down (seat + 1) ms
  unfolding EndsAs
  ends_later down seat m ms h k lt up =
      let e : (seat + 1) + k ≡ seat + suc k = omega arith in
      let r = h (suc k) (omega (arith, lt)) (ap down (sym e) ∙ up) in
      (r.0, r.1, subst (λ (n : ℕ). is r.0.inner (ended n)) (sym e) r.2)

  -- the same for marks that mark who is down
  pub ends_marked : (down at : ℕ → Bool) (seat : ℕ) (ms : List (DrilledMind M)) →
      ((k : ℕ) → k < length ms → at (seat + k) ≡ down (seat + k)) → EndsAs down seat ms → EndsAs at seat ms
  unfolding EndsAs
  ends_marked down at seat ms agree h k lt up = h k lt (sym (agree k lt) ∙ up)

  -- so they are done, where who stands there is done
  pub all_done : (done : M → Type 0) → ((j : ℕ) (m : M) → is m (ended j) → done m) → (down : ℕ → Bool) (seat : ℕ) (ms : List (DrilledMind M)) → EndsAs down seat ms → AllDone done down seat ms
  all_done done each down seat [] h = tt
  all_done done each down seat (m ∷ ms) h = (λ up. each seat m.inner (ends_here down seat m ms h up), all_done done each down (seat + 1) ms (ends_later down seat m ms h))

  -- and count as many instances as all of them do
  pub accepted_same : (accepted : M → ℕ) (count : ℕ) → ((j : ℕ) (m : M) → is m (ended j) → accepted m ≡ count) → (down : ℕ → Bool) (seat : ℕ) (ms : List (DrilledMind M)) →
      EndsAs down seat ms → SomeUp down seat (length ms) → accepted_first accepted down seat ms ≡ count
  accepted_same accepted count each down seat [] h s = absurd (omega (arith, s.within))
  accepted_same accepted count each down seat (m ∷ ms) h s =
      accepted_cases (down seat) (accepted_first accepted down (seat + 1) ms) (accepted m.inner) count
      (λ out. accepted_same accepted count each down (seat + 1) ms (ends_later down seat m ms h) (up_step down seat (length ms) s.place out s.within s.up))
      (λ up. each seat m.inner (ends_here down seat m ms h up))

  pub shares_same : (value : M → List Fp) (lanes : ℕ → List Fp) → ((j : ℕ) (m : M) → is m (ended j) → value m ≡ lanes j) → (down : ℕ → Bool) (seat : ℕ) (ms : List (DrilledMind M)) →
      EndsAs down seat ms → shares_in value down seat ms ≡ map (λ j. unless_down (down j) (lanes j)) (range_with_len seat (length ms))
  shares_same value lanes each down seat [] h = refl
  shares_same value lanes each down seat (m ∷ ms) h =
      ap₂ (λ x xs. x ∷ xs)
      (unless_same (down seat) (value m.inner) (lanes seat) (λ up. each seat m.inner (ends_here down seat m ms h up)))
      (shares_same value lanes each down (seat + 1) ms (ends_later down seat m ms h))

only_one : (a b : ℕ) → not (a == b) ≡ false → a ≡ b
only_one a b e = grind (arith, nat_tests)

not_other : (a : ℕ) → not (a == a) ≡ false
not_other a = grind (arith, nat_tests)

-- ---- minds that go like members, some of them drilled
-- the setting of a phase of five rounds among n members, with grids of this degree
abbrev pub five_rounds : ℕ → ℕ → ℕ → Shape
five_rounds n t degree = record { receivers = n; bound = t; degree = degree; dealers = n; shift = 0; checks = 0 }

pub lawful_five : (n t degree : ℕ) → IsCommittee n t → degree ≤ t → Lawful (five_rounds n t degree)
lawful_five n t degree c low = record {
  receivers = (omega (arith, c.third, c.some_bad), c.most);
  dealers = (omega (arith, c.third, c.some_bad), c.most);
  some_bad = c.some_bad;
  third = c.third;
  degree = low;
  committees = inl (record { no_shift = refl; same = refl; checks = omega arith });
}

module _ {M : Type 0} where
  -- a drilled mind on a seat that no order names stands where the mind inside stands
  abbrev pub drilled_is : {C : Type 0} → (M → C → Type 0) → DrilledMind M → C → Type 0
  drilled_is is d c = (names d.orders d.seat ≡ false) × is d.inner c

  -- and goes like it
  pub undrilled_go : {C : Type 0} (w : Ways M) (v : Ways C) (is : M → C → Type 0) (turn : ℕ → C → Type 0) → GoesLike w v is turn → GoesLike (drilled_ways w) v (drilled_is is) turn
  undrilled_go w v is turn goes = record {
    same_word = λ d c round speaks h. unnamed_speaks d.shape d.orders d.seat round d.second (w.word d.inner round) h.0 ∙ goes.same_word d.inner c round speaks h.1;
    same_next = λ d c round heard speaks h. (h.0, goes.same_next d.inner c round heard speaks h.1);
  }

  -- the minds of a phase at its start: those on the seats that aren't down are drilled by nobody, and go like members that
  -- deal their own grids
  pub record Starts (w : Ways M) (is : M → Member → Type 0) (n t degree : ℕ) (orders : List Order) (down : ℕ → Bool) (own : ℕ → List (List (List Fp))) (minds : List M) : Type 0 where
    pub committee : IsCommittee n t
    pub low : degree ≤ t
    pub goes : GoesLike w member_ways is member_turn
    pub all : length minds ≡ n
    pub unnamed : (seat : ℕ) → down seat ≡ false → names orders seat ≡ false
    pub degrees : (seat lane : ℕ) → down seat ≡ false → Degree degree (get_or (own seat) lane [])
    pub fresh : (seat : ℕ) → HonestSeat (five_rounds n t degree) down seat → (m : M) × Nth (seat - 1) m minds × is m (member_at (five_rounds n t degree) seat (own seat))

  module _ (w : Ways M) (is : M → Member → Type 0) (n t degree : ℕ) (orders : List Order) (before : ℕ → Bool) (own : ℕ → List (List (List Fp))) (minds : List M) (st : Starts w is n t degree orders before own minds)
      (masks : List ℕ) (all : length masks ≡ rounds (five_rounds n t degree)) where
    -- whoever is held to be down, besides who was before the phase
    pub begins : (down : ℕ → Bool) → ((seat : ℕ) → down seat ≡ false → before seat ≡ false) → BeginSharing (drilled_ways w) (drilled_is is) (five_rounds n t degree) masks (drilled_all (five_rounds n t degree) orders minds) down own
    begins down more = record {
      goes = undrilled_go w member_ways is member_turn st.goes;
      setting = lawful_five n t degree st.committee st.low;
      rounds = omega (arith, all);
      seated = length-numbered (drilled_on (five_rounds n t degree) orders) 1 minds ∙ st.all ∙ omega arith;
      degrees = λ seat lane up. st.degrees seat lane (more seat up);
      fresh = λ seat honest.
          let first = st.fresh seat (record { from = honest.from; to = honest.to; up = more seat honest.up }) in
          let e : 1 + (seat - 1) ≡ seat = omega (arith, honest.from) in (
            drilled_on (five_rounds n t degree) orders (1 + (seat - 1)) first.0,
            drilled_nth (five_rounds n t degree) orders minds 1 (seat - 1) first.0 first.1,
            (ap (names orders) e ∙ st.unnamed seat (more seat honest.up), first.2),
          );
    }

    begins_after : BeginSharing (drilled_ways w) (drilled_is is) (five_rounds n t degree) masks (drilled_all (five_rounds n t degree) orders minds) (down_after before masks) own
    begins_after = begins (down_after before masks) (λ seat up. (after_up before masks seat up).0)

    -- who isn't down after the phase is in each mask
    pub here : InMasks (five_rounds n t degree) 5 masks (down_after before masks)
    here round seat lt honest = each_has masks round seat (omega (arith, lt, all)) (after_up before masks seat honest.up).1

    -- and is honest in the play
    pub honest_in : (j : ℕ) → 1 ≤ j → j ≤ n → down_after before masks j ≡ false → HonestIn (phase_play w (five_rounds n t degree) (down_after before masks) own orders minds masks) j
    honest_in j from to up = let e : 0 + j ≡ j = omega arith in record { from = from; to = to; up = ap (down_after before masks) e ∙ up }

    -- with at most the bound down the play is as agreement asks
    pub proper_phase : how_many n (down_after before masks) ≤ t → ProperPlay (phase_play w (five_rounds n t degree) (down_after before masks) own orders minds masks)
    proper_phase few =
        let same : how_many n (λ j. down_after before masks (0 + j)) ≡ how_many n (down_after before masks) = how_many_same n (λ j. down_after before masks (0 + j)) (down_after before masks) (λ k a b. let e : 0 + k ≡ k = omega arith in ap (down_after before masks) e) in
        proper (drilled_ways w) (drilled_is is) (five_rounds n t degree) masks (drilled_all (five_rounds n t degree) orders minds) (down_after before masks) own begins_after here (omega (arith, same, few))

    pub length-run : length (sync (drilled_ways w) (five_rounds n t degree) 1 masks (drilled_all (five_rounds n t degree) orders minds)) ≡ n
    length-run =
        length-sync (drilled_ways w) (five_rounds n t degree) 1 masks (drilled_all (five_rounds n t degree) orders minds)
        ∙ length-numbered (drilled_on (five_rounds n t degree) orders) 1 minds ∙ st.all

    -- the minds after the run end as the play defines
    pub ends : EndsAs is (member_done (phase_play w (five_rounds n t degree) (down_after before masks) own orders minds masks) own) (down_after before masks) 1 (sync (drilled_ways w) (five_rounds n t degree) 1 masks (drilled_all (five_rounds n t degree) orders minds))
    unfolding EndsAs
    ends k lt up =
        let s : Shape = five_rounds n t degree in
        let ms : List (DrilledMind M) = drilled_all s orders minds in
        let few : k < n = omega (arith, lt, length-run) in
        let end = ends_done (drilled_ways w) (drilled_is is) s masks ms (down_after before masks) own begins_after here (1 + k) (honest_in (1 + k) (omega arith) (omega (arith, few)) up) in
        let e : 0 + (1 + k) - 1 ≡ k = omega arith in
        let five : take 5 masks ≡ masks = take_all 5 masks (omega (arith, all)) in (
          end.0,
          subst (λ (z : ℕ × List ℕ). Nth z.0 end.0 (sync (drilled_ways w) s 1 z.1 ms)) (λ i. (e i, five i)) end.1,
          end.2.1,
        )

    -- ---- a seat that is late was cut
    module _ (cuts : ℕ → ℕ) (allowed : AllAllowed (drilled_ways w) (five_rounds n t degree) 1 (all_seats (five_rounds n t degree)) cuts masks (drilled_all (five_rounds n t degree) orders minds)) where
      -- who wasn't down before the phase, and was cut in no round of it, is in each mask
      pub uncut_each : (j : ℕ) → 1 ≤ j → j ≤ n → before j ≡ false → ((round : ℕ) → 1 ≤ round → round ≤ 5 → has (cuts round) j ≡ false) → in_each masks j ≡ true
      uncut_each j from to up none =
          let out : ℕ → Bool = λ seat. not (seat == j) in
          let other : (seat : ℕ) → out seat ≡ false → seat ≡ j = λ seat e. only_one seat j e in
          let all_in = honest_in_masks (drilled_ways w) (drilled_is is) (five_rounds n t degree) masks (drilled_all (five_rounds n t degree) orders minds) out own
          (begins out (λ seat e. ap before (other seat e) ∙ up)) cuts allowed
          (λ round seat lt honest. ap (λ (k : ℕ). has (cuts (suc round)) k) (other seat honest.up) ∙ none (suc round) (omega arith) (omega (arith, lt))) in
          has_each masks j (λ k lt. all_in k j (omega (arith, lt, all)) (record { from = from; to = omega (arith, to); up = not_other j }))

      pub late_was_cut : (j : ℕ) → 1 ≤ j → j ≤ n → IsLate before masks j → WasCut cuts 5 j
      late_was_cut j from to late =
          elim (cut_or_not cuts 5 j) [
            | inl was ↦ was
            | inr none ↦ absurd (true_not_false (sym (uncut_each j from to late.0 none) ∙ late.1))
          ]

-- ---- what is read off the minds in the end
-- what is read off a mind that has come to the end that a play defines for its seat
pub record Reads {M : Type 0} (is : M → Member → Type 0) (done : M → Type 0) (value : M → List Fp) (accepted : M → ℕ) (p : Play) (own : ℕ → List (List (List Fp))) (lanes : ℕ → List Fp) : Type 0 where
  pub is_done : (j : ℕ) (m : M) → is m (member_done p own j) → done m
  pub has : (j : ℕ) (m : M) → is m (member_done p own j) → value m ≡ lanes j
  pub counts : (j : ℕ) (m : M) → is m (member_done p own j) → accepted m ≡ accepted_count p

-- where fewer are down than there are members, someone isn't
some_not : (f : ℕ → Bool) (n : ℕ) → how_many n f < n → (k : ℕ) × (1 ≤ k) × (k ≤ n) × (f k ≡ false)
some_not f zero lt = absurd (omega (arith, lt))
some_not f (suc n) lt =
    elim (either (f (suc n))) [
      | inr up ↦ (suc n, omega arith, omega arith, up)
      | inl down ↦
          let one : cond (f (suc n)) 1 0 ≡ 1 = ap (λ (b : Bool). let v : ℕ = cond b 1 0 in v) down in
          let r = some_not f n (omega (arith, lt, one)) in (r.0, r.1, omega (arith, r.2), r.3)
    ]

pub some_up : (down : ℕ → Bool) (n : ℕ) → how_many n down < n → SomeUp down 1 n
some_up down n few =
    let r = some_not down n few in
    let e : r.0 ≡ 1 + (r.0 - 1) = omega (arith, r.1) in
    record { place = r.0 - 1; within = omega (arith, r.1, r.2); up = ap down (sym e) ∙ r.3 }

-- ---- marks
pub marks_right : (down : ℕ → Bool) (n j : ℕ) → 1 ≤ j → j ≤ n → marked (marks_of down n) j ≡ down j
marks_right down n j from to = get_or-map-range_with_len down 1 n (j - 1) j false (omega (arith, from, to)) (omega (arith, from))

pub marked_count : (down : ℕ → Bool) (n : ℕ) → how_many n (marked (marks_of down n)) ≡ how_many n down
marked_count down n = how_many_same n (marked (marks_of down n)) down (λ j from to. marks_right down n j from to)

pub some_marked : (down at : ℕ → Bool) (n : ℕ) → ((j : ℕ) → 1 ≤ j → j ≤ n → at j ≡ down j) → SomeUp down 1 n → SomeUp at 1 n
some_marked down at n agree s = record { place = s.place; within = s.within; up = agree (1 + s.place) (omega arith) (omega (arith, s.within)) ∙ s.up }

pub range_same : {A : Type 0} (f g : ℕ → A) (a n : ℕ) → ((j : ℕ) → a ≤ j → j < a + n → f j ≡ g j) → map f (range_with_len a n) ≡ map g (range_with_len a n)
range_same f g a zero agree = refl
range_same f g a (suc n) agree = ap₂ (λ x xs. x ∷ xs) (agree a (omega arith) (omega arith)) (range_same f g (a + 1) n (λ j from to. agree j (omega (arith, from)) (omega (arith, to))))

pub length-marks : (down : ℕ → Bool) (n : ℕ) → length (marks_of down n) ≡ n
length-marks down n = length-map-range_with_len down 1 n

-- minds that are done are so by marks of who is down
pub done_marked : {M : Type 0} (done : M → Type 0) (down : ℕ → Bool) (marks : List Bool) (n seat : ℕ) (ms : List (DrilledMind M)) → marks ≡ marks_of down n → 1 ≤ seat → seat + length ms ≤ n + 1 →
    AllDone done down seat ms → AllDone done (marked marks) seat ms
done_marked done down marks n seat [] are from to h = tt
done_marked done down marks n seat (m ∷ ms) are from to h = (
  λ up. h.0 (sym (marks_right down n seat from (omega (arith, to))) ∙ sym (ap (λ (xs : List Bool). marked xs seat) are) ∙ up),
  done_marked done down marks n (seat + 1) ms are (omega arith) (omega (arith, to)) h.1,
)

-- who is down after the phase, by marks of who was before it
pub after_marked : (before : ℕ → Bool) (masks : List ℕ) (n j : ℕ) → 1 ≤ j → j ≤ n → down_after (marked (marks_of before n)) masks j ≡ down_after before masks j
after_marked before masks n j from to = ap (λ (b : Bool). b || not (in_each masks j)) (marks_right before n j from to)

pub marks_same : (f g : ℕ → Bool) (n : ℕ) → ((j : ℕ) → 1 ≤ j → j ≤ n → f j ≡ g j) → marks_of f n ≡ marks_of g n
marks_same f g n agree = range_same f g 1 n (λ j from to. agree j from (omega (arith, to)))

-- ---- a phase
module _ {M : Type 0} (w : Ways M) (is : M → Member → Type 0) (n t degree : ℕ) (orders : List Order) (before : ℕ → Bool) (own : ℕ → List (List (List Fp))) (minds : List M) (st : Starts w is n t degree orders before own minds)
    (done : M → Type 0) (value : M → List Fp) (accepted : M → ℕ) (lanes : Play → ℕ → List Fp)
    (reads : (masks : List ℕ) → Reads is done value accepted (phase_play w (five_rounds n t degree) (down_after before masks) own orders minds masks) own (lanes (phase_play w (five_rounds n t degree) (down_after before masks) own orders minds masks))) where
  agrees : (masks : List ℕ) → length masks ≡ rounds (five_rounds n t degree) → (k : ℕ) → k < length (sync (drilled_ways w) (five_rounds n t degree) 1 masks (drilled_all (five_rounds n t degree) orders minds)) →
      down_after (marked (marks_of before n)) masks (1 + k) ≡ down_after before masks (1 + k)
  agrees masks every k lt =
      let all = length-run w is n t degree orders before own minds st masks every in
      after_marked before masks n (1 + k) (omega arith) (omega (arith, lt, all))

  ends_at : (masks : List ℕ) (every : length masks ≡ rounds (five_rounds n t degree)) →
      EndsAs is (member_done (phase_play w (five_rounds n t degree) (down_after before masks) own orders minds masks) own) (down_after (marked (marks_of before n)) masks) 1 (sync (drilled_ways w) (five_rounds n t degree) 1 masks (drilled_all (five_rounds n t degree) orders minds))
  ends_at masks every =
      ends_marked is (member_done (phase_play w (five_rounds n t degree) (down_after before masks) own orders minds masks) own) (down_after before masks) (down_after (marked (marks_of before n)) masks) 1 (sync (drilled_ways w) (five_rounds n t degree) 1 masks (drilled_all (five_rounds n t degree) orders minds))
      (agrees masks every) (ends w is n t degree orders before own minds st masks every)

  pub end_done : EndDone w done (five_rounds n t degree) (marked (marks_of before n)) (drilled_all (five_rounds n t degree) orders minds)
  end_done masks every =
      all_done is (member_done (phase_play w (five_rounds n t degree) (down_after before masks) own orders minds masks) own) done (reads masks).is_done (down_after (marked (marks_of before n)) masks) 1
      (sync (drilled_ways w) (five_rounds n t degree) 1 masks (drilled_all (five_rounds n t degree) orders minds)) (ends_at masks every)

  module _ (cuts : ℕ → ℕ) (phase : Phase) (off : IsReadOff w value accepted (five_rounds n t degree) (marked (marks_of before n)) cuts (drilled_all (five_rounds n t degree) orders minds) phase) where
    pub phase_masks : AreMasks w (five_rounds n t degree) orders minds cuts phase.masks
    phase_masks = (off.all, off.allowed)

    abbrev play : Play
    play = phase_play w (five_rounds n t degree) (down_after before phase.masks) own orders minds phase.masks

    abbrev after : List (DrilledMind M)
    after = sync (drilled_ways w) (five_rounds n t degree) 1 phase.masks (drilled_all (five_rounds n t degree) orders minds)

    phase_down : phase.down.items ≡ marks_of (down_after before phase.masks) n
    phase_down =
        off.down
        ∙ ap (marks_of (down_after (marked (marks_of before n)) phase.masks)) (length-numbered (drilled_on (five_rounds n t degree) orders) 1 minds ∙ st.all)
        ∙ marks_same (down_after (marked (marks_of before n)) phase.masks) (down_after before phase.masks) n (after_marked before phase.masks n)

    -- the marks after the phase mark who is down then
    down_right : (j : ℕ) → 1 ≤ j → j ≤ n → marked phase.down.items j ≡ down_after before phase.masks j
    down_right j from to = ap (λ (marks : List Bool). marked marks j) phase_down ∙ marks_right (down_after before phase.masks) n j from to

    ends_down : EndsAs is (member_done play own) (marked phase.down.items) 1 after
    ends_down =
        ends_marked is (member_done play own) (down_after before phase.masks) (marked phase.down.items) 1 after
        (λ k lt. down_right (1 + k) (omega arith) (omega (arith, lt, length-run w is n t degree orders before own minds st phase.masks off.all)))
        (ends w is n t degree orders before own minds st phase.masks off.all)

    phase_shares : phase.shares.items ≡ shares_given (down_after before phase.masks) (lanes play) n
    phase_shares =
        off.shares
        ∙ shares_same is (member_done play own) value (lanes play) (reads phase.masks).has (marked phase.down.items) 1 after ends_down
        ∙ ap (λ (k : ℕ). map (λ j. unless_down (marked phase.down.items j) (lanes play j)) (range_with_len 1 k)) (length-run w is n t degree orders before own minds st phase.masks off.all)
        ∙ range_same (λ j. unless_down (marked phase.down.items j) (lanes play j)) (λ j. unless_down (down_after before phase.masks j) (lanes play j)) 1 n
        (λ j from to. ap (λ (b : Bool). unless_down b (lanes play j)) (down_right j from (omega (arith, to))))

    phase_accepted : how_many n (down_after before phase.masks) < n → phase.accepted ≡ accepted_count play
    phase_accepted few =
        let up : SomeUp (down_after before phase.masks) 1 n = some_up (down_after before phase.masks) n few in
        let there : SomeUp (marked phase.down.items) 1 n = some_marked (down_after before phase.masks) (marked phase.down.items) n down_right up in
        off.accepted
        ∙ accepted_same is (member_done play own) accepted (accepted_count play) (reads phase.masks).counts (marked phase.down.items) 1 after ends_down
        (subst (SomeUp (marked phase.down.items) 1) (sym (length-run w is n t degree orders before own minds st phase.masks off.all)) there)

    pub is_phase : IsPhase n (phase_play w (five_rounds n t degree) (down_after before phase.masks) own orders minds phase.masks) (lanes (phase_play w (five_rounds n t degree) (down_after before phase.masks) own orders minds phase.masks)) phase
    is_phase = record { down = phase_down; accepted = phase_accepted; shares = phase_shares }
