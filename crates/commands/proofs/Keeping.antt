-- What a refresh means adds shares of 0, and keeps the key.
use Rattle.std.proofs.Common.{◌≡◌, ℕ, ◌-◌, ◌<◌, ◌≤◌, Bool, true, false, ◌⊎◌, inl, inr, List, [], ◌∷◌, length, get_or, take, Option, Some, None, Result, Ok, Err, refl, sym, ap, ap₂, ◌∙◌, subst, arith}
use Rattle.std.specs.Prelude.{IfSome}
use Rattle.std.proofs.lemmas.Bool.Decides.{nat_tests}
use Rattle.std.proofs.lemmas.List.{take_all}
use Rattle.std.proofs.lemmas.List.FromFn.{get_or-map-range_with_len, length-map-range_with_len}
use Rattle.algebra61.specs.Field.{Fp, fe, zeroₚ, ◌+ₚ◌, ◌*ₚ◌}
use Rattle.algebra61.specs.Poly.{eval, add_list}
use Rattle.algebra61.specs.Polynomial.{Polynomial}
use Rattle.algebra61.proofs.PolyOps.{eval-add, length-add}
use Rattle.algebra61.proofs.Ring.{zero_add, zero_mul, add_zero}
use Rattle.sharing61.specs.Count.{how_many}
use Rattle.sizes.specs.Committees.{IsCommittee, is_bound}
use Rattle.talk.specs.Shape.{Shape, refresh_shape, rounds}
use Rattle.plays.specs.Play.{Play}
use Rattle.periods.specs.Refresh.{refreshed_share}
use Rattle.periods.proofs.Refreshing.{refreshed_by_one}
use Rattle.drillbook.specs.Orders.{names}
use Rattle.shelf.specs.Held.{Held, Change, after}
use Rattle.sharefile.specs.Files.{Now, IsNow, Share}
use Rattle.keyroom.specs.declared.status.Status.{Status}
use Rattle.keyroom.specs.declared.status.Status.TheVariants.{Done}
use Rattle.keyroom.specs.declared.steps.Found.{Found}
use Rattle.keyroom.specs.declared.steps.Found.TheVariants.{Absent, Valid}
use Rattle.keyroom.specs.Decoding.{lane_of, EnoughLieOn}
use Rattle.keyroom.specs.Outcome.{Outcome, ThenDo}
use Rattle.keyroom.specs.Steps.{share_of, files_of, HasShare}
use Rattle.keyroom.proofs.Reading.{now_read, now_checked}
use Rattle.commands.specs.Begins.{HasBegun, GoesOn}
use Rattle.commands.specs.Kept.{AddsZeroShares, IsRefreshed, KeyStays, files_without}
use Rattle.commands.specs.Late.{down_after}
use Rattle.commands.specs.Links.{next_now}
use Rattle.commands.specs.Phase.{IsReady}
use Rattle.commands.specs.Refresh.{refresh_asked, keeping, AreRefreshMasks, play_refreshed, old_shares, new_shares, refresh_changes, refresh_outcome, Refreshes, MeansRefresh}
use Rattle.commands.specs.Standing.{Standing, down_in, seeds_for, Holding, holding_or_none, HasSoundNow}
use Rattle.commands.proofs.Beginning.{periods_go_on, begun_now, begun_file}
use Rattle.commands.proofs.Committees.{committee_of}
use Rattle.commands.proofs.Drills.{FromSteps}
use Rattle.commands.proofs.GoingOn.{Stands, asked_refuses, asked_stands, few_standing, stands_ready, read_ready, file_at}
use Rattle.commands.proofs.Holdings.{takes_part, up_is}
use Rattle.commands.proofs.Late.{IsEnough, after_up, up_after, done_enough, enough_or_nothing}
use Rattle.commands.proofs.Links.{next_is_now}
use Rattle.commands.proofs.Refreshed.{proper_refresh, refresh_honest}
use Rattle.commands.proofs.Staying.{fine_counts, is_sound_on, sound_many, honest_before, IsCarried, CarriesOn, part_stays}

-- ---- the steps
-- the setting of a refresh
abbrev pub refresh_setting : Now → Shape
refresh_setting now = refresh_shape now.n now.t

-- a refresh that is done: what it found, and what it did under these masks
pub record WasRefreshed (name : List ℕ) (drill : Option (List ℕ)) (held : Held) (cuts : ℕ → ℕ) (masks : List ℕ) (outcome : Outcome) : Type 0 where
  pub st : Standing
  pub asked : refresh_asked name drill held ≡ Ok st
  pub seeds : List (List ℕ)
  pub allowed : AreRefreshMasks st seeds cuts masks
  pub few : how_many st.now.n (down_after (down_in st) masks) ≤ st.now.t
  pub is : outcome ≡ refresh_outcome st seeds masks (play_refreshed st seeds masks)

-- whose key stands before it
pub asked_committee : (name : List ℕ) (drill : Option (List ℕ)) (held : Held) (st : Standing) → refresh_asked name drill held ≡ Ok st → IsCommittee st.now.n st.now.t
asked_committee name drill held st asked =
    let checked = now_checked name held st.now (asked_stands refresh_setting name drill held st asked).now_is in
    committee_of st.now.n st.now.t checked.size checked.bound

pub asked_files : (name : List ℕ) (drill : Option (List ℕ)) (held : Held) (st : Standing) → refresh_asked name drill held ≡ Ok st → length st.files ≡ st.now.n
asked_files name drill held st asked = ap length (asked_stands refresh_setting name drill held st asked).files ∙ length-map-range_with_len (share_of st.now held) 1 st.now.n

-- before the phase at most the bound is down
pub asked_few : (name : List ℕ) (drill : Option (List ℕ)) (held : Held) (st : Standing) → refresh_asked name drill held ≡ Ok st → how_many st.now.n (down_in st) ≤ st.now.t
asked_few name drill held st asked = few_standing refresh_setting name drill held st (asked_stands refresh_setting name drill held st asked)

module _ (name : List ℕ) (drill : Option (List ℕ)) (held : Held) (coming : Option (List (List ℕ))) (cuts : ℕ → ℕ) (masks : List ℕ) (outcome : Outcome) where
  enough_left : (st : Standing) → refresh_asked name drill held ≡ Ok st → (r : Refreshes coming cuts masks st outcome) →
      IsEnough (seeds_for st) st.now.n st.now.t (down_after (down_in st) masks) (refresh_outcome st r.0 masks (play_refreshed st r.0 masks)) → WasRefreshed name drill held cuts masks outcome
  enough_left st asked r enough = record { st = st; asked = asked; seeds = r.0; allowed = r.3; few = enough.few; is = r.4 ∙ enough.is }

  asked_cases : (r : Result Standing Status) → refresh_asked name drill held ≡ r → outcome.status ≡ Done → ThenDo r (Refreshes coming cuts masks) outcome → WasRefreshed name drill held cuts masks outcome
  asked_cases (Ok st) e done c =
      enough_left st e c
      (done_enough (seeds_for st) st.now.n st.now.t (down_after (down_in st) masks) (refresh_outcome st c.0 masks (play_refreshed st c.0 masks))
      (omega (arith, (asked_committee name drill held st e).third)) (sym (ap (λ (o : Outcome). o.status) c.4) ∙ done))
  asked_cases (Err status) e done c = absurd (subst FromSteps (sym (ap (λ (o : Outcome). o.status) c) ∙ done) (asked_refuses refresh_setting name drill held status e))

  pub was_refreshed : MeansRefresh name drill held coming cuts masks outcome → outcome.status ≡ Done → WasRefreshed name drill held cuts masks outcome
  was_refreshed means done = asked_cases (refresh_asked name drill held) refl done means

  end_cases : (r : Result Standing Status) → refresh_asked name drill held ≡ r → ThenDo r (Refreshes coming cuts masks) outcome → WasRefreshed name drill held cuts masks outcome ⊎ (outcome.changes ≡ [])
  end_cases (Ok st) e c =
      elim (enough_or_nothing (seeds_for st) st.now.n st.now.t (down_after (down_in st) masks) (refresh_outcome st c.0 masks (play_refreshed st c.0 masks)) (omega (arith, (asked_committee name drill held st e).third))) [
        | inl enough ↦ inl (enough_left st e c enough)
        | inr none ↦ inr (ap (λ (o : Outcome). o.changes) c.4 ∙ none)
      ]
  end_cases (Err status) e c = inr (ap (λ (o : Outcome). o.changes) c)

  -- whatever it comes to, it is done or changes nothing
  pub refresh_ends : MeansRefresh name drill held coming cuts masks outcome → WasRefreshed name drill held cuts masks outcome ⊎ (outcome.changes ≡ [])
  refresh_ends means = end_cases (refresh_asked name drill held) refl means

-- what was read tells that the now file's fields are in their ranges
pub reads_now : (name : List ℕ) (drill : Option (List ℕ)) (held : Option Held) (st : Standing) → IfSome held (λ m. refresh_asked name drill m ≡ Ok st) → IsReady st → IfSome held (HasSoundNow name)
reads_now name drill None st asked ready = tt
reads_now name drill (Some m) st asked ready = read_ready refresh_setting name drill m st asked ready

-- ---- a refresh that is done
module _ (name : List ℕ) (drill : Option (List ℕ)) (held : Held) (st : Standing) (s : Stands refresh_setting name drill held st) (is : IsNow st.now) (seeds : List (List ℕ)) (masks : List ℕ) (every : length masks ≡ rounds (refresh_setting st.now)) (few : how_many st.now.n (down_after (down_in st) masks) ≤ st.now.t) where
  abbrev play : Play
  play = play_refreshed st seeds masks

  ready : IsReady st
  ready = stands_ready refresh_setting name drill held st s is

  committee : IsCommittee st.now.n st.now.t
  committee = committee_of st.now.n st.now.t is.size is.bound

  abbrev down : ℕ → Bool
  down = down_after (down_in st) masks

  abbrev new : Now
  new = next_now st.now (down_after (down_in st) masks)

  new_is : IsNow (next_now st.now (down_after (down_in st) masks))
  new_is = next_is_now st.now (down_after (down_in st) masks) is ready.next few

  abbrev lanes : ℕ → List Fp
  lanes = new_shares st seeds (play_refreshed st seeds masks)

  five : (j : ℕ) → length (new_shares st seeds (play_refreshed st seeds masks) j) ≡ 5
  five j = length-map-range_with_len (λ lane. refreshed_share (play_refreshed st seeds masks) lane j (get_or (old_shares st seeds j) lane zeroₚ)) 0 5

  abbrev changes : List Change
  changes = refresh_changes st seeds (play_refreshed st seeds masks)

  goes : GoesOn st.now (next_now st.now (down_after (down_in st) masks)) (down_after (down_in st) masks) (new_shares st seeds (play_refreshed st seeds masks)) (refresh_changes st seeds (play_refreshed st seeds masks)) held
  goes = periods_go_on st.now (next_now st.now (down_after (down_in st) masks)) (down_after (down_in st) masks) (new_shares st seeds (play_refreshed st seeds masks)) held (record { was = is; is = new_is; name = refl; period = refl })

  named : st.now.name ≡ name
  named = (now_read name held st.now s.now_is).named

  -- who isn't down had a valid share file
  record HadShare (j : ℕ) : Type 0 where
    was : Share
    has : HasShare st.now held j was
    old : old_shares st seeds j ≡ was.lanes

  had_share : (j : ℕ) → 1 ≤ j → j ≤ st.now.n → down_after (down_in st) masks j ≡ false → HadShare j
  had_share j from to up =
      let t = takes_part (keeping (st.now.t - 1)) 1 st.files seeds (j - 1) j (omega (arith, from)) (up_is st j (after_up (down_in st) masks j up).0).1 in
      record {
        was = t.share;
        has = sym (file_at st.now held j from to) ∙ sym (ap (λ (fs : List Found). get_or fs (j - 1) Absent) s.files) ∙ t.file_is;
        old = ap (λ (h : Option Holding). (holding_or_none h).old) t.is;
      }

  some_bad : (t : ℕ) → is_bound st.now.n t ≡ true → 1 ≤ t
  some_bad t e = grind (arith, nat_tests)

  -- what was added in a lane
  record Added (lane : ℕ) : Type 0 where
    h : List Fp
    short : length h ≤ st.now.t
    adds : (j : ℕ) (was : Share) → 1 ≤ j → j ≤ st.now.n → down_after (down_in st) masks j ≡ false → HasShare st.now held j was →
        get_or (new_shares st seeds (play_refreshed st seeds masks) j) lane zeroₚ ≡ get_or was.lanes lane zeroₚ +ₚ fe j *ₚ eval h (fe j)

  added : (lane : ℕ) → lane < 5 → Added lane
  added lane lt =
      let one = refreshed_by_one play lane (proper_refresh st committee ready.all seeds masks every few) lt in
      record {
        h = one.0;
        short = omega (arith, one.1.short, some_bad st.now.t is.bound);
        adds = λ j was from to up has.
            let had = had_share j from to up in
            let same : had.was ≡ was = let e = sym had.has ∙ has in cc in
            get_or-map-range_with_len (λ l. refreshed_share play l j (get_or (old_shares st seeds j) l zeroₚ)) 0 5 lane lane zeroₚ lt (omega arith)
            ∙ ap (λ (xs : List Fp). refreshed_share play lane j (get_or xs lane zeroₚ)) (had.old ∙ ap (λ (f : Share). f.lanes) same)
            ∙ one.2 j (get_or was.lanes lane zeroₚ) (refresh_honest st committee ready.all seeds masks every j from to up);
      }

  module _ (later : Held) (begun : HasBegun (next_now st.now (down_after (down_in st) masks)) (down_after (down_in st) masks) (new_shares st seeds (play_refreshed st seeds masks)) later) where
    adds_zero_shares : AddsZeroShares st.now (next_now st.now (down_after (down_in st) masks)) held later
    adds_zero_shares lane lt =
        let a = added lane lt in (
          a.h,
          a.short,
          λ j file from to valid.
              let m = begun_file new (down_after (down_in st) masks) lanes later new_is begun j file from to (five j) valid in
              let had = had_share j from to m.up in
              (had.was, had.has, ap (λ (xs : List Fp). get_or xs lane zeroₚ) m.has ∙ a.adds j had.was from to m.up had.has),
        )

    was_begun : IsRefreshed name st.now held later
    was_begun = record {
      now = new;
      now_is = begun_now new (down_after (down_in st) masks) lanes later new_is begun name named;
      size = refl;
      bound = refl;
      period = refl;
      number = refl;
      shares = adds_zero_shares;
    }

  pub is_refreshed : IsRefreshed name st.now held (after (refresh_changes st seeds (play_refreshed st seeds masks)) held)
  is_refreshed =
      subst (λ (cs : List Change). IsRefreshed name st.now held (after cs held)) (take_all (length changes) changes (omega arith))
      (was_begun (after (take (length changes) changes) held) (goes.late (length changes) goes.there))

  -- ---- the polynomials afterwards
  module _ (polys : List Polynomial) (enough : EnoughLieOn st.now.n st.now.t (files_without (down_after (names st.orders) masks) 1 (files_of st.now held)) polys) where
    abbrev sound : ℕ → Bool
    sound = is_sound_on polys (down_after (names st.orders) masks) (share_of st.now held)

    -- a member that counts before isn't down
    sound_up : (j : ℕ) → 1 ≤ j → j ≤ st.now.n → sound j ≡ true → down_after (down_in st) masks j ≡ false
    sound_up j from to e =
        let c = fine_counts polys j (down_after (names st.orders) masks j) (share_of st.now held j) e in
        let file : get_or st.files (j - 1) Absent ≡ Valid c.file = ap (λ (fs : List Found). get_or fs (j - 1) Absent) s.files ∙ file_at st.now held j from to ∙ c.is in
        let told = after_up (names st.orders) masks j c.kept in
        up_after (down_in st) masks j (rw (told.0, file) refl) told.1

    carry : (lane : ℕ) → lane < 5 → (f : List Fp) × IsCarried (next_now st.now (down_after (down_in st) masks)) (new_shares st seeds (play_refreshed st seeds masks)) (is_sound_on polys (down_after (names st.orders) masks) (share_of st.now held)) lane (lane_of polys lane) f
    carry lane lt =
        let a = added lane lt in
        let p : List Fp = (lane_of polys lane).coeffs in (
          add_list p (zeroₚ ∷ a.h),
          record {
            short = omega (arith, length-add p (zeroₚ ∷ a.h), a.short, enough.short lane lt);
            at_zero = eval-add p (zeroₚ ∷ a.h) zeroₚ ∙ simp (zero_mul, add_zero);
            values = λ j from to e.
                let c = fine_counts polys j (down_after (names st.orders) masks j) (share_of st.now held j) e in
                eval-add p (zeroₚ ∷ a.h) (fe j)
                ∙ ap₂ (λ x y. x +ₚ y) (c.on lane lt) (zero_add (fe j *ₚ eval a.h (fe j)))
                ∙ sym (a.adds j c.file from to (sound_up j from to e) c.is);
          },
        )

    carries_on : CarriesOn (next_now st.now (down_after (down_in st) masks)) (down_after (down_in st) masks) (new_shares st seeds (play_refreshed st seeds masks)) polys
    carries_on = record { good = sound; up = sound_up; many = sound_many st.now held (down_after (names st.orders) masks) polys enough; carry = carry }

    -- after any part of the changes the key is there
    pub refresh_stays : (count : ℕ) → KeyStays name st.now polys held (after (take count (refresh_changes st seeds (play_refreshed st seeds masks))) held)
    refresh_stays count =
        part_stays name st.now (next_now st.now (down_after (down_in st) masks)) (down_after (down_in st) masks) (new_shares st seeds (play_refreshed st seeds masks)) held polys named new_is five
        (honest_before name st.now held (down_after (names st.orders) masks) polys s.now_is enough) carries_on
        (refresh_changes st seeds (play_refreshed st seeds masks)) count named goes
