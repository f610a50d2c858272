-- The new shares of a move that is done, and the key that they carry.
use Rattle.std.proofs.Common.{◌≡◌, ℕ, ◌+◌, ◌<◌, ◌≤◌, Bool, true, not, List, [], length, get_or, take, Option, Ok, refl, sym, ap, ◌∙◌, subst, arith}
use Rattle.std.proofs.lemmas.Bool.{not-true}
use Rattle.std.proofs.lemmas.List.{take_all}
use Rattle.std.proofs.lemmas.List.FromFn.{get_or-map-range_with_len, length-map-range_with_len}
use Rattle.algebra61.specs.Field.{Fp, fe, zeroₚ}
use Rattle.algebra61.specs.Poly.{eval}
use Rattle.algebra61.specs.Polynomial.{Polynomial}
use Rattle.checks61.specs.Checks.{difference_from}
use Rattle.sharing61.specs.Count.{how_many}
use Rattle.sharing61.proofs.Count.{how_many_not}
use Rattle.sizes.specs.Committees.{is_size, is_bound}
use Rattle.talk.specs.Shape.{move_shape}
use Rattle.plays.specs.Play.{Play}
use Rattle.plays.specs.Law.{HonestIn}
use Rattle.periods.specs.Move.{syndromes_heard, HaveErrors, moved_share, AreConstants, IsWithin, IsMove}
use Rattle.periods.proofs.Moving.{one_lane_error, move_keeps, error_is_difference}
use Rattle.drillbook.specs.Orders.{names}
use Rattle.shelf.specs.Held.{Held, Change, after}
use Rattle.sharefile.specs.Files.{Now, IsNow}
use Rattle.keyroom.specs.Decoding.{lane_of, EnoughLieOn}
use Rattle.keyroom.specs.Outcome.{AreFirst}
use Rattle.keyroom.specs.Steps.{files_of}
use Rattle.keyroom.proofs.Reading.{now_read}
use Rattle.commands.specs.Begins.{HasBegun, GoesOn}
use Rattle.commands.specs.Kept.{files_without, KeyStays}
use Rattle.commands.specs.Late.{down_after}
use Rattle.commands.specs.Move.{move_asked, AreMoveMasks, play_moved, new_down, moved_shares, moved_now, move_changes}
use Rattle.commands.specs.Moved.{LieOnIn, IsLaneMoved, IsMoved}
use Rattle.commands.specs.Standing.{Standing, seeds_for}
use Rattle.commands.proofs.Beginning.{periods_go_on, begun_now, begun_file}
use Rattle.commands.proofs.GoingOn.{Stands}
use Rattle.commands.proofs.Links.{following_is_now}
use Rattle.commands.proofs.Movers.{CanMove}
use Rattle.commands.proofs.Shared.{AllShared, all_shared, are_shared, near_sound}
use Rattle.commands.proofs.Staying.{honest_before, IsCarried, CarriesOn, part_stays}

-- ---- what the new members get
module _ (st : Standing) (m u : ℕ) (seeds : List (List ℕ)) (masks : List ℕ) (moves : IsMove st.now.t (play_moved st m u seeds masks))
    (errors : List (List Fp)) (have : HaveErrors (play_moved st m u seeds masks).shape (syndromes_heard (play_moved st m u seeds masks)) errors) where
  abbrev play : Play
  play = play_moved st m u seeds masks

  -- some polynomial is near to what was shared
  near : (lane : ℕ) (shared : ℕ → Fp) → lane < 5 → AreConstants (play_moved st m u seeds masks) lane shared → (q : List Fp) × IsWithin st.now.n st.now.t shared q
  near lane shared lt are =
      let got = error_is_difference st.now.t play lane shared (get_or errors lane []) moves lt are (have.each lane lt) in
      (got.0, got.1)

  -- a polynomial of the new shares
  pub record IsNewOf (lane : ℕ) (before f : List Fp) : Type 0 where
    pub at_zero : eval f zeroₚ ≡ eval before zeroₚ
    pub short : length f ≤ u + 1
    pub values : (j : ℕ) → HonestIn (play_moved st m u seeds masks) j → get_or (moved_shares (play_moved st m u seeds masks) errors j) lane zeroₚ ≡ eval f (fe j)

  pub new_of : (lane : ℕ) (shared : ℕ → Fp) (before : List Fp) → lane < 5 → AreConstants (play_moved st m u seeds masks) lane shared → IsWithin st.now.n st.now.t shared before → (f : List Fp) × IsNewOf lane before f
  new_of lane shared before lt are within =
      let got = move_keeps st.now.t play lane shared before moves lt are within in
      let d : List Fp = difference_from st.now.n shared before in
      let same : get_or errors lane [] ≡ d = one_lane_error st.now.t play lane (get_or errors lane []) d moves (have.each lane lt) got.0 in (
        got.1.0,
        record {
          at_zero = got.1.1;
          short = got.1.2.short;
          values = λ j honest.
              get_or-map-range_with_len (λ l. moved_share play l (get_or errors l []) j) 0 5 lane lane zeroₚ lt (omega arith)
              ∙ ap (λ (e : List Fp). moved_share play lane e j) same
              ∙ got.1.2.values j honest;
        },
      )

-- ---- a move that is done
module _ (name : List ℕ) (m u : ℕ) (drill : Option (List ℕ)) (held : Held) (coming : Option (List (List ℕ))) (st : Standing) (s : Stands (λ now. move_shape now.n now.t m u) name drill held st)
    (is : IsNow st.now) (next : st.now.period < 4294967295) (can : CanMove st m u) (size : is_size m ≡ true) (bound : is_bound m u ≡ true)
    (seeds : List (List ℕ)) (cuts : ℕ → ℕ) (masks : List ℕ) (allowed : AreMoveMasks st m u seeds cuts masks) (few : how_many m (new_down (play_moved st m u seeds masks)) ≤ u) (moves : IsMove st.now.t (play_moved st m u seeds masks))
    (errors : List (List Fp)) (have : HaveErrors (play_moved st m u seeds masks).shape (syndromes_heard (play_moved st m u seeds masks)) errors) where
  abbrev down : ℕ → Bool
  down = new_down (play_moved st m u seeds masks)

  abbrev lanes : ℕ → List Fp
  lanes = moved_shares (play_moved st m u seeds masks) errors

  five : (j : ℕ) → length (moved_shares (play_moved st m u seeds masks) errors j) ≡ 5
  five j = length-map-range_with_len (λ lane. moved_share (play_moved st m u seeds masks) lane (get_or errors lane []) j) 0 5

  abbrev new : Now
  new = moved_now st m u (play_moved st m u seeds masks)

  new_is : IsNow (moved_now st m u (play_moved st m u seeds masks))
  new_is = following_is_now st.now m u (new_down (play_moved st m u seeds masks)) is next size bound few

  abbrev changes : List Change
  changes = move_changes st m u (play_moved st m u seeds masks) errors

  goes : GoesOn st.now (moved_now st m u (play_moved st m u seeds masks)) (new_down (play_moved st m u seeds masks)) (moved_shares (play_moved st m u seeds masks) errors) (move_changes st m u (play_moved st m u seeds masks) errors) held
  goes = periods_go_on st.now (moved_now st m u (play_moved st m u seeds masks)) (new_down (play_moved st m u seeds masks)) (moved_shares (play_moved st m u seeds masks) errors) held
      (record { was = is; is = new_is; name = refl; period = refl })

  named : st.now.name ≡ name
  named = (now_read name held st.now s.now_is).named

  shared : AllShared st m u can seeds masks moves
  shared = all_shared st m u can seeds masks moves

  module _ (later : Held) (begun : HasBegun (moved_now st m u (play_moved st m u seeds masks)) (new_down (play_moved st m u seeds masks)) (moved_shares (play_moved st m u seeds masks) errors) later) where
    -- the new share files lie where the new shares do
    lie_on : (lane : ℕ) (before f : List Fp) → IsNewOf st m u seeds masks moves errors have lane before f → LieOnIn (moved_now st m u (play_moved st m u seeds masks)) later lane f
    lie_on lane before f got = record {
      short = got.short;
      values = λ j file from to has.
          let b = begun_file new down lanes later new_is begun j file from to (five j) has in
          ap (λ (xs : List Fp). get_or xs lane zeroₚ) b.has ∙ got.values j (record { from = from; to = to; up = b.up });
    }

    lane_moved : (lane : ℕ) → lane < 5 → IsLaneMoved st (moved_now st m u (play_moved st m u seeds masks)) held later masks (play_moved st m u seeds masks) lane
    lane_moved lane lt = record {
      shared = shared.value lane;
      are = are_shared st m u can seeds masks moves held s.files lane (shared.value lane) lt (shared.are lane lt);
      near = near st m u seeds masks moves errors have lane (shared.value lane) lt (shared.are lane lt);
      carried = λ before within.
          let got = new_of st m u seeds masks moves errors have lane (shared.value lane) before lt (shared.are lane lt) within in
          (got.0, got.1.at_zero, lie_on lane before got.0 got.1);
    }

  pub is_moved : move_asked name m u drill held ≡ Ok st → length seeds ≡ seeds_for st → AreFirst seeds coming → IsMoved name m u drill st.now coming cuts masks held (after (move_changes st m u (play_moved st m u seeds masks) errors) held)
  is_moved asked count first =
      let all : after (take (length changes) changes) held ≡ after changes held = ap (λ (cs : List Change). after cs held) (take_all (length changes) changes (omega arith)) in
      let begun = subst (HasBegun new down lanes) all (goes.late (length changes) goes.there) in
      record {
        st = st;
        stands = refl;
        play = play_moved st m u seeds masks;
        of = record { asked = asked; seeds = seeds; count = count; first = first; allowed = allowed; is = refl };
        errors = errors;
        made = refl;
        now = new;
        now_is = begun_now new down lanes (after changes held) new_is begun name named;
        size = refl;
        bound = refl;
        period = refl;
        number = refl;
        lanes = lane_moved (after changes held) begun;
      }

  -- ---- the key
  module _ (polys : List Polynomial) (enough : EnoughLieOn st.now.n st.now.t (files_without (down_after (names st.orders) masks) 1 (files_of st.now held)) polys) where
    carry : (lane : ℕ) → lane < 5 → (f : List Fp) × IsCarried (moved_now st m u (play_moved st m u seeds masks)) (moved_shares (play_moved st m u seeds masks) errors) (λ j. not (new_down (play_moved st m u seeds masks) j)) lane (lane_of polys lane) f
    carry lane lt =
        let within = near_sound st m u can seeds masks moves held s.files polys enough lane (shared.value lane) lt (shared.are lane lt) in
        let got = new_of st m u seeds masks moves errors have lane (shared.value lane) (lane_of polys lane).coeffs lt (shared.are lane lt) within in (
          got.0,
          record {
            short = got.1.short;
            at_zero = got.1.at_zero;
            values = λ j from to up. sym (got.1.values j (record { from = from; to = to; up = not-true (down j) up }));
          },
        )

    carries_on : CarriesOn (moved_now st m u (play_moved st m u seeds masks)) (new_down (play_moved st m u seeds masks)) (moved_shares (play_moved st m u seeds masks) errors) polys
    carries_on = record { good = λ j. not (down j); up = λ j from to up. not-true (down j) up; many = omega (arith, few, how_many_not m down); carry = carry }

    -- after any part of the changes it is there
    pub move_stays : (count : ℕ) → KeyStays name st.now polys held (after (take count (move_changes st m u (play_moved st m u seeds masks) errors)) held)
    move_stays count =
        part_stays name st.now (moved_now st m u (play_moved st m u seeds masks)) (new_down (play_moved st m u seeds masks)) (moved_shares (play_moved st m u seeds masks) errors) held polys named new_is five
        (honest_before name st.now held (down_after (names st.orders) masks) polys s.now_is enough) carries_on
        (move_changes st m u (play_moved st m u seeds masks) errors) count named goes
