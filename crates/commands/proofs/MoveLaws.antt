-- The laws on a move.
use Rattle.std.proofs.Common.{◌≡◌, inl, inr, ◌⊎◌, ℕ, ◌<◌, ◌≤◌, List, [], take, Option, Result, Ok, Err, refl, sym, ap, ◌∙◌, subst, arith}
use Rattle.algebra61.specs.Field.{Fp}
use Rattle.algebra61.specs.Polynomial.{Polynomial}
use Rattle.talk.specs.Shape.{Shape, move_shape}
use Rattle.periods.specs.Move.{syndromes_heard, HaveErrors, MoveHasNoResult, IsMove}
use Rattle.periods.proofs.Moving.{none_within}
use Rattle.plays.specs.Play.{Play}
use Rattle.sharing61.specs.Count.{how_many}
use Rattle.drillbook.specs.declared.order.Order.{Order}
use Rattle.drillbook.specs.Orders.{names}
use Rattle.shelf.specs.Held.{Held, Change, after}
use Rattle.sharefile.specs.Files.{Now, IsNow}
use Rattle.keyroom.specs.declared.status.Status.{Status}
use Rattle.keyroom.specs.declared.status.Status.TheVariants.{Done, NoWord}
use Rattle.keyroom.specs.Decoding.{lane_of, EnoughLieOn}
use Rattle.keyroom.specs.Outcome.{Outcome, ThenDo}
use Rattle.keyroom.specs.Steps.{now_of, files_of}
use Rattle.keyroom.specs.Words.{Move, IsInRange}
use Rattle.commands.specs.Drill.{drill_of}
use Rattle.commands.specs.Kept.{files_without, SoundFiles, KeyStays}
use Rattle.commands.specs.Late.{down_after}
use Rattle.commands.specs.Move.{move_asked, play_moved, new_down, move_changes, Moves, EndsOpened, enough_moved, MeansMove}
use Rattle.commands.specs.Moved.{IsMoved, HasNoWord, MovesCarryPolynomials, MovesNameTheirLane, SoundMovesHaveWords, MovesKeepTheKey}
use Rattle.commands.specs.Standing.{Standing, seeds_for}
use Rattle.commands.proofs.Carrying.{is_moved, move_stays}
use Rattle.commands.proofs.Drills.{FromSteps}
use Rattle.commands.proofs.GoingOn.{Stands, asked_refuses, asked_stands, stands_ready}
use Rattle.commands.proofs.Kept.{same_now, same_orders, sound_stays, part_of_none}
use Rattle.commands.proofs.Left.{IsTooFew, both_left, both_refused, after_cases}
use Rattle.commands.proofs.Movers.{CanMove, can_asked, proper_move}
use Rattle.commands.proofs.Shared.{AllShared, all_shared, opened_shared, are_shared, near_sound}

-- ---- the steps
-- the setting of a move
abbrev pub move_setting : ℕ → ℕ → Now → Shape
move_setting m u now = move_shape now.n now.t m u

-- a move that came to its phase: what it found, and what it did
pub record WasMove (name : List ℕ) (m u : ℕ) (drill : Option (List ℕ)) (held : Held) (coming : Option (List (List ℕ))) (cuts : ℕ → ℕ) (masks : List ℕ) (outcome : Outcome) : Type 0 where
  pub st : Standing
  pub asked : move_asked name m u drill held ≡ Ok st
  pub moves : Moves m u coming cuts masks st outcome

asked_cases : (name : List ℕ) (m u : ℕ) (drill : Option (List ℕ)) (held : Held) (coming : Option (List (List ℕ))) (cuts : ℕ → ℕ) (masks : List ℕ) (outcome : Outcome) (r : Result Standing Status) →
    move_asked name m u drill held ≡ r → (FromSteps outcome.status → ⊥) → ThenDo r (Moves m u coming cuts masks) outcome → WasMove name m u drill held coming cuts masks outcome
asked_cases name m u drill held coming cuts masks outcome (Ok st) e later c = record { st = st; asked = e; moves = c }
asked_cases name m u drill held coming cuts masks outcome (Err status) e later c =
    absurd (later (subst FromSteps (sym (ap (λ (o : Outcome). o.status) c)) (asked_refuses (move_setting m u) name drill held status e)))

was_move : (name : List ℕ) (m u : ℕ) (drill : Option (List ℕ)) (held : Held) (coming : Option (List (List ℕ))) (cuts : ℕ → ℕ) (masks : List ℕ) (outcome : Outcome) →
    MeansMove name m u drill held coming cuts masks outcome → (FromSteps outcome.status → ⊥) → WasMove name m u drill held coming cuts masks outcome
was_move name m u drill held coming cuts masks outcome means later = asked_cases name m u drill held coming cuts masks outcome (move_asked name m u drill held) refl later means

-- ---- what it did
module _ (name : List ℕ) (m u : ℕ) (drill : Option (List ℕ)) (held : Held) (coming : Option (List (List ℕ))) (cuts : ℕ → ℕ) (masks : List ℕ) (outcome : Outcome) (range : IsInRange (Move name m u drill)) (was : WasMove name m u drill held coming cuts masks outcome) where
  stands : Stands (move_setting m u) name drill held was.st
  stands = asked_stands (move_setting m u) name drill held was.st was.asked

  can : CanMove was.st m u
  can = can_asked name m u drill held was.st range was.asked

  abbrev seeds : List (List ℕ)
  seeds = was.moves.0

  abbrev play : Play
  play = play_moved was.st m u was.moves.0 masks

  -- enough members were left, and it was opened
  pub record WasOpened : Type 0 where
    pub few : how_many m (new_down (play_moved was.st m u was.moves.0 masks)) ≤ u
    pub ends : EndsOpened was.st m u masks (play_moved was.st m u was.moves.0 masks) outcome

  -- unless too few were, and then nothing has changed
  opened_or_few : WasOpened ⊎ (IsTooFew outcome.status × (outcome.changes ≡ []))
  opened_or_few =
      elim (after_cases (seeds_for was.st) (enough_moved was.st m u play) (λ left. EndsOpened was.st m u masks play) outcome was.moves.4) [
        | inl (left, enough, ends) ↦ inl (record {
          few = (both_left was.st m u left play (omega (arith, can.old.third, can.old.some_bad)) (omega (arith, can.new.third, can.new.some_bad)) enough).1;
          ends = ends;
        })
        | inr (status, few, is) ↦ inr (subst IsTooFew (sym (ap (λ (o : Outcome). o.status) is)) (both_refused was.st m u play status few), ap (λ (o : Outcome). o.changes) is)
      ]

  -- by its status
  opened_by : (IsTooFew outcome.status → ⊥) → WasOpened
  opened_by never =
      elim opened_or_few [
        | inl opened ↦ opened
        | inr (few, none) ↦ absurd (never few)
      ]

  module _ (opened : WasOpened) where
    proper : IsMove was.st.now.t (play_moved was.st m u was.moves.0 masks)
    proper = proper_move was.st m u can seeds cuts masks was.moves.3 opened.few

    -- ---- done
    pub record IsDone : Type 0 where
      pub errors : List (List Fp)
      pub have : HaveErrors (play_moved was.st m u was.moves.0 masks).shape (syndromes_heard (play_moved was.st m u was.moves.0 masks)) errors
      pub changed : outcome.changes ≡ move_changes was.st m u (play_moved was.st m u was.moves.0 masks) errors

    done_or_none : EndsOpened was.st m u masks (play_moved was.st m u was.moves.0 masks) outcome → IsDone ⊎ (outcome.changes ≡ [])
    done_or_none (inl (errors, have, is)) = inl (record { errors = errors; have = have; changed = ap (λ (o : Outcome). o.changes) is })
    done_or_none (inr (lane, syndrome, none, is)) = inr (ap (λ (o : Outcome). o.changes) is)

    done_cases : outcome.status ≡ Done → EndsOpened was.st m u masks (play_moved was.st m u was.moves.0 masks) outcome → IsDone
    done_cases done (inl (errors, have, is)) = record { errors = errors; have = have; changed = ap (λ (o : Outcome). o.changes) is }
    done_cases done (inr (lane, syndrome, none, is)) = absurd (let e : Done ≡ NoWord lane syndrome = sym done ∙ ap (λ (o : Outcome). o.status) is in cc)

    module _ (ends : IsDone) (before : Now) (same : before ≡ was.st.now) (is : IsNow before) where
      now_ok : IsNow was.st.now
      now_ok = subst IsNow same is

      next : was.st.now.period < 4294967295
      next = (stands_ready (move_setting m u) name drill held was.st stands now_ok).next

      pub done_moved : IsMoved name m u drill before coming cuts masks held (after outcome.changes held)
      done_moved =
          subst (λ (cs : List Change). IsMoved name m u drill before coming cuts masks held (after cs held)) (sym ends.changed)
          (subst (λ (now : Now). IsMoved name m u drill now coming cuts masks held (after (move_changes was.st m u play ends.errors) held)) (sym same)
          (is_moved name m u drill held coming was.st stands now_ok next can range.1 range.2 seeds cuts masks was.moves.3 opened.few proper ends.errors ends.have was.asked was.moves.1 was.moves.2))

      pub done_keeps : (count : ℕ) (polys : List Polynomial) → EnoughLieOn was.st.now.n was.st.now.t (files_without (down_after (names was.st.orders) masks) 1 (files_of was.st.now held)) polys → KeyStays name before polys held (after (take count outcome.changes) held)
      done_keeps count polys enough =
          subst (λ (cs : List Change). KeyStays name before polys held (after (take count cs) held)) (sym ends.changed)
          (subst (λ (now : Now). KeyStays name now polys held (after (take count (move_changes was.st m u play ends.errors)) held)) (sym same)
          (move_stays name m u drill held coming was.st stands now_ok next can range.1 range.2 seeds cuts masks was.moves.3 opened.few proper ends.errors ends.have polys enough count))

    -- ---- refused for want of an error vector
    none_cases : (lane : ℕ) (syndrome : List Fp) → outcome.status ≡ NoWord lane syndrome → EndsOpened was.st m u masks (play_moved was.st m u was.moves.0 masks) outcome →
        MoveHasNoResult (play_moved was.st m u was.moves.0 masks).shape (syndromes_heard (play_moved was.st m u was.moves.0 masks)) lane syndrome
    none_cases lane syndrome refused (inl (errors, have, is)) = absurd (let e : Done ≡ NoWord lane syndrome = sym (ap (λ (o : Outcome). o.status) is) ∙ refused in cc)
    none_cases lane syndrome refused (inr (other, list, none, is)) =
        let e : NoWord other list ≡ NoWord lane syndrome = sym (ap (λ (o : Outcome). o.status) is) ∙ refused in
        let lanes : other ≡ lane = cc in
        let lists : list ≡ syndrome = cc in
        subst (λ (k : ℕ). MoveHasNoResult play.shape (syndromes_heard play) k syndrome) lanes (subst (MoveHasNoResult play.shape (syndromes_heard play) other) lists none)

    module _ (lane : ℕ) (syndrome : List Fp) (refused : outcome.status ≡ NoWord lane syndrome) where
      none : MoveHasNoResult (play_moved was.st m u was.moves.0 masks).shape (syndromes_heard (play_moved was.st m u was.moves.0 masks)) lane syndrome
      none = none_cases lane syndrome refused opened.ends

      shared : AllShared was.st m u can was.moves.0 masks proper
      shared = all_shared was.st m u can seeds masks proper

      pub no_word : HasNoWord name m u drill coming cuts masks held lane syndrome
      no_word =
          let got = none_within was.st.now.t play lane syndrome shared.value proper shared.are none in
          record {
            st = was.st;
            play = play;
            of = record { asked = was.asked; seeds = seeds; count = was.moves.1; first = was.moves.2; allowed = was.moves.3; is = refl };
            within = none.within;
            shared = shared.value lane;
            are = are_shared was.st m u can seeds masks proper held stands.files lane (shared.value lane) none.within (shared.are lane none.within);
            syndrome_is = opened_shared was.st m u can seeds masks proper lane (shared.value lane) syndrome none.within (shared.are lane none.within) none.named;
            far = got.0;
            nearer = λ other less.
                let lt : other < 5 = omega (arith, less, none.within) in
                (shared.value other, are_shared was.st m u can seeds masks proper held stands.files other (shared.value other) lt (shared.are other lt), got.1 other less);
          }

      pub sound_word : (polys : List Polynomial) → EnoughLieOn was.st.now.n was.st.now.t (files_without (down_after (names was.st.orders) masks) 1 (files_of was.st.now held)) polys → ⊥
      sound_word polys enough =
          let got = none_within was.st.now.t play lane syndrome shared.value proper shared.are none in
          got.0 (lane_of polys lane).coeffs
          (near_sound was.st m u can seeds masks proper held stands.files polys enough lane (shared.value lane) none.within (shared.are lane none.within))

  -- what sound files tell of what was found
  pub sound_enough : (before : Now) (polys : List Polynomial) → before ≡ was.st.now → SoundFiles name (move_shape before.n before.t m u) drill masks before held polys → EnoughLieOn was.st.now.n was.st.now.t (files_without (down_after (names was.st.orders) masks) 1 (files_of was.st.now held)) polys
  sound_enough before polys same sound =
      let read = subst (λ (now : Now). drill_of (move_shape now.n now.t m u) drill held ≡ Ok sound.orders) same sound.read in
      let orders : sound.orders ≡ was.st.orders = same_orders (drill_of (move_shape was.st.now.n was.st.now.t m u) drill held) sound.orders was.st.orders read stands.read in
      subst (λ (os : List Order). EnoughLieOn was.st.now.n was.st.now.t (files_without (down_after (names os) masks) 1 (files_of was.st.now held)) polys) orders
      (subst (λ (now : Now). EnoughLieOn now.n now.t (files_without (down_after (names sound.orders) masks) 1 (files_of now held)) polys) same sound.enough)

  pub found_now : (before : Now) → now_of name held ≡ Ok before → before ≡ was.st.now
  found_now before now_is = same_now name held before was.st.now now_is stands.now_is

-- ---- the laws
not_step : (status other : Status) → (FromSteps other → ⊥) → status ≡ other → FromSteps status → ⊥
not_step status other never same from = never (subst FromSteps same from)

not_few : (status other : Status) → (IsTooFew other → ⊥) → status ≡ other → IsTooFew status → ⊥
not_few status other never same few = never (subst IsTooFew same few)

pub moves_carry_polynomials : MovesCarryPolynomials
moves_carry_polynomials name m u drill held coming cuts masks outcome before range means done now_is is =
    let was = was_move name m u drill held coming cuts masks outcome means (not_step outcome.status Done (λ never. never) done) in
    let opened = opened_by name m u drill held coming cuts masks outcome range was (not_few outcome.status Done (λ never. never) done) in
    done_moved name m u drill held coming cuts masks outcome range was opened (done_cases name m u drill held coming cuts masks outcome range was opened done opened.ends)
    before (found_now name m u drill held coming cuts masks outcome range was before now_is) is

pub moves_name_their_lane : MovesNameTheirLane
moves_name_their_lane name m u drill held coming cuts masks outcome lane syndrome range means refused =
    let was = was_move name m u drill held coming cuts masks outcome means (not_step outcome.status (NoWord lane syndrome) (λ never. never) refused) in
    let opened = opened_by name m u drill held coming cuts masks outcome range was (not_few outcome.status (NoWord lane syndrome) (λ never. never) refused) in
    no_word name m u drill held coming cuts masks outcome range was opened lane syndrome refused

pub sound_moves_have_words : SoundMovesHaveWords
sound_moves_have_words name m u drill held coming cuts masks outcome before polys lane syndrome range means sound refused =
    let was = was_move name m u drill held coming cuts masks outcome means (not_step outcome.status (NoWord lane syndrome) (λ never. never) refused) in
    let opened = opened_by name m u drill held coming cuts masks outcome range was (not_few outcome.status (NoWord lane syndrome) (λ never. never) refused) in
    sound_word name m u drill held coming cuts masks outcome range was opened lane syndrome refused polys
    (sound_enough name m u drill held coming cuts masks outcome range was before polys (found_now name m u drill held coming cuts masks outcome range was before sound.now_is) sound)

-- where nothing has changed
module _ (name : List ℕ) (m u : ℕ) (drill : Option (List ℕ)) (held : Held) (masks : List ℕ) (outcome : Outcome) (before : Now) (polys : List Polynomial) (count : ℕ)
    (sound : SoundFiles name (move_shape before.n before.t m u) drill masks before held polys) where
  none_stays : outcome.changes ≡ [] → KeyStays name before polys held (after (take count outcome.changes) held)
  none_stays none =
      subst (λ (cs : List Change). KeyStays name before polys held (after (take count cs) held)) (sym none)
      (subst (KeyStays name before polys held) (sym (part_of_none count held)) (sound_stays name (move_shape before.n before.t m u) drill masks before held polys sound))

  module _ (coming : Option (List (List ℕ))) (cuts : ℕ → ℕ) (range : IsInRange (Move name m u drill)) (is : IsNow before) where
    was_stays : WasMove name m u drill held coming cuts masks outcome → KeyStays name before polys held (after (take count outcome.changes) held)
    was_stays was =
        let same = found_now name m u drill held coming cuts masks outcome range was before sound.now_is in
        elim (opened_or_few name m u drill held coming cuts masks outcome range was) [
          | inl opened ↦ elim (done_or_none name m u drill held coming cuts masks outcome range was opened opened.ends) [
            | inl ends ↦ done_keeps name m u drill held coming cuts masks outcome range was opened ends before same is count polys
                (sound_enough name m u drill held coming cuts masks outcome range was before polys same sound)
            | inr none ↦ none_stays none
          ]
          | inr (few, none) ↦ none_stays none
        ]

    asked_stays : (r : Result Standing Status) → move_asked name m u drill held ≡ r → ThenDo r (Moves m u coming cuts masks) outcome → KeyStays name before polys held (after (take count outcome.changes) held)
    asked_stays (Ok st) e moves = was_stays (record { st = st; asked = e; moves = moves })
    asked_stays (Err status) e refused = none_stays (ap (λ (o : Outcome). o.changes) refused)

pub moves_keep_the_key : MovesKeepTheKey
moves_keep_the_key name m u drill held coming cuts masks outcome before polys count range means is sound =
    asked_stays name m u drill held masks outcome before polys count sound coming cuts range is (move_asked name m u drill held) refl means
