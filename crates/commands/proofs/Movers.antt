-- The seats of a move go like movers or are away, and the play of their run is a move.
use Rattle.std.proofs.Common.{◌≡◌, inl, inr, ◌⊎◌, ℕ, zero, suc, ◌+◌, ◌-◌, ◌<◌, ◌≤◌, Bool, true, false, cond, List, [], length, replicate, get_or, take, Option, Some, None, Ok, refl, sym, ap, ◌∙◌, subst, arith, length-append}
use Rattle.std.specs.Prelude.{IfSome}
use Rattle.std.proofs.lemmas.Bool.{ne_eqb, cases_lt}
use Rattle.std.proofs.lemmas.List.{take_all, length-replicate, get_or-replicate, get_or_append_left, get_or-append_right}
use Rattle.std.proofs.lemmas.List.FromFn.{length-map-range_with_len}
use Rattle.algebra61.specs.Field.{Fp}
use Rattle.algebra61.specs.Grid.{Degree}
use Rattle.chance61.proofs.DrawLemmas.{drawn_with_grids}
use Rattle.sharing61.specs.Count.{how_many}
use Rattle.sizes.specs.Committees.{IsCommittee}
use Rattle.talk.specs.declared.part.Part.{Part}
use Rattle.talk.specs.Part.{part_ways, part_is}
use Rattle.talk.specs.Shape.{Shape, Lawful, TwoCommittees, rounds, move_shape}
use Rattle.talk.specs.Sync.{sync}
use Rattle.talk.specs.Basics.{Nth}
use Rattle.plays.specs.Law.{HonestIn}
use Rattle.plays.specs.Transcript.{Transcript, posts_in, transcript_of}
use Rattle.machines.specs.Machines.{InMasks}
use Rattle.periods.specs.Move.{IsMove}
use Rattle.periods.specs.Mover.{Mover, mover_at, mover_ways, mover_turn}
use Rattle.periods.specs.Runs.{ByMovers, BeginMove, mover_done}
use Rattle.periods.proofs.Runs.{movers_go, by_movers, ends_moved}
use Rattle.periods.proofs.Sixth.{moves_are_proper, syndromes_are_heard}
use Rattle.moveshare.specs.Laws.{AreHeardIn}
use Rattle.drillbook.specs.Orders.{names}
use Rattle.drillbook.specs.Text.{named_among}
use Rattle.drillbook.specs.Word.{DrilledMind, drilled_ways}
use Rattle.shelf.specs.Held.{Held}
use Rattle.keyroom.specs.declared.steps.Found.TheVariants.{Absent}
use Rattle.keyroom.specs.Sound.{is_valid}
use Rattle.keyroom.specs.Steps.{share_of}
use Rattle.keyroom.specs.Words.{Move, IsInRange}
use Rattle.keyroom.proofs.Reading.{now_checked}
use Rattle.keyroom.proofs.Counting.{old_seat, new_seat}
use Rattle.commands.specs.Late.{down_after}
use Rattle.commands.specs.Phase.{IsReady}
use Rattle.commands.specs.Move.{move_asked, moving_of, down_moving, dealt_shares, moving, new_member, seats_in, mover_on, movers_on, AreMoveMasks, play_moved, new_down}
use Rattle.commands.specs.MovePhase.{MayMove}
use Rattle.commands.specs.Run.{drilled_on, drilled_all}
use Rattle.commands.specs.Standing.{Standing, Holding, holdings, holding_or_none, held_on, HasSoundNow}
use Rattle.commands.proofs.Committees.{committee_of}
use Rattle.commands.proofs.Drills.{few_drill}
use Rattle.commands.proofs.Late.{after_up}
use Rattle.commands.proofs.Left.{in_masks_after}
use Rattle.commands.proofs.GoingOn.{asked_stands, read_ready}
use Rattle.commands.proofs.Holdings.{length-holdings, each_holding, Takes, takes_part, up_is}
use Rattle.commands.proofs.Phases.{length-numbered, nth_numbered, drilled_nth, none_degree, each_degree, drilled_is, undrilled_go}

-- what a move between these committees asks of what it finds
pub record CanMove (st : Standing) (m u : ℕ) : Type 0 where
  pub old : IsCommittee st.now.n st.now.t
  pub new : IsCommittee m u
  pub all : length st.files ≡ st.now.n
  pub few : named_among st.orders st.now.n m ≤ u

pub can_move : (st : Standing) (m u : ℕ) → MayMove st m u → CanMove st m u
can_move st m u may = record {
  old = committee_of st.now.n st.now.t may.ready.is_now.size may.ready.is_now.bound;
  new = committee_of m u may.size may.bound;
  all = may.ready.all;
  few = may.few;
}

-- ---- the setting
pub two_committees : (n t m u : ℕ) → IsCommittee n t → TwoCommittees (move_shape n t m u) t
two_committees n t m u old = record { behind = refl; some_bad = old.some_bad; third = old.third; checks = omega (arith, old.third, old.some_bad) }

pub lawful_move : (n t m u : ℕ) → IsCommittee n t → IsCommittee m u → Lawful (move_shape n t m u)
lawful_move n t m u old new = record {
  receivers = (omega (arith, new.third, new.some_bad), new.most);
  dealers = (omega (arith, old.third, old.some_bad), old.most);
  some_bad = new.some_bad;
  third = new.third;
  degree = omega arith;
  committees = inr (t, two_committees n t m u old);
}

pub six_rounds : (n t m u : ℕ) → IsCommittee n t → rounds (move_shape n t m u) ≡ 6
six_rounds n t m u old = ap (λ (b : Bool). let v : ℕ = cond b 5 6 in v) (ne_eqb (n - t - 1) 0 (λ e. omega (arith, e, old.third, old.some_bad)))

-- ---- what the seats take part with
module _ (st : Standing) (m u : ℕ) (can : CanMove st m u) (seeds : List (List ℕ)) where
  abbrev old_ones : List (Option Holding)
  old_ones = holdings (moving st.orders u) 1 st.files seeds

  pub length-old : length (holdings (moving st.orders u) 1 st.files seeds) ≡ st.now.n
  length-old = length-holdings (moving st.orders u) 1 st.files seeds ∙ can.all

  pub length-seats : length (seats_in st m u seeds) ≡ st.now.n + m
  length-seats = length-append old_ones (replicate m (Some new_member)) ∙ omega (arith, length-old, length-replicate m (Some new_member))

  -- the old members that aren't down: no order names them, and they take part
  pub old_up : (seat : ℕ) → seat ≤ st.now.n → down_moving st seat ≡ false → (names st.orders seat ≡ false) × (is_valid (get_or st.files (seat - 1) Absent) ≡ true)
  old_up seat to up = up_is st seat (sym (old_seat (names st.orders) st.files seat (omega (arith, to, can.all))) ∙ up)

  pub old_takes : (seat : ℕ) → 1 ≤ seat → seat ≤ st.now.n → down_moving st seat ≡ false →
      Takes (moving st.orders u) seat (get_or st.files (seat - 1) Absent) (get_or (seats_in st m u seeds) (seat - 1) None)
  old_takes seat from to up =
      let here : get_or (seats_in st m u seeds) (seat - 1) None ≡ get_or old_ones (seat - 1) None = get_or_append_left old_ones (replicate m (Some new_member)) None (seat - 1) (omega (arith, from, to, length-old)) in
      subst (Takes (moving st.orders u) seat (get_or st.files (seat - 1) Absent)) (sym here)
      (takes_part (moving st.orders u) 1 st.files seeds (seat - 1) seat (omega (arith, from)) (old_up seat to up).1)

  new_takes : (seat : ℕ) → st.now.n < seat → seat ≤ st.now.n + m → get_or (seats_in st m u seeds) (seat - 1) None ≡ Some new_member
  new_takes seat from to =
      get_or-append_right old_ones (replicate m (Some new_member)) st.now.n (seat - 1) None length-old (omega (arith, from))
      ∙ get_or-replicate m (seat - 1 - st.now.n) (Some new_member) None (omega (arith, from, to))

  -- who isn't down is named by no order
  unnamed_cases : (seat : ℕ) → (st.now.n < seat) ⊎ (seat ≤ st.now.n) → down_moving st seat ≡ false → names st.orders seat ≡ false
  unnamed_cases seat (inl behind) up = sym (new_seat (names st.orders) st.files seat (omega (arith, behind, can.all))) ∙ up
  unnamed_cases seat (inr to) up = (old_up seat to up).0

  -- and takes part
  part_cases : (seat : ℕ) → 1 ≤ seat → seat ≤ st.now.n + m → (st.now.n < seat) ⊎ (seat ≤ st.now.n) → down_moving st seat ≡ false → (holding : Holding) × (get_or (seats_in st m u seeds) (seat - 1) None ≡ Some holding)
  part_cases seat from last (inl behind) up = (new_member, new_takes seat behind last)
  part_cases seat from last (inr to) up = let t = old_takes seat from to up in (moving st.orders u seat t.share.lanes t.seed, t.is)

  -- the grids that a seat deals
  abbrev pub own : ℕ → List (List (List Fp))
  own seat = (held_on (seats_in st m u seeds) seat).grids

  small : u ≤ 14
  small = omega (arith, can.new.third, can.new.most)

  old_degree : (place lane : ℕ) → Degree u (get_or (holding_or_none (get_or (holdings (moving st.orders u) 1 st.files seeds) place None)).grids lane [])
  old_degree place lane =
      each_holding (moving st.orders u) (λ (h : Holding). Degree u (get_or h.grids lane [])) (none_degree u)
      (λ index lanes seed. each_degree u (moving st.orders u index lanes seed).grids lane (drawn_with_grids u (dealt_shares st.orders index lanes) seed 0 small)) 1 st.files seeds place

  new_degree : (n k lane : ℕ) → Degree u (get_or (holding_or_none (get_or (replicate n (Some new_member)) k None)).grids lane [])
  new_degree zero k lane = none_degree u
  new_degree (suc n) zero lane = none_degree u
  new_degree (suc n) (suc k) lane = new_degree n k lane

  degree_cases : (place lane : ℕ) → (place < st.now.n) ⊎ (st.now.n ≤ place) → Degree u (get_or (holding_or_none (get_or (seats_in st m u seeds) place None)).grids lane [])
  degree_cases place lane (inl lt) =
      subst (λ (h : Option Holding). Degree u (get_or (holding_or_none h).grids lane [])) (sym (get_or_append_left old_ones (replicate m (Some new_member)) None place (omega (arith, lt, length-old)))) (old_degree place lane)
  degree_cases place lane (inr le) =
      subst (λ (h : Option Holding). Degree u (get_or (holding_or_none h).grids lane [])) (sym (get_or-append_right old_ones (replicate m (Some new_member)) st.now.n place None length-old le)) (new_degree m (place - st.now.n) lane)

  -- ---- the run
  abbrev shape : Shape
  shape = moving_of st m u

  abbrev minds : List (Part Mover)
  minds = movers_on (moving_of st m u) (seats_in st m u seeds)

  module _ (cuts : ℕ → ℕ) (masks : List ℕ) (allowed : AreMoveMasks st m u seeds cuts masks) where
    -- who is down in the play
    abbrev down : ℕ → Bool
    down = down_after (down_moving st) masks

    -- who isn't down in it wasn't before
    up_before : (seat : ℕ) → down_after (down_moving st) masks seat ≡ false → down_moving st seat ≡ false
    up_before seat up = (after_up (down_moving st) masks seat up).0

    abbrev run : Transcript
    run = transcript_of (drilled_ways (part_ways mover_ways)) shape masks (drilled_all shape st.orders minds)

    pub long : length masks ≡ 6
    long = allowed.0 ∙ six_rounds st.now.n st.now.t m u can.old

    -- whoever is held to be down, besides who was before the phase
    pub begins_with : (out : ℕ → Bool) → ((seat : ℕ) → out seat ≡ false → down_moving st seat ≡ false) →
        BeginMove (drilled_ways (part_ways mover_ways)) (drilled_is (part_is (λ (a b : Mover). a ≡ b))) (moving_of st m u) masks
        (drilled_all (moving_of st m u) st.orders (movers_on (moving_of st m u) (seats_in st m u seeds))) out (λ seat. (held_on (seats_in st m u seeds) seat).grids)
    begins_with out more = record {
      goes = undrilled_go (part_ways mover_ways) mover_ways (part_is (λ (a b : Mover). a ≡ b)) mover_turn movers_go;
      setting = lawful_move st.now.n st.now.t m u can.old can.new;
      rounds = omega (arith, long);
      seated = length-numbered (drilled_on shape st.orders) 1 minds ∙ length-numbered (mover_on shape) 1 (seats_in st m u seeds) ∙ length-seats;
      degrees = λ seat lane up. degree_cases (seat - 1) lane (cases_lt (seat - 1) st.now.n);
      fresh = λ seat honest.
          let e : 1 + (seat - 1) ≡ seat = omega (arith, honest.from) in
          let part = part_cases seat honest.from honest.to (cases_lt st.now.n seat) (more seat honest.up) in
          let here : Part Mover = mover_on shape (1 + (seat - 1)) (get_or (seats_in st m u seeds) (seat - 1) None) in
          let place : Nth (seat - 1) here minds = nth_numbered (mover_on shape) None 1 (seat - 1) (seats_in st m u seeds) (omega (arith, honest.from, honest.to, length-seats)) in (
            drilled_on shape st.orders (1 + (seat - 1)) here,
            drilled_nth shape st.orders minds 1 (seat - 1) here place,
            (
              ap (names st.orders) e ∙ unnamed_cases seat (cases_lt st.now.n seat) (more seat honest.up),
              subst (λ (h : Option Holding). part_is (λ (a b : Mover). a ≡ b) (mover_on shape (1 + (seat - 1)) h) (mover_at shape seat (holding_or_none h).grids)) (sym part.1)
                  (ap (λ (k : ℕ). mover_at shape k part.0.grids) e),
            ),
          );
    }

    pub begins : BeginMove (drilled_ways (part_ways mover_ways)) (drilled_is (part_is (λ (a b : Mover). a ≡ b))) (moving_of st m u) masks
        (drilled_all (moving_of st m u) st.orders (movers_on (moving_of st m u) (seats_in st m u seeds))) (down_after (down_moving st) masks) (λ seat. (held_on (seats_in st m u seeds) seat).grids)
    begins = begins_with (down_after (down_moving st) masks) up_before

    -- who isn't down is in each mask
    pub here : InMasks (moving_of st m u) 6 masks (down_after (down_moving st) masks)
    here = in_masks_after shape 6 masks (down_moving st) (omega (arith, long))

    pub by : ByMovers (transcript_of (drilled_ways (part_ways mover_ways)) (moving_of st m u) masks (drilled_all (moving_of st m u) st.orders (movers_on (moving_of st m u) (seats_in st m u seeds)))) (down_after (down_moving st) masks) (λ seat. (held_on (seats_in st m u seeds) seat).grids)
    by = by_movers (drilled_ways (part_ways mover_ways)) (drilled_is (part_is (λ (a b : Mover). a ≡ b))) shape masks (drilled_all shape st.orders minds) (down_after (down_moving st) masks) own begins here

    -- with enough of the new members left the play is a move
    pub proper_move : how_many m (new_down (play_moved st m u seeds masks)) ≤ u → IsMove st.now.t (play_moved st m u seeds masks)
    proper_move few = moves_are_proper st.now.t run down own by (two_committees st.now.n st.now.t m u can.old) few

    -- a new member that isn't down is honest in it
    pub move_honest : (j : ℕ) → 1 ≤ j → j ≤ m → new_down (play_moved st m u seeds masks) j ≡ false → HonestIn (play_moved st m u seeds masks) j
    move_honest j from to up = record { from = from; to = to; up = up }

    -- what is heard in the sixth round is the play's
    pub move_heard : AreHeardIn (play_moved st m u seeds masks) (posts_in (transcript_of (drilled_ways (part_ways mover_ways)) (moving_of st m u) masks (drilled_all (moving_of st m u) st.orders (movers_on (moving_of st m u) (seats_in st m u seeds)))) 6)
    move_heard receiver from to = syndromes_are_heard run (down_after (down_moving st) masks) own by receiver from to

    -- the seat of a new member that isn't down ends as the play defines
    pub move_ends : (j : ℕ) → HonestIn (play_moved st m u seeds masks) j →
        (d : DrilledMind (Part Mover)) × Nth (st.now.n + j - 1) d (sync (drilled_ways (part_ways mover_ways)) (moving_of st m u) 1 masks (drilled_all (moving_of st m u) st.orders (movers_on (moving_of st m u) (seats_in st m u seeds))))
        × part_is (λ (a b : Mover). a ≡ b) d.inner (mover_done (play_moved st m u seeds masks) own (posts_in (transcript_of (drilled_ways (part_ways mover_ways)) (moving_of st m u) masks (drilled_all (moving_of st m u) st.orders (movers_on (moving_of st m u) (seats_in st m u seeds)))) 6) j)
    move_ends j honest =
        let end = ends_moved (drilled_ways (part_ways mover_ways)) (drilled_is (part_is (λ (a b : Mover). a ≡ b))) shape masks (drilled_all shape st.orders minds) (down_after (down_moving st) masks) own begins here j honest in
        let six : take 6 masks ≡ masks = take_all 6 masks (omega (arith, long)) in (
          end.0,
          subst (λ (ms : List ℕ). Nth (st.now.n + j - 1) end.0 (sync (drilled_ways (part_ways mover_ways)) shape 1 ms (drilled_all shape st.orders minds))) six end.1,
          end.2.1,
        )

-- ---- what a move finds is what its phase asks
pub can_asked : (name : List ℕ) (m u : ℕ) (drill : Option (List ℕ)) (held : Held) (st : Standing) → IsInRange (Move name m u drill) → move_asked name m u drill held ≡ Ok st → CanMove st m u
can_asked name m u drill held st range asked =
    let s = asked_stands (λ now. move_shape now.n now.t m u) name drill held st asked in
    let checked = now_checked name held st.now s.now_is in
    record {
      old = committee_of st.now.n st.now.t checked.size checked.bound;
      new = committee_of m u range.1 range.2;
      all = ap length s.files ∙ length-map-range_with_len (share_of st.now held) 1 st.now.n;
      few = few_drill (move_shape st.now.n st.now.t m u) drill held st.orders s.read;
    }

pub moves_now : (name : List ℕ) (m u : ℕ) (drill : Option (List ℕ)) (held : Option Held) (st : Standing) → IfSome held (λ h. move_asked name m u drill h ≡ Ok st) → IsReady st → IfSome held (HasSoundNow name)
moves_now name m u drill None st asked ready = tt
moves_now name m u drill (Some h) st asked ready = read_ready (λ now. move_shape now.n now.t m u) name drill h st asked ready
