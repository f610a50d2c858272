-- The minds of a move run as its seats do, and the new members' come to what the play defines.
use Rattle.std.proofs.Common.{◌≡◌, ℕ, zero, suc, ◌+◌, ◌-◌, ◌<◌, ◌≤◌, Bool, true, false, List, [], ◌∷◌, ◌++◌, length, map, replicate, get_or, take, drop, Option, Some, None, Ok, refl, sym, ap, ap₂, ◌∙◌, subst, arith}
use Rattle.std.specs.List.{range_with_len}
use Rattle.std.proofs.lemmas.List.{map-append, length-map, get_or-append_right}
use Rattle.std.proofs.lemmas.List.FromFn.{get_or-map-range_with_len}
use Rattle.std.proofs.lemmas.List.{length-drop, length-take, take_more, drop_more}
use Rattle.talk.specs.declared.messages.Heard.{Heard}
use Rattle.talk.specs.declared.messages.Post.{Post}
use Rattle.talk.specs.declared.part.Part.{Part}
use Rattle.talk.specs.declared.part.Part.TheVariants.{In}
use Rattle.talk.specs.Part.{part_ways, part_is}
use Rattle.talk.specs.Hears.{Hearing, Seated}
use Rattle.talk.specs.Shape.{Shape, seats, rounds, move_shape}
use Rattle.sharing61.specs.Count.{how_many}
use Rattle.talk.specs.Sync.{AllAllowed, all_seats, sync}
use Rattle.talk.specs.Basics.{Nth}
use Rattle.plays.specs.Play.{Play, seat_of}
use Rattle.plays.specs.Transcript.{posts_in, transcript_of}
use Rattle.machines.proofs.Runs.{length-sync}
use Rattle.members.specs.Laws.{member_done}
use Rattle.members.specs.Shares.{accepted_count}
use Rattle.members.proofs.Sums.{done_is_play}
use Rattle.periods.specs.Mover.{Mover, mover_at, mover_ways}
use Rattle.periods.specs.Runs.{mover_done}
use Rattle.moveshare.specs.declared.mind.MoveMind.{MoveMind}
use Rattle.moveshare.specs.declared.mind.MoveMind.TheVariants.{Old, New}
use Rattle.moveshare.specs.declared.out.MoveOut.{MoveOut}
use Rattle.moveshare.specs.Minds.{part_of, mind_may, mind_made_for, mind_ways, mind_after_say, mind_after_hear}
use Rattle.moveshare.specs.Laws.{DefinesOut}
use Rattle.moveshare.proofs.Playing.{comes_to_play}
use Rattle.drillbook.specs.declared.order.Order.{Order}
use Rattle.drillbook.specs.Word.{DrilledMind, drilled_ways}
use Rattle.commands.specs.Move.{moving_of, moving, new_member, seats_in, mover_on, movers_on, AreMoveMasks, play_moved, new_down, enough_moved}
use Rattle.commands.specs.declared.moving_phase.Moved.{Moved}
use Rattle.commands.specs.MovePhase.{MayMove, IsMovePhase, old_on, new_on, minds_on, IsEnd, accepted_at, ComesTo, OutIs, AllCome, AreOuts}
use Rattle.commands.specs.Phase.{marked, marks_of, AllDone, accepted_first}
use Rattle.commands.specs.Run.{numbered, drilled_on, drilled_all}
use Rattle.commands.specs.Standing.{Standing, Holding, holdings}
use Rattle.commands.proofs.Alike.{SeenAs, sync_same, allowed_same, sync_keeps, nth_map, nth_of_map, drilled_see, see_drilled, drilled_seen}
use Rattle.commands.proofs.Left.{both_left}
use Rattle.commands.proofs.Movers.{CanMove, can_move, length-old, length-seats, own, proper_move, move_honest, move_heard, move_ends}
use Rattle.commands.proofs.Phases.{drilled_hearing, drilled_seated, length-numbered, EndsAs, ends_here, ends_later, ends_marked, all_done, accepted_same, SomeUp, some_up, some_marked, marks_right, nth_get}

-- ---- lists
numbered_append : {A B : Type 0} (f : ℕ → A → B) (k : ℕ) (xs ys : List A) → numbered f k (xs ++ ys) ≡ numbered f k xs ++ numbered f (k + length xs) ys
numbered_append f k [] ys = let e : k ≡ k + 0 = omega arith in ap (λ (n : ℕ). numbered f n ys) e
numbered_append f k (x ∷ xs) ys =
    let e : (k + 1) + length xs ≡ k + suc (length xs) = omega arith in
    ap (λ zs. f k x ∷ zs) (numbered_append f (k + 1) xs ys ∙ ap (λ (n : ℕ). numbered f (k + 1) xs ++ numbered f n ys) e)

nth_drop : {A : Type 0} (n k : ℕ) (x : A) (xs : List A) → Nth (n + k) x xs → Nth k x (drop n xs)
nth_drop zero k x xs h = let e : 0 + k ≡ k = omega arith in subst (λ (i : ℕ). Nth i x xs) e h
nth_drop (suc n) k x [] h = absurd h
nth_drop (suc n) k x (y ∷ ys) h = let e : suc n + k ≡ suc (n + k) = omega arith in nth_drop n k x ys (subst (λ (i : ℕ). Nth i x (y ∷ ys)) e h)

-- ---- the minds as seats that may be away
module _ {N M : ℕ} where
  abbrev is_new : MoveMind N M → Bool
  is_new (Old part) = false
  is_new (New mover) = true

  seen_said : (mind : MoveMind N M) (round : ℕ) → part_of (mind_after_say mind round) ≡ (part_ways mover_ways).after_say (part_of mind) round
  seen_said (Old part) round = refl
  seen_said (New mover) round = refl

  seen_heard : (mind : MoveMind N M) (round : ℕ) (h : Heard) → part_of (mind_after_hear mind round h) ≡ (part_ways mover_ways).after_hear (part_of mind) round h
  seen_heard (Old part) round h = refl
  seen_heard (New mover) round h = refl

  pub seen : SeenAs (mind_ways {N = N} {M = M}) (part_ways mover_ways) part_of
  seen = record { word = λ mind round. refl; said = seen_said; heard = seen_heard }

  new_said : (mind : MoveMind N M) (round : ℕ) → is_new (mind_after_say mind round) ≡ is_new mind
  new_said (Old part) round = refl
  new_said (New mover) round = refl

  new_heard : (mind : MoveMind N M) (round : ℕ) (h : Heard) → is_new (mind_after_hear mind round h) ≡ is_new mind
  new_heard (Old part) round h = refl
  new_heard (New mover) round h = refl

  -- a new member's mind that stands for a mover is it
  new_is : (mind : MoveMind N M) (mover : Mover) → is_new mind ≡ true → part_is (λ (a b : Mover). a ≡ b) (part_of mind) mover → mind ≡ New mover
  new_is (Old part) mover e is = absurd cc
  new_is (New one) mover e is = ap (λ (x : Mover). let made : MoveMind N M = New x in made) is

  kinds_drilled : (s : Shape) (orders : List Order) (k : ℕ) (minds : List (MoveMind N M)) → map (λ (d : DrilledMind (MoveMind N M)). is_new d.inner) (numbered (drilled_on s orders) k minds) ≡ map is_new minds
  kinds_drilled s orders k [] = refl
  kinds_drilled s orders k (m ∷ ms) = ap (λ xs. is_new m ∷ xs) (kinds_drilled s orders (k + 1) ms)

module _ (N M : ℕ) where
  old_seen : (s : Shape) (k : ℕ) (held : List (Option Holding)) → map part_of (numbered (old_on {N = N} {M = M} s) k held) ≡ numbered (mover_on s) k held
  old_seen s k [] = refl
  old_seen s k (h ∷ hs) = ap (λ xs. mover_on s k h ∷ xs) (old_seen s (k + 1) hs)

  new_seen : (s : Shape) (a m k : ℕ) → k ≡ seat_of s a → map part_of (map (new_on {N = N} {M = M} s) (range_with_len a m)) ≡ numbered (mover_on s) k (replicate m (Some new_member))
  new_seen s a zero k e = refl
  new_seen s a (suc m) k e =
      ap₂ (λ (x : Part Mover) (xs : List (Part Mover)). x ∷ xs) (ap (λ (n : ℕ). let p : Part Mover = In (mover_at s n []) in p) (sym e)) (new_seen s (a + 1) m (k + 1) (omega (arith, e)))

  new_kinds : (s : Shape) (js : List ℕ) → map is_new (map (new_on {N = N} {M = M} s) js) ≡ map (λ j. true) js
  new_kinds s [] = refl
  new_kinds s (j ∷ js) = ap (λ xs. true ∷ xs) (new_kinds s js)

  new_drilled : (s : Shape) (orders : List Order) (a m k : ℕ) → k ≡ seat_of s a →
      map (λ j. drilled_on s orders (s.shift + j) (new_on {N = N} {M = M} s j)) (range_with_len a m) ≡ numbered (drilled_on s orders) k (map (new_on {N = N} {M = M} s) (range_with_len a m))
  new_drilled s orders a zero k e = refl
  new_drilled s orders a (suc m) k e =
      ap₂ (λ (x : DrilledMind (MoveMind N M)) (xs : List (DrilledMind (MoveMind N M))). x ∷ xs) (ap (λ (n : ℕ). drilled_on s orders n (new_on {N = N} {M = M} s a)) (sym e)) (new_drilled s orders (a + 1) m (k + 1) (omega (arith, e)))

-- the out of a member that isn't down, by what it must be then
out_weaker : (b : Bool) (P Q : MoveOut → Type 0) (out : Option MoveOut) → (b ≡ false → (o : MoveOut) → P o → Q o) → OutIs b P out → OutIs b Q out
out_weaker true P Q out h is = is
out_weaker false P Q None h is = is
out_weaker false P Q (Some o) h is = h refl o is

module _ (N M : ℕ) (st : Standing) (m u : ℕ) (can : CanMove st m u) (seeds : List (List ℕ)) where
  abbrev shape : Shape
  shape = moving_of st m u

  abbrev held : List (Option Holding)
  held = holdings (moving st.orders u) 1 st.files seeds

  -- all minds before the first round
  abbrev minds : List (MoveMind N M)
  minds = minds_on (moving_of st m u) (holdings (moving st.orders u) 1 st.files seeds) m

  minds_seen : map part_of minds ≡ movers_on shape (seats_in st m u seeds)
  minds_seen =
      let e : 1 + length held ≡ seat_of shape 1 = omega (arith, length-old st m u can seeds) in
      map-append part_of (numbered (old_on shape) 1 held) (map (new_on shape) (range_with_len 1 m))
      ∙ ap₂ (λ xs ys. xs ++ ys) (old_seen N M shape 1 held) (new_seen N M shape 1 m (1 + length held) e)
      ∙ sym (numbered_append (mover_on shape) 1 held (replicate m (Some new_member)))

  pub drilled_same : map (drilled_see part_of) (drilled_all shape st.orders minds) ≡ drilled_all shape st.orders (movers_on shape (seats_in st m u seeds))
  drilled_same = see_drilled part_of shape st.orders 1 minds ∙ ap (drilled_all shape st.orders) minds_seen

  pub length-minds : length (drilled_all (moving_of st m u) st.orders minds) ≡ st.now.n + m
  length-minds =
      length-numbered (drilled_on shape st.orders) 1 minds ∙ sym (length-map minds part_of) ∙ ap length minds_seen
      ∙ length-numbered (mover_on shape) 1 (seats_in st m u seeds) ∙ length-seats st m u can seeds

  module _ (cuts : ℕ → ℕ) (masks : List ℕ) (all : length masks ≡ rounds (moving_of st m u)) (allowed : AllAllowed (drilled_ways (mind_ways {N = N} {M = M})) (moving_of st m u) 1 (all_seats (moving_of st m u)) cuts masks (drilled_all (moving_of st m u) st.orders minds)) where
    pub move_masks : AreMoveMasks st m u seeds cuts masks
    move_masks = (
      all,
      subst (AllAllowed (drilled_ways (part_ways mover_ways)) shape 1 (all_seats shape) cuts masks) drilled_same
          (allowed_same (drilled_ways mind_ways) (drilled_ways (part_ways mover_ways)) (drilled_see part_of) (drilled_seen part_of mind_ways (part_ways mover_ways) seen) shape 1 (all_seats shape) cuts masks (drilled_all shape st.orders minds) allowed),
    )

    abbrev play : Play
    play = play_moved st m u seeds masks

    abbrev posts : List Post
    posts = posts_in (transcript_of (drilled_ways (part_ways mover_ways)) shape masks (drilled_all shape st.orders (movers_on shape (seats_in st m u seeds)))) 6

    -- all minds after the last round, and those of the new members
    abbrev after : List (DrilledMind (MoveMind N M))
    after = sync (drilled_ways mind_ways) shape 1 masks (drilled_all shape st.orders minds)

    abbrev pub receivers : List (DrilledMind (MoveMind N M))
    receivers = drop st.now.n (sync (drilled_ways mind_ways) (moving_of st m u) 1 masks (drilled_all (moving_of st m u) st.orders minds))

    after_seen : map (drilled_see part_of) after ≡ sync (drilled_ways (part_ways mover_ways)) shape 1 masks (drilled_all shape st.orders (movers_on shape (seats_in st m u seeds)))
    after_seen =
        sync_same (drilled_ways mind_ways) (drilled_ways (part_ways mover_ways)) (drilled_see part_of) (drilled_seen part_of mind_ways (part_ways mover_ways) seen) shape 1 masks (drilled_all shape st.orders minds)
        ∙ ap (sync (drilled_ways (part_ways mover_ways)) shape 1 masks) drilled_same

    length-after : length after ≡ st.now.n + m
    length-after = length-sync (drilled_ways mind_ways) shape 1 masks (drilled_all shape st.orders minds) ∙ length-minds

    pub length-receivers : length receivers ≡ m
    length-receivers = length-drop st.now.n after ∙ omega (arith, length-after)

    -- behind the old members' seats there are new members' minds
    kinds : map (λ (d : DrilledMind (MoveMind N M)). is_new d.inner) after ≡ map is_new (numbered (old_on {N = N} {M = M} shape) 1 held) ++ map (λ j. true) (range_with_len 1 m)
    kinds =
        sync_keeps (drilled_ways mind_ways) (λ (d : DrilledMind (MoveMind N M)). is_new d.inner) (λ d round. new_said d.inner round) (λ d round h. new_heard d.inner round h) shape 1 masks (drilled_all shape st.orders minds)
        ∙ kinds_drilled shape st.orders 1 minds
        ∙ map-append is_new (numbered (old_on shape) 1 held) (map (new_on shape) (range_with_len 1 m))
        ∙ ap (λ xs. map is_new (numbered (old_on {N = N} {M = M} shape) 1 held) ++ xs) (new_kinds N M shape (range_with_len 1 m))

    new_here : (k : ℕ) (d : DrilledMind (MoveMind N M)) → k < m → Nth (st.now.n + k) d after → is_new d.inner ≡ true
    new_here k d lt at =
        let old : List Bool = map is_new (numbered (old_on {N = N} {M = M} shape) 1 held) in
        let news : List Bool = map (λ j. true) (range_with_len 1 m) in
        let long : length old ≡ st.now.n = length-map (numbered (old_on {N = N} {M = M} shape) 1 held) is_new ∙ length-numbered (old_on {N = N} {M = M} shape) 1 held ∙ length-old st m u can seeds in
        let place : st.now.n + k - st.now.n ≡ k = omega arith in
        sym (nth_get false (st.now.n + k) (is_new d.inner) (map (λ (x : DrilledMind (MoveMind N M)). is_new x.inner) after) (nth_map (λ (x : DrilledMind (MoveMind N M)). is_new x.inner) (st.now.n + k) d after at)).1
        ∙ ap (λ (bs : List Bool). get_or bs (st.now.n + k) false) kinds
        ∙ get_or-append_right old news st.now.n (st.now.n + k) false long (omega arith)
        ∙ ap (λ (i : ℕ). get_or news i false) place
        ∙ get_or-map-range_with_len (λ j. true) 1 m k (1 + k) false lt refl

    -- each stands where the play says, unless the member is down
    receivers_end : EndsAs (λ (mind : MoveMind N M) (mover : Mover). mind ≡ New mover) (mover_done play (own st m u can seeds) posts) (new_down play) 1 receivers
    unfolding EndsAs
    receivers_end k lt up =
        let less : k < m = omega (arith, lt, length-receivers) in
        let end = move_ends st m u can seeds cuts masks move_masks (1 + k) (move_honest st m u can seeds cuts masks move_masks (1 + k) (omega arith) (omega (arith, less)) up) in
        let place : st.now.n + (1 + k) - 1 ≡ st.now.n + k = omega arith in
        let there : Nth (st.now.n + k) end.0 (map (drilled_see part_of) after) = subst (λ ds. Nth (st.now.n + k) end.0 ds) (sym after_seen) (subst (λ (i : ℕ). Nth i end.0 (sync (drilled_ways (part_ways mover_ways)) shape 1 masks (drilled_all shape st.orders (movers_on shape (seats_in st m u seeds))))) place end.1) in
        let back = nth_of_map (drilled_see part_of) (st.now.n + k) end.0 after there in
        let stands : part_is (λ (a b : Mover). a ≡ b) (part_of back.0.inner) (mover_done play (own st m u can seeds) posts (1 + k)) =
        subst (λ (d : DrilledMind (Part Mover)). part_is (λ (a b : Mover). a ≡ b) d.inner (mover_done play (own st m u can seeds) posts (1 + k))) (sym back.2) end.2 in (
          back.0,
          nth_drop st.now.n k back.0 after back.1,
          new_is back.0.inner (mover_done play (own st m u can seeds) posts (1 + k)) (new_here k back.0 less back.1) stands,
        )

    -- the same for the marks of who is down
    abbrev at : ℕ → Bool
    at = marked (marks_of (new_down (play_moved st m u seeds masks)) m)

    at_is : (j : ℕ) → 1 ≤ j → j ≤ m → at j ≡ new_down play j
    at_is j from to = marks_right (new_down play) m j from to

    ends_at : EndsAs (λ (mind : MoveMind N M) (mover : Mover). mind ≡ New mover) (mover_done play (own st m u can seeds) posts) at 1 receivers
    ends_at =
        ends_marked (λ (mind : MoveMind N M) (mover : Mover). mind ≡ New mover) (mover_done play (own st m u can seeds) posts) (new_down play) at 1 receivers
        (λ k lt. at_is (1 + k) (omega arith) (omega (arith, lt, length-receivers))) receivers_end

    pub receivers_done : AllDone IsEnd (marked (marks_of (new_down (play_moved st m u seeds masks)) m)) 1 receivers
    receivers_done =
        all_done (λ (mind : MoveMind N M) (mover : Mover). mind ≡ New mover) (mover_done play (own st m u can seeds) posts) IsEnd (λ j mind is. subst IsEnd (sym is) tt) at 1 receivers ends_at

    -- where enough of the new members are left
    module _ (few : how_many m (new_down (play_moved st m u seeds masks)) ≤ u) where
      some_new : SomeUp (new_down play) 1 m
      some_new = some_up (new_down play) m (omega (arith, few, can.new.third))

      pub receivers_accepted : accepted_first accepted_at (marked (marks_of (new_down (play_moved st m u seeds masks)) m)) 1 receivers ≡ accepted_count (play_moved st m u seeds masks)
      receivers_accepted =
          accepted_same (λ (mind : MoveMind N M) (mover : Mover). mind ≡ New mover) (mover_done play (own st m u can seeds) posts) accepted_at (accepted_count play)
          (λ j mind is. ap accepted_at is ∙ (done_is_play play j (member_done play (own st m u can seeds) j) (record { shape = refl; stage = refl })).accepted) at 1 receivers ends_at
          (subst (SomeUp at 1) (sym length-receivers) (some_marked (new_down play) at m at_is some_new))

      -- what they come to is what the play defines
      outs_from : (j : ℕ) (ms : List (DrilledMind (MoveMind N M))) (outs : List (Option MoveOut)) → 1 ≤ j → j + length ms ≤ m + 1 →
          EndsAs (λ (mind : MoveMind N M) (mover : Mover). mind ≡ New mover) (mover_done play (own st m u can seeds) posts) at j ms → AllCome at j ms outs → AreOuts play j outs
      outs_from j [] [] low high ends come = tt
      outs_from j [] (out ∷ outs) low high ends come = absurd come
      outs_from j (d ∷ ds) [] low high ends come = absurd come
      outs_from j (d ∷ ds) (out ∷ outs) low high ends come =
          let within : j ≤ m = omega (arith, high) in
          let marks : at j ≡ new_down play j = at_is j low within in (
            subst (λ (b : Bool). OutIs b (DefinesOut play j) out) marks
                (out_weaker (at j) (ComesTo d.inner) (DefinesOut play j) out
                (λ up o answers.
                comes_to_play st.now.t play (own st m u can seeds) posts j o (proper_move st m u can seeds cuts masks move_masks few) (move_honest st m u can seeds cuts masks move_masks j low within (sym marks ∙ up)) (move_heard st m u can seeds cuts masks move_masks)
                (subst (λ (mind : MoveMind N M). ComesTo mind o) (ends_here (λ (mind : MoveMind N M) (mover : Mover). mind ≡ New mover) (mover_done play (own st m u can seeds) posts) at j d ds ends up) answers))
                come.0),
            outs_from (j + 1) ds outs (omega arith) (omega (arith, high)) (ends_later (λ (mind : MoveMind N M) (mover : Mover). mind ≡ New mover) (mover_done play (own st m u can seeds) posts) at j d ds ends) come.1,
          )

      pub outs_are : (outs : List (Option MoveOut)) → AllCome (marked (marks_of (new_down (play_moved st m u seeds masks)) m)) 1 receivers outs → AreOuts (play_moved st m u seeds masks) 1 outs
      outs_are outs come = outs_from 1 receivers outs (omega arith) (omega (arith, length-receivers)) ends_at come

-- there is one for each
pub length-outs : {N M : ℕ} (down : ℕ → Bool) (j : ℕ) (ms : List (DrilledMind (MoveMind N M))) (outs : List (Option MoveOut)) → AllCome down j ms outs → length outs ≡ length ms
length-outs down j [] [] come = refl
length-outs down j [] (out ∷ outs) come = absurd come
length-outs down j (m ∷ ms) [] come = absurd come
length-outs down j (m ∷ ms) (out ∷ outs) come = ap suc (length-outs down (j + 1) ms outs come.1)

-- ---- the minds before the first round are fresh, and made for their seats
module _ (N M : ℕ) (s : Shape) where
  old_hears : (k : ℕ) (held : Option Holding) → mind_may {N = N} {M = M} (old_on s k held) 1
  old_hears k None = tt
  old_hears k (Some holding) = refl

  new_hear : (js : List ℕ) → Hearing (mind_may {N = N} {M = M}) 1 (map (new_on s) js)
  new_hear [] = tt
  new_hear (j ∷ js) = (refl, new_hear js)

  all_hear : (k : ℕ) (held : List (Option Holding)) (rest : List (MoveMind N M)) → Hearing mind_may 1 rest → Hearing mind_may 1 (numbered (old_on s) k held ++ rest)
  all_hear k [] rest h = h
  all_hear k (x ∷ xs) rest h = (old_hears k x, all_hear (k + 1) xs rest h)

  old_sits : (k : ℕ) (held : Option Holding) → mind_made_for {N = N} {M = M} (old_on s k held) s k
  old_sits k None = tt
  old_sits k (Some holding) = (refl, refl)

  new_sit : (a m k : ℕ) → seat_of s a ≡ k → Seated (mind_made_for {N = N} {M = M}) s k (map (new_on s) (range_with_len a m))
  new_sit a zero k e = tt
  new_sit a (suc m) k e = ((refl, e), new_sit (a + 1) m (k + 1) (omega (arith, e)))

  all_sit : (k : ℕ) (held : List (Option Holding)) (rest : List (MoveMind N M)) → Seated mind_made_for s (k + length held) rest → Seated mind_made_for s k (numbered (old_on s) k held ++ rest)
  all_sit k [] rest h = let e : k + 0 ≡ k = omega arith in subst (λ (n : ℕ). Seated mind_made_for s n rest) e h
  all_sit k (x ∷ xs) rest h =
      let e : k + suc (length xs) ≡ (k + 1) + length xs = omega arith in
      (old_sits k x, all_sit (k + 1) xs rest (subst (λ (n : ℕ). Seated mind_made_for s n rest) e h))

-- the setting and the minds that are made for sizes are those of the committees that have these sizes
pub sized_setting : (N M b n m t u : ℕ) (s : Shape) → N ≡ n → M ≡ m → b ≡ t → s ≡ move_shape N b M u → s ≡ move_shape n t m u
sized_setting N M b n m t u s e f h is = is ∙ ap (λ (z : ℕ × ℕ × ℕ). move_shape z.0 z.2 z.1 u) (λ i. (e i, f i, h i))

pub sized_minds : {N M : ℕ} (b n m t u : ℕ) (orders : List Order) (held : List (Option Holding)) (ms : List (DrilledMind (MoveMind N M))) → N ≡ n → M ≡ m → b ≡ t →
    ms ≡ drilled_all (move_shape N b M u) orders (minds_on {N = N} {M = M} (move_shape N b M u) held M) → ms ≡ drilled_all (move_shape n t m u) orders (minds_on {N = N} {M = M} (move_shape n t m u) held m)
sized_minds {N} {M} b n m t u orders held ms e f h is =
    is ∙ ap (λ (z : ℕ × ℕ × ℕ). drilled_all (move_shape z.0 z.2 z.1 u) orders (minds_on {N = N} {M = M} (move_shape z.0 z.2 z.1 u) held z.1)) (λ i. (e i, f i, h i))

-- ---- a phase over these minds
module _ {N M : ℕ} (st : Standing) (m u : ℕ) (may : MayMove st m u) (seeds : List (List ℕ)) (s : Shape) (ms : List (DrilledMind (MoveMind N M))) (s_is : s ≡ moving_of st m u)
    (ms_are : ms ≡ drilled_all (moving_of st m u) st.orders (minds_on (moving_of st m u) (holdings (moving st.orders u) 1 st.files seeds) m)) where
  can : CanMove st m u
  can = can_move st m u may

  abbrev first_ones : List (MoveMind N M)
  first_ones = minds_on (moving_of st m u) (holdings (moving st.orders u) 1 st.files seeds) m

  pub all_minds : length ms ≡ seats s
  all_minds = ap length ms_are ∙ length-minds N M st m u can seeds ∙ sym (ap seats s_is)

  pub fresh_minds : Hearing (λ (d : DrilledMind (MoveMind N M)) (round : ℕ). mind_may d.inner round) 1 ms
  fresh_minds =
      subst (Hearing (λ (d : DrilledMind (MoveMind N M)) (round : ℕ). mind_may d.inner round) 1) (sym ms_are)
      (drilled_hearing mind_may (moving_of st m u) st.orders 1 first_ones
      (all_hear N M (moving_of st m u) 1 (holdings (moving st.orders u) 1 st.files seeds) (map (new_on (moving_of st m u)) (range_with_len 1 m)) (new_hear N M (moving_of st m u) (range_with_len 1 m))))

  pub made_minds : Seated (λ (d : DrilledMind (MoveMind N M)) (t : Shape) (seat : ℕ). (d.shape ≡ t) × (d.seat ≡ seat) × mind_made_for d.inner t seat) s 1 ms
  made_minds =
      let behind : seat_of (moving_of st m u) 1 ≡ 1 + length (holdings (moving st.orders u) 1 st.files seeds) = omega (arith, length-old st m u can seeds) in
      subst (λ (z : Shape × List (DrilledMind (MoveMind N M))). Seated (λ (d : DrilledMind (MoveMind N M)) (t : Shape) (seat : ℕ). (d.shape ≡ t) × (d.seat ≡ seat) × mind_made_for d.inner t seat) z.0 1 z.1) (λ i. (sym s_is i, sym ms_are i))
      (drilled_seated mind_made_for (moving_of st m u) st.orders 1 first_ones
      (all_sit N M (moving_of st m u) 1 (holdings (moving st.orders u) 1 st.files seeds) (map (new_on (moving_of st m u)) (range_with_len 1 m)) (new_sit N M (moving_of st m u) 1 m (1 + length (holdings (moving st.orders u) 1 st.files seeds)) behind)))

  -- the masks of the run are those of a move
  pub phase_masks : (cuts : ℕ → ℕ) (masks : List ℕ) → length masks ≡ rounds s → AllAllowed (drilled_ways (mind_ways {N = N} {M = M})) s 1 (all_seats s) cuts masks ms → AreMoveMasks st m u seeds cuts masks
  phase_masks cuts masks long allowed =
      move_masks N M st m u can seeds cuts masks (long ∙ ap rounds s_is)
      (subst (λ (z : Shape × List (DrilledMind (MoveMind N M))). AllAllowed (drilled_ways (mind_ways {N = N} {M = M})) z.0 1 (all_seats z.0) cuts masks z.1) (λ i. (s_is i, ms_are i)) allowed)

  -- the run under the masks, what is left of the minds behind the old members' seats, and the marks of which of these are down
  module _ (cuts : ℕ → ℕ) (masks : List ℕ) (ended behind : List (DrilledMind (MoveMind N M))) (marks : List Bool) (long : length masks ≡ rounds s) (allowed : AllAllowed (drilled_ways (mind_ways {N = N} {M = M})) s 1 (all_seats s) cuts masks ms)
      (ended_is : ended ≡ sync (drilled_ways (mind_ways {N = N} {M = M})) s 1 masks ms) (behind_is : behind ≡ drop st.now.n ended) (marks_are : marks ≡ marks_of (new_down (play_moved st m u seeds masks)) m) where
    all_rounds : length masks ≡ rounds (moving_of st m u)
    all_rounds = long ∙ ap rounds s_is

    all_allowed : AllAllowed (drilled_ways (mind_ways {N = N} {M = M})) (moving_of st m u) 1 (all_seats (moving_of st m u)) cuts masks (drilled_all (moving_of st m u) st.orders first_ones)
    all_allowed = subst (λ (z : Shape × List (DrilledMind (MoveMind N M))). AllAllowed (drilled_ways (mind_ways {N = N} {M = M})) z.0 1 (all_seats z.0) cuts masks z.1) (λ i. (s_is i, ms_are i)) allowed

    new_ones : behind ≡ receivers N M st m u can seeds cuts masks all_rounds all_allowed
    new_ones =
        behind_is ∙ ap (drop st.now.n) (ended_is ∙ ap (λ (z : Shape × List (DrilledMind (MoveMind N M))). sync (drilled_ways (mind_ways {N = N} {M = M})) z.0 1 masks z.1) (λ i. (s_is i, ms_are i)))

    pub behind_long : length behind ≡ m
    behind_long = ap length new_ones ∙ length-receivers N M st m u can seeds cuts masks all_rounds all_allowed

    pub behind_done : AllDone IsEnd (marked marks) 1 behind
    behind_done =
        subst (λ (z : List Bool × List (DrilledMind (MoveMind N M))). AllDone IsEnd (marked z.0) 1 z.1) (λ i. (sym marks_are i, sym new_ones i)) (receivers_done N M st m u can seeds cuts masks all_rounds all_allowed)

    -- with enough members left it leaves what the play defines
    module _ (left : ℕ) (enough : enough_moved st m u (play_moved st m u seeds masks) ≡ Ok left) where
      few : how_many m (new_down (play_moved st m u seeds masks)) ≤ u
      few = (both_left st m u left (play_moved st m u seeds masks) (omega (arith, can.old.third, can.old.some_bad)) (omega (arith, can.new.third, can.new.some_bad)) enough).1

      pub leaves_phase : (moved : Moved) → moved.masks ≡ masks → moved.down.items ≡ marks → moved.accepted ≡ accepted_first accepted_at (marked marks) 1 behind → AllCome (marked marks) 1 behind moved.outs.items → IsMovePhase st m u seeds cuts moved
      leaves_phase moved e same counted come =
          let here = subst (λ (z : List Bool × List (DrilledMind (MoveMind N M))). AllCome (marked z.0) 1 z.1 moved.outs.items) (λ i. (marks_are i, new_ones i)) come in
          record {
            masks = subst (AreMoveMasks st m u seeds cuts) (sym e) (phase_masks cuts masks long allowed);
            left = left;
            enough = subst (λ (xs : List ℕ). enough_moved st m u (play_moved st m u seeds xs) ≡ Ok left) (sym e) enough;
            down = same ∙ marks_are ∙ ap (λ (xs : List ℕ). marks_of (new_down (play_moved st m u seeds xs)) m) (sym e);
            accepted = counted ∙ ap (λ (z : List Bool × List (DrilledMind (MoveMind N M))). accepted_first accepted_at (marked z.0) 1 z.1) (λ i. (marks_are i, new_ones i))
                ∙ receivers_accepted N M st m u can seeds cuts masks all_rounds all_allowed few ∙ ap (λ (xs : List ℕ). accepted_count (play_moved st m u seeds xs)) (sym e);
            all = length-outs (marked (marks_of (new_down (play_moved st m u seeds masks)) m)) 1 (receivers N M st m u can seeds cuts masks all_rounds all_allowed) moved.outs.items here ∙ length-receivers N M st m u can seeds cuts masks all_rounds all_allowed;
            outs = subst (λ (xs : List ℕ). AreOuts (play_moved st m u seeds xs) 1 moved.outs.items) (sym e) (outs_are N M st m u can seeds cuts masks all_rounds all_allowed few moved.outs.items here);
          }

-- the run has a mind for each seat
pub ended_long : {N M : ℕ} (s : Shape) (masks : List ℕ) (ms ended : List (DrilledMind (MoveMind N M))) → length ms ≡ seats s → ended ≡ sync (drilled_ways (mind_ways {N = N} {M = M})) s 1 masks ms → length ended ≡ seats s
ended_long {N} {M} s masks ms ended all is = ap length is ∙ length-sync (drilled_ways (mind_ways {N = N} {M = M})) s 1 masks ms ∙ all

-- one more
come_last : {N M : ℕ} (down : ℕ → Bool) (j : ℕ) (ms : List (DrilledMind (MoveMind N M))) (outs : List (Option MoveOut)) (m : DrilledMind (MoveMind N M)) (out : Option MoveOut) →
    AllCome down j ms outs → OutIs (down (j + length ms)) (ComesTo m.inner) out → AllCome down j (ms ++ m ∷ []) (outs ++ out ∷ [])
come_last down j [] [] m out come is = let e : j + 0 ≡ j = omega arith in (subst (λ (k : ℕ). OutIs (down k) (ComesTo m.inner) out) e is, tt)
come_last down j [] (o ∷ os) m out come is = absurd come
come_last down j (d ∷ ds) [] m out come is = absurd come
come_last down j (d ∷ ds) (o ∷ os) m out come is =
    let e : j + suc (length ds) ≡ (j + 1) + length ds = omega arith in
    (come.0, come_last down (j + 1) ds os m out come.1 (subst (λ (k : ℕ). OutIs (down k) (ComesTo m.inner) out) e is))

pub come_more : {N M : ℕ} (down : ℕ → Bool) (minds : List (DrilledMind (MoveMind N M))) (k member : ℕ) (m : DrilledMind (MoveMind N M)) (outs new : List (Option MoveOut)) (out : Option MoveOut) →
    k < length minds → member ≡ k + 1 → m ≡ get_or minds k m → AllCome down 1 (take k minds) outs → OutIs (down member) (ComesTo m.inner) out → new ≡ outs ++ out ∷ [] → AllCome down 1 (take (k + 1) minds) new
come_more down minds k member m outs new out lt at here come is pushed =
    let e : member ≡ 1 + length (take k minds) = omega (arith, at, length-take k minds, lt) in
    subst (AllCome down 1 (take (k + 1) minds)) (sym pushed)
    (subst (λ ms. AllCome down 1 ms (outs ++ out ∷ [])) (sym (take_more minds k m lt ∙ ap (λ x. take k minds ++ x ∷ []) (sym here)))
    (come_last down 1 (take k minds) outs m out come (subst (λ (i : ℕ). OutIs (down i) (ComesTo m.inner) out) e is)))

pub done_more : {N M : ℕ} (down : ℕ → Bool) (minds : List (DrilledMind (MoveMind N M))) (k member : ℕ) (m : DrilledMind (MoveMind N M)) → k < length minds → m ≡ get_or minds k m →
    AllDone IsEnd down member (drop k minds) → AllDone IsEnd down (member + 1) (drop (k + 1) minds)
done_more down minds k member m lt here done =
    (subst (AllDone IsEnd down member) (drop_more minds k m lt ∙ ap (λ x. x ∷ drop (k + 1) minds) (sym here)) done).1

-- the minds of the old members, and those of the new ones behind them
pub both_minds : {N M : ℕ} (s : Shape) (orders : List Order) (held : List (Option Holding)) (m : ℕ) (old all : List (DrilledMind (MoveMind N M))) → length held ≡ s.shift →
    old ≡ drilled_all s orders (numbered (old_on s) 1 held) → all ≡ old ++ map (λ j. drilled_on s orders (s.shift + j) (new_on s j)) (range_with_len 1 m) → all ≡ drilled_all s orders (minds_on s held m)
both_minds {N} {M} s orders held m old all long first pushed =
    let behind : 1 + length (numbered (old_on {N = N} {M = M} s) 1 held) ≡ seat_of s 1 = omega (arith, length-numbered (old_on {N = N} {M = M} s) 1 held, long) in
    pushed ∙ ap₂ (λ xs ys. xs ++ ys) first (new_drilled N M s orders 1 m (1 + length (numbered (old_on {N = N} {M = M} s) 1 held)) behind)
    ∙ sym (numbered_append (drilled_on s orders) 1 (numbered (old_on s) 1 held) (map (new_on s) (range_with_len 1 m)))
