-- A move of a rehearsal.
use Rattle.std.proofs.Common.{inl, inr, ◌≡◌, ◌⊎◌, ℕ, ◌+◌, ◌-◌, ◌<◌, ◌≤◌, Bool, true, false, ◌&&◌, ◌||◌, ltb, List, [], length, get_or, Option, sym, ap, ◌∙◌, subst, arith}
use Rattle.std.proofs.lemmas.Bool.{cases_lt, le-ltb, lt-ltb, or_parts}
use Rattle.std.proofs.lemmas.List.FromFn.{length-map-range_with_len}
use Rattle.algebra61.specs.Field.{Fp, zeroₚ, ◌+ₚ◌}
use Rattle.algebra61.specs.Grid.{grid_at}
use Rattle.bivar61.specs.Grids.{IsGrid}
use Rattle.sharing61.specs.Count.{how_many}
use Rattle.sharing61.proofs.Count.{how_many_same}
use Rattle.sizes.specs.Instances.{dealer_of, lane_of, instance_at}
use Rattle.talk.specs.Shape.{move_shape, seats}
use Rattle.talk.specs.Sync.{has, nobody}
use Rattle.plays.specs.Play.{Play}
use Rattle.plays.specs.Law.{IsPlay}
use Rattle.plays.proofs.Ends.{lane_below}
use Rattle.playback.proofs.Formed.{dealer_most}
use Rattle.periods.specs.Move.{IsMove}
use Rattle.drillbook.specs.Orders.{names, wrong_of}
use Rattle.sharefile.specs.Files.{Share}
use Rattle.keyroom.proofs.Counting.{old_seat, new_seat}
use Rattle.hearsay.specs.Record.{HasGrids}
use Rattle.commands.specs.Move.{dealt_shares, down_moving, new_down, play_moved}
use Rattle.commands.specs.Period.{share_with}
use Rattle.commands.specs.Phase.{unless_down, shares_given}
use Rattle.commands.specs.Standing.{Standing, Holding, holding_or_none}
use Rattle.commands.proofs.Late.{after_up}
use Rattle.commands.proofs.Movers.{CanMove, old_takes, old_up, proper_move}
use Rattle.commands.proofs.Shared.{deals_own}
use Rattle.scenes.specs.declared.side.Side.{Side}
use Rattle.scenes.specs.declared.scene.Scene.TheVariants.{Move}
use Rattle.scenes.specs.Law.{AreSides}
use Rattle.scenes.specs.Lawful.{AreOrders, is_drilled_seat}
use Rattle.scenes.specs.Scenes.{is_down_on, is_drilled}
use Rattle.rehearsal_laws.specs.Standing.{now_before, file_with, standing_before, later_seeds}
use Rattle.rehearsal_laws.specs.Played.{AreUncut, play_under}
use Rattle.rehearsal_laws.specs.Down.{down_on}
use Rattle.rehearsal_laws.proofs.Downs.{old_on, new_on, few_receivers}
use Rattle.rehearsal_laws.proofs.Drawn.{drawn_with_grid}
use Rattle.rehearsal_laws.proofs.Files.{file_at, length_files, down_by_files}
use Rattle.rehearsal_laws.proofs.Fitting.{side_committee}
use Rattle.rehearsal_laws.proofs.Uncut.{play_of_move, down_in_move}

-- ---- whom the orders name
first_only : (drilled behind other : Bool) → behind ≡ false → (drilled || (behind && other)) ≡ drilled
first_only true behind other e = cc
first_only false behind other e = ap (λ (b : Bool). b && other) e

second_only : (drilled behind other : Bool) → drilled ≡ false → behind ≡ true → (drilled || (behind && other)) ≡ other
second_only drilled behind other none there = rw (none, there) cc

false_unless : (b : Bool) → (b ≡ true → ⊥) → b ≡ false
false_unless true h = absurd (h cc)
false_unless false h = cc

module _ (old new : Side) (sides : AreSides (Move old new)) where
  pub named_old : (seat : ℕ) → seat ≤ old.members → is_drilled_seat (Move old new) seat ≡ is_drilled old.drilled seat
  named_old seat to = first_only (is_drilled old.drilled seat) (ltb old.members seat) (is_drilled new.drilled (seat - old.members)) (le-ltb old.members seat to)

  pub not_old : (seat : ℕ) → old.members < seat → is_drilled old.drilled seat ≡ false
  not_old seat behind = false_unless (is_drilled old.drilled seat) (λ drilled. absurd (omega (arith, behind, (sides.0.drilled seat drilled).1)))

  pub named_new : (seat : ℕ) → old.members < seat → is_drilled_seat (Move old new) seat ≡ is_drilled new.drilled (seat - old.members)
  named_new seat behind =
      second_only (is_drilled old.drilled seat) (ltb old.members seat) (is_drilled new.drilled (seat - old.members)) (not_old seat behind) (lt-ltb old.members seat behind)

module _ (number place : ℕ) (old new : Side) (lanes : ℕ → List Fp) (sides : AreSides (Move old new)) (told : AreOrders (Move old new)) where
  abbrev shares : List (Option (List Fp))
  shares = shares_given (has old.shareless) lanes old.members

  abbrev pub st : Standing
  st = standing_before place (Move old new) (shares_given (has old.shareless) lanes old.members)

  abbrev seeds : List (List ℕ)
  seeds = later_seeds number place old

  pub all_files : length st.files ≡ old.members
  all_files = length_files (now_before place old) (has old.shareless) lanes old.members

  behind_on : (seat : ℕ) → old.members < seat → down_on (Move old new) seat ≡ is_drilled new.drilled (seat - old.members)
  behind_on seat behind =
      let e : seat ≡ old.members + (seat - old.members) = omega (arith, behind) in
      ap (down_on (Move old new)) e ∙ new_on old new (seat - old.members) (omega (arith, behind))

  few_told : how_many new.members (λ j. names st.orders (old.members + j)) ≤ new.bound
  few_told =
      omega (
        arith,
        how_many_same new.members (λ j. names st.orders (old.members + j)) (λ j. down_on (Move old new) (old.members + j))
            (λ j from to. told.named (old.members + j) ∙ named_new old new sides (old.members + j) (omega (arith, from)) ∙ sym (behind_on (old.members + j) (omega (arith, from)))),
        few_receivers (Move old new) sides,
      )

  pub can : CanMove (standing_before place (Move old new) (shares_given (has old.shareless) lanes old.members)) new.members new.bound
  can = record { old = side_committee old sides.0; new = side_committee new sides.1; all = all_files; few = few_told }

  -- who is down before the phase
  cases_before : (seat : ℕ) → 1 ≤ seat → (old.members < seat) ⊎ (seat ≤ old.members) → down_moving st seat ≡ down_on (Move old new) seat
  cases_before seat from (inl behind) =
      new_seat (names st.orders) st.files seat (omega (arith, behind, all_files)) ∙ told.named seat ∙ named_new old new sides seat behind ∙ sym (behind_on seat behind)
  cases_before seat from (inr to) =
      old_seat (names st.orders) st.files seat (omega (arith, to, all_files))
      ∙ down_by_files (names st.orders) (now_before place old) old lanes seat from to (told.named seat ∙ named_old old new sides seat to) ∙ sym (old_on old new seat to)

  module _ (masks : List ℕ) (uncut : AreUncut number place (Move old new) (shares_given (has old.shareless) lanes old.members) masks) where
    abbrev play : Play
    play = play_moved st new.members new.bound seeds masks

    pub move_is_play : IsPlay (play_under number place (Move old new) (shares_given (has old.shareless) lanes old.members) masks)
    move_is_play = play_of_move st new.members new.bound can seeds masks uncut

    pub move_down : (seat : ℕ) → 1 ≤ seat → seat ≤ seats (move_shape old.members old.bound new.members new.bound) →
        (play_under number place (Move old new) (shares_given (has old.shareless) lanes old.members) masks).down seat ≡ down_on (Move old new) seat
    move_down seat from to = down_in_move st new.members new.bound can seeds masks uncut seat from to ∙ cases_before seat from (cases_lt old.members seat)

    pub move_has_grids : HasGrids (play_under number place (Move old new) (shares_given (has old.shareless) lanes old.members) masks)
    move_has_grids i lt up =
        let most : dealer_of i ≤ old.members = dealer_most (move_shape old.members old.bound new.members new.bound) i lt in
        let here = old_takes st new.members new.bound can seeds (dealer_of i) (omega arith) most (after_up (down_moving st) masks (dealer_of i) up).0 in
        let dealt : List Fp = dealt_shares st.orders (dealer_of i) here.share.lanes in
        let five : length dealt ≡ 5 = length-map-range_with_len (λ l. get_or here.share.lanes l zeroₚ +ₚ wrong_of st.orders (dealer_of i)) 0 5 in
        subst (λ (h : Option Holding). IsGrid new.bound (get_or (holding_or_none h).grids (lane_of i) [])) (sym here.is)
        (drawn_with_grid new.bound dealt here.seed (lane_of i) (omega (arith, can.new.third, can.new.most)) (omega (arith, five, lane_below i)))

    few_new : how_many new.members (new_down play) ≤ new.bound
    few_new =
        omega (
          arith,
          how_many_same new.members (new_down play) (λ j. down_on (Move old new) (old.members + j)) (λ j from to. move_down (old.members + j) (omega (arith, from)) (omega (arith, to))),
          few_receivers (Move old new) sides,
        )

    moves : IsMove old.bound play
    moves = proper_move st new.members new.bound can seeds nobody masks uncut few_new

    -- an old member that isn't down deals sharings of its shares
    pub move_constants : (dealer lane : ℕ) → 1 ≤ dealer → dealer ≤ old.members → lane < 5 → (play_under number place (Move old new) (shares_given (has old.shareless) lanes old.members) masks).down dealer ≡ false →
        grid_at ((play_under number place (Move old new) (shares_given (has old.shareless) lanes old.members) masks).grid (instance_at dealer lane)) zeroₚ zeroₚ ≡ get_or (lanes dealer) lane zeroₚ
    move_constants dealer lane from to lt up =
        let before = (after_up (down_moving st) masks dealer up).0 in
        let on : is_down_on old dealer ≡ false = sym (old_on old new dealer to) ∙ sym (cases_before dealer from (inr to)) ∙ before in
        let file : Share = share_with (now_before place old) dealer (lanes dealer) in
        deals_own st new.members new.bound can seeds masks moves lane dealer file lt from to (old_up st new.members new.bound can seeds dealer to before).0
        (file_at (now_before place old) (has old.shareless) lanes old.members dealer from to
        ∙ ap (λ (without : Bool). file_with (now_before place old) dealer (unless_down without (lanes dealer))) (or_parts (has old.shareless dealer) (is_drilled old.drilled dealer) on).0)
