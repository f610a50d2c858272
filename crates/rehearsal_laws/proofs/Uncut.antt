-- Where nobody is cut as many are down as before the phase, and the play of its run is one of the setting.
use Rattle.std.proofs.Common.{◌≡◌, ℕ, ◌+◌, ◌≤◌, Bool, true, false, ◌||◌, not, List, length, refl, ap, arith}
use Rattle.algebra61.specs.Field.{Fp}
use Rattle.talk.specs.Part.{part_ways, part_is}
use Rattle.talk.specs.Shape.{Shape, rounds}
use Rattle.talk.specs.Sync.{Ways, AllAllowed, all_seats, nobody}
use Rattle.plays.specs.Law.{IsPlay}
use Rattle.plays.specs.Transcript.{transcript_of}
use Rattle.plays.proofs.Rounds.{run_makes_play}
use Rattle.members.specs.Member.{Member}
use Rattle.members.proofs.Minds.{by_the_rules}
use Rattle.periods.specs.Mover.{Mover, mover_ways}
use Rattle.periods.proofs.Runs.{moves_in_masks}
use Rattle.periods.proofs.Sixth.{moves_share}
use Rattle.drillbook.specs.declared.order.Order.{Order}
use Rattle.drillbook.specs.Word.{drilled_ways}
use Rattle.commands.specs.Late.{in_each, down_after}
use Rattle.commands.specs.Move.{moving_of, down_moving, seats_in, movers_on, AreMoveMasks, play_moved}
use Rattle.commands.specs.Run.{drilled_all, phase_play}
use Rattle.commands.specs.Standing.{Standing, held_on}
use Rattle.commands.proofs.Late.{has_each, after_up}
use Rattle.commands.proofs.Movers.{CanMove, begins_with, by, long}
use Rattle.commands.proofs.Phases.{Starts, begins, here, drilled_is, five_rounds, uncut_each}
use Rattle.scenes.proofs.Masks.{none_in}

-- who wasn't down before is in each mask, so nobody more is
same_cases : (before each : Bool) → (before ≡ false → each ≡ true) → (before || not each) ≡ before
same_cases true each h = refl
same_cases false each h = ap not (h refl)

pub same_after : (before : ℕ → Bool) (masks : List ℕ) (seat : ℕ) → (before seat ≡ false → in_each masks seat ≡ true) → down_after before masks seat ≡ before seat
same_after before masks seat h = same_cases (before seat) (in_each masks seat) h

-- ---- a phase of five rounds
module _ {M : Type 0} (w : Ways M) (is : M → Member → Type 0) (n t degree : ℕ) (orders : List Order) (before : ℕ → Bool) (own : ℕ → List (List (List Fp))) (minds : List M) (starts : Starts w is n t degree orders before own minds)
    (masks : List ℕ) (all : length masks ≡ rounds (five_rounds n t degree)) where
  pub play_of_five : IsPlay (phase_play w (five_rounds n t degree) (down_after before masks) own orders minds masks)
  play_of_five =
      let ways = drilled_ways w in
      let s : Shape = five_rounds n t degree in
      let drilled = drilled_all s orders minds in
      let down : ℕ → Bool = down_after before masks in
      run_makes_play (transcript_of ways s masks drilled) down own
      (by_the_rules ways (drilled_is is) s masks drilled down own (begins w is n t degree orders before own minds starts masks all down (λ seat up. (after_up before masks seat up).0))
      (here w is n t degree orders before own minds starts masks all))

  pub down_in_five : AllAllowed (drilled_ways w) (five_rounds n t degree) 1 (all_seats (five_rounds n t degree)) nobody masks (drilled_all (five_rounds n t degree) orders minds) →
      (seat : ℕ) → 1 ≤ seat → seat ≤ n → down_after before masks seat ≡ before seat
  down_in_five allowed seat from to =
      same_after before masks seat (λ up. uncut_each w is n t degree orders before own minds starts masks all nobody allowed seat from to up (λ round a b. none_in seat))

-- ---- a move
module _ (st : Standing) (m u : ℕ) (can : CanMove st m u) (seeds : List (List ℕ)) (masks : List ℕ) (allowed : AreMoveMasks st m u seeds nobody masks) where
  pub play_of_move : IsPlay (play_moved st m u seeds masks)
  play_of_move =
      let s : Shape = moving_of st m u in
      let own : ℕ → List (List (List Fp)) = λ seat. (held_on (seats_in st m u seeds) seat).grids in
      let run = transcript_of (drilled_ways (part_ways mover_ways)) s masks (drilled_all s st.orders (movers_on s (seats_in st m u seeds))) in
      run_makes_play run (down_after (down_moving st) masks) own (moves_share run (down_after (down_moving st) masks) own (by st m u can seeds nobody masks allowed))

  pub down_in_move : (seat : ℕ) → 1 ≤ seat → seat ≤ st.now.n + m → down_after (down_moving st) masks seat ≡ down_moving st seat
  down_in_move seat from to =
      let s : Shape = moving_of st m u in
      let own : ℕ → List (List (List Fp)) = λ seat. (held_on (seats_in st m u seeds) seat).grids in
      let all_in =
      moves_in_masks (drilled_ways (part_ways mover_ways)) (drilled_is (part_is (λ (a b : Mover). a ≡ b))) s masks (drilled_all s st.orders (movers_on s (seats_in st m u seeds))) (down_moving st) own
      (begins_with st m u can seeds nobody masks allowed (down_moving st) (λ seat up. up)) nobody allowed.1 (λ round seat lt honest. none_in seat) in
      same_after (down_moving st) masks seat
      (λ up. has_each masks seat (λ k lt. all_in k seat (omega (arith, lt, long st m u can seeds nobody masks allowed)) (record { from = from; to = to; up = up })))
