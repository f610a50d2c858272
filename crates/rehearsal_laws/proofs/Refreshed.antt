-- A refresh of a rehearsal.
use Rattle.std.proofs.Common.{◌≡◌, ℕ, ◌-◌, ◌≤◌, List, [], get_or, Option, sym, ◌∙◌, subst, arith}
use Rattle.algebra61.specs.Field.{Fp}
use Rattle.bivar61.specs.Grids.{IsGrid}
use Rattle.sizes.specs.Committees.{IsCommittee}
use Rattle.sizes.specs.Instances.{dealer_of, lane_of}
use Rattle.talk.specs.Part.{part_ways, part_is}
use Rattle.talk.specs.Shape.{refresh_shape, seats}
use Rattle.talk.specs.Sync.{has}
use Rattle.plays.specs.Law.{IsPlay}
use Rattle.plays.proofs.Ends.{lane_below}
use Rattle.periods.specs.Keeper.{keeper_ways, IsKeeper}
use Rattle.drillbook.specs.Orders.{names}
use Rattle.hearsay.specs.Record.{HasGrids}
use Rattle.commands.specs.Phase.{shares_given}
use Rattle.commands.specs.Refresh.{keeping, setting_of, holdings_in, keepers_on, old_shares}
use Rattle.commands.specs.Standing.{Standing, Holding, down_in, holding_or_none, held_on}
use Rattle.commands.proofs.Holdings.{takes_part, up_is}
use Rattle.commands.proofs.Late.{after_up}
use Rattle.commands.proofs.Phases.{Starts}
use Rattle.commands.proofs.Refreshed.{starts}
use Rattle.scenes.specs.declared.side.Side.{Side}
use Rattle.scenes.specs.declared.scene.Scene.TheVariants.{Refresh}
use Rattle.scenes.specs.Law.{AreSides}
use Rattle.scenes.specs.Lawful.{AreOrders}
use Rattle.rehearsal_laws.specs.Standing.{now_before, standing_before, later_seeds}
use Rattle.rehearsal_laws.specs.Played.{AreUncut, play_under}
use Rattle.rehearsal_laws.specs.Down.{down_on}
use Rattle.rehearsal_laws.proofs.Drawn.{drawn_grid}
use Rattle.rehearsal_laws.proofs.Files.{length_files, down_by_files}
use Rattle.rehearsal_laws.proofs.Fitting.{side_committee}
use Rattle.rehearsal_laws.proofs.Uncut.{play_of_five, down_in_five}

module _ (number place : ℕ) (side : Side) (lanes : ℕ → List Fp) (sides : AreSides (Refresh side)) (told : AreOrders (Refresh side)) (masks : List ℕ)
    (uncut : AreUncut number place (Refresh side) (shares_given (has side.shareless) lanes side.members) masks) where
  abbrev shares : List (Option (List Fp))
  shares = shares_given (has side.shareless) lanes side.members

  abbrev st : Standing
  st = standing_before place (Refresh side) shares

  abbrev seeds : List (List ℕ)
  seeds = later_seeds number place side

  pub committee : IsCommittee side.members side.bound
  committee = side_committee side sides.0

  abbrev own : ℕ → List (List (List Fp))
  own seat = (held_on (holdings_in st seeds) seat).grids

  pub begin : Starts (part_ways keeper_ways) (part_is (IsKeeper (λ j. old_shares st seeds j))) side.members side.bound (side.bound - 1) st.orders (down_in st) own (keepers_on (setting_of st) (holdings_in st seeds))
  begin = starts st committee (length_files (now_before place side) (has side.shareless) lanes side.members) seeds

  pub refresh_is_play : IsPlay (play_under number place (Refresh side) (shares_given (has side.shareless) lanes side.members) masks)
  refresh_is_play =
      play_of_five (part_ways keeper_ways) (part_is (IsKeeper (λ j. old_shares st seeds j))) side.members side.bound (side.bound - 1) st.orders (down_in st) own (keepers_on (setting_of st) (holdings_in st seeds)) begin masks uncut.0

  pub refresh_down : (seat : ℕ) → 1 ≤ seat → seat ≤ seats (refresh_shape side.members side.bound) → (play_under number place (Refresh side) (shares_given (has side.shareless) lanes side.members) masks).down seat ≡ down_on (Refresh side) seat
  refresh_down seat from to =
      down_in_five (part_ways keeper_ways) (part_is (IsKeeper (λ j. old_shares st seeds j))) side.members side.bound (side.bound - 1) st.orders (down_in st) own (keepers_on (setting_of st) (holdings_in st seeds)) begin masks uncut.0
      uncut.1 seat from (omega (arith, to))
      ∙ down_by_files (names st.orders) (now_before place side) side lanes seat from (omega (arith, to)) (told.named seat)

  pub refresh_has_grids : HasGrids (play_under number place (Refresh side) (shares_given (has side.shareless) lanes side.members) masks)
  refresh_has_grids i lt up =
      let seat : ℕ = dealer_of i in
      let here = takes_part (keeping (side.bound - 1)) 1 st.files seeds (dealer_of i - 1) (dealer_of i) (omega arith) (up_is st (dealer_of i) (after_up (down_in st) masks (dealer_of i) up).0).1 in
      subst (λ (h : Option Holding). IsGrid (side.bound - 1) (get_or (holding_or_none h).grids (lane_of i) [])) (sym here.is)
      (drawn_grid (side.bound - 1) here.seed (lane_of i) (omega (arith, committee.third, committee.most)) (lane_below i))
