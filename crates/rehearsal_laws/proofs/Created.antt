-- The create of a rehearsal.
use Rattle.std.proofs.Common.{◌≡◌, ℕ, ◌-◌, ◌≤◌, List, [], length, get_or, Option, sym, ◌∙◌, subst, arith}
use Rattle.std.proofs.lemmas.List.{get_or-map}
use Rattle.std.proofs.lemmas.List.FromFn.{length-map-range_with_len}
use Rattle.algebra61.specs.Field.{Fp}
use Rattle.bivar61.specs.Grids.{IsGrid}
use Rattle.chance61.specs.Draws.{grids_drawn}
use Rattle.sizes.specs.Committees.{IsCommittee}
use Rattle.sizes.specs.Instances.{dealer_of, lane_of}
use Rattle.talk.specs.Shape.{create_shape, seats}
use Rattle.plays.specs.Law.{IsPlay}
use Rattle.plays.proofs.Ends.{lane_below}
use Rattle.members.specs.Member.{Member, member_ways}
use Rattle.playback.proofs.Formed.{dealer_most}
use Rattle.drillbook.specs.declared.order.Order.{Order}
use Rattle.drillbook.specs.Orders.{names}
use Rattle.hearsay.specs.Record.{HasGrids}
use Rattle.commands.specs.Create.{dealt_by, grids_on, members_on}
use Rattle.commands.proofs.Created.{starts}
use Rattle.commands.proofs.Phases.{Starts}
use Rattle.scenes.specs.declared.side.Side.{Side}
use Rattle.scenes.specs.declared.scene.Scene.TheVariants.{Create}
use Rattle.scenes.specs.Law.{AreSides}
use Rattle.scenes.specs.Lawful.{AreOrders}
use Rattle.scenes.specs.Numbers.{seed_of}
use Rattle.scenes.specs.Orders.{orders_of}
use Rattle.rehearsal_laws.specs.Standing.{first_seeds}
use Rattle.rehearsal_laws.specs.Played.{AreUncut, play_under}
use Rattle.rehearsal_laws.specs.Down.{down_on}
use Rattle.rehearsal_laws.proofs.Drawn.{drawn_grid}
use Rattle.rehearsal_laws.proofs.Fitting.{side_committee}
use Rattle.rehearsal_laws.proofs.Uncut.{play_of_five, down_in_five}

module _ (number place : ℕ) (side : Side) (shares : List (Option (List Fp))) (sides : AreSides (Create side)) (told : AreOrders (Create side)) (masks : List ℕ) (uncut : AreUncut number place (Create side) shares masks) where
  abbrev seeds : List (List ℕ)
  seeds = first_seeds number side.members

  abbrev orders : List Order
  orders = orders_of (Create side)

  pub all : length (first_seeds number side.members) ≡ side.members
  all = length-map-range_with_len (seed_of number 0) 1 side.members

  pub begin : Starts member_ways (λ (m x : Member). m ≡ x) side.members side.bound side.bound orders (names orders) (grids_on (dealt_by side.bound seeds)) (members_on (create_shape side.members side.bound) (dealt_by side.bound seeds))
  begin = starts side.members side.bound (side_committee side sides.0) orders seeds all

  pub create_is_play : IsPlay (play_under number place (Create side) shares masks)
  create_is_play =
      play_of_five member_ways (λ (m x : Member). m ≡ x) side.members side.bound side.bound orders (names orders) (grids_on (dealt_by side.bound seeds)) (members_on (create_shape side.members side.bound) (dealt_by side.bound seeds)) begin masks uncut.0

  pub create_down : (seat : ℕ) → 1 ≤ seat → seat ≤ seats (create_shape side.members side.bound) → (play_under number place (Create side) shares masks).down seat ≡ down_on (Create side) seat
  create_down seat from to =
      down_in_five member_ways (λ (m x : Member). m ≡ x) side.members side.bound side.bound orders (names orders) (grids_on (dealt_by side.bound seeds)) (members_on (create_shape side.members side.bound) (dealt_by side.bound seeds)) begin masks uncut.0
      uncut.1 seat from (omega (arith, to))
      ∙ told.named seat

  pub create_has_grids : HasGrids (play_under number place (Create side) shares masks)
  create_has_grids i lt up =
      let dealer : dealer_of i ≤ side.members = dealer_most (create_shape side.members side.bound) i lt in
      let committee : IsCommittee side.members side.bound = side_committee side sides.0 in
      subst (λ (grids : List (List (List Fp))). IsGrid side.bound (get_or grids (lane_of i) [])) (sym (get_or-map (grids_drawn side.bound) seeds (dealer_of i - 1) [] [] (omega (arith, dealer, all))))
      (drawn_grid side.bound (get_or seeds (dealer_of i - 1) []) (lane_of i) (omega (arith, committee.third, committee.most)) (lane_below i))
