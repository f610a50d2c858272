-- One member's part in a refresh: what a seat has in the end, and that it is what the play of the run defines.
use Rattle.std.specs.Prelude.{◌≡◌, ℕ, List, [], get_or, map}
use Rattle.algebra61.specs.Field.{Fp, fe, zeroₚ, ◌+ₚ◌, ◌*ₚ◌}
use Rattle.talk.specs.declared.part.Part.{Part}
use Rattle.talk.specs.declared.part.Part.TheVariants.{Away, In}
use Rattle.talk.specs.Part.{part_is}
use Rattle.talk.specs.Shape.{Shape}
use Rattle.plays.specs.Play.{Play, seat_of}
use Rattle.plays.specs.Said.{places}
use Rattle.plays.specs.Stage.{IsTurn, receiver_at}
use Rattle.members.specs.Shares.{IsDone, member_share, accepted_in, accepted_count}
use Rattle.members.specs.Laws.{member_done}
use Rattle.periods.specs.Refresh.{refreshed_share}
use Rattle.periods.specs.Keeper.{Keeper, IsKeeper}
use Rattle.sharer.specs.Sharer.{MadeFor}

-- a keeper is made for what its member is made for, and speaks in its member's turn
abbrev pub keeper_made_for : Keeper → Shape → ℕ → Type 0
keeper_made_for keeper shape seat = MadeFor keeper.member shape seat

abbrev pub keeper_may : Keeper → ℕ → Type 0
keeper_may keeper round = IsTurn round keeper.member.stage

-- ---- in the end
-- a keeper's new share in a lane: its point times the sum of its shares is added to its old one
abbrev pub keeper_share : Keeper → ℕ → Fp
keeper_share keeper lane =
    get_or keeper.old lane zeroₚ +ₚ fe (receiver_at keeper.member.shape keeper.member.seat) *ₚ member_share keeper.member lane

abbrev pub keeper_shares : Keeper → List Fp
keeper_shares keeper = map (keeper_share keeper) (places 5)

-- the seat takes part, and all rounds are heard
abbrev pub HasResult : Part Keeper → Type 0
HasResult Away = ⊥
HasResult (In keeper) = IsDone keeper.member.stage

-- its new shares, lane by lane; none where it is away
abbrev pub shares_in : Part Keeper → List Fp
shares_in Away = []
shares_in (In keeper) = keeper_shares keeper

-- how many instances are accepted, as the seat knows it
abbrev pub accepted_by : Part Keeper → ℕ
accepted_by Away = 0
accepted_by (In keeper) = accepted_in keeper.member.stage

-- ---- the law
-- the shares, lane by lane, that a receiver with these old ones has after the refresh that a play is
abbrev pub refreshed_shares : Play → ℕ → List Fp → List Fp
refreshed_shares play receiver old = map (λ lane. refreshed_share play lane receiver (get_or old lane zeroₚ)) (places 5)

-- the seat has shares, these are what the play makes of the old ones, and it counts the play's accepted instances
pub record HasRefreshed (play : Play) (receiver : ℕ) (old : List Fp) (party : Part Keeper) : Type 0 where
  pub done : HasResult party
  pub shares : shares_in party ≡ refreshed_shares play receiver old
  pub accepted : accepted_by party ≡ accepted_count play

-- so it is of each seat that ends where a play defines for its receiver, with the old shares of its seat
abbrev pub EndsRefreshed : Type 0
EndsRefreshed =
    (play : Play) (own : ℕ → List (List (List Fp))) (old : ℕ → List Fp) (receiver : ℕ) (party : Part Keeper) →
    part_is (IsKeeper old) party (member_done play own receiver) →
    HasRefreshed play receiver (old (seat_of play.shape receiver)) party
