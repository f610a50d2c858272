-- The meaning of `refresh NAME` and `refresh NAME DRILL`.
use Rattle.std.specs.Prelude.{◌≡◌, ℕ, ◌-◌, List, length, Option, Some, None, Result, Ok}
use Rattle.algebra61.specs.Field.{Fp}
use Rattle.chance61.specs.Draws.{grids_drawn}
use Rattle.talk.specs.declared.part.Part.{Part}
use Rattle.talk.specs.declared.part.Part.TheVariants.{Away, In}
use Rattle.talk.specs.Part.{part_ways}
use Rattle.talk.specs.Shape.{Shape, instances, refresh_shape}
use Rattle.plays.specs.Play.{Play}
use Rattle.members.specs.Shares.{accepted_count}
use Rattle.periods.specs.Keeper.{Keeper, keeper_at, keeper_ways}
use Rattle.zeroshare.specs.Refresh.{refreshed_shares}
use Rattle.shelf.specs.Held.{Held, Change}
use Rattle.keyroom.specs.declared.status.Status.{Status}
use Rattle.keyroom.specs.Outcome.{Outcome, done_with, ThenDo, AreFirst}
use Rattle.keyroom.specs.Texts.{refresh_text}
use Rattle.commands.specs.Late.{down_after, enough_after, ended}
use Rattle.commands.specs.Links.{next_now}
use Rattle.commands.specs.Period.{next_changes, up_members}
use Rattle.commands.specs.Run.{numbered, AreMasks, phase_play}
use Rattle.commands.specs.Standing.{Standing, next_asked, down_in, seeds_for, Holding, holdings, held_on}

-- steps: as `next_asked` has them, for the setting of a refresh
abbrev pub refresh_asked : List ℕ → Option (List ℕ) → Held → Result Standing Status
refresh_asked = next_asked (λ now. refresh_shape now.n now.t)

-- the setting
abbrev pub setting_of : Standing → Shape
setting_of st = refresh_shape st.now.n st.now.t

-- a member takes part with its shares before, and draws its grids from its seed: they have degree T - 1
abbrev pub keeping : ℕ → ℕ → List Fp → List ℕ → Holding
keeping degree index lanes seed = record { old = lanes; grids = grids_drawn degree seed }

-- what the members take part with
abbrev pub holdings_in : Standing → List (List ℕ) → List (Option Holding)
holdings_in st seeds = holdings (keeping (st.now.t - 1)) 1 st.files seeds

-- a member before the first round
abbrev pub keeper_on : Shape → ℕ → Option Holding → Part Keeper
keeper_on s seat None = Away
keeper_on s seat (Some holding) = In (keeper_at s seat holding.grids holding.old)

-- all of them, by seat
abbrev pub keepers_on : Shape → List (Option Holding) → List (Part Keeper)
keepers_on s held = numbered (keeper_on s) 1 held

-- the masks are ones that the words of the drilled members allow, where these were cut
abbrev pub AreRefreshMasks : Standing → List (List ℕ) → (ℕ → ℕ) → List ℕ → Type 0
AreRefreshMasks st seeds cuts masks = AreMasks (part_ways keeper_ways) (setting_of st) st.orders (keepers_on (setting_of st) (holdings_in st seeds)) cuts masks

-- the play of a refresh: who is drilled, has no valid share file or is late is down
abbrev pub play_refreshed : Standing → List (List ℕ) → List ℕ → Play
play_refreshed st seeds masks =
    phase_play (part_ways keeper_ways) (setting_of st) (down_after (down_in st) masks) (λ seat. (held_on (holdings_in st seeds) seat).grids)
    st.orders (keepers_on (setting_of st) (holdings_in st seeds)) masks

-- the shares of member j before
abbrev pub old_shares : Standing → List (List ℕ) → ℕ → List Fp
old_shares st seeds j = (held_on (holdings_in st seeds) j).old

-- and after, in the five lanes
abbrev pub new_shares : Standing → List (List ℕ) → Play → ℕ → List Fp
new_shares st seeds p j = refreshed_shares p j (old_shares st seeds j)

-- the changes: the next period begins, and each member that isn't down has its refreshed shares
abbrev pub refresh_changes : Standing → List (List ℕ) → Play → List Change
refresh_changes st seeds p = next_changes st.now (next_now st.now p.down) p.down (new_shares st seeds p)

-- what is printed: the masks, how many instances are accepted, and who got a share file
abbrev pub refreshed_text : Standing → List ℕ → Play → List ℕ
refreshed_text st masks p = refresh_text (next_now st.now p.down) masks (accepted_count p) (instances p.shape) (up_members st.now.n p.down)

abbrev pub refresh_outcome : Standing → List (List ℕ) → List ℕ → Play → Outcome
refresh_outcome st seeds masks p = done_with (seeds_for st) (refresh_changes st seeds p) (refreshed_text st masks p)

-- what a play of a refresh comes to: the next period of the committee, where enough members are left
abbrev pub refresh_end : Standing → List (List ℕ) → List ℕ → Play → Outcome
refresh_end st seeds masks p = ended (seeds_for st) (enough_after st.now.n st.now.t p.down) (refresh_outcome st seeds masks p)

-- with all that known: there is a seed for each valid share file, by index, the first of those to come, and the phase is
-- the play of its run
abbrev pub Refreshes : Option (List (List ℕ)) → (ℕ → ℕ) → List ℕ → Standing → Outcome → Type 0
Refreshes coming cuts masks st outcome =
    (seeds : List (List ℕ)) × (length seeds ≡ seeds_for st) × AreFirst seeds coming × AreRefreshMasks st seeds cuts masks
    × (outcome ≡ refresh_end st seeds masks (play_refreshed st seeds masks))

-- the steps, then the seeds are taken and the phase is run, under these masks
abbrev pub MeansRefresh : List ℕ → Option (List ℕ) → Held → Option (List (List ℕ)) → (ℕ → ℕ) → List ℕ → Outcome → Type 0
MeansRefresh name drill held coming cuts masks = ThenDo (refresh_asked name drill held) (Refreshes coming cuts masks)

-- a refresh takes so many seeds: it may go on, and takes one for each valid share file
abbrev pub RefreshTakes : List ℕ → Option (List ℕ) → Held → ℕ → Type 0
RefreshTakes name drill held count = (st : Standing) × (refresh_asked name drill held ≡ Ok st) × (count ≡ seeds_for st)
