-- The meaning of `create NAME N T` and `create NAME N T DRILL`.
use Rattle.std.specs.Prelude.{◌≡◌, ℕ, ◌-◌, Bool, List, [], length, map, get_or, Option, Result, Ok}
use Rattle.algebra61.specs.Field.{Fp}
use Rattle.chance61.specs.Draws.{grids_drawn}
use Rattle.talk.specs.Shape.{Shape, instances, create_shape}
use Rattle.plays.specs.Play.{Play, created_share}
use Rattle.plays.specs.Said.{places}
use Rattle.members.specs.Member.{Member, member_at, member_ways}
use Rattle.members.specs.Shares.{accepted_count}
use Rattle.drillbook.specs.declared.order.Order.{Order}
use Rattle.drillbook.specs.Orders.{names}
use Rattle.shelf.specs.Held.{Held, Change}
use Rattle.sharefile.specs.Files.{Now}
use Rattle.keyroom.specs.declared.status.Status.{Status}
use Rattle.keyroom.specs.Names.{now_name}
use Rattle.keyroom.specs.Outcome.{Outcome, done_with, ThenDo, AreFirst}
use Rattle.keyroom.specs.Steps.{free_of, ◌and_then◌}
use Rattle.keyroom.specs.Texts.{create_text}
use Rattle.commands.specs.Drill.{drill_of}
use Rattle.commands.specs.Late.{down_after, enough_after, ended}
use Rattle.commands.specs.Run.{numbered, AreMasks, phase_play}
use Rattle.commands.specs.Period.{period_changes, up_members}
use Rattle.commands.specs.Links.{first_link, first_now}

-- step: the now file must not be held, and the drill is read
abbrev pub create_asked : List ℕ → Shape → Option (List ℕ) → Held → Result (List Order) Status
create_asked name s drill held = free_of (now_name name) held and_then λ free. drill_of s drill held

-- the grids that each member deals, by index: five that it draws from its seed, lane by lane
abbrev pub dealt_by : ℕ → List (List ℕ) → List (List (List (List Fp)))
dealt_by degree seeds = map (grids_drawn degree) seeds

-- those of the member on a seat
abbrev pub grids_on : List (List (List (List Fp))) → ℕ → List (List (List Fp))
grids_on dealt seat = get_or dealt (seat - 1) []

-- the members before the first round, by seat, each with the grids that it deals
abbrev pub members_on : Shape → List (List (List (List Fp))) → List Member
members_on s dealt = numbered (member_at s) 1 dealt

-- the play of their run, where `down` says who is down
abbrev pub create_play : Shape → (ℕ → Bool) → List Order → List (List (List (List Fp))) → List ℕ → Play
create_play s down orders dealt masks = phase_play member_ways s down (grids_on dealt) orders (members_on s dealt) masks

-- the five lanes of member j
abbrev pub created_shares : Play → ℕ → List Fp
created_shares p j = map (λ lane. created_share p lane j) (places 5)

-- the changes: the first period begins, and each member that isn't down has the play's shares
abbrev pub create_changes : Now → Play → List Change
create_changes now p = period_changes now p.down (created_shares p)

-- what is printed: the masks, how many instances are accepted, and who got a share file
abbrev pub created_text : Now → List ℕ → Play → List ℕ
created_text now masks p = create_text now masks (accepted_count p) (instances p.shape) (up_members now.n p.down)

-- the outcome, with one seed for each member, by index
abbrev pub create_outcome : Now → List ℕ → Play → Outcome
create_outcome now masks p = done_with now.n (create_changes now p) (created_text now masks p)

-- the masks are ones that the words of the drilled members allow, where these were cut
abbrev pub AreCreateMasks : ℕ → ℕ → List Order → List (List ℕ) → (ℕ → ℕ) → List ℕ → Type 0
AreCreateMasks n t orders seeds cuts masks = AreMasks member_ways (create_shape n t) orders (members_on (create_shape n t) (dealt_by t seeds)) cuts masks

-- the play of a create: who is drilled or late is down
abbrev pub play_created : ℕ → ℕ → List Order → List (List ℕ) → List ℕ → Play
play_created n t orders seeds masks = create_play (create_shape n t) (down_after (names orders) masks) orders (dealt_by t seeds) masks

-- what a play of a create comes to: the first period of the committee with these members down, where enough are left
abbrev pub create_end : List ℕ → ℕ → ℕ → List ℕ → Play → Outcome
create_end name n t masks p = ended n (enough_after n t p.down) (create_outcome (first_now name n t (first_link name n t p.down)) masks p)

-- with the name free and the drill read: there are as many seeds as members, the first of those to come, and the phase is
-- the play of its run
abbrev pub Creates : List ℕ → ℕ → ℕ → Option (List (List ℕ)) → (ℕ → ℕ) → List ℕ → List Order → Outcome → Type 0
Creates name n t coming cuts masks orders outcome =
    (seeds : List (List ℕ)) × (length seeds ≡ n) × AreFirst seeds coming × AreCreateMasks n t orders seeds cuts masks
    × (outcome ≡ create_end name n t masks (play_created n t orders seeds masks))

-- the now file must not be held; then the drill is read, the seeds are taken and the phase is run, under these masks
abbrev pub MeansCreate : List ℕ → ℕ → ℕ → Option (List ℕ) → Held → Option (List (List ℕ)) → (ℕ → ℕ) → List ℕ → Outcome → Type 0
MeansCreate name n t drill held coming cuts masks = ThenDo (create_asked name (create_shape n t) drill held) (Creates name n t coming cuts masks)

-- A create takes so many seeds: its now file isn't held, its drill, if one is named, is there and is read, and it takes one for
-- each member.
abbrev pub CreateTakes : List ℕ → ℕ → ℕ → Option (List ℕ) → Held → ℕ → Type 0
CreateTakes name n t drill held count = (count ≡ n) × ((orders : List Order) × (create_asked name (create_shape n t) drill held ≡ Ok orders))
