-- What a command finds that begins the next period of a key, and what the members take part with.
use Rattle.std.specs.Prelude.{◌≡◌, ℕ, ◌+◌, ◌-◌, Bool, List, [], ◌∷◌, get_or, drop, count_by, Option, Some, None, Result, Ok}
use Rattle.algebra61.specs.Field.{Fp}
use Rattle.talk.specs.Shape.{Shape}
use Rattle.drillbook.specs.declared.order.Order.{Order}
use Rattle.drillbook.specs.Orders.{names}
use Rattle.shelf.specs.Held.{Held}
use Rattle.sharefile.specs.Files.{Now, IsNow}
use Rattle.keyroom.specs.declared.status.Status.{Status}
use Rattle.keyroom.specs.declared.steps.Found.{Found}
use Rattle.keyroom.specs.declared.steps.Found.TheVariants.{Absent, Invalid, Valid}
use Rattle.keyroom.specs.Sound.{is_valid, is_down, sound_among, enough_sound, next_period_of}
use Rattle.keyroom.specs.Steps.{now_of, files_of, ◌and_then◌}
use Rattle.commands.specs.Drill.{drill_of}

-- where the key stands, its members' share files, and whom the drill tells what
pub record Standing : Type 0 where
  pub now : Now
  pub files : List Found
  pub orders : List Order

-- steps: enough members must be sound, and there must be a next period
abbrev pub may_go_on : Now → List Found → List Order → Result ℕ Status
may_go_on now files orders = enough_sound now (sound_among (names orders) files) and_then λ enough. next_period_of now

-- steps: get the share files, read the drill for the phase's setting, and see that the key may go on to its next period
abbrev pub standing_at : Shape → Option (List ℕ) → Held → Now → Result Standing Status
standing_at s drill held now =
    drill_of s drill held and_then λ orders.
    may_go_on now (files_of now held) orders and_then λ period.
    Ok (record { now = now; files = files_of now held; orders = orders })

-- steps: get NAME.now, and then these, where the setting is told of the now file
abbrev pub next_asked : (Now → Shape) → List ℕ → Option (List ℕ) → Held → Result Standing Status
next_asked setting name drill held = now_of name held and_then λ now. standing_at (setting now) drill held now

-- which of the members are down: who is drilled or has no valid share file
abbrev pub down_in : Standing → ℕ → Bool
down_in st = is_down (names st.orders) st.files

-- how many seeds are taken: one for each valid share file
abbrev pub seeds_for : Standing → ℕ
seeds_for st = count_by is_valid st.files

-- what a shelf that was read tells of a key's now file: its fields are in their ranges
abbrev pub HasSoundNow : List ℕ → Held → Type 0
HasSoundNow name held = (before : Now) → now_of name held ≡ Ok before → IsNow before

-- ---- what the members take part with
-- what a member takes part with: its shares, and the grids that it deals
pub record Holding : Type 0 where
  pub old : List Fp
  pub grids : List (List (List Fp))

-- by member, from the member `index` on: with a valid share file it takes part with what `take` makes of its index, its
-- shares and the next seed; without one it is away
abbrev pub holdings : (ℕ → List Fp → List ℕ → Holding) → ℕ → List Found → List (List ℕ) → List (Option Holding)
holdings take index [] seeds = []
holdings take index (Absent ∷ files) seeds = None ∷ holdings take (index + 1) files seeds
holdings take index (Invalid ∷ files) seeds = None ∷ holdings take (index + 1) files seeds
holdings take index (Valid file ∷ files) seeds = Some (take index file.lanes (get_or seeds 0 [])) ∷ holdings take (index + 1) files (drop 1 seeds)

abbrev pub holding_or_none : Option Holding → Holding
holding_or_none None = record { old = []; grids = [] }
holding_or_none (Some holding) = holding

-- what the member on a seat takes part with
abbrev pub held_on : List (Option Holding) → ℕ → Holding
held_on held seat = holding_or_none (get_or held (seat - 1) None)
