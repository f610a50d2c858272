-- What a phase leaves, read off the members' minds.
use Rattle.std.specs.Prelude.{◌≡◌, ℕ, ◌+◌, ◌-◌, ◌<◌, ◌≤◌, Bool, true, false, cond, List, [], ◌∷◌, ◌++◌, length, map, get_or, Option, Some, None, Result, Ok, Err}
use Rattle.std.specs.List.{range_with_len}
use Rattle.algebra61.specs.Field.{Fp}
use Rattle.sharing61.specs.Count.{how_many}
use Rattle.talk.specs.Shape.{Shape, rounds}
use Rattle.talk.specs.Sync.{Ways, AllAllowed, all_seats, sync}
use Rattle.plays.specs.Play.{Play}
use Rattle.members.specs.Shares.{accepted_count}
use Rattle.drillbook.specs.declared.order.Order.{Order}
use Rattle.drillbook.specs.Word.{DrilledMind, drilled_ways}
use Rattle.shelf.specs.Held.{Change, Put}
use Rattle.sharefile.specs.Files.{Now, IsNow, now_bytes}
use Rattle.keyroom.specs.Names.{now_name}
use Rattle.commands.specs.Period.{removals, put_with}
use Rattle.commands.specs.Create.{AreCreateMasks, play_created, created_shares, create_end}
use Rattle.keyroom.specs.declared.plan.Plan.{Plan}
use Rattle.keyroom.specs.declared.status.Status.{Status}
use Rattle.keyroom.specs.Causes.{Refusal, cause_of}
use Rattle.keyroom.specs.Outcome.{Outcome}
use Rattle.keyroom.specs.Changes.{outcome_of}
use Rattle.commands.specs.Late.{down_after, refused_after}
use Rattle.commands.specs.Standing.{Standing, down_in}
use Rattle.commands.specs.Refresh.{AreRefreshMasks, play_refreshed, new_shares, refresh_end}
use Rattle.commands.specs.declared.standing.Asked.{Asked}
use Rattle.commands.specs.declared.phase.Phase.{Phase}

-- whether the marks, by member, mark the member on a seat
abbrev pub marked : List Bool → ℕ → Bool
marked marks seat = get_or marks (seat - 1) false

-- the marks of the members 1 to n that the test holds of
abbrev pub marks_of : (ℕ → Bool) → ℕ → List Bool
marks_of down n = map down (range_with_len 1 n)

-- what a member gets: its shares, or nothing where it is down
abbrev pub unless_down : Bool → List Fp → Option (List Fp)
unless_down true shares = None
unless_down false shares = Some shares

-- where `down` says who is down, the shares of each of the members 1 to n that isn't
abbrev pub shares_given : (ℕ → Bool) → (ℕ → List Fp) → ℕ → List (Option (List Fp))
shares_given down lanes n = map (λ j. unless_down (down j) (lanes j)) (range_with_len 1 n)

module _ {M : Type 0} where
  -- every mind on a seat that isn't down is done; the first of these minds is on the seat `seat`
  abbrev pub AllDone : (M → Type 0) → (ℕ → Bool) → ℕ → List (DrilledMind M) → Type 0
  AllDone done down seat [] = Unit {0}
  AllDone done down seat (m ∷ ms) = (down seat ≡ false → done m.inner) × AllDone done down (seat + 1) ms

  -- the shares that the minds have, by seat
  abbrev pub shares_in : (M → List Fp) → (ℕ → Bool) → ℕ → List (DrilledMind M) → List (Option (List Fp))
  shares_in lanes down seat [] = []
  shares_in lanes down seat (m ∷ ms) = unless_down (down seat) (lanes m.inner) ∷ shares_in lanes down (seat + 1) ms

  -- how many instances are accepted, by the first mind that isn't down
  abbrev pub accepted_first : (M → ℕ) → (ℕ → Bool) → ℕ → List (DrilledMind M) → ℕ
  accepted_first accepted down seat [] = 0
  accepted_first accepted down seat (m ∷ ms) = cond (down seat) (accepted_first accepted down (seat + 1) ms) (accepted m.inner)

  -- whatever the masks are, the minds on the seats that aren't down under them are done after the run
  abbrev pub EndDone : Ways M → (M → Type 0) → Shape → (ℕ → Bool) → List (DrilledMind M) → Type 0
  EndDone ways done s before minds =
      (masks : List ℕ) → length masks ≡ rounds s →
      AllDone done (down_after before masks) 1 (sync (drilled_ways ways) s 1 masks minds)

  -- The masks are ones that the minds' words allow, where these were cut. The marks are those of who is down under them, and
  -- the rest is read off the minds after the run.
  pub record IsReadOff (ways : Ways M) (lanes : M → List Fp) (count : M → ℕ) (s : Shape) (before : ℕ → Bool) (cuts : ℕ → ℕ) (minds : List (DrilledMind M)) (phase : Phase) : Type 0 where
    pub all : length phase.masks ≡ rounds s
    pub allowed : AllAllowed (drilled_ways ways) s 1 (all_seats s) cuts phase.masks minds
    pub down : phase.down.items ≡ marks_of (down_after before phase.masks) (length minds)
    pub accepted : phase.accepted ≡ accepted_first count (marked phase.down.items) 1 (sync (drilled_ways ways) s 1 phase.masks minds)
    pub shares : phase.shares.items ≡ shares_in lanes (marked phase.down.items) 1 (sync (drilled_ways ways) s 1 phase.masks minds)

-- The marks are those of who is down in a play, and each of the members 1 to n that isn't has these shares. The accepted
-- instances are those of the play, where there is such a member.
pub record IsPhase (n : ℕ) (p : Play) (lanes : ℕ → List Fp) (phase : Phase) : Type 0 where
  pub down : phase.down.items ≡ marks_of p.down n
  pub accepted : how_many n p.down < n → phase.accepted ≡ accepted_count p
  pub shares : phase.shares.items ≡ shares_given p.down lanes n

-- the phase of a create
abbrev pub IsCreatePhase : ℕ → ℕ → List Order → List (List ℕ) → (ℕ → ℕ) → Phase → Type 0
IsCreatePhase n t orders seeds cuts phase =
    AreCreateMasks n t orders seeds cuts phase.masks
    × IsPhase n (play_created n t orders seeds phase.masks) (created_shares (play_created n t orders seeds phase.masks)) phase

-- what a refresh or a move finds, as the code has it
abbrev pub standing_of : Asked → Standing
standing_of asked = record { now = asked.file; files = asked.files.items; orders = asked.drill }

-- the key may go on: at most the bound is down, and there is a next period
pub record IsReady (st : Standing) : Type 0 where
  pub is_now : IsNow st.now
  pub all : length st.files ≡ st.now.n
  pub few : how_many st.now.n (down_in st) ≤ st.now.t
  pub next : st.now.period < 4294967295

-- the phase of a refresh
abbrev pub IsRefreshPhase : Standing → List (List ℕ) → (ℕ → ℕ) → Phase → Type 0
IsRefreshPhase st seeds cuts phase =
    AreRefreshMasks st seeds cuts phase.masks
    × IsPhase st.now.n (play_refreshed st seeds phase.masks) (new_shares st seeds (play_refreshed st seeds phase.masks)) phase

-- a plan, or a refusal by what the phase left, is among what is meant, with so many seeds
abbrev pub PlansAfter : (Outcome → Type 0) → ℕ → Result Plan Status → Type 0
PlansAfter means taken (Ok plan) = means (outcome_of taken plan)
PlansAfter means taken (Err status) = cause_of status ≡ Refusal → means (refused_after taken status)

-- what a create comes to with these seeds, under masks that the phase allows
abbrev pub CreateEnds : List ℕ → ℕ → ℕ → List Order → List (List ℕ) → (ℕ → ℕ) → Outcome → Type 0
CreateEnds name n t orders seeds cuts outcome =
    (masks : List ℕ) × AreCreateMasks n t orders seeds cuts masks × (outcome ≡ create_end name n t masks (play_created n t orders seeds masks))

-- the same of a refresh
abbrev pub RefreshEnds : Standing → List (List ℕ) → (ℕ → ℕ) → Outcome → Type 0
RefreshEnds st seeds cuts outcome =
    (masks : List ℕ) × AreRefreshMasks st seeds cuts masks × (outcome ≡ refresh_end st seeds masks (play_refreshed st seeds masks))

-- what f makes of each value that is there, given with its index, from `index` on
abbrev pub each_given : {A B : Type 0} → (ℕ → A → B) → ℕ → List (Option A) → List B
each_given f index [] = []
each_given f index (None ∷ rest) = each_given f (index + 1) rest
each_given f index (Some x ∷ rest) = f index x ∷ each_given f (index + 1) rest

-- the puts of those members that have shares, from the member `index` on
abbrev pub puts_of : Now → ℕ → List (Option (List Fp)) → List Change
puts_of now index shares = each_given (put_with now) index shares

-- the indexes of those members, from `index` on
abbrev pub indexes_of : {A : Type 0} → ℕ → List (Option A) → List ℕ
indexes_of index shares = each_given (λ i x. i) index shares

-- what may be left is removed, then the share files are put, and the now file last
abbrev pub period_with : Now → List (Option (List Fp)) → List Change
period_with now shares = removals now.name now.period ++ (puts_of now 1 shares ++ Put (now_name now.name) (now_bytes now) ∷ [])

-- the same between what the periods before may have left
abbrev pub next_with : Now → Now → List (Option (List Fp)) → List Change
next_with before now shares = removals before.name (before.period - 1) ++ (period_with now shares ++ removals before.name before.period)
