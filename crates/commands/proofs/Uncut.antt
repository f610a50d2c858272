-- Where nobody is cut nobody is late.
use Rattle.std.proofs.Common.{◌≡◌, ℕ, ◌≤◌, Bool, true, false, ◌||◌, not, List, Option, Ok, refl, ap, ◌∙◌, subst, arith}
use Rattle.sharing61.specs.Count.{how_many}
use Rattle.sharing61.proofs.Count.{how_many_same}
use Rattle.talk.specs.Shape.{create_shape}
use Rattle.drillbook.specs.declared.order.Order.{Order}
use Rattle.drillbook.specs.Orders.{names}
use Rattle.shelf.specs.Held.{Held}
use Rattle.keyroom.specs.declared.status.Status.TheVariants.{Done}
use Rattle.keyroom.specs.Outcome.{Outcome, ThenDo}
use Rattle.keyroom.specs.Words.{Create, IsInRange}
use Rattle.commands.specs.Create.{create_asked, Creates, create_outcome, play_created}
use Rattle.commands.specs.Late.{in_each, down_after, IsLate, WasCut}
use Rattle.commands.specs.Links.{first_link, first_now}
use Rattle.commands.specs.Refresh.{refresh_asked, Refreshes, refresh_outcome, play_refreshed}
use Rattle.commands.specs.Standing.{Standing, down_in, seeds_for}
use Rattle.commands.specs.Uncut.{IsUncut, LateInCreate, LateInRefresh, UncutCreatesAreDone, UncutRefreshesAreDone}
use Rattle.commands.proofs.Committees.{committee_of}
use Rattle.commands.proofs.Created.{create_late, few_named}
use Rattle.commands.proofs.Creating.{few_asked}
use Rattle.commands.proofs.Keeping.{asked_committee, asked_files, asked_few}
use Rattle.commands.proofs.Late.{each_uncut, few_enough}
use Rattle.commands.proofs.Refreshed.{refresh_late}

-- ---- who is late was cut
pub late_in_create : LateInCreate
late_in_create name n t drill orders seeds cuts masks j range all allowed from to late =
    create_late n t (committee_of n t range.1 range.2) orders seeds all cuts masks allowed j from to late

pub late_in_refresh : LateInRefresh
late_in_refresh name drill held st seeds cuts masks j asked allowed from to late =
    refresh_late st (asked_committee name drill held st asked) (asked_files name drill held st asked) seeds cuts masks allowed j from to late

-- ---- so as many are down as before
same_cases : (b e : Bool) → (b ≡ false → e ≡ true) → (b || not e) ≡ b
same_cases true e h = refl
same_cases false e h = ap not (h refl)

pub same_down : (n : ℕ) (before : ℕ → Bool) (cuts : ℕ → ℕ) (masks : List ℕ) (rounds : ℕ) → IsUncut cuts → ((j : ℕ) → 1 ≤ j → j ≤ n → IsLate before masks j → WasCut cuts rounds j) →
    how_many n (down_after before masks) ≡ how_many n before
same_down n before cuts masks rounds uncut was =
    how_many_same n (down_after before masks) before
    (λ j from to. same_cases (before j) (in_each masks j) (λ up. each_uncut before masks j up cuts uncut rounds (was j from to)))

-- ---- and the command is done
created_done : (name : List ℕ) (n t : ℕ) (drill : Option (List ℕ)) (held : Held) (orders : List Order) (coming : Option (List (List ℕ))) (cuts : ℕ → ℕ) (masks : List ℕ) (outcome : Outcome) →
    IsInRange (Create name n t drill) → create_asked name (create_shape n t) drill held ≡ Ok orders → IsUncut cuts → Creates name n t coming cuts masks orders outcome → outcome.status ≡ Done
created_done name n t drill held orders coming cuts masks outcome range asked uncut c =
    let same = same_down n (names orders) cuts masks 5 uncut (λ j from to late. late_in_create name n t drill orders c.0 cuts masks j range c.1 c.3 from to late) in
    let end : Outcome = create_outcome (first_now name n t (first_link name n t (down_after (names orders) masks))) masks (play_created n t orders c.0 masks) in
    ap (λ (o : Outcome). o.status) (c.4 ∙ few_enough n n t (down_after (names orders) masks) end (omega (arith, same, few_named orders n, few_asked name n t drill held orders asked)))

refreshed_done : (name : List ℕ) (drill : Option (List ℕ)) (held : Held) (st : Standing) (coming : Option (List (List ℕ))) (cuts : ℕ → ℕ) (masks : List ℕ) (outcome : Outcome) →
    refresh_asked name drill held ≡ Ok st → IsUncut cuts → Refreshes coming cuts masks st outcome → outcome.status ≡ Done
refreshed_done name drill held st coming cuts masks outcome asked uncut c =
    let same = same_down st.now.n (down_in st) cuts masks 5 uncut (λ j from to late. late_in_refresh name drill held st c.0 cuts masks j asked c.3 from to late) in
    let end : Outcome = refresh_outcome st c.0 masks (play_refreshed st c.0 masks) in
    ap (λ (o : Outcome). o.status) (c.4 ∙ few_enough (seeds_for st) st.now.n st.now.t (down_after (down_in st) masks) end (omega (arith, same, asked_few name drill held st asked)))

pub uncut_creates_are_done : UncutCreatesAreDone
uncut_creates_are_done name n t drill held orders coming cuts masks outcome range asked uncut means =
    created_done name n t drill held orders coming cuts masks outcome range asked uncut (subst (λ r. ThenDo r (Creates name n t coming cuts masks) outcome) asked means)

pub uncut_refreshes_are_done : UncutRefreshesAreDone
uncut_refreshes_are_done name drill held st coming cuts masks outcome asked uncut means =
    refreshed_done name drill held st coming cuts masks outcome asked uncut (subst (λ r. ThenDo r (Refreshes coming cuts masks) outcome) asked means)
