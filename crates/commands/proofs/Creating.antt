-- What a create means puts share files on one polynomial in each lane.
use Rattle.std.proofs.Common.{◌≡◌, ℕ, ◌≤◌, List, length, Option, Some, None, Result, Ok, Err, refl, sym, ap, ◌∙◌, subst, arith}
use Rattle.std.specs.FinMap.{get}
use Rattle.shelf.specs.Held.{Held, after}
use Rattle.sharefile.specs.declared.link.Link.{Link}
use Rattle.sharefile.specs.Files.{Now, IsNow}
use Rattle.sharing61.specs.Count.{how_many}
use Rattle.sizes.specs.Committees.{IsCommittee}
use Rattle.talk.specs.Shape.{Shape, create_shape}
use Rattle.drillbook.specs.declared.order.Order.{Order}
use Rattle.drillbook.specs.Orders.{names}
use Rattle.drillbook.specs.Text.{named_among}
use Rattle.keyroom.specs.declared.status.Status.{Status}
use Rattle.keyroom.specs.declared.status.Status.TheVariants.{Done}
use Rattle.keyroom.specs.Words.{Create, IsInRange}
use Rattle.keyroom.specs.Names.{now_name}
use Rattle.keyroom.specs.Outcome.{Outcome, ThenDo, AreFirst}
use Rattle.keyroom.specs.Steps.{free_step, free_of, ◌and_then◌}
use Rattle.keyroom.proofs.Working.{and_then_ok}
use Rattle.commands.specs.Links.{first_link, first_now}
use Rattle.commands.specs.Drill.{drill_of}
use Rattle.commands.specs.Create.{AreCreateMasks, Creates, MeansCreate, create_asked, create_changes, create_outcome, play_created}
use Rattle.commands.specs.Late.{down_after}
use Rattle.commands.specs.Agreement.{PutsOnOneLine, HeldOnOneLine, CreatesOnOneLine}
use Rattle.commands.proofs.Committees.{committee_of}
use Rattle.commands.proofs.Drills.{FromSteps, few_drill, drill_refuses}
use Rattle.commands.proofs.Created.{proper_create, create_honest}
use Rattle.commands.proofs.Late.{done_enough}
use Rattle.commands.proofs.Links.{first_is_now}
use Rattle.commands.proofs.Agreement.{puts_on_one_line, all_on_one_line}

-- ---- few are named
pub few_asked : (name : List ℕ) (n t : ℕ) (drill : Option (List ℕ)) (held : Held) (orders : List Order) → create_asked name (create_shape n t) drill held ≡ Ok orders → named_among orders 0 n ≤ t
few_asked name n t drill held orders e =
    let a = and_then_ok (free_of (now_name name) held) (λ free. drill_of (create_shape n t) drill held) orders e in
    few_drill (create_shape n t) drill held orders a.2

-- ---- a refusal isn't Done
never_free : (o : Option (List ℕ)) (drill : Result (List Order) Status) (status : Status) → (drill ≡ Err status → status ≡ Done → ⊥) → (free_step o and_then λ free. drill) ≡ Err status → status ≡ Done → ⊥
never_free None drill status h e done = h e done
never_free (Some bytes) drill status h e done = cc

never_asked : (name : List ℕ) (s : Shape) (drill : Option (List ℕ)) (held : Held) (status : Status) → create_asked name s drill held ≡ Err status → status ≡ Done → ⊥
never_asked name s drill held status e done = never_free (get held (now_name name)) (drill_of s drill held) status (λ f d. subst FromSteps d (drill_refuses s drill held status f)) e done

-- ---- the steps
-- a create that is done: the drill, and what it did under these masks
pub record WasCreated (name : List ℕ) (n t : ℕ) (drill : Option (List ℕ)) (held : Held) (coming : Option (List (List ℕ))) (cuts : ℕ → ℕ) (masks : List ℕ) (outcome : Outcome) : Type 0 where
  pub orders : List Order
  pub asked : create_asked name (create_shape n t) drill held ≡ Ok orders
  pub seeds : List (List ℕ)
  pub all : length seeds ≡ n
  pub first : AreFirst seeds coming
  pub allowed : AreCreateMasks n t orders seeds cuts masks
  pub few : how_many n (down_after (names orders) masks) ≤ t
  pub is : outcome ≡ create_outcome (first_now name n t (first_link name n t (down_after (names orders) masks))) masks (play_created n t orders seeds masks)

module _ (name : List ℕ) (n t : ℕ) (drill : Option (List ℕ)) (held : Held) (coming : Option (List (List ℕ))) (cuts : ℕ → ℕ) (masks : List ℕ) (outcome : Outcome) (c : IsCommittee n t) where
  asked_cases : (r : Result (List Order) Status) → create_asked name (create_shape n t) drill held ≡ r → outcome.status ≡ Done → ThenDo r (Creates name n t coming cuts masks) outcome → WasCreated name n t drill held coming cuts masks outcome
  asked_cases (Ok orders) e done r =
      let enough = done_enough n n t (down_after (names orders) masks)
      (create_outcome (first_now name n t (first_link name n t (down_after (names orders) masks))) masks (play_created n t orders r.0 masks))
      (omega (arith, c.third)) (sym (ap (λ (o : Outcome). o.status) r.4) ∙ done) in
      record { orders = orders; asked = e; seeds = r.0; all = r.1; first = r.2; allowed = r.3; few = enough.few; is = r.4 ∙ enough.is }
  asked_cases (Err status) e done r = absurd (never_asked name (create_shape n t) drill held status e (sym (ap (λ (o : Outcome). o.status) r) ∙ done))

  pub was_created : MeansCreate name n t drill held coming cuts masks outcome → outcome.status ≡ Done → WasCreated name n t drill held coming cuts masks outcome
  was_created means done = asked_cases (create_asked name (create_shape n t) drill held) refl done means

module _ (name : List ℕ) (n t : ℕ) (drill : Option (List ℕ)) (held : Held) (coming : Option (List (List ℕ))) (cuts : ℕ → ℕ) (masks : List ℕ) (outcome : Outcome) (range : IsInRange (Create name n t drill)) (was : WasCreated name n t drill held coming cuts masks outcome) where
  -- the now file of it
  abbrev created_now : Now
  created_now = first_now name n t (first_link name n t (down_after (names was.orders) masks))

  pub made_is_now : IsNow (first_now name n t (first_link name n t (down_after (names was.orders) masks)))
  made_is_now = first_is_now name n t (down_after (names was.orders) masks) range.0 range.1 range.2 was.few

  pub created_puts : (link : Option Link) → PutsOnOneLine (first_now name n t link) outcome.changes
  created_puts link =
      let whole : IsCommittee n t = committee_of n t range.1 range.2 in
      subst (λ (o : Outcome). PutsOnOneLine (first_now name n t link) o.changes) (sym was.is)
      (puts_on_one_line created_now (play_created n t was.orders was.seeds masks) made_is_now link
      (proper_create n t whole was.orders was.seeds was.all masks was.allowed.0 was.few) refl
      (create_honest n t whole was.orders was.seeds was.all masks was.allowed.0))

  pub created_held : (link : Option Link) → HeldOnOneLine (first_now name n t link) (after outcome.changes held)
  created_held link =
      let changes : outcome.changes ≡ create_changes created_now (play_created n t was.orders was.seeds masks) = ap (λ (o : Outcome). o.changes) was.is in
      subst (λ cs. HeldOnOneLine (first_now name n t link) (after cs held)) (sym changes)
      (all_on_one_line created_now (play_created n t was.orders was.seeds masks) made_is_now link held (subst (PutsOnOneLine (first_now name n t link)) changes (created_puts link)))

-- a create that is done was so
pub done_created : (name : List ℕ) (n t : ℕ) (drill : Option (List ℕ)) (held : Held) (coming : Option (List (List ℕ))) (cuts : ℕ → ℕ) (masks : List ℕ) (outcome : Outcome) → IsInRange (Create name n t drill) →
    MeansCreate name n t drill held coming cuts masks outcome → outcome.status ≡ Done → WasCreated name n t drill held coming cuts masks outcome
done_created name n t drill held coming cuts masks outcome range means done = was_created name n t drill held coming cuts masks outcome (committee_of n t range.1 range.2) means done

pub creates_on_one_line : CreatesOnOneLine
creates_on_one_line name n t drill held coming cuts masks outcome range means done = created_puts name n t drill held coming cuts masks outcome range (done_created name n t drill held coming cuts masks outcome range means done)
