-- What is heard in a run of drilled minds, whose setting and minds are known up to equations.
use Rattle.std.proofs.Common.{◌≡◌, ℕ, ◌-◌, Bool, List, length, refl, sym, ap, ◌∙◌, subst, arith}
use Rattle.algebra61.specs.Field.{Fp}
use Rattle.talk.specs.declared.part.Part.{Part}
use Rattle.talk.specs.Hears.{Hearing, Seated}
use Rattle.talk.specs.Part.{part_made_for, part_may}
use Rattle.talk.specs.Shape.{Shape, create_shape, refresh_shape, seats}
use Rattle.talk.specs.Sync.{Ways}
use Rattle.plays.specs.Run.{run_play}
use Rattle.plays.specs.Stage.{IsTurn}
use Rattle.members.specs.Member.{Member}
use Rattle.periods.specs.Keeper.{Keeper}
use Rattle.playback.specs.declared.phase.SaidItem.{SaidItem}
use Rattle.sharer.specs.Sharer.{MadeFor}
use Rattle.zeroshare.specs.Refresh.{keeper_made_for, keeper_may}
use Rattle.drillbook.specs.declared.order.Order.{Order}
use Rattle.drillbook.specs.Word.{DrilledMind}
use Rattle.hearsay.specs.Said.{Marks, said_in}
use Rattle.keyroom.specs.declared.steps.Found.{Found}
use Rattle.commands.specs.Create.{dealt_by, members_on}
use Rattle.commands.specs.Phase.{IsReady}
use Rattle.commands.specs.Refresh.{holdings_in, keepers_on, keeping, setting_of}
use Rattle.commands.specs.Run.{drilled_all}
use Rattle.commands.specs.Standing.{Standing, holdings}
use Rattle.commands.proofs.Created.{length-minds, members_hearing, members_seated}
use Rattle.commands.proofs.Phases.{drilled_hearing, drilled_seated}
use Rattle.commands.proofs.Refreshed.{length-keepers, keepers_hearing, keepers_seated}

-- the minds are fit for the setting, as a mind says what it hears and where it sits
abbrev pub sits : {M : Type 0} → (M → Shape → ℕ → Type 0) → DrilledMind M → Shape → ℕ → Type 0
sits made d shape seat = (d.shape ≡ shape) × (d.seat ≡ seat) × made d.inner shape seat

-- ---- of a setting and minds that are others
module _ {M : Type 0} (s other : Shape) (ms others : List (DrilledMind M)) (s_is : s ≡ other) (ms_are : ms ≡ others) where
  pub hearing_as : (may : M → ℕ → Type 0) → Hearing (λ (d : DrilledMind M) (round : ℕ). may d.inner round) 1 others → Hearing (λ (d : DrilledMind M) (round : ℕ). may d.inner round) 1 ms
  hearing_as may h = subst (Hearing (λ (d : DrilledMind M) (round : ℕ). may d.inner round) 1) (sym ms_are) h

  pub seated_as : (made : M → Shape → ℕ → Type 0) → Seated (sits made) other 1 others → Seated (sits made) s 1 ms
  seated_as made h = subst (λ (z : Shape × List (DrilledMind M)). Seated (sits made) z.0 1 z.1) (λ i. (sym s_is i, sym ms_are i)) h

  pub all_as : length others ≡ seats other → length ms ≡ seats s
  all_as e = ap length ms_are ∙ e ∙ sym (ap seats s_is)

  pub heard_as : (ways : Ways (DrilledMind M)) (masks : List ℕ) (down : ℕ → Bool) (own : ℕ → List (List (List Fp))) (said : List SaidItem) → said ≡ said_in (run_play ways s masks ms down own) →
      said ≡ said_in (run_play ways other masks others down own)
  heard_as ways masks down own said is = is ∙ ap (λ (z : Shape × List (DrilledMind M)). said_in (run_play ways z.0 masks z.1 down own)) (λ i. (s_is i, ms_are i))

pub marks_as : (s other : Shape) → s ≡ other → (mask : ℕ) (down : ℕ → Bool) → Marks other mask down → Marks s mask down
marks_as s other e mask down marks = subst (λ (shape : Shape). Marks shape mask down) (sym e) marks

-- ---- those of a create
pub sized_members : (N n t : ℕ) (orders : List Order) (dealt : List (List (List (List Fp)))) (ms : List (DrilledMind Member)) → N ≡ n →
    ms ≡ drilled_all (create_shape N t) orders (members_on (create_shape N t) dealt) → ms ≡ drilled_all (create_shape n t) orders (members_on (create_shape n t) dealt)
sized_members N n t orders dealt ms e is = is ∙ ap (λ (k : ℕ). drilled_all (create_shape k t) orders (members_on (create_shape k t) dealt)) e

module _ (n t : ℕ) (orders : List Order) (seeds : List (List ℕ)) where
  pub members_all : length seeds ≡ n → length (drilled_all (create_shape n t) orders (members_on (create_shape n t) (dealt_by t seeds))) ≡ seats (create_shape n t)
  members_all long = length-minds n t orders seeds long ∙ omega arith

  pub members_hear : Hearing (λ (d : DrilledMind Member) (round : ℕ). IsTurn round d.inner.stage) 1 (drilled_all (create_shape n t) orders (members_on (create_shape n t) (dealt_by t seeds)))
  members_hear = drilled_hearing (λ (m : Member) (round : ℕ). IsTurn round m.stage) (create_shape n t) orders 1 (members_on (create_shape n t) (dealt_by t seeds)) (members_hearing (create_shape n t) 1 (dealt_by t seeds))

  pub members_sit : Seated (sits MadeFor) (create_shape n t) 1 (drilled_all (create_shape n t) orders (members_on (create_shape n t) (dealt_by t seeds)))
  members_sit = drilled_seated MadeFor (create_shape n t) orders 1 (members_on (create_shape n t) (dealt_by t seeds)) (members_seated (create_shape n t) 1 (dealt_by t seeds) refl)

-- ---- those of a refresh
module _ (st : Standing) (ready : IsReady st) (seeds : List (List ℕ)) where
  pub keepers_all : length (drilled_all (setting_of st) st.orders (keepers_on (setting_of st) (holdings_in st seeds))) ≡ seats (setting_of st)
  keepers_all = length-keepers (setting_of st) st.orders (st.now.t - 1) st.files seeds ∙ ready.all ∙ omega arith

  pub keepers_hear : Hearing (λ (d : DrilledMind (Part Keeper)) (round : ℕ). part_may keeper_may d.inner round) 1 (drilled_all (setting_of st) st.orders (keepers_on (setting_of st) (holdings_in st seeds)))
  keepers_hear = drilled_hearing (part_may keeper_may) (setting_of st) st.orders 1 (keepers_on (setting_of st) (holdings_in st seeds)) (keepers_hearing (setting_of st) 1 (holdings_in st seeds))

  pub keepers_sit : Seated (sits (part_made_for keeper_made_for)) (setting_of st) 1 (drilled_all (setting_of st) st.orders (keepers_on (setting_of st) (holdings_in st seeds)))
  keepers_sit = drilled_seated (part_made_for keeper_made_for) (setting_of st) st.orders 1 (keepers_on (setting_of st) (holdings_in st seeds)) (keepers_seated (setting_of st) 1 (holdings_in st seeds) refl)

pub sized_keeping : (N b : ℕ) (st : Standing) (s : Shape) → N ≡ st.now.n → b ≡ st.now.t → s ≡ refresh_shape N b → s ≡ setting_of st
sized_keeping N b st s e f is = is ∙ ap (λ (z : ℕ × ℕ). refresh_shape z.0 z.1) (λ i. (e i, f i))

pub sized_keepers : (N b : ℕ) (st : Standing) (seeds : List (List ℕ)) (files : List Found) (ms : List (DrilledMind (Part Keeper))) → N ≡ st.now.n → b ≡ st.now.t → files ≡ st.files →
    ms ≡ drilled_all (refresh_shape N b) st.orders (keepers_on (refresh_shape N b) (holdings (keeping (b - 1)) 1 files seeds)) →
    ms ≡ drilled_all (setting_of st) st.orders (keepers_on (setting_of st) (holdings_in st seeds))
sized_keepers N b st seeds files ms e f g is =
    is ∙ ap (λ (z : ℕ × ℕ × List Found). drilled_all (refresh_shape z.0 z.1) st.orders (keepers_on (refresh_shape z.0 z.1) (holdings (keeping (z.1 - 1)) 1 z.2 seeds))) (λ i. (e i, f i, g i))
