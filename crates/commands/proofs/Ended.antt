-- The plan of a create or a refresh is what its play comes to.
use Rattle.std.proofs.Common.{◌≡◌, inr, ℕ, ◌*◌, ◌-◌, ◌<◌, ◌≤◌, Bool, cond, Option, Result, Ok, Err, List, length, refl, sym, ap, ◌∙◌, subst, arith}
use Rattle.std.specs.Prelude.{nat_lt, IfErr}
use Rattle.sharing61.specs.Count.{how_many}
use Rattle.shelf.specs.Held as shelf
use Rattle.sharefile.specs.Files.{Now}
use Rattle.talk.specs.Shape.{instances, create_shape}
use Rattle.plays.specs.Play.{Play}
use Rattle.members.specs.Shares.{accepted_count}
use Rattle.drillbook.specs.declared.order.Order.{Order}
use Rattle.drillbook.specs.Orders.{names}
use Rattle.keyroom.specs.declared.plan.Plan.{Plan}
use Rattle.keyroom.specs.declared.status.Status.{Status}
use Rattle.keyroom.specs.declared.status.Status.TheVariants.{TooFewSound}
use Rattle.keyroom.specs.Causes.{Cause, Done, Refusal, Shelf, Entropy, Crew, Sink, Memory, cause_of}
use Rattle.keyroom.specs.Changes.{outcome_of}
use Rattle.keyroom.specs.Texts.{create_text, refresh_text}
use Rattle.keyroom.specs.Outcome.{Outcome, done_with, AreFirst}
use Rattle.commands.specs.declared.phase.Phase.{Phase}
use Rattle.commands.specs.Late.{down_after, enough_after, refused_after, ended}
use Rattle.commands.specs.Planning.{Took, StopsBefore, PlansWith}
use Rattle.commands.specs.Causes.{IsOfPhase, IsFromPhase}
use Rattle.commands.specs.Create.{Creates, play_created, create_outcome, create_changes, created_shares, created_text}
use Rattle.commands.specs.Links.{first_link, first_now, next_now}
use Rattle.commands.specs.Period.{up_members}
use Rattle.commands.specs.Phase.{marked, marks_of, next_with, IsRefreshPhase, IsCreatePhase, PlansAfter, CreateEnds, RefreshEnds, indexes_of, period_with}
use Rattle.commands.specs.Refresh.{setting_of, play_refreshed, new_shares, refresh_changes, refreshed_text, refresh_outcome, Refreshes}
use Rattle.commands.specs.Standing.{Standing, down_in, seeds_for}
use Rattle.commands.proofs.Late.{few_enough}
use Rattle.commands.proofs.Left.{few_after}
use Rattle.commands.proofs.Links.{first_same, next_same}
use Rattle.commands.proofs.Phases.{marks_right, marked_count}
use Rattle.commands.proofs.Planned.{period_same, next_period_same, indexes_same}
use Rattle.commands.proofs.Pushing.{done_same}

-- ---- who is down after a phase, and whether enough are left, by its marks
abbrev enough_but : ℕ → ℕ → ℕ → Result ℕ Status
enough_but n t down = cond (nat_lt (n - down) (n - t)) (Err (TooFewSound (n - down) (n - t))) (Ok (n - down))

pub marks_enough : (n t : ℕ) (down : ℕ → Bool) (marks : List Bool) → marks ≡ marks_of down n → enough_after n t (marked marks) ≡ enough_after n t down
marks_enough n t down marks are = ap (enough_but n t) (ap (λ (xs : List Bool). how_many n (marked xs)) are ∙ marked_count down n)

-- where enough are, few are down
pub marks_few : (n t : ℕ) (marks : List Bool) (left : ℕ) → t < n → enough_after n t (marked marks) ≡ Ok left → how_many n (marked marks) ≤ t
marks_few n t marks left below enough = few_after n t left (marked marks) below enough

-- ---- a create
text_same : (now : Now) (masks : List ℕ) (p : Play) (accepted : ℕ) (indexes : List ℕ) → p.shape ≡ create_shape now.n now.t → accepted ≡ accepted_count p → indexes ≡ up_members now.n p.down →
    create_text now masks accepted (5 * now.n) indexes ≡ created_text now masks p
text_same now masks p accepted indexes shape e f =
    let all : 5 * now.n ≡ instances p.shape = omega arith ∙ ap instances (sym shape) in
    rw (e, f, all) refl

pub planned : (now : Now) (orders : List Order) (seeds : List (List ℕ)) (cuts : ℕ → ℕ) (phase : Phase) (changes : List shelf.Change) (text : List ℕ) →
    IsCreatePhase now.n now.t orders seeds cuts phase → how_many now.n (down_after (names orders) phase.masks) < now.n →
    changes ≡ period_with now phase.shares.items → text ≡ create_text now phase.masks phase.accepted (5 * now.n) (indexes_of 1 phase.shares.items) →
    done_with now.n changes text ≡ create_outcome now phase.masks (play_created now.n now.t orders seeds phase.masks)
planned now orders seeds cuts phase changes text is some c t =
    let p : Play = play_created now.n now.t orders seeds phase.masks in
    done_same now.n changes (create_changes now p) text (created_text now phase.masks p)
    (c ∙ period_same now p.down (created_shares p) phase.shares.items is.1.shares)
    (t ∙ text_same now phase.masks p phase.accepted (indexes_of 1 phase.shares.items) refl (is.1.accepted some) (ap (indexes_of 1) is.1.shares ∙ indexes_same p.down (created_shares p) now.n))

module _ (name : List ℕ) (n t : ℕ) (orders : List Order) (seeds : List (List ℕ)) (cuts : ℕ → ℕ) (phase : Phase) (is : IsCreatePhase n t orders seeds cuts phase) where
  -- where too few are left
  pub create_refused : (status : Status) → enough_after n t (marked phase.down.items) ≡ Err status → CreateEnds name n t orders seeds cuts (refused_after n status)
  create_refused status e =
      let p : Play = play_created n t orders seeds phase.masks in
      let refuses : enough_after n t p.down ≡ Err status = sym (marks_enough n t p.down phase.down.items is.1.down) ∙ e in (
        phase.masks,
        is.0,
        sym (ap (λ (r : Result ℕ Status). ended n r (create_outcome (first_now name n t (first_link name n t p.down)) phase.masks p)) refuses),
      )

  -- where enough are
  module _ (left : ℕ) (below : t < n) (enough : enough_after n t (marked phase.down.items) ≡ Ok left) where
    pub create_few : how_many n (down_after (names orders) phase.masks) ≤ t
    create_few = few_after n t left (down_after (names orders) phase.masks) below (sym (marks_enough n t (down_after (names orders) phase.masks) phase.down.items is.1.down) ∙ enough)

    pub create_planned : (now : Now) (changes : List shelf.Change) (text : List ℕ) → now ≡ first_now name n t (first_link name n t (marked phase.down.items)) →
        changes ≡ period_with now phase.shares.items → text ≡ create_text now phase.masks phase.accepted (5 * now.n) (indexes_of 1 phase.shares.items) →
        CreateEnds name n t orders seeds cuts (done_with n changes text)
    create_planned now changes text now_is c e =
        let p : Play = play_created n t orders seeds phase.masks in
        let made : Now = first_now name n t (first_link name n t p.down) in
        let same : now ≡ made =
        now_is ∙ ap (λ (marks : List Bool). first_now name n t (first_link name n t (marked marks))) is.1.down
        ∙ first_same name n t (marked (marks_of p.down n)) p.down (marks_right p.down n) in (
          phase.masks,
          is.0,
          planned made orders seeds cuts phase changes text is (omega (arith, create_few, below))
              (c ∙ ap (λ (f : Now). period_with f phase.shares.items) same)
              (e ∙ ap (λ (f : Now). create_text f phase.masks phase.accepted (5 * f.n) (indexes_of 1 phase.shares.items)) same)
              ∙ sym (few_enough n n t p.down (create_outcome made phase.masks p) create_few),
        )

-- with the seeds taken it is what a create means
pub create_means : (name : List ℕ) (n t : ℕ) (orders : List Order) (seeds : List (List ℕ)) (coming : Option (List (List ℕ))) (cuts : ℕ → ℕ) → length seeds ≡ n → AreFirst seeds coming →
    (o : Outcome) → CreateEnds name n t orders seeds cuts o → (masks : List ℕ) × Creates name n t coming cuts masks orders o
create_means name n t orders seeds coming cuts all first o ends = (ends.0, (seeds, all, first, ends.1, ends.2))

-- ---- a refresh
next_text_same : (st : Standing) (now : Now) (masks : List ℕ) (p : Play) (accepted : ℕ) (indexes : List ℕ) → now ≡ next_now st.now p.down → p.shape ≡ setting_of st → accepted ≡ accepted_count p → indexes ≡ up_members st.now.n p.down →
    refresh_text now masks accepted (5 * now.n) indexes ≡ refreshed_text st masks p
next_text_same st now masks p accepted indexes is shape e f =
    let all : 5 * now.n ≡ instances p.shape = ap (λ (x : Now). 5 * x.n) is ∙ omega arith ∙ ap instances (sym shape) in
    rw (e, f, all, is) refl

module _ (st : Standing) (seeds : List (List ℕ)) (cuts : ℕ → ℕ) (phase : Phase) (is : IsRefreshPhase st seeds cuts phase) where
  abbrev refreshed : Play
  refreshed = play_refreshed st seeds phase.masks

  -- where too few are left
  pub refresh_refused : (status : Status) → enough_after st.now.n st.now.t (marked phase.down.items) ≡ Err status → RefreshEnds st seeds cuts (refused_after (seeds_for st) status)
  refresh_refused status e =
      let refuses : enough_after st.now.n st.now.t refreshed.down ≡ Err status = sym (marks_enough st.now.n st.now.t refreshed.down phase.down.items is.1.down) ∙ e in
      (phase.masks, is.0, sym (ap (λ (r : Result ℕ Status). ended (seeds_for st) r (refresh_outcome st seeds phase.masks refreshed)) refuses))

  -- where enough are
  module _ (left : ℕ) (below : st.now.t < st.now.n) (enough : enough_after st.now.n st.now.t (marked phase.down.items) ≡ Ok left) where
    pub refresh_few : how_many st.now.n (down_after (down_in st) phase.masks) ≤ st.now.t
    refresh_few = few_after st.now.n st.now.t left (down_after (down_in st) phase.masks) below (sym (marks_enough st.now.n st.now.t (down_after (down_in st) phase.masks) phase.down.items is.1.down) ∙ enough)

    pub planned_next : (now : Now) (changes : List shelf.Change) (text : List ℕ) → now ≡ next_now st.now (marked phase.down.items) →
        changes ≡ next_with st.now now phase.shares.items → text ≡ refresh_text now phase.masks phase.accepted (5 * now.n) (indexes_of 1 phase.shares.items) →
        RefreshEnds st seeds cuts (done_with (seeds_for st) changes text)
    planned_next now changes text now_is c e =
        let same : now ≡ next_now st.now refreshed.down =
        now_is ∙ ap (λ (marks : List Bool). next_now st.now (marked marks)) is.1.down
        ∙ next_same st.now (marked (marks_of refreshed.down st.now.n)) refreshed.down (marks_right refreshed.down st.now.n) in (
          phase.masks,
          is.0,
          done_same (seeds_for st) changes (refresh_changes st seeds refreshed) text (refreshed_text st phase.masks refreshed)
              (c ∙ ap (λ (f : Now). next_with st.now f phase.shares.items) same
              ∙ next_period_same st.now (next_now st.now refreshed.down) refreshed.down (new_shares st seeds refreshed) phase.shares.items is.1.shares)
              (e ∙ next_text_same st now phase.masks refreshed phase.accepted (indexes_of 1 phase.shares.items) same refl (is.1.accepted (omega (arith, refresh_few, below)))
              (ap (indexes_of 1) is.1.shares ∙ indexes_same refreshed.down (new_shares st seeds refreshed) st.now.n))
              ∙ sym (few_enough (seeds_for st) st.now.n st.now.t refreshed.down (refresh_outcome st seeds phase.masks refreshed) refresh_few),
        )

-- with the seeds taken it is what a refresh means
pub refresh_means : (st : Standing) (seeds : List (List ℕ)) (coming : Option (List (List ℕ))) (cuts : ℕ → ℕ) → length seeds ≡ seeds_for st → AreFirst seeds coming →
    (o : Outcome) → RefreshEnds st seeds cuts o → (masks : List ℕ) × Refreshes coming cuts masks st o
refresh_means st seeds coming cuts all first o ends = (ends.0, (seeds, all, first, ends.1, ends.2))

-- ---- a plan behind the seeds
-- what the work behind the seeds comes to is among what the command means
module _ (ends means : Outcome → Type 0) (weaker : (o : Outcome) → ends o → means o) (coming comes : Option (List (List ℕ))) (taken : ℕ) (took : Took taken coming comes) where
  stops_after : (status : Status) (cause : Cause) → cause_of status ≡ cause → IsOfPhase cause → PlansAfter ends taken (Err status) → StopsBefore means (λ k. k ≡ taken) coming comes status cause
  stops_after status Done e by h = absurd by
  stops_after status Refusal e by h = (taken, weaker (refused_after taken status) (h e), took)
  stops_after status Shelf e by h = absurd by
  stops_after status Entropy e by h = absurd by
  stops_after status Crew e by h = (taken, refl, took)
  stops_after status Sink e by h = absurd by
  stops_after status Memory e by h = inr (taken, refl, (taken, omega arith, took))

  pub planned_after : (r : Result Plan Status) (crew worked : ℕ) → IfErr r (λ s. IsFromPhase crew worked s) → PlansAfter ends taken r → PlansWith means (λ k. k ≡ taken) coming comes r
  planned_after (Ok plan) crew worked from h = (taken, weaker (outcome_of taken plan) h, took)
  planned_after (Err status) crew worked from h = stops_after status (cause_of status) refl from.by h

-- of a create, with the seeds taken
pub create_behind : (name : List ℕ) (n t : ℕ) (orders : List Order) (seeds others : List (List ℕ)) (coming comes : Option (List (List ℕ))) (cuts : ℕ → ℕ) (crew worked : ℕ) (r : Result Plan Status) →
    others ≡ seeds → length seeds ≡ n → AreFirst seeds coming → Took n coming comes → IfErr r (λ s. IsFromPhase crew worked s) → PlansAfter (CreateEnds name n t orders others cuts) n r →
    PlansWith (λ o. (masks : List ℕ) × Creates name n t coming cuts masks orders o) (λ k. k ≡ n) coming comes r
create_behind name n t orders seeds others coming comes cuts crew worked r same all first took from h =
    planned_after (CreateEnds name n t orders seeds cuts) (λ o. (masks : List ℕ) × Creates name n t coming cuts masks orders o) (create_means name n t orders seeds coming cuts all first) coming comes n took r crew worked from
    (subst (λ (xs : List (List ℕ)). PlansAfter (CreateEnds name n t orders xs cuts) n r) same h)

-- of a refresh
pub refresh_behind : (st : Standing) (seeds others : List (List ℕ)) (coming comes : Option (List (List ℕ))) (cuts : ℕ → ℕ) (count crew worked : ℕ) (r : Result Plan Status) →
    others ≡ seeds → length seeds ≡ count → count ≡ seeds_for st → AreFirst seeds coming → Took count coming comes → IfErr r (λ s. IsFromPhase crew worked s) → PlansAfter (RefreshEnds st others cuts) (seeds_for st) r →
    PlansWith (λ o. (masks : List ℕ) × Refreshes coming cuts masks st o) (λ k. k ≡ seeds_for st) coming comes r
refresh_behind st seeds others coming comes cuts count crew worked r same all enough first took from h =
    planned_after (RefreshEnds st seeds cuts) (λ o. (masks : List ℕ) × Refreshes coming cuts masks st o) (refresh_means st seeds coming cuts (all ∙ enough) first) coming comes (seeds_for st)
    (subst (λ (k : ℕ). Took k coming comes) enough took) r crew worked from (subst (λ (xs : List (List ℕ)). PlansAfter (RefreshEnds st xs cuts) (seeds_for st) r) same h)
