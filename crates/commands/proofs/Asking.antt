-- The steps of a plan: what asks the shelf, then what takes seeds.
use Rattle.std.proofs.Common.{◌≡◌, ◌≤◌, ℕ, List, [], length, Option, Some, None, Result, Ok, Err, inr, refl, sym, ap, subst, arith}
use Rattle.std.specs.Prelude.{IfSome, IfErr}
use Rattle.shelf.specs.Held.{Held}
use Rattle.talk.specs.Shape.{create_shape}
use Rattle.drillbook.specs.declared.order.Order.{Order}
use Rattle.keyroom.specs.declared.plan.Plan.{Plan}
use Rattle.keyroom.specs.declared.status.Status.{Status}
use Rattle.keyroom.specs.Causes.{Cause, Done, Refusal, Shelf, Entropy, Crew, Sink, Memory, cause_of, IsOfPlan, IsFromPlan}
use Rattle.keyroom.specs.Outcome.{Outcome, refused, ThenDo}
use Rattle.commands.specs.Planning.{UnderSome, Took, StopsBefore, PlansWith, HasEnoughSeeds}
use Rattle.commands.specs.Causes.{before_text, IsFromCommand, IsOfEntropy, IsFromEntropy, IsOfCrew, IsFromCrew, IsOfPhase, IsFromPhase, IsOfSeeds, IsFromSeeds}
use Rattle.commands.specs.Create.{create_asked, CreateTakes}
use Rattle.commands.specs.Refresh.{refresh_asked, RefreshTakes}
use Rattle.commands.specs.Move.{move_asked, MoveTakes}
use Rattle.commands.specs.Standing.{Standing, seeds_for}
use Rattle.commands.proofs.Planning.{plans_weaker, stops_asking}

-- ---- causes
plan_undone : (c : Cause) → IsOfPlan c → c ≡ Done → ⊥
plan_undone Done by e = by
plan_undone Refusal by e = cc
plan_undone Shelf by e = cc
plan_undone Entropy by e = by
plan_undone Crew by e = by
plan_undone Sink by e = by
plan_undone Memory by e = cc

plan_no_entropy : (c : Cause) → IsOfPlan c → c ≡ Entropy → ⊥
plan_no_entropy Done by e = by
plan_no_entropy Refusal by e = cc
plan_no_entropy Shelf by e = cc
plan_no_entropy Entropy by e = by
plan_no_entropy Crew by e = by
plan_no_entropy Sink by e = by
plan_no_entropy Memory by e = cc

plan_no_crew : (c : Cause) → IsOfPlan c → c ≡ Crew → ⊥
plan_no_crew Done by e = by
plan_no_crew Refusal by e = cc
plan_no_crew Shelf by e = cc
plan_no_crew Entropy by e = by
plan_no_crew Crew by e = by
plan_no_crew Sink by e = by
plan_no_crew Memory by e = cc

plan_no_sink : (c : Cause) → IsOfPlan c → c ≡ Sink → ⊥
plan_no_sink Done by e = by
plan_no_sink Refusal by e = cc
plan_no_sink Shelf by e = cc
plan_no_sink Entropy by e = by
plan_no_sink Crew by e = by
plan_no_sink Sink by e = by
plan_no_sink Memory by e = cc

-- a plan that takes no seeds refused
pub from_plan : {X : Type 0} (shelf now entropy later crew worked : ℕ) (r : Result X Status) → shelf ≤ now → entropy ≤ later → crew ≤ worked → IfErr r (λ s. IsFromPlan shelf now s) →
    IfErr r (λ s. IsFromCommand (before_text shelf entropy crew) (before_text now later worked) s)
from_plan shelf now entropy later crew worked (Ok x) le lt lc h = tt
from_plan shelf now entropy later crew worked (Err s) le lt lc h = record {
  counted = record {
    shelf_later = le;
    entropy_later = lt;
    crew_later = lc;
    sink_later = omega arith;
    shelf = h.shelf;
    entropy = λ e. absurd (plan_no_entropy (cause_of s) h.by e);
    crew = λ e. absurd (plan_no_crew (cause_of s) h.by e);
    sink = λ e. absurd (plan_no_sink (cause_of s) h.by e);
  };
  undone = λ e. plan_undone (cause_of s) h.by e;
  read = h.read;
}

seeds_undone : (c : Cause) → IsOfSeeds c → c ≡ Done → ⊥
seeds_undone Done by e = by
seeds_undone Refusal by e = cc
seeds_undone Shelf by e = by
seeds_undone Entropy by e = cc
seeds_undone Crew by e = cc
seeds_undone Sink by e = by
seeds_undone Memory by e = cc

seeds_no_shelf : (c : Cause) → IsOfSeeds c → c ≡ Shelf → ⊥
seeds_no_shelf Done by e = by
seeds_no_shelf Refusal by e = cc
seeds_no_shelf Shelf by e = by
seeds_no_shelf Entropy by e = cc
seeds_no_shelf Crew by e = cc
seeds_no_shelf Sink by e = by
seeds_no_shelf Memory by e = cc

seeds_no_sink : (c : Cause) → IsOfSeeds c → c ≡ Sink → ⊥
seeds_no_sink Done by e = by
seeds_no_sink Refusal by e = cc
seeds_no_sink Shelf by e = by
seeds_no_sink Entropy by e = cc
seeds_no_sink Crew by e = cc
seeds_no_sink Sink by e = by
seeds_no_sink Memory by e = cc

-- a step that took seeds refused, or the work behind it
pub from_seeds : {X : Type 0} (shelf now entropy later crew worked : ℕ) (r : Result X Status) → shelf ≤ now → entropy ≤ later → crew ≤ worked → IfErr r (λ s. IsFromSeeds entropy later crew worked s) →
    IfErr r (λ s. IsFromCommand (before_text shelf entropy crew) (before_text now later worked) s)
from_seeds shelf now entropy later crew worked (Ok x) le lt lc h = tt
from_seeds shelf now entropy later crew worked (Err s) le lt lc h = record {
  counted = record {
    shelf_later = le;
    entropy_later = lt;
    crew_later = lc;
    sink_later = omega arith;
    shelf = λ e. absurd (seeds_no_shelf (cause_of s) h.by e);
    entropy = h.entropy;
    crew = h.crew;
    sink = λ e. absurd (seeds_no_sink (cause_of s) h.by e);
  };
  undone = λ e. seeds_undone (cause_of s) h.by e;
  read = h.read;
}

-- a step that only takes seeds refuses nothing, and starts no thread
entropy_seeds : (c : Cause) → IsOfEntropy c → IsOfSeeds c × (c ≡ Refusal → ⊥) × (c ≡ Crew → ⊥)
entropy_seeds Done by = absurd by
entropy_seeds Refusal by = absurd by
entropy_seeds Shelf by = absurd by
entropy_seeds Entropy by = (tt, (λ (e : Entropy ≡ Refusal). cc), λ (e : Entropy ≡ Crew). cc)
entropy_seeds Crew by = absurd by
entropy_seeds Sink by = absurd by
entropy_seeds Memory by = (tt, (λ (e : Memory ≡ Refusal). cc), λ (e : Memory ≡ Crew). cc)

pub seeds_of_entropy : {X : Type 0} (entropy later crew worked : ℕ) (r : Result X Status) → IfErr r (λ s. IsFromEntropy entropy later s) → IfErr r (λ s. IsFromSeeds entropy later crew worked s)
seeds_of_entropy entropy later crew worked (Ok x) h = tt
seeds_of_entropy entropy later crew worked (Err s) h =
    let by = entropy_seeds (cause_of s) h.by in
    record { entropy = h.entropy; crew = λ e. absurd (by.2 e); by = by.0; read = λ e. by.1 (ap cause_of e) }

-- and a phase takes none
phase_seeds : (c : Cause) → IsOfPhase c → IsOfSeeds c × (c ≡ Entropy → ⊥)
phase_seeds Done by = absurd by
phase_seeds Refusal by = (tt, λ (e : Refusal ≡ Entropy). cc)
phase_seeds Shelf by = absurd by
phase_seeds Entropy by = absurd by
phase_seeds Crew by = (tt, λ (e : Crew ≡ Entropy). cc)
phase_seeds Sink by = absurd by
phase_seeds Memory by = (tt, λ (e : Memory ≡ Entropy). cc)

pub seeds_of_phase : (entropy later crew worked : ℕ) (s : Status) → IsFromPhase crew worked s → IsFromSeeds entropy later crew worked s
seeds_of_phase entropy later crew worked s h =
    let by = phase_seeds (cause_of s) h.by in
    record { entropy = λ e. absurd (by.1 e); crew = h.crew; by = by.0; read = h.read }

-- a phase that doesn't refuse for what it finds
crew_phase : (c : Cause) → IsOfCrew c → IsOfPhase c × (c ≡ Refusal → ⊥)
crew_phase Done by = absurd by
crew_phase Refusal by = absurd by
crew_phase Shelf by = absurd by
crew_phase Entropy by = absurd by
crew_phase Crew by = (tt, λ (e : Crew ≡ Refusal). cc)
crew_phase Sink by = absurd by
crew_phase Memory by = (tt, λ (e : Memory ≡ Refusal). cc)

pub phase_of_crew : (crew worked : ℕ) (s : Status) → IsFromCrew crew worked s → IsFromPhase crew worked s
phase_of_crew crew worked s h =
    let by = crew_phase (cause_of s) h.by in
    record { crew = h.crew; by = by.0; read = λ e. by.1 (ap cause_of e) }

pub seeds_of_crew : (entropy later crew worked : ℕ) (s : Status) → IsFromCrew crew worked s → IsFromSeeds entropy later crew worked s
seeds_of_crew entropy later crew worked s h = seeds_of_phase entropy later crew worked s (phase_of_crew crew worked s h)

-- it stops when all seeds were taken
crew_stops : (means : Outcome → Type 0) (asks : ℕ → Type 0) (coming comes : Option (List (List ℕ))) (count : ℕ) (status : Status) (cause : Cause) → asks count → Took count coming comes → IsOfCrew cause → StopsBefore means asks coming comes status cause
crew_stops means asks coming comes count status Done ask took by = absurd by
crew_stops means asks coming comes count status Refusal ask took by = absurd by
crew_stops means asks coming comes count status Shelf ask took by = absurd by
crew_stops means asks coming comes count status Entropy ask took by = absurd by
crew_stops means asks coming comes count status Crew ask took by = (count, ask, took)
crew_stops means asks coming comes count status Sink ask took by = absurd by
crew_stops means asks coming comes count status Memory ask took by = inr (count, ask, (count, omega arith, took))

pub crew_refused : (means : Outcome → Type 0) (asks : ℕ → Type 0) (coming comes : Option (List (List ℕ))) (count crew worked : ℕ) (s : Status) → asks count → Took count coming comes → IsFromCrew crew worked s → PlansWith means asks coming comes (Err s)
crew_refused means asks coming comes count crew worked s ask took from = crew_stops means asks coming comes count s (cause_of s) ask took from.by

at_most : (coming : Option (List (List ℕ))) (few many : ℕ) → few ≤ many → IfSome coming (λ seeds. many ≤ length seeds) → IfSome coming (λ seeds. few ≤ length seeds)
at_most None few many le h = tt
at_most (Some seeds) few many le h = omega (arith, le, h)

-- ---- a command with a phase
-- The steps before the seeds ask the shelf alone; the rest of the meaning is told of what they give, and takes so many seeds.
module _ {A : Type 0} (asked : Held → Result A Status) (next : Option (List (List ℕ)) → (ℕ → ℕ) → List ℕ → A → Outcome → Type 0) (takes : Held → ℕ → Type 0) (count : A → ℕ)
    (taken : (held : Held) (a : A) → asked held ≡ Ok a → takes held (count a)) where
  phase_means : (held : Held) (coming : Option (List (List ℕ))) (cuts : ℕ → ℕ) (a : A) → asked held ≡ Ok a → (o : Outcome) → UnderSome (λ masks. next coming cuts masks a) o → UnderSome (λ masks. ThenDo (asked held) (next coming cuts masks)) o
  phase_means held coming cuts a is o (masks, n) = (masks, subst (λ r. ThenDo r (next coming cuts masks) o) (sym is) n)

  -- the steps gave a value, and the plan is that of what is told of it
  pub planned_told : (held : Option Held) (coming comes : Option (List (List ℕ))) (cuts : ℕ → ℕ) (a : A) (r : Result Plan Status) →
      IfSome held (λ m. asked m ≡ Ok a) → PlansWith (UnderSome (λ masks. next coming cuts masks a)) (λ k. k ≡ count a) coming comes r →
      IfSome held (λ m. PlansWith (UnderSome (λ masks. ThenDo (asked m) (next coming cuts masks))) (takes m) coming comes r)
  planned_told None coming comes cuts a r is h = tt
  planned_told (Some m) coming comes cuts a r is h =
      plans_weaker (UnderSome (λ masks. next coming cuts masks a)) (UnderSome (λ masks. ThenDo (asked m) (next coming cuts masks))) (λ k. k ≡ count a) (takes m)
      (phase_means m coming cuts a is) (λ k e. subst (takes m) (sym e) (taken m a is)) coming comes r h

  -- they refused
  pub refused_told : (held : Option Held) (coming : Option (List (List ℕ))) (cuts : ℕ → ℕ) (before now : ℕ) (s : Status) →
      IfSome held (λ m. cause_of s ≡ Refusal → asked m ≡ Err s) → IsFromPlan before now s →
      IfSome held (λ m. PlansWith (UnderSome (λ masks. ThenDo (asked m) (next coming cuts masks))) (takes m) coming coming (Err s))
  refused_told None coming cuts before now s gives from = tt
  refused_told (Some m) coming cuts before now s gives from =
      stops_asking (UnderSome (λ masks. ThenDo (asked m) (next coming cuts masks))) (takes m) coming coming s (cause_of s) refl from.by refl
      (λ is. ([], subst (λ r. ThenDo r (next coming cuts []) (refused s)) (sym (gives is)) refl))

  -- where they gave a value, enough seeds for the command are enough for what it takes
  pub enough_here : (most : ℕ) (held : Option Held) (coming : Option (List (List ℕ))) (a : A) → count a ≤ most →
      IfSome held (λ m. asked m ≡ Ok a) → HasEnoughSeeds most takes held coming → IfSome coming (λ seeds. count a ≤ length seeds)
  enough_here most None coming a few is enough = at_most coming (count a) most few enough
  enough_here most (Some m) coming a few is enough = enough (count a) (taken m a is)

pub create_takes : (name : List ℕ) (n t : ℕ) (drill : Option (List ℕ)) (held : Held) (orders : List Order) → create_asked name (create_shape n t) drill held ≡ Ok orders → CreateTakes name n t drill held n
create_takes name n t drill held orders e = (refl, (orders, e))

pub refresh_takes : (name : List ℕ) (drill : Option (List ℕ)) (held : Held) (st : Standing) → refresh_asked name drill held ≡ Ok st → RefreshTakes name drill held (seeds_for st)
refresh_takes name drill held st e = (st, e, refl)

pub move_takes : (name : List ℕ) (m u : ℕ) (drill : Option (List ℕ)) (held : Held) (st : Standing) → move_asked name m u drill held ≡ Ok st → MoveTakes name m u drill held (seeds_for st)
move_takes name m u drill held st e = (st, e, refl)
