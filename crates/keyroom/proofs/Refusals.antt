-- What is said of an answer, weakened, and which causes the answers of a step have.
use Rattle.std.proofs.Common.{◌≡◌, ℕ, ◌≤◌, Result, Ok, Err, IfErr, ap, arith}
use Rattle.keyroom.specs.declared.status.Status.{Status}
use Rattle.keyroom.specs.Causes.{Cause, Done, Refusal, Shelf, Entropy, Crew, Sink, Memory, cause_of, IsOfShelf, IsOfPlan, IsFromShelf, IsFromPlan}
use Rattle.keyroom.specs.Outcome.{AnswersAs}

pub answers_weaker : {X Y : Type 0} (view : X → Y) (P Q : Result Y Status → Type 0) (r : Result X Status) → ((end : Result Y Status) → P end → Q end) → AnswersAs view P r → AnswersAs view Q r
answers_weaker view P Q (Ok x) f h = f (Ok (view x)) h
answers_weaker view P Q (Err status) f h = λ is. f (Err status) (h is)

plan_cause : (c : Cause) → IsOfShelf c → IsOfPlan c
plan_cause Done by = absurd by
plan_cause Refusal by = absurd by
plan_cause Shelf by = tt
plan_cause Entropy by = absurd by
plan_cause Crew by = absurd by
plan_cause Sink by = absurd by
plan_cause Memory by = tt

never_refusal : (c : Cause) → IsOfShelf c → c ≡ Refusal → ⊥
never_refusal Done by e = by
never_refusal Refusal by e = by
never_refusal Shelf by e = cc
never_refusal Entropy by e = by
never_refusal Crew by e = by
never_refusal Sink by e = by
never_refusal Memory by e = cc

-- a step that only asks the shelf doesn't refuse
pub shelf_never_refuses : (status : Status) → IsOfShelf (cause_of status) → cause_of status ≡ Refusal → ⊥
shelf_never_refuses status by e = never_refusal (cause_of status) by e

-- what only asks the shelf is a plan's step
pub from_shelf : (before now : ℕ) (status : Status) → IsFromShelf before now status → IsFromPlan before now status
from_shelf before now status h = record {
  shelf = h.shelf;
  by = plan_cause (cause_of status) h.by;
  read = λ e. shelf_never_refuses status h.by (ap cause_of e);
}

-- the same of a call after others that only read
pub from_shelf_all : {X : Type 0} (first before now : ℕ) (r : Result X Status) → first ≤ before → IfErr r (λ s. IsFromShelf before now s) → IfErr r (λ s. IsFromPlan first now s)
from_shelf_all first before now (Ok x) le h = tt
from_shelf_all first before now (Err s) le h = let p = from_shelf before now s h in record { shelf = λ e. omega (arith, le, p.shelf e); by = p.by; read = p.read }

-- the same of a call that asks nothing
pub from_nothing : {X : Type 0} (before now : ℕ) (r : Result X Status) → IfErr r (λ s. (first last : ℕ) → IsFromPlan first last s) → IfErr r (λ s. IsFromPlan before now s)
from_nothing before now (Ok x) h = tt
from_nothing before now (Err s) h = h before now
