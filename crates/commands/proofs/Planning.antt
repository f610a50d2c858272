-- What was planned under one meaning was planned under a weaker one.
use Rattle.std.proofs.Common.{◌≡◌, ℕ, List, Option, Some, None, Result, Ok, Err, refl, sym, subst, inl, inr, arith}
use Rattle.keyroom.specs.declared.status.Status.{Status}
use Rattle.keyroom.specs.declared.plan.Plan.{Plan}
use Rattle.keyroom.specs.Causes.{Cause, Done, Refusal, Shelf, Entropy, Crew, Sink, Memory, cause_of, IsOfPlan}
use Rattle.keyroom.specs.Outcome.{Outcome, refused}
use Rattle.keyroom.specs.Changes.{outcome_of}
use Rattle.commands.specs.Late.{refused_after}
use Rattle.commands.specs.Planning.{Took, TookAsked, TookAll, StopsBefore, PlansWith}

-- ---- weaker
pub asked_weaker : (asks may : ℕ → Type 0) → ((count : ℕ) → asks count → may count) → (coming comes : Option (List (List ℕ))) → TookAsked asks coming comes → TookAsked may coming comes
asked_weaker asks may ask coming comes (count, is, took) = (count, ask count is, took)

pub all_weaker : (asks may : ℕ → Type 0) → ((count : ℕ) → asks count → may count) → (coming comes : Option (List (List ℕ))) → TookAll asks coming comes → TookAll may coming comes
all_weaker asks may ask coming comes (count, is, took) = (count, ask count is, took)

module _ (means on : Outcome → Type 0) (asks may : ℕ → Type 0) (weaker : (o : Outcome) → means o → on o) (ask : (count : ℕ) → asks count → may count) where
  stops_weaker : (coming comes : Option (List (List ℕ))) (status : Status) (cause : Cause) → StopsBefore means asks coming comes status cause → StopsBefore on may coming comes status cause
  stops_weaker coming comes status Done h = absurd h
  stops_weaker coming comes status Refusal h = (h.0, weaker (refused_after h.0 status) h.1, h.2)
  stops_weaker coming comes status Shelf h = h
  stops_weaker coming comes status Entropy h = asked_weaker asks may ask coming comes h
  stops_weaker coming comes status Crew h = all_weaker asks may ask coming comes h
  stops_weaker coming comes status Sink h = absurd h
  stops_weaker coming comes status Memory (inl same) = inl same
  stops_weaker coming comes status Memory (inr some) = inr (asked_weaker asks may ask coming comes some)

  pub plans_weaker : (coming comes : Option (List (List ℕ))) (r : Result Plan Status) → PlansWith means asks coming comes r → PlansWith on may coming comes r
  plans_weaker coming comes (Ok plan) h = (h.0, weaker (outcome_of h.0 plan) h.1, h.2)
  plans_weaker coming comes (Err status) h = stops_weaker coming comes status (cause_of status) h

-- ---- a plan that takes no seeds
pub took_none : (coming : Option (List (List ℕ))) → Took 0 coming coming
took_none None = record { there = tt; gone = refl }
took_none (Some seeds) = record { there = omega arith; gone = refl }

-- a step that takes none refused
pub stops_asking : (means : Outcome → Type 0) (asks : ℕ → Type 0) (coming comes : Option (List (List ℕ))) (status : Status) (cause : Cause) → cause_of status ≡ cause → IsOfPlan cause → comes ≡ coming →
    (cause_of status ≡ Refusal → means (refused status)) → StopsBefore means asks coming comes status cause
stops_asking means asks coming comes status Done e by same h = absurd by
stops_asking means asks coming comes status Refusal e by same h = (0, h e, subst (Took 0 coming) (sym same) (took_none coming))
stops_asking means asks coming comes status Shelf e by same h = same
stops_asking means asks coming comes status Entropy e by same h = absurd by
stops_asking means asks coming comes status Crew e by same h = absurd by
stops_asking means asks coming comes status Sink e by same h = absurd by
stops_asking means asks coming comes status Memory e by same h = inl same
