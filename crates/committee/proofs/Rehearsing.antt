-- A rehearsal in the top call: it has one text, its plan is what it means, and it leaves what stood.
use Rattle.std.proofs.Common.{◌≡◌, ℕ, true, List, [], Option, Some, None, Result, Ok, Err, refl, sym, ap, ◌∙◌, subst}
use Rattle.std.specs.Prelude.{IfOk, IfErr, IfSome, string_bytes}
use Rattle.sizes.specs.Committees.{is_bound, is_size}
use Rattle.shelf.specs.Held.{Held}
use Rattle.keyroom.specs.declared.plan.Plan.{Plan}
use Rattle.keyroom.specs.declared.status.Status.{Status}
use Rattle.keyroom.specs.Causes.{Cause, Done, Refusal, Shelf, Entropy, Crew, Sink, Memory}
use Rattle.keyroom.specs.Outcome.{Outcome, done}
use Rattle.keyroom.specs.Answer.{Carries}
use Rattle.keyroom.specs.Changes.{changes_of}
use Rattle.keyroom.specs.Words.{Command, Rehearse, ReadsAs}
use Rattle.keyroom.proofs.Spelling.{same_command}
use Rattle.commands.specs.Causes.{IsOfCrew, IsFromCrew}
use Rattle.commands.specs.Planning.{PlansWith}
use Rattle.commands.proofs.Asking.{crew_refused}
use Rattle.commands.proofs.Planning.{took_none}
use Rattle.playbill.specs.Printed.{IsTextOf}
use Rattle.playbill.proofs.One.{one_text}
use Rattle.committee.specs.Meaning.{MeansSome, TakesSeeds}
use Rattle.committee.specs.Rehearse.{MeansRehearse, EndsInSome, LeavesRehearsed, PlansRehearsal}

-- ---- there is one text
module _ (members bound periods number : ℕ) (size : is_size members ≡ true) (bounded : is_bound members bound ≡ true) where
  pub one_rehearsed : (a b : Outcome) → MeansRehearse members bound periods number a → MeansRehearse members bound periods number b → a ≡ b
  one_rehearsed a b p q = p.2 ∙ ap (done []) (one_text members bound periods number q.0 p.0 size bounded q.1 p.1) ∙ sym q.2

-- whatever the text, it is done
pub rehearsed_done : (members bound periods number : ℕ) (a b : Outcome) → MeansRehearse members bound periods number a → MeansRehearse members bound periods number b → a.status ≡ b.status
rehearsed_done members bound periods number a b p q = ap (λ (o : Outcome). o.status) p.2 ∙ sym (ap (λ (o : Outcome). o.status) q.2)

-- ---- a plan is what it means
planned : (members bound periods number : ℕ) (means : Outcome → Type 0) (asks : ℕ → Type 0) (coming : Option (List (List ℕ))) (before now : ℕ) (r : Result Plan Status) →
    ((o : Outcome) → MeansRehearse members bound periods number o → means o) → asks 0 → IfErr r (IsFromCrew before now) → IfOk r (λ plan. plan.changes.items ≡ []) →
    IfOk r (λ plan. IsTextOf members bound periods number (string_bytes plan.text)) → PlansWith means asks coming coming r
planned members bound periods number means asks coming before now (Ok plan) is none from empty text =
    (0, is _ (string_bytes plan.text, text, rw empty refl), took_none coming)
planned members bound periods number means asks coming before now (Err status) is none from empty text = crew_refused means asks coming coming 0 before now status none (took_none coming) from

pub rehearsal_told : (members bound periods number : ℕ) (held : Option Held) (coming : Option (List (List ℕ))) (cuts : ℕ → ℕ) (before now : ℕ) (r : Result Plan Status) →
    IfErr r (IsFromCrew before now) → IfOk r (λ plan. plan.changes.items ≡ []) → IfOk r (λ plan. IsTextOf members bound periods number (string_bytes plan.text)) →
    IfSome held (λ m. PlansWith (MeansSome (Rehearse members bound periods number) (record { held = m; coming = coming; cuts = cuts })) (TakesSeeds (Rehearse members bound periods number) m) coming coming r)
rehearsal_told members bound periods number None coming cuts before now r from empty text = tt
rehearsal_told members bound periods number (Some m) coming cuts before now r from empty text =
    planned members bound periods number (MeansSome (Rehearse members bound periods number) (record { held = m; coming = coming; cuts = cuts })) (TakesSeeds (Rehearse members bound periods number) m) coming before now r
    (λ o means. ([], means)) refl from empty text

-- ---- how it ends
-- a plan without changes was carried out
ends_by : (is : List ℕ → Type 0) (text : List ℕ) (old new : Option Held) (told tells : Option (List ℕ)) (cause : Cause) → is text → Carries [] text old new told tells cause → EndsInSome is told tells cause
ends_by is text old new told tells Done has carried = (text, has, carried.1)
ends_by is text old new told tells Refusal has carried = carried
ends_by is text old new told tells Shelf has carried = carried.1
ends_by is text old new told tells Entropy has carried = carried
ends_by is text old new told tells Crew has carried = absurd carried
ends_by is text old new told tells Sink has carried = (text, has, carried.1)
ends_by is text old new told tells Memory has carried = carried.1

pub ends_told : (is : List ℕ → Type 0) (plan : Plan) (old new : Option Held) (told tells : Option (List ℕ)) (cause : Cause) → plan.changes.items ≡ [] → is (string_bytes plan.text) →
    Carries (changes_of plan.changes.items) (string_bytes plan.text) old new told tells cause → EndsInSome is told tells cause
ends_told is plan old new told tells cause empty has carried =
    ends_by is (string_bytes plan.text) old new told tells cause has (subst (λ cs. Carries (changes_of cs) (string_bytes plan.text) old new told tells cause) empty carried)

-- there was no plan
pub ends_untold : (is : List ℕ → Type 0) (told : Option (List ℕ)) (cause : Cause) → IsOfCrew cause → EndsInSome is told told cause
ends_untold is told Done by = absurd by
ends_untold is told Refusal by = by
ends_untold is told Shelf by = absurd by
ends_untold is told Entropy by = by
ends_untold is told Crew by = refl
ends_untold is told Sink by = absurd by
ends_untold is told Memory by = refl

-- ---- the words tell the rehearsal
pub planned_for : {H E : Type 0} (words : List (List ℕ)) (command : Command) (members bound periods number : ℕ) (shelf later : H) (entropy after : E) (result : Result Plan Status) → ReadsAs words command →
    ReadsAs words (Rehearse members bound periods number) → PlansRehearsal command shelf later entropy after result →
    (later ≡ shelf) × (after ≡ entropy) × LeavesRehearsed members bound periods number result
planned_for words command members bound periods number shelf later entropy after result reads again left =
    subst (λ (c : Command). PlansRehearsal c shelf later entropy after result) (same_command words command (Rehearse members bound periods number) reads again) left
