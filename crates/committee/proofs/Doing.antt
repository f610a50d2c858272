-- A plan that was carried out is what the words mean.
use Rattle.std.proofs.Common.{◌≡◌, ◌⊎◌, ℕ, List, [], ◌∷◌, length, take, Option, Some, None, Result, Ok, Err, refl, sym, ap, ◌∙◌, subst, inl, inr, arith, append-nil}
use Rattle.std.specs.Prelude.{IfSome, IfErr}
use Rattle.std.specs.Option.{option_map}
use Rattle.std.proofs.lemmas.List.{take_all}
use Rattle.shelf.specs.Held.{Held, Change, after}
use Rattle.counters.specs.Counts.{Rose}
use Rattle.keyroom.specs.declared.status.Status.{Status}
use Rattle.keyroom.specs.declared.status.Status.TheVariants as answer
use Rattle.keyroom.specs.declared.plan.Plan.{Plan}
use Rattle.keyroom.specs.Causes.{Cause, Done, Refusal, Shelf, Entropy, Crew, Sink, Memory, cause_of, IsFromPlan}
use Rattle.keyroom.specs.Outcome.{Outcome, refused}
use Rattle.keyroom.specs.Answer.{IsChanged, IsTold, Carries, Plans}
use Rattle.keyroom.specs.Words.{Command, ReadsAs, IsUsage}
use Rattle.commands.specs.Late.{refused_after}
use Rattle.committee.specs.Answer.{World, CarriedOut, IsUntouched, DoesBy, Does, IsWhole, Completes, Writes, MadeAll}
use Rattle.commands.specs.Planning.{UnderSome, Took, StopsBefore, PlansWith}
use Rattle.committee.specs.Meaning.{Given, MeansCommand, MeansSome, Means, TakesSeeds, AskForSeeds}
use Rattle.commands.proofs.Planning.{asked_weaker, all_weaker, plans_weaker, took_none, stops_asking}

pub if_told : {A : Type 0} {P Q : A → Type 0} (o : Option A) → ((m : A) → P m → Q m) → IfSome o P → IfSome o Q
if_told None f h = tt
if_told (Some m) f h = f m h

-- ---- a plan was carried out
module _ (means : Outcome → Type 0) (asks : ℕ → Type 0) (before after : World) (o : Outcome) (is : means o) (planned : o.status ≡ answer.Done) (took : Took o.taken before.coming after.coming) where
  whole : (cause : Cause) → Carries o.changes o.text before.held after.held before.told after.told cause → CarriedOut means before after cause o
  whole cause carried = record { meant = is; planned = planned; carried = carried; took = took }

  does : (status : Status) (cause : Cause) → Carries o.changes o.text before.held after.held before.told after.told cause → DoesBy means asks before after status cause
  does status Done carried = (o, whole Done carried)
  does status Refusal carried = absurd carried
  does status Shelf carried = inr (o, whole Shelf carried)
  does status Entropy carried = absurd carried
  does status Crew carried = absurd carried
  does status Sink carried = (o, whole Sink carried)
  does status Memory carried = inr (o, whole Memory carried)

  -- after calls that only read
  pub does_then : (mid : Option Held) (status : Status) → mid ≡ before.held → Carries o.changes o.text mid after.held before.told after.told (cause_of status) → Does means asks before after status
  does_then mid status same carried = does status (cause_of status) (subst (λ h. Carries o.changes o.text h after.held before.told after.told (cause_of status)) same carried)

-- ---- what was done of one meaning was done of a weaker one
module _ (means on : Outcome → Type 0) (asks may : ℕ → Type 0) (weaker : (o : Outcome) → means o → on o) (ask : (count : ℕ) → asks count → may count) where
  carried_of : (before after : World) (cause : Cause) → (o : Outcome) × CarriedOut means before after cause o → (o : Outcome) × CarriedOut on before after cause o
  carried_of before after cause (o, c) = (o, record { meant = weaker o c.meant; planned = c.planned; carried = c.carried; took = c.took })

  does_by_weaker : (before after : World) (status : Status) (cause : Cause) → DoesBy means asks before after status cause → DoesBy on may before after status cause
  does_by_weaker before after status Done d = carried_of before after Done d
  does_by_weaker before after status Refusal d = (d.0, weaker (refused_after d.0 status) d.1, d.2, d.3)
  does_by_weaker before after status Shelf (inl same) = inl same
  does_by_weaker before after status Shelf (inr d) = inr (carried_of before after Shelf d)
  does_by_weaker before after status Entropy d = (d.0, asked_weaker asks may ask before.coming after.coming d.1)
  does_by_weaker before after status Crew d = (d.0, all_weaker asks may ask before.coming after.coming d.1)
  does_by_weaker before after status Sink d = carried_of before after Sink d
  does_by_weaker before after status Memory (inl (same, inl none)) = inl (same, inl none)
  does_by_weaker before after status Memory (inl (same, inr some)) = inl (same, inr (asked_weaker asks may ask before.coming after.coming some))
  does_by_weaker before after status Memory (inr d) = inr (carried_of before after Memory d)

  pub does_weaker : (before after : World) (status : Status) → Does means asks before after status → Does on may before after status
  does_weaker before after status d = does_by_weaker before after status (cause_of status) d

-- ---- a plan that takes no seeds
-- of a command that is the same under all masks
plans_with : (means : Outcome → Type 0) (asks : ℕ → Type 0) (coming : Option (List (List ℕ))) (before now : ℕ) (r : Result Plan Status) → IfErr r (λ s. IsFromPlan before now s) → Plans means r →
    PlansWith (λ o. (masks : List (List ℕ)) × means o) asks coming coming r
plans_with means asks coming before now (Ok plan) from h = (0, ([], h), took_none coming)
plans_with means asks coming before now (Err status) from h = stops_asking (λ o. (masks : List (List ℕ)) × means o) asks coming coming status (cause_of status) refl from.by refl (λ is. ([], h is))

pub plans_told : (M : Held → Outcome → Type 0) (asks : Held → ℕ → Type 0) (held : Option Held) (coming : Option (List (List ℕ))) (before now : ℕ) (r : Result Plan Status) → IfErr r (λ s. IsFromPlan before now s) →
    IfSome held (λ m. Plans (M m) r) → IfSome held (λ m. PlansWith (λ o. (masks : List (List ℕ)) × M m o) (asks m) coming coming r)
plans_told M asks held coming before now r from h =
    if_told {P = λ m. Plans (M m) r} {Q = λ m. PlansWith (λ o. (masks : List (List ℕ)) × M m o) (asks m) coming coming r} held (λ m. plans_with (M m) (asks m) coming before now r from) h

-- ---- a plan is for what the words mean
-- what a command's phase means under some masks the command means under some
pub phase_told : (command : Command) (means : Held → List ℕ → Outcome → Type 0) (held : Option Held) (coming comes : Option (List (List ℕ))) (cuts : ℕ → ℕ) (r : Result Plan Status) →
    ((m : Held) (masks : List ℕ) (o : Outcome) → means m masks o → MeansCommand command (record { held = m; coming = coming; cuts = cuts }) (masks ∷ []) o) →
    IfSome held (λ m. PlansWith (UnderSome (means m)) (TakesSeeds command m) coming comes r) →
    IfSome held (λ m. PlansWith (MeansSome command (record { held = m; coming = coming; cuts = cuts })) (TakesSeeds command m) coming comes r)
phase_told command means held coming comes cuts r same h =
    if_told {P = λ m. PlansWith (UnderSome (means m)) (TakesSeeds command m) coming comes r} {Q = λ m. PlansWith (MeansSome command (record { held = m; coming = coming; cuts = cuts })) (TakesSeeds command m) coming comes r} held
    (λ m. plans_weaker (UnderSome (means m)) (MeansSome command (record { held = m; coming = coming; cuts = cuts })) (TakesSeeds command m) (TakesSeeds command m)
    (λ o under. (under.0 ∷ [], same m under.0 o under.1)) (λ count takes. takes) coming comes r) h

pub read_under : (words : List (List ℕ)) (given : Given) (command : Command) (o : Outcome) → ReadsAs words command → MeansSome command given o → Means words given o
read_under words given command o reads h = (h.0, inr (command, reads, h.1))

-- ---- changes were made
-- all changes of an outcome were made, where the shelf tells what it holds
made_by : (means : Outcome → Type 0) (asks : ℕ → Type 0) (before now : World) (status : Status) (cause : Cause) → MadeAll cause → DoesBy means asks before now status cause → (o : Outcome) × means o × (o.status ≡ answer.Done) × (now.held ≡ option_map (after o.changes) before.held)
made_by means asks before now status Done made (o, c) = (o, c.meant, c.planned, c.carried.0)
made_by means asks before now status Refusal made d = absurd made
made_by means asks before now status Shelf made d = absurd made
made_by means asks before now status Entropy made d = absurd made
made_by means asks before now status Crew made d = absurd made
made_by means asks before now status Sink made (o, c) = (o, c.meant, c.planned, c.carried.0)
made_by means asks before now status Memory made d = absurd made

pub made_all : (means : Outcome → Type 0) (asks : ℕ → Type 0) (before now : World) (status : Status) → MadeAll (cause_of status) → Does means asks before now status → (o : Outcome) × means o × (o.status ≡ answer.Done) × (now.held ≡ option_map (after o.changes) before.held)
made_all means asks before now status made d = made_by means asks before now status (cause_of status) made d

-- a part of them, from the front
pub record MadeSome (means : Outcome → Type 0) (old new : Option Held) : Type 0 where
  pub outcome : Outcome
  pub meant : means outcome
  pub planned : outcome.status ≡ answer.Done
  pub count : ℕ
  pub is : new ≡ option_map (after (take count outcome.changes)) old

whole_made : (old new : Option Held) (changes : List Change) → new ≡ option_map (after changes) old → new ≡ option_map (after (take (length changes) changes)) old
whole_made old new changes e = e ∙ ap (λ cs. option_map (after cs) old) (sym (take_all (length changes) changes (omega arith)))

made_some_by : (means : Outcome → Type 0) (asks : ℕ → Type 0) (before now : World) (status : Status) (cause : Cause) → DoesBy means asks before now status cause → (now.held ≡ before.held) ⊎ MadeSome means before.held now.held
made_some_by means asks before now status Done (o, c) = inr (record { outcome = o; meant = c.meant; planned = c.planned; count = length o.changes; is = whole_made before.held now.held o.changes c.carried.0 })
made_some_by means asks before now status Refusal d = inl d.2.held
made_some_by means asks before now status Shelf (inl same) = inl (ap (λ (w : World). w.held) same)
made_some_by means asks before now status Shelf (inr (o, c)) = inr (record { outcome = o; meant = c.meant; planned = c.planned; count = c.carried.0.0; is = c.carried.0.2 })
made_some_by means asks before now status Entropy d = inl d.0.held
made_some_by means asks before now status Crew d = inl d.0.held
made_some_by means asks before now status Sink (o, c) = inr (record { outcome = o; meant = c.meant; planned = c.planned; count = length o.changes; is = whole_made before.held now.held o.changes c.carried.0 })
made_some_by means asks before now status Memory (inl (same, none)) = inl same.held
made_some_by means asks before now status Memory (inr (o, c)) = inr (record { outcome = o; meant = c.meant; planned = c.planned; count = c.carried.0.0; is = c.carried.0.2 })

pub made_some : (means : Outcome → Type 0) (asks : ℕ → Type 0) (before now : World) (status : Status) → Does means asks before now status → (now.held ≡ before.held) ⊎ MadeSome means before.held now.held
made_some means asks before now status d = made_some_by means asks before now status (cause_of status) d

-- ---- a refusal before anything is changed is what the words mean, unless the outside or memory failed
world_same : (old new : Option Held) (coming comes : Option (List (List ℕ))) (told : Option (List ℕ)) → new ≡ old → comes ≡ coming →
    ◌≡◌ {A = World} (record { held = new; coming = comes; told = told }) (record { held = old; coming = coming; told = told })
world_same old new coming comes told e f = rw (e, f) refl

module _ (words : List (List ℕ)) (given : Given) (command : Command) (reads : ReadsAs words command) (old new : Option Held) (comes : Option (List (List ℕ))) (told : Option (List ℕ)) (same : new ≡ old) where
  ask : (count : ℕ) → TakesSeeds command given.held count → AskForSeeds words given.held count
  ask count takes = (command, reads, takes)

  refused_by : (status : Status) (cause : Cause) → StopsBefore (MeansSome command given) (TakesSeeds command given.held) given.coming comes status cause →
      DoesBy (Means words given) (AskForSeeds words given.held) (record { held = old; coming = given.coming; told = told }) (record { held = new; coming = comes; told = told }) status cause
  refused_by status Done h = absurd h
  refused_by status Refusal h = (h.0, read_under words given command (refused_after h.0 status) reads h.1, record { held = same; told = refl }, h.2)
  refused_by status Shelf h = inl (world_same old new given.coming comes told same h)
  refused_by status Entropy h = (record { held = same; told = refl }, asked_weaker (TakesSeeds command given.held) (AskForSeeds words given.held) ask given.coming comes h)
  refused_by status Crew h = (record { held = same; told = refl }, all_weaker (TakesSeeds command given.held) (AskForSeeds words given.held) ask given.coming comes h)
  refused_by status Sink h = absurd h
  refused_by status Memory (inl none) = inl (record { held = same; told = refl }, inl none)
  refused_by status Memory (inr some) = inl (record { held = same; told = refl }, inr (asked_weaker (TakesSeeds command given.held) (AskForSeeds words given.held) ask given.coming comes some))

  pub refused_does : (status : Status) → StopsBefore (MeansSome command given) (TakesSeeds command given.held) given.coming comes status (cause_of status) →
      Does (Means words given) (AskForSeeds words given.held) (record { held = old; coming = given.coming; told = told }) (record { held = new; coming = comes; told = told }) status
  refused_does status h = refused_by status (cause_of status) h

-- ---- without faults it is done whole
unchanged : (old : Option Held) → IsChanged [] old old
unchanged None = refl
unchanged (Some held) = refl

untold : (told : Option (List ℕ)) → IsTold [] told told
untold None = refl
untold (Some text) = ap Some (sym (append-nil text))

module _ (means : Outcome → Type 0) (asks : ℕ → Type 0) (before after : World) where
  refusal_whole : (status : Status) (taken : ℕ) → means (refused_after taken status) → IsUntouched before after → Took taken before.coming after.coming → IsWhole means before after status (refused_after taken status)
  refusal_whole status taken is same took = record {
    meant = is;
    answered = refl;
    held = subst (IsChanged [] before.held) (sym same.held) (unchanged before.held);
    told = subst (IsTold [] before.told) (sym same.told) (untold before.told);
    took = took;
  }

  completes_by : (status : Status) (cause : Cause) → cause_of status ≡ cause → (cause ≡ Done → status ≡ answer.Done) → (cause ≡ Shelf → ⊥) → (cause ≡ Entropy → ⊥) → (cause ≡ Crew → ⊥) → (cause ≡ Sink → ⊥) → DoesBy means asks before after status cause → Completes means before after status
  completes_by status Done e done shelf entropy crew sink (o, c) = inr (o, record { meant = c.meant; answered = c.planned ∙ sym (done refl); held = c.carried.0; told = c.carried.1; took = c.took })
  completes_by status Refusal e done shelf entropy crew sink d = inr (refused_after d.0 status, refusal_whole status d.0 d.1 d.2 d.3)
  completes_by status Shelf e done shelf entropy crew sink d = absurd (shelf refl)
  completes_by status Entropy e done shelf entropy crew sink d = absurd (entropy refl)
  completes_by status Crew e done shelf entropy crew sink d = absurd (crew refl)
  completes_by status Sink e done shelf entropy crew sink d = absurd (sink refl)
  completes_by status Memory e done shelf entropy crew sink d = inl e

  pub completes : (status : Status) → (cause_of status ≡ Done → status ≡ answer.Done) → (cause_of status ≡ Shelf → ⊥) → (cause_of status ≡ Entropy → ⊥) → (cause_of status ≡ Crew → ⊥) → (cause_of status ≡ Sink → ⊥) → Does means asks before after status → Completes means before after status
  completes status done shelf entropy crew sink d = completes_by status (cause_of status) refl done shelf entropy crew sink d

-- ---- what the sink was given
written_by : (changes : List Change) (text : List ℕ) (old new : Option Held) (told tells : Option (List ℕ)) (cause : Cause) → Carries changes text old new told tells cause → Writes told tells cause
written_by changes text old new told tells Done (changed, is) = (text, is)
written_by changes text old new told tells Refusal carried = absurd carried
written_by changes text old new told tells Shelf (part, same) = same
written_by changes text old new told tells Entropy carried = absurd carried
written_by changes text old new told tells Crew carried = absurd carried
written_by changes text old new told tells Sink (changed, (n, le, is)) = (take n text, is)
written_by changes text old new told tells Memory (part, same) = same

pub written : (changes : List Change) (text : List ℕ) (old new : Option Held) (told tells : Option (List ℕ)) (status : Status) → Carries changes text old new told tells (cause_of status) → Writes told tells (cause_of status)
written changes text old new told tells status carried = written_by changes text old new told tells (cause_of status) carried

quiet_by : (told tells : Option (List ℕ)) (cause : Cause) → (cause ≡ Done → ⊥) → (cause ≡ Sink → ⊥) → tells ≡ told → Writes told tells cause
quiet_by told tells Done undone unsunk same = absurd (undone refl)
quiet_by told tells Refusal undone unsunk same = same
quiet_by told tells Shelf undone unsunk same = same
quiet_by told tells Entropy undone unsunk same = same
quiet_by told tells Crew undone unsunk same = same
quiet_by told tells Sink undone unsunk same = absurd (unsunk refl)
quiet_by told tells Memory undone unsunk same = same

pub quiet : (told tells : Option (List ℕ)) (status : Status) → (cause_of status ≡ Done → ⊥) → (cause_of status ≡ Sink → ⊥) → tells ≡ told → Writes told tells (cause_of status)
quiet told tells status undone unsunk same = quiet_by told tells (cause_of status) undone unsunk same

-- ---- no fault where nothing failed
pub never_rose : (before now : ℕ) → before ≡ 0 → now ≡ 0 → Rose before now → ⊥
never_rose before now e f rose = omega (arith, e, f, rose)

pub carries_no_entropy : (changes : List Change) (text : List ℕ) (old new : Option Held) (told tells : Option (List ℕ)) (cause : Cause) → Carries changes text old new told tells cause → cause ≡ Entropy → ⊥
carries_no_entropy changes text old new told tells cause carried e = subst (λ c. Carries changes text old new told tells c) e carried

pub carries_no_crew : (changes : List Change) (text : List ℕ) (old new : Option Held) (told tells : Option (List ℕ)) (cause : Cause) → Carries changes text old new told tells cause → cause ≡ Crew → ⊥
carries_no_crew changes text old new told tells cause carried e = subst (λ c. Carries changes text old new told tells c) e carried

-- words that are no command
pub usage_does : (words : List (List ℕ)) (cuts : ℕ → ℕ) (held : Option Held) (coming : Option (List (List ℕ))) (told : Option (List ℕ)) → IsUsage words →
    IfSome held (λ m. Does (Means words (record { held = m; coming = coming; cuts = cuts })) (AskForSeeds words m) (record { held = held; coming = coming; told = told }) (record { held = held; coming = coming; told = told }) answer.Usage)
usage_does words cuts None coming told none = tt
usage_does words cuts (Some m) coming told none = (0, ([], inl (none, refl)), record { held = refl; told = refl }, took_none coming)

-- whatever is asked beside
pub usage_whole : (words : List (List ℕ)) (cuts : ℕ → ℕ) (held : Option Held) (coming : Option (List (List ℕ))) (told : Option (List ℕ)) (A B C D E : Type 0) → IsUsage words →
    IfSome held (λ m. A → B → C → D → E → Completes (Means words (record { held = m; coming = coming; cuts = cuts })) (record { held = held; coming = coming; told = told }) (record { held = held; coming = coming; told = told }) answer.Usage)
usage_whole words cuts None coming told A B C D E none = tt
usage_whole words cuts (Some m) coming told A B C D E none = λ a b c d e.
    let given : Given = record { held = m; coming = coming; cuts = cuts } in
    let world : World = record { held = Some m; coming = coming; told = told } in
    inr (refused answer.Usage, refusal_whole (Means words given) (AskForSeeds words m) world world answer.Usage 0 ([], inl (none, refl)) (record { held = refl; told = refl }) (took_none coming))
