-- Commands that end in the key of enough honest share files.
use Rattle.std.proofs.Common.{◌≡◌, ◌≢◌, ℕ, List, [], Option, Some, None, Result, Ok, Err, ap, subst, sym, ◌∙◌, inl, inr, refl}
use Rattle.std.specs.Prelude.{IfSome}
use Rattle.algebra61.specs.Polynomial.{Polynomial}
use Rattle.shelf.specs.Held.{Held}
use Rattle.sharefile.specs.Files.{Now}
use Rattle.keyroom.specs.declared.status.Status.{Status}
use Rattle.keyroom.specs.declared.status.Status.TheVariants as answer
use Rattle.keyroom.specs.declared.status.Status.TheVariants.{NoKey}
use Rattle.keyroom.specs.declared.document.Direction.{Direction}
use Rattle.keyroom.specs.declared.document.Direction.TheVariants.{Sealing, Opening}
use Rattle.keyroom.specs.Causes.{Cause, Done, Refusal, Shelf, Entropy, Crew, Sink, Memory, cause_of}
use Rattle.keyroom.specs.Outcome.{Outcome, done}
use Rattle.keyroom.specs.Words.{Command, Recover, Check, ReadsAs, IsUsage}
use Rattle.keyroom.specs.Steps.{files_of}
use Rattle.keyroom.specs.Decoding.{HonestFiles}
use Rattle.keyroom.specs.Recover.{recovered_by}
use Rattle.keyroom.specs.Check.{checked_by}
use Rattle.keyroom.specs.Work.{Work, KeyIsOf}
use Rattle.keyroom.specs.Document.{WorksBy, DocumentCommandBy, document_outcome}
use Rattle.keyroom.specs.Texts.{recover_text, check_text}
use Rattle.keyroom.specs.Answer.{Carries}
use Rattle.keyroom.proofs.Spelling.{same_command}
use Rattle.keyroom.proofs.Working.{work_has_key}
use Rattle.commands.specs.Late.{refused_after}
use Rattle.committee.specs.Answer.{World, CarriedOut, DoesBy, Does}
use Rattle.committee.specs.Meaning.{Given, Means, TakesSeeds, AskForSeeds}
use Rattle.committee.specs.Recovery.{EndsInText, AsksNone, Honestly, document_command}
use Rattle.committee.proofs.Doing.{does_weaker}
use Rattle.committee.proofs.OneMeaning.{honest_recover, honest_check, honest_document}

-- ---- what means one text and no change ends in that text
module _ (means : Outcome → Type 0) (text : List ℕ) (one : (o : Outcome) → means o → o ≡ done [] text) (asks : ℕ → Type 0) (never : (count : ℕ) → asks count → ⊥) (before now : World) where
  carried_text : (cause : Cause) (o : Outcome) → CarriedOut means before now cause o → Carries [] text before.held now.held before.told now.told cause
  carried_text cause o c =
      subst (λ (x : Outcome). Carries x.changes x.text before.held now.held before.told now.told cause) (one o c.meant) c.carried

  no_refusal : {A : Type 0} (status : Status) (taken : ℕ) → cause_of status ≡ Refusal → means (refused_after taken status) → A
  no_refusal status taken is h = let same : status ≡ answer.Done = ap (λ (o : Outcome). o.status) (one (refused_after taken status) h) in absurd (let e = sym is ∙ ap cause_of same in cc)

  ends_by : (status : Status) (cause : Cause) → cause_of status ≡ cause → DoesBy means asks before now status cause → EndsInText text before.told now.told cause
  ends_by status Done is (o, c) = (carried_text Done o c).1
  ends_by status Refusal is d = no_refusal status d.0 is d.1
  ends_by status Shelf is (inl same) = ap (λ (w : World). w.told) same
  ends_by status Shelf is (inr (o, c)) = (carried_text Shelf o c).1
  ends_by status Entropy is d = absurd (never d.1.0 d.1.1)
  ends_by status Crew is d = absurd (never d.1.0 d.1.1)
  ends_by status Sink is (o, c) = (carried_text Sink o c).1
  ends_by status Memory is (inl (same, none)) = same.told
  ends_by status Memory is (inr (o, c)) = (carried_text Memory o c).1

  ends_in_text : (status : Status) → Does means asks before now status → EndsInText text before.told now.told (cause_of status)
  ends_in_text status d = ends_by status (cause_of status) refl d

-- ---- a command that takes no seeds asks for none
asks_none : (words : List (List ℕ)) (command : Command) (held : Held) → ReadsAs words command → ((count : ℕ) → TakesSeeds command held count → ⊥) → (count : ℕ) → AskForSeeds words held count → ⊥
asks_none words command held reads never count (other, again, takes) = never count (subst (λ c. TakesSeeds c held count) (same_command words other command again reads) takes)

documents_take_none : (direction : Direction) (name source target : List ℕ) (held : Held) (count : ℕ) → TakesSeeds (document_command direction name source target) held count → ⊥
documents_take_none Sealing name source target held count takes = takes
documents_take_none Opening name source target held count takes = takes

-- ---- sealing and opening under a key that there is
keyless_end : (direction : Direction) (name source target : List ℕ) (polys : List Polynomial) (held : Held) (lane taken : ℕ) (end : Result Work Status) → WorksBy direction (KeyIsOf polys) name source target held end →
    refused_after taken (NoKey lane) ≡ document_outcome direction name end → ⊥
keyless_end direction name source target polys held lane taken (Ok work) works is = let e : NoKey lane ≡ answer.Done = ap (λ (o : Outcome). o.status) is in cc
keyless_end direction name source target polys held lane taken (Err s) works is =
    let e : s ≡ NoKey lane = sym (ap (λ (o : Outcome). o.status) is) in
    work_has_key direction polys name source target held lane (subst (λ t. WorksBy direction (KeyIsOf polys) name source target held (Err t)) e works)

document_keyed : (direction : Direction) (name source target : List ℕ) (polys : List Polynomial) (held : Held) (before now : World) (status : Status) → Does (DocumentCommandBy direction (KeyIsOf polys) name source target held) AsksNone before now status →
    (lane : ℕ) → status ≢ NoKey lane
document_keyed direction name source target polys held before now status does lane e =
    let d = subst (λ s. Does (DocumentCommandBy direction (KeyIsOf polys) name source target held) AsksNone before now s) e does in
    keyless_end direction name source target polys held lane d.0 d.1.0 d.1.1 d.1.2

-- ---- the clauses of the top call
module _ (words : List (List ℕ)) (cuts : ℕ → ℕ) (coming comes : Option (List (List ℕ))) (told tells : Option (List ℕ)) (status : Status) (old : Held) (new : Option Held) where
  abbrev given : Given
  given = record { held = old; coming = coming; cuts = cuts }

  abbrev was : World
  was = record { held = Some old; coming = coming; told = told }

  abbrev is : World
  is = record { held = new; coming = comes; told = tells }

  module _ (does : Does (Means words given) (AskForSeeds words old) was is status) (name : List ℕ) (now : Now) (polys : List Polynomial) (honest : HonestFiles name now old polys) where
    document : (direction : Direction) (source target : List ℕ) → ReadsAs words (document_command direction name source target) → Does (DocumentCommandBy direction (KeyIsOf polys) name source target old) AsksNone was is status
    document direction source target reads = does_weaker (Means words given) (DocumentCommandBy direction (KeyIsOf polys) name source target old) (AskForSeeds words old) AsksNone
        (λ o means. honest_document direction words name source target given now polys o reads honest means)
        (asks_none words (document_command direction name source target) old reads (documents_take_none direction name source target old)) was is status does

    pub honestly : Honestly words name now polys old was is status
    honestly = record {
      recovers = λ reads. ends_in_text (Means words given) (recover_text (recovered_by now (files_of now old) polys))
          (λ o means. honest_recover words name given now polys o reads honest means)
          (AskForSeeds words old) (asks_none words (Recover name) old reads (λ count takes. takes)) was is status does;
      checks = λ reads. ends_in_text (Means words given) (check_text (checked_by now (files_of now old) polys))
          (λ o means. honest_check words name given now polys o reads honest means)
          (AskForSeeds words old) (asks_none words (Check name) old reads (λ count takes. takes)) was is status does;
      works = document;
      keyed = λ direction source target reads lane. document_keyed direction name source target polys old was is status (document direction source target reads) lane;
    }

pub run_honestly : (words : List (List ℕ)) (cuts : ℕ → ℕ) (coming comes : Option (List (List ℕ))) (told tells : Option (List ℕ)) (status : Status) (old new : Option Held) →
    IfSome old (λ m. Does (Means words (record { held = m; coming = coming; cuts = cuts })) (AskForSeeds words m) (record { held = old; coming = coming; told = told }) (record { held = new; coming = comes; told = tells }) status) →
    IfSome old (λ m. (name : List ℕ) (now : Now) (polys : List Polynomial) → HonestFiles name now m polys →
    Honestly words name now polys m (record { held = old; coming = coming; told = told }) (record { held = new; coming = comes; told = tells }) status)
run_honestly words cuts coming comes told tells status None new does = tt
run_honestly words cuts coming comes told tells status (Some old) new does = honestly words cuts coming comes told tells status old new does

-- words that are no command are none of these
pub no_command : (words : List (List ℕ)) (before after : World) (status : Status) (old : Option Held) → IsUsage words →
    IfSome old (λ m. (name : List ℕ) (now : Now) (polys : List Polynomial) → HonestFiles name now m polys → Honestly words name now polys m before after status)
no_command words before after status None none = tt
no_command words before after status (Some m) none = λ name now polys honest. record {
  recovers = λ reads. absurd (none (Recover name) reads);
  checks = λ reads. absurd (none (Check name) reads);
  works = λ direction source target reads. absurd (none (document_command direction name source target) reads);
  keyed = λ direction source target reads. absurd (none (document_command direction name source target) reads);
}
