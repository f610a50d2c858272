-- The clauses of the top call on a refresh.
use Rattle.std.proofs.Common.{◌≡◌, inl, inr, ℕ, List, [], take, Option, Some, None, Ok, sym, subst}
use Rattle.std.specs.Prelude.{IfSome}
use Rattle.talk.specs.Shape.{refresh_shape}
use Rattle.shelf.specs.Held.{Held, after}
use Rattle.sharefile.specs.Files.{Now, IsNow}
use Rattle.keyroom.specs.declared.status.Status.{Status}
use Rattle.keyroom.specs.Causes.{cause_of}
use Rattle.keyroom.specs.Steps.{now_of}
use Rattle.keyroom.specs.Words.{Command, Refresh, ReadsAs}
use Rattle.keyroom.proofs.Spelling.{same_command}
use Rattle.commands.proofs.Kept.{sound_stays, refreshes_by_one, refreshes_keep_the_key}
use Rattle.committee.specs.Answer.{MadeAll, Does}
use Rattle.commands.specs.Kept.{IsRefreshed, IsKept, KeyStays}
use Rattle.committee.specs.Meaning.{ReadsNow, Given, of_phase, Means, AskForSeeds}
use Rattle.committee.proofs.Doing.{MadeSome, made_all, made_some}
use Rattle.committee.proofs.OneMeaning.{meant_of}

-- what is held after a refresh is so kept under some masks
abbrev pub KeptUnderSome : List (List ℕ) → (ℕ → ℕ) → Option (List (List ℕ)) → Option Held → Option Held → Type 0
KeptUnderSome words cuts coming old new =
    IfSome old (λ m. IfSome new (λ rest. (name : List ℕ) (drill : Option (List ℕ)) (before : Now) → ReadsAs words (Refresh name drill) → (masks : List ℕ) × IsKept name drill before coming cuts masks m rest))

-- where the shelf is as it was
pub unchanged_keeps : (words : List (List ℕ)) (cuts : ℕ → ℕ) (coming : Option (List (List ℕ))) (old new : Option Held) → new ≡ old → KeptUnderSome words cuts coming old new
unchanged_keeps words cuts coming None new e = tt
unchanged_keeps words cuts coming (Some m) None e = tt
unchanged_keeps words cuts coming (Some m) (Some rest) e = λ name drill before again.
    let same : rest ≡ m = cc in (
      [],
      record {
        made = inl same;
        stays = λ polys sound. subst (KeyStays name before polys m) (sym same) (sound_stays name (refresh_shape before.n before.t) drill [] before m polys sound);
      },
    )

-- ---- the clauses
pub is_after : (m rest : Held) → Some m ≡ Some rest → rest ≡ m
is_after m rest e = cc

reads_refresh : (words : List (List ℕ)) (command : Command) (name : List ℕ) (drill : Option (List ℕ)) (held : Held) → ReadsAs words command → ReadsAs words (Refresh name drill) → ReadsNow command held → (before : Now) → now_of name held ≡ Ok before → IsNow before
reads_refresh words command name drill held reads again known = subst (λ (c : Command). ReadsNow c held) (same_command words command (Refresh name drill) reads again) known

module _ (words : List (List ℕ)) (cuts : ℕ → ℕ) (coming comes : Option (List (List ℕ))) (told tells : Option (List ℕ)) (status : Status) where
  pub run_by_one : (old new : Option Held) →
      IfSome old (λ m. Does (Means words (record { held = m; coming = coming; cuts = cuts })) (AskForSeeds words m) (record { held = old; coming = coming; told = told }) (record { held = new; coming = comes; told = tells }) status) →
      (command : Command) → ReadsAs words command → IfSome old (λ m. ReadsNow command m) →
      MadeAll (cause_of status) → IfSome old (λ m. IfSome new (λ after_all. (name : List ℕ) (drill : Option (List ℕ)) (before : Now) → ReadsAs words (Refresh name drill) → now_of name m ≡ Ok before → IsRefreshed name before m after_all))
  run_by_one None new does command reads known made = tt
  run_by_one (Some m) None does command reads known made = tt
  run_by_one (Some m) (Some rest) does command reads known made = λ name drill before again now_is.
      let given : Given = record { held = m; coming = coming; cuts = cuts } in
      let o = made_all (Means words given) (AskForSeeds words m) (record { held = Some m; coming = coming; told = told }) (record { held = Some rest; coming = comes; told = tells }) status made does in
      let meant = meant_of words given (Refresh name drill) o.0 again o.1 in
      subst (IsRefreshed name before m) (is_after rest (after o.0.changes m) o.3)
      (refreshes_by_one name drill m coming cuts _ o.0 before meant.1 o.2 now_is (reads_refresh words command name drill m reads again known before now_is))

  -- after a part of the changes
  part_keeps : (m rest : Held) → MadeSome (Means words (record { held = m; coming = coming; cuts = cuts })) (Some m) (Some rest) → (command : Command) → ReadsAs words command → ReadsNow command m →
      (name : List ℕ) (drill : Option (List ℕ)) (before : Now) → ReadsAs words (Refresh name drill) → (masks : List ℕ) × IsKept name drill before coming cuts masks m rest
  part_keeps m rest made command reads known name drill before again =
      let meant = meant_of words (record { held = m; coming = coming; cuts = cuts }) (Refresh name drill) made.outcome again made.meant in
      let is : rest ≡ after (take made.count made.outcome.changes) m = sym (is_after rest (after (take made.count made.outcome.changes) m) made.is) in (
        of_phase meant.0 0,
        record {
          made = inr (record { outcome = made.outcome; meant = meant.1; count = made.count; is = is });
          stays = λ polys sound.
              subst (KeyStays name before polys m) (sym is)
              (refreshes_keep_the_key name drill m coming cuts _ made.outcome before polys made.count meant.1 (reads_refresh words command name drill m reads again known before sound.now_is) sound);
        },
      )

  pub run_keeps_the_key : (old new : Option Held) →
      IfSome old (λ m. Does (Means words (record { held = m; coming = coming; cuts = cuts })) (AskForSeeds words m) (record { held = old; coming = coming; told = told }) (record { held = new; coming = comes; told = tells }) status) →
      (command : Command) → ReadsAs words command → IfSome old (λ m. ReadsNow command m) → KeptUnderSome words cuts coming old new
  run_keeps_the_key None new does command reads known = tt
  run_keeps_the_key (Some m) None does command reads known = tt
  run_keeps_the_key (Some m) (Some rest) does command reads known =
      elim (made_some (Means words (record { held = m; coming = coming; cuts = cuts })) (AskForSeeds words m) (record { held = Some m; coming = coming; told = told }) (record { held = Some rest; coming = comes; told = tells }) status does) [
        | inl same ↦ unchanged_keeps words cuts coming (Some m) (Some rest) same
        | inr made ↦ part_keeps m rest made command reads known
      ]
