-- The clauses of the top call on a move.
use Rattle.std.proofs.Common.{◌≡◌, inl, inr, ℕ, List, [], take, Option, Some, None, Ok, refl, sym, subst}
use Rattle.std.specs.Prelude.{IfSome}
use Rattle.algebra61.specs.Field.{Fp}
use Rattle.talk.specs.Shape.{move_shape}
use Rattle.shelf.specs.Held.{Held, after}
use Rattle.sharefile.specs.Files.{Now, IsNow}
use Rattle.keyroom.specs.declared.status.Status.{Status}
use Rattle.keyroom.specs.declared.status.Status.TheVariants.{NoWord}
use Rattle.keyroom.specs.Causes.{cause_of}
use Rattle.keyroom.specs.Outcome.{Outcome}
use Rattle.keyroom.specs.Steps.{now_of}
use Rattle.keyroom.specs.Words.{Command, Move, ReadsAs}
use Rattle.keyroom.proofs.Spelling.{same_command}
use Rattle.committee.specs.Answer.{MadeAll, World, Does}
use Rattle.commands.specs.Kept.{KeyStays}
use Rattle.committee.specs.Meaning.{ReadsNow, Given, of_phase, Means, AskForSeeds}
use Rattle.commands.specs.Late.{refused_after}
use Rattle.commands.specs.Moved.{IsMoved, IsCarriedOn, LacksWord}
use Rattle.committee.proofs.Doing.{MadeSome, made_all, made_some}
use Rattle.commands.proofs.Kept.{sound_stays}
use Rattle.commands.proofs.MoveLaws.{moves_carry_polynomials, moves_name_their_lane, sound_moves_have_words, moves_keep_the_key}
use Rattle.committee.proofs.RefreshClauses.{is_after}
use Rattle.committee.proofs.OneMeaning.{meant_of}

reads_move : (words : List (List ℕ)) (command : Command) (name : List ℕ) (m u : ℕ) (drill : Option (List ℕ)) (held : Held) → ReadsAs words command → ReadsAs words (Move name m u drill) → ReadsNow command held → (before : Now) → now_of name held ≡ Ok before → IsNow before
reads_move words command name m u drill held reads again known = subst (λ (c : Command). ReadsNow c held) (same_command words command (Move name m u drill) reads again) known

-- where the shelf is as it was
pub unchanged_carried : (words : List (List ℕ)) (cuts : ℕ → ℕ) (coming : Option (List (List ℕ))) (old new : Option Held) → new ≡ old →
    IfSome old (λ held. IfSome new (λ rest. (name : List ℕ) (m u : ℕ) (drill : Option (List ℕ)) (before : Now) → ReadsAs words (Move name m u drill) → (masks : List ℕ) × IsCarriedOn name m u drill before coming cuts masks held rest))
unchanged_carried words cuts coming None new e = tt
unchanged_carried words cuts coming (Some held) None e = tt
unchanged_carried words cuts coming (Some held) (Some rest) e = λ name m u drill before again.
    let same : held ≡ rest = cc in
    ([], subst (IsCarriedOn name m u drill before coming cuts [] held) same (record { made = inl refl; stays = λ polys sound. sound_stays name (move_shape before.n before.t m u) drill [] before held polys sound }))

module _ (words : List (List ℕ)) (cuts : ℕ → ℕ) (coming comes : Option (List (List ℕ))) (told tells : Option (List ℕ)) (status : Status) where
  pub run_moved : (old new : Option Held) →
      IfSome old (λ held. Does (Means words (record { held = held; coming = coming; cuts = cuts })) (AskForSeeds words held) (record { held = old; coming = coming; told = told }) (record { held = new; coming = comes; told = tells }) status) →
      (command : Command) → ReadsAs words command → IfSome old (λ held. ReadsNow command held) →
      MadeAll (cause_of status) → IfSome old (λ held. IfSome new (λ rest. (name : List ℕ) (m u : ℕ) (drill : Option (List ℕ)) (before : Now) → ReadsAs words (Move name m u drill) → now_of name held ≡ Ok before → (masks : List ℕ) × IsMoved name m u drill before coming cuts masks held rest))
  run_moved None new does command reads known made = tt
  run_moved (Some held) None does command reads known made = tt
  run_moved (Some held) (Some rest) does command reads known made = λ name m u drill before again now_is.
      let given : Given = record { held = held; coming = coming; cuts = cuts } in
      let o = made_all (Means words given) (AskForSeeds words held) (record { held = Some held; coming = coming; told = told }) (record { held = Some rest; coming = comes; told = tells }) status made does in
      let meant = meant_of words given (Move name m u drill) o.0 again o.1 in (
        _,
        subst (IsMoved name m u drill before coming cuts _ held) (is_after rest (after o.0.changes held) o.3)
            (moves_carry_polynomials name m u drill held coming cuts _ o.0 before again.in_range meant.1 o.2 now_is (reads_move words command name m u drill held reads again known before now_is)),
      )

  -- after a part of the changes
  part_carried : (held rest : Held) → MadeSome (Means words (record { held = held; coming = coming; cuts = cuts })) (Some held) (Some rest) → (command : Command) → ReadsAs words command → ReadsNow command held →
      (name : List ℕ) (m u : ℕ) (drill : Option (List ℕ)) (before : Now) → ReadsAs words (Move name m u drill) → (masks : List ℕ) × IsCarriedOn name m u drill before coming cuts masks held rest
  part_carried held rest made command reads known name m u drill before again =
      let meant = meant_of words (record { held = held; coming = coming; cuts = cuts }) (Move name m u drill) made.outcome again made.meant in
      let is : rest ≡ after (take made.count made.outcome.changes) held = is_after (after (take made.count made.outcome.changes) held) rest (sym made.is) in (
        of_phase meant.0 0,
        record {
          made = inr (record { outcome = made.outcome; meant = meant.1; count = made.count; is = is });
          stays = λ polys sound.
              subst (KeyStays name before polys held) (sym is)
              (moves_keep_the_key name m u drill held coming cuts (of_phase meant.0 0) made.outcome before polys made.count again.in_range meant.1 (reads_move words command name m u drill held reads again known before sound.now_is) sound);
        },
      )

  pub run_carried : (old new : Option Held) →
      IfSome old (λ held. Does (Means words (record { held = held; coming = coming; cuts = cuts })) (AskForSeeds words held) (record { held = old; coming = coming; told = told }) (record { held = new; coming = comes; told = tells }) status) →
      (command : Command) → ReadsAs words command → IfSome old (λ held. ReadsNow command held) →
      IfSome old (λ held. IfSome new (λ rest. (name : List ℕ) (m u : ℕ) (drill : Option (List ℕ)) (before : Now) → ReadsAs words (Move name m u drill) → (masks : List ℕ) × IsCarriedOn name m u drill before coming cuts masks held rest))
  run_carried None new does command reads known = tt
  run_carried (Some held) None does command reads known = tt
  run_carried (Some held) (Some rest) does command reads known =
      elim (made_some (Means words (record { held = held; coming = coming; cuts = cuts })) (AskForSeeds words held) (record { held = Some held; coming = coming; told = told }) (record { held = Some rest; coming = comes; told = tells }) status does) [
        | inl same ↦ unchanged_carried words cuts coming (Some held) (Some rest) same
        | inr made ↦ part_carried held rest made command reads known
      ]

  -- a refusal for want of an error vector is what is meant
  refused_meant : (means : Outcome → Type 0) (asks : ℕ → Type 0) (before now : World) (lane : ℕ) (syndrome : List Fp) → status ≡ NoWord lane syndrome → Does means asks before now status → (taken : ℕ) × means (refused_after taken (NoWord lane syndrome))
  refused_meant means asks before now lane syndrome is does = let d = subst (λ (s : Status). Does means asks before now s) is does in (d.0, d.1)

  pub run_lacks_word : (old new : Option Held) →
      IfSome old (λ held. Does (Means words (record { held = held; coming = coming; cuts = cuts })) (AskForSeeds words held) (record { held = old; coming = coming; told = told }) (record { held = new; coming = comes; told = tells }) status) →
      IfSome old (λ held. (name : List ℕ) (m u : ℕ) (drill : Option (List ℕ)) (lane : ℕ) (syndrome : List Fp) → ReadsAs words (Move name m u drill) → status ≡ NoWord lane syndrome → (masks : List ℕ) × LacksWord name m u drill coming cuts masks held lane syndrome)
  run_lacks_word None new does = tt
  run_lacks_word (Some held) new does = λ name m u drill lane syndrome again is.
      let given : Given = record { held = held; coming = coming; cuts = cuts } in
      let o = refused_meant (Means words given) (AskForSeeds words held) (record { held = Some held; coming = coming; told = told }) (record { held = new; coming = comes; told = tells }) lane syndrome is does in
      let end : Outcome = refused_after o.0 (NoWord lane syndrome) in
      let meant = meant_of words given (Move name m u drill) end again o.1 in (
        of_phase meant.0 0,
        record {
          names = moves_name_their_lane name m u drill held coming cuts (of_phase meant.0 0) end lane syndrome again.in_range meant.1 refl;
          unsound = λ before polys sound. sound_moves_have_words name m u drill held coming cuts (of_phase meant.0 0) end before polys lane syndrome again.in_range meant.1 sound refl;
        },
      )
