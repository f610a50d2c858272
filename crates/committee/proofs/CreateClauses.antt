-- The clauses of the top call on a create.
use Rattle.std.proofs.Common.{◌≡◌, inl, inr, ℕ, List, take, Option, Some, None, sym, subst}
use Rattle.std.specs.Prelude.{IfSome}
use Rattle.shelf.specs.Held.{Held, after}
use Rattle.sharefile.specs.declared.link.Link.{Link}
use Rattle.sharefile.specs.Files.{Now}
use Rattle.keyroom.specs.declared.status.Status.{Status}
use Rattle.keyroom.specs.Causes.{cause_of}
use Rattle.keyroom.specs.Words.{Create, ReadsAs}
use Rattle.commands.specs.Links.{first_now}
use Rattle.commands.proofs.Creating.{done_created, created_puts, created_held}
use Rattle.committee.specs.Answer.{Does, MadeAll}
use Rattle.committee.specs.Meaning.{Given, Means, AskForSeeds}
use Rattle.commands.specs.Agreement.{HeldOnOneLine, NewOnOneLine}
use Rattle.commands.proofs.Agreement.{part_on_one_line, same_on_one_line}
use Rattle.committee.proofs.OneMeaning.{meant_of}
use Rattle.committee.proofs.Doing.{MadeSome, made_all, made_some}

told_line : (now : Now) (m : Held) (after_all : Held) → Some m ≡ Some after_all → HeldOnOneLine now after_all → HeldOnOneLine now m
told_line now m after_all e h = subst (HeldOnOneLine now) (cc (sym e)) h

pub run_on_one_line : (words : List (List ℕ)) (cuts : ℕ → ℕ) (coming comes : Option (List (List ℕ))) (told tells : Option (List ℕ)) (status : Status) (old new : Option Held) →
    IfSome old (λ m. Does (Means words (record { held = m; coming = coming; cuts = cuts })) (AskForSeeds words m) (record { held = old; coming = coming; told = told }) (record { held = new; coming = comes; told = tells }) status) →
    MadeAll (cause_of status) → IfSome old (λ before. IfSome new (λ m. (name : List ℕ) (n t : ℕ) (drill : Option (List ℕ)) → ReadsAs words (Create name n t drill) → (link : Option Link) → HeldOnOneLine (first_now name n t link) m))
run_on_one_line words cuts coming comes told tells status None new does made = tt
run_on_one_line words cuts coming comes told tells status (Some old) None does made = tt
run_on_one_line words cuts coming comes told tells status (Some old) (Some m) does made = λ name n t drill reads link.
    let given : Given = record { held = old; coming = coming; cuts = cuts } in
    let o = made_all (Means words given) (AskForSeeds words old) (record { held = Some old; coming = coming; told = told }) (record { held = Some m; coming = comes; told = tells }) status made does in
    let meant = meant_of words given (Create name n t drill) o.0 reads o.1 in
    told_line (first_now name n t link) m (after o.0.changes old) o.3
    (created_held name n t drill old coming cuts _ o.0 reads.in_range (done_created name n t drill old coming cuts _ o.0 reads.in_range meant.1 o.2) link)

-- after a part of the changes
part_line : (words : List (List ℕ)) (given : Given) (new : Held) (name : List ℕ) (n t : ℕ) (drill : Option (List ℕ)) → ReadsAs words (Create name n t drill) → (made : MadeSome (Means words given) (Some given.held) (Some new)) → (link : Option Link) → NewOnOneLine (first_now name n t link) given.held new
part_line words given new name n t drill reads made link =
    let meant = meant_of words given (Create name n t drill) made.outcome reads made.meant in
    let was = done_created name n t drill given.held given.coming given.cuts _ made.outcome reads.in_range meant.1 made.planned in
    let is : new ≡ after (take made.count made.outcome.changes) given.held = let e = made.is in cc in
    subst (NewOnOneLine (first_now name n t link) given.held) (sym is)
    (part_on_one_line (first_now name n t link) made.outcome.changes made.count given.held (created_puts name n t drill given.held given.coming given.cuts _ made.outcome reads.in_range was link))

pub run_stopped : (words : List (List ℕ)) (cuts : ℕ → ℕ) (coming comes : Option (List (List ℕ))) (told tells : Option (List ℕ)) (status : Status) (old new : Option Held) →
    IfSome old (λ m. Does (Means words (record { held = m; coming = coming; cuts = cuts })) (AskForSeeds words m) (record { held = old; coming = coming; told = told }) (record { held = new; coming = comes; told = tells }) status) →
    IfSome old (λ before. IfSome new (λ m. (name : List ℕ) (n t : ℕ) (drill : Option (List ℕ)) → ReadsAs words (Create name n t drill) → (link : Option Link) → NewOnOneLine (first_now name n t link) before m))
run_stopped words cuts coming comes told tells status None new does = tt
run_stopped words cuts coming comes told tells status (Some old) None does = tt
run_stopped words cuts coming comes told tells status (Some old) (Some m) does = λ name n t drill reads link.
    let given : Given = record { held = old; coming = coming; cuts = cuts } in
    elim (made_some (Means words given) (AskForSeeds words old) (record { held = Some old; coming = coming; told = told }) (record { held = Some m; coming = comes; told = tells }) status does) [
      | inl same ↦ let is : m ≡ old = cc in subst (NewOnOneLine (first_now name n t link) old) (sym is) (same_on_one_line (first_now name n t link) old)
      | inr made ↦ part_line words given m name n t drill reads made link
    ]
