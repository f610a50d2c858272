-- What the words and the outside mean is one outcome.
use Rattle.std.proofs.Common.{◌≡◌, ◌⊎◌, inl, inr, ℕ, List, [], length, take, Option, Some, None, IsSome, Result, Ok, Err, refl, sym, ap, ◌∙◌, subst, arith}
use Rattle.std.proofs.lemmas.List.{take_at}
use Rattle.algebra61.specs.Field.{Fp}
use Rattle.algebra61.specs.Polynomial.{Polynomial}
use Rattle.plays.specs.Play.{Play}
use Rattle.periods.specs.Move.{IsMove}
use Rattle.periods.proofs.Moving.{one_without_result, result_or_none}
use Rattle.shelf.specs.Held.{Held}
use Rattle.sharefile.specs.Files.{Now}
use Rattle.talk.specs.Shape.{create_shape}
use Rattle.drillbook.specs.declared.order.Order.{Order}
use Rattle.keyroom.specs.declared.status.Status.{Status}
use Rattle.keyroom.specs.declared.status.Status.TheVariants.{NoWord}
use Rattle.keyroom.specs.declared.document.Direction.{Direction}
use Rattle.keyroom.specs.declared.document.Direction.TheVariants.{Sealing, Opening}
use Rattle.keyroom.specs.Words.{Command, Recover, Check, Create, Refresh, Move, Seal, Open, Rehearse, IsInRange, ReadsAs}
use Rattle.keyroom.specs.Outcome.{Outcome, done, ThenDo, AreFirst}
use Rattle.keyroom.specs.Steps.{files_of}
use Rattle.keyroom.specs.Decoding.{HonestFiles}
use Rattle.keyroom.specs.Recover.{MeansRecover, recover_outcome, recovered_by}
use Rattle.keyroom.specs.Check.{MeansCheck, check_outcome, checked_by}
use Rattle.keyroom.specs.Texts.{recover_text, check_text}
use Rattle.keyroom.specs.Work.{KeyIsOf}
use Rattle.keyroom.specs.Document.{MeansDocument, DocumentCommandBy, document_outcome}
use Rattle.keyroom.proofs.Spelling.{same_command}
use Rattle.keyroom.proofs.Honest.{one_key, honest_end}
use Rattle.keyroom.proofs.Checking.{one_check, honest_states}
use Rattle.keyroom.proofs.Working.{one_work, honest_work}
use Rattle.commands.specs.Create.{Creates, create_asked, create_end, play_created}
use Rattle.commands.specs.Standing.{Standing, seeds_for}
use Rattle.commands.specs.Refresh.{Refreshes, refresh_asked, refresh_end, play_refreshed}
use Rattle.commands.specs.Move.{move_asked, play_moved, move_outcome, enough_moved, EndsOpened, ThenAfter, EndsMove, Moves}
use Rattle.commands.specs.Late.{refused_after}
use Rattle.committee.specs.Meaning.{Given, of_phase, MeansCommand, MeansSome, MeansUnder, Means, TakesSeeds, ComeToPhase}
use Rattle.committee.specs.Recovery.{document_command}
use Rattle.committee.proofs.Rehearsing.{one_rehearsed, rehearsed_done}
use Rattle.commands.proofs.Left.{both_left}
use Rattle.commands.proofs.Movers.{CanMove, proper_move, can_asked}
use Rattle.commands.proofs.Outs.{one_errors}

one_recover : (name : List ℕ) (held : Held) (a b : Outcome) → MeansRecover name held a → MeansRecover name held b → a ≡ b
one_recover name held a b p q = p.2 ∙ ap recover_outcome (one_key name held p.0 q.0 p.1 q.1) ∙ sym q.2

one_checked : (name : List ℕ) (held : Held) (a b : Outcome) → MeansCheck name held a → MeansCheck name held b → a ≡ b
one_checked name held a b p q = p.2 ∙ ap check_outcome (one_check name held p.0 q.0 p.1 q.1) ∙ sym q.2

one_document : (direction : Direction) (name source target : List ℕ) (held : Held) (a b : Outcome) → MeansDocument direction name source target held a → MeansDocument direction name source target held b → a ≡ b
one_document direction name source target held a b p q = p.2 ∙ ap (document_outcome direction name) (one_work direction name source target held p.0 q.0 p.1 q.1) ∙ sym q.2

-- seeds that were the first of those to come are fixed by them
one_seeds : (coming : Option (List (List ℕ))) (a b : List (List ℕ)) → IsSome coming → length a ≡ length b → AreFirst a coming → AreFirst b coming → a ≡ b
one_seeds None a b told same p q = absurd cc
one_seeds (Some coming) a b told same p q = sym (take_at a p.0 (length a) refl) ∙ ap (take (length a)) (sym p.1 ∙ q.1) ∙ take_at b q.0 (length a) (sym same)

one_created : (name : List ℕ) (n t : ℕ) (asked : Result (List Order) Status) (coming : Option (List (List ℕ))) (cuts : ℕ → ℕ) (masks : List ℕ) (a b : Outcome) → IsSome coming →
    ThenDo asked (Creates name n t coming cuts masks) a → ThenDo asked (Creates name n t coming cuts masks) b → a ≡ b
one_created name n t (Ok orders) coming cuts masks a b told p q =
    p.4 ∙ ap (λ seeds. create_end name n t masks (play_created n t orders seeds masks)) (one_seeds coming p.0 q.0 told (p.1 ∙ sym q.1) p.2 q.2) ∙ sym q.4
one_created name n t (Err status) coming cuts masks a b told p q = p ∙ sym q

one_refreshed : (asked : Result Standing Status) (coming : Option (List (List ℕ))) (cuts : ℕ → ℕ) (masks : List ℕ) (a b : Outcome) → IsSome coming →
    ThenDo asked (Refreshes coming cuts masks) a → ThenDo asked (Refreshes coming cuts masks) b → a ≡ b
one_refreshed (Ok st) coming cuts masks a b told p q =
    p.4 ∙ ap (λ seeds. refresh_end st seeds masks (play_refreshed st seeds masks)) (one_seeds coming p.0 q.0 told (p.1 ∙ sym q.1) p.2 q.2) ∙ sym q.4
one_refreshed (Err status) coming cuts masks a b told p q = p ∙ sym q

-- under the same masks a play of a move has one end
one_refusal : (taken : ℕ) (lane other : ℕ) (syndrome list : List Fp) → lane ≡ other → syndrome ≡ list → refused_after taken (NoWord lane syndrome) ≡ refused_after taken (NoWord other list)
one_refusal taken lane other syndrome list e f = rw (e, f) refl

one_opened : (st : Standing) (m u : ℕ) (masks : List ℕ) (p : Play) (a b : Outcome) → IsMove st.now.t p → EndsOpened st m u masks p a → EndsOpened st m u masks p b → a ≡ b
one_opened st m u masks p a b move (inl (errors, have, e)) (inl (others, too, f)) = e ∙ ap (move_outcome st m u masks p) (one_errors st.now.t p errors others move have too) ∙ sym f
one_opened st m u masks p a b move (inl (errors, have, e)) (inr (lane, syndrome, none, f)) = absurd (result_or_none st.now.t p errors lane syndrome move have none)
one_opened st m u masks p a b move (inr (lane, syndrome, none, e)) (inl (errors, have, f)) = absurd (result_or_none st.now.t p errors lane syndrome move have none)
one_opened st m u masks p a b move (inr (lane, syndrome, none, e)) (inr (other, list, too, f)) =
    let one = one_without_result st.now.t p lane other syndrome list move none too in
    e ∙ one_refusal (seeds_for st) lane other syndrome list one.0 one.1 ∙ sym f

one_ended : (st : Standing) (m u : ℕ) (masks : List ℕ) (p : Play) (a b : Outcome) (r : Result ℕ Status) → ((k : ℕ) → r ≡ Ok k → IsMove st.now.t p) →
    ThenAfter (seeds_for st) r (λ left. EndsOpened st m u masks p) a → ThenAfter (seeds_for st) r (λ left. EndsOpened st m u masks p) b → a ≡ b
one_ended st m u masks p a b (Ok k) move x y = one_opened st m u masks p a b (move k refl) x y
one_ended st m u masks p a b (Err status) move x y = x ∙ sym y

one_moved : (name : List ℕ) (m u : ℕ) (drill : Option (List ℕ)) (held : Held) (asked : Result Standing Status) → move_asked name m u drill held ≡ asked → IsInRange (Move name m u drill) →
    (coming : Option (List (List ℕ))) (cuts : ℕ → ℕ) (masks : List ℕ) (a b : Outcome) → IsSome coming → ThenDo asked (Moves m u coming cuts masks) a → ThenDo asked (Moves m u coming cuts masks) b → a ≡ b
one_moved name m u drill held (Ok st) is range coming cuts masks a b told p q =
    let can : CanMove st m u = can_asked name m u drill held st range is in
    let ended = subst (λ (seeds : List (List ℕ)). EndsMove st m u masks (play_moved st m u seeds masks) b) (sym (one_seeds coming p.0 q.0 told (p.1 ∙ sym q.1) p.2 q.2)) q.4 in
    let play : Play = play_moved st m u p.0 masks in
    one_ended st m u masks play a b (enough_moved st m u play)
    (λ k enough. proper_move st m u can p.0 cuts masks p.3 (both_left st m u k play (omega (arith, can.old.third, can.old.some_bad)) (omega (arith, can.new.third, can.new.some_bad)) enough).1) p.4 ended
one_moved name m u drill held (Err status) is range coming cuts masks a b told p q = p ∙ sym q

one_outcome : (command : Command) (given : Given) (masks : List (List ℕ)) (a b : Outcome) → IsInRange command → IsSome given.coming → MeansCommand command given masks a → MeansCommand command given masks b → a ≡ b
one_outcome (Create name n t drill) given masks a b range told p q = one_created name n t (create_asked name (create_shape n t) drill given.held) given.coming given.cuts (of_phase masks 0) a b told p q
one_outcome (Refresh name drill) given masks a b range told p q = one_refreshed (refresh_asked name drill given.held) given.coming given.cuts (of_phase masks 0) a b told p q
one_outcome (Move name m u drill) given masks a b range told p q = one_moved name m u drill given.held (move_asked name m u drill given.held) refl range given.coming given.cuts (of_phase masks 0) a b told p q
one_outcome (Recover name) given masks a b range told p q = one_recover name given.held a b p q
one_outcome (Check name) given masks a b range told p q = one_checked name given.held a b p q
one_outcome (Seal name doc target) given masks a b range told p q = one_document Sealing name doc target given.held a b p q
one_outcome (Open name source target) given masks a b range told p q = one_document Opening name source target given.held a b p q
one_outcome (Rehearse members bound periods number) given masks a b range told p q = one_rehearsed members bound periods number range.0 range.1 a b p q

-- of one status, unless the command comes to its phase
abbrev OneStatus : Command → Held → Outcome → Outcome → Type 0
OneStatus command held a b = (a.status ≡ b.status) ⊎ ((count : ℕ) × TakesSeeds command held count)

-- its steps give a value, or refuse both times alike
one_of_steps : {A : Type 0} (command : Command) (held : Held) (asked : Result A Status) (count : A → ℕ) → ((x : A) → asked ≡ Ok x → TakesSeeds command held (count x)) → (first second : A → Outcome → Type 0) (a b : Outcome) →
    ThenDo asked first a → ThenDo asked second b → OneStatus command held a b
one_of_steps command held (Ok x) count takes first second a b p q = inr (count x, takes x refl)
one_of_steps command held (Err status) count takes first second a b p q = inl (ap (λ (o : Outcome). o.status) (p ∙ sym q))

one_end : (command : Command) (given : Given) (masks other : List (List ℕ)) (a b : Outcome) → MeansCommand command given masks a → MeansCommand command given other b → OneStatus command given.held a b
one_end (Create name n t drill) given masks other a b p q =
    one_of_steps (Create name n t drill) given.held (create_asked name (create_shape n t) drill given.held) (λ orders. n) (λ orders e. (refl, (orders, e)))
    (Creates name n t given.coming given.cuts (of_phase masks 0)) (Creates name n t given.coming given.cuts (of_phase other 0)) a b p q
one_end (Refresh name drill) given masks other a b p q =
    one_of_steps (Refresh name drill) given.held (refresh_asked name drill given.held) seeds_for (λ st e. (st, e, refl))
    (Refreshes given.coming given.cuts (of_phase masks 0)) (Refreshes given.coming given.cuts (of_phase other 0)) a b p q
one_end (Move name m u drill) given masks other a b p q =
    one_of_steps (Move name m u drill) given.held (move_asked name m u drill given.held) seeds_for (λ st e. (st, e, refl))
    (Moves m u given.coming given.cuts (of_phase masks 0)) (Moves m u given.coming given.cuts (of_phase other 0)) a b p q
one_end (Recover name) given masks other a b p q = inl (ap (λ (o : Outcome). o.status) (one_recover name given.held a b p q))
one_end (Check name) given masks other a b p q = inl (ap (λ (o : Outcome). o.status) (one_checked name given.held a b p q))
one_end (Seal name doc target) given masks other a b p q = inl (ap (λ (o : Outcome). o.status) (one_document Sealing name doc target given.held a b p q))
one_end (Open name source target) given masks other a b p q = inl (ap (λ (o : Outcome). o.status) (one_document Opening name source target given.held a b p q))
one_end (Rehearse members bound periods number) given masks other a b p q = inl (rehearsed_done members bound periods number a b p q)

pub one_meaning : (words : List (List ℕ)) (given : Given) (masks : List (List ℕ)) (a b : Outcome) → IsSome given.coming → MeansUnder masks words given a → MeansUnder masks words given b → a ≡ b
one_meaning words given masks a b told (inl (none, e)) (inl (on, f)) = e ∙ sym f
one_meaning words given masks a b told (inl (none, e)) (inr (command, reads, means)) = absurd (none command reads)
one_meaning words given masks a b told (inr (command, reads, means)) (inl (none, f)) = absurd (none command reads)
one_meaning words given masks a b told (inr (command, reads, means)) (inr (other, again, meant)) =
    one_outcome other given masks a b again.in_range told (subst (λ c. MeansCommand c given masks a) (same_command words command other reads again) means) meant

-- one command was meant twice, which comes to its phase
abbrev pub MeantTwice : List (List ℕ) → Given → List (List ℕ) → List (List ℕ) → Outcome → Outcome → Type 0
MeantTwice words given masks others a b =
    (command : Command) × ReadsAs words command × MeansCommand command given masks a × MeansCommand command given others b × ((count : ℕ) × TakesSeeds command given.held count)

meant_twice : (words : List (List ℕ)) (command : Command) (given : Given) (masks others : List (List ℕ)) (a b : Outcome) → ReadsAs words command → MeansCommand command given masks a → MeansCommand command given others b →
    OneStatus command given.held a b → (a.status ≡ b.status) ⊎ MeantTwice words given masks others a b
meant_twice words command given masks others a b reads p q (inl same) = inl same
meant_twice words command given masks others a b reads p q (inr takes) = inr (command, reads, p, q, takes)

pub one_under : (words : List (List ℕ)) (given : Given) (masks others : List (List ℕ)) (a b : Outcome) → MeansUnder masks words given a → MeansUnder others words given b → (a.status ≡ b.status) ⊎ MeantTwice words given masks others a b
one_under words given masks others a b (inl (none, e)) (inl (on, f)) = inl (ap (λ (o : Outcome). o.status) (e ∙ sym f))
one_under words given masks others a b (inl (none, e)) (inr (command, reads, means)) = absurd (none command reads)
one_under words given masks others a b (inr (command, reads, means)) (inl (none, f)) = absurd (none command reads)
one_under words given masks others a b (inr (command, reads, means)) (inr (other, again, meant)) =
    let first = subst (λ c. MeansCommand c given masks a) (same_command words command other reads again) means in
    meant_twice words other given masks others a b again first meant (one_end other given masks others a b first meant)

came_to_phase : (words : List (List ℕ)) (given : Given) (masks others : List (List ℕ)) (a b : Outcome) → (a.status ≡ b.status) ⊎ MeantTwice words given masks others a b → (a.status ≡ b.status) ⊎ ComeToPhase words given.held
came_to_phase words given masks others a b (inl same) = inl same
came_to_phase words given masks others a b (inr (command, reads, p, q, takes)) = inr (takes.0, (command, reads, takes.1))

pub one_status : (words : List (List ℕ)) (given : Given) (a b : Outcome) → Means words given a → Means words given b → (a.status ≡ b.status) ⊎ ComeToPhase words given.held
one_status words given a b p q = came_to_phase words given p.0 q.0 a b (one_under words given p.0 q.0 a b p.1 q.1)

-- words that are a command mean what it means
pub meant_of : (words : List (List ℕ)) (given : Given) (command : Command) (outcome : Outcome) → ReadsAs words command → Means words given outcome → MeansSome command given outcome
meant_of words given command outcome reads (masks, inl (none, e)) = absurd (none command reads)
meant_of words given command outcome reads (masks, inr (other, again, means)) = (masks, subst (λ c. MeansCommand c given masks outcome) (same_command words other command again reads) means)

-- the files of N - T honest members are recovered
pub honest_recover : (words : List (List ℕ)) (name : List ℕ) (given : Given) (now : Now) (polys : List Polynomial) (outcome : Outcome) → ReadsAs words (Recover name) → HonestFiles name now given.held polys → Means words given outcome →
    outcome ≡ done [] (recover_text (recovered_by now (files_of now given.held) polys))
honest_recover words name given now polys outcome reads h means =
    let meant : MeansRecover name given.held outcome = (meant_of words given (Recover name) outcome reads means).1 in
    meant.2 ∙ ap recover_outcome (honest_end name given.held now polys meant.0 h meant.1)

-- and their states are told
pub honest_check : (words : List (List ℕ)) (name : List ℕ) (given : Given) (now : Now) (polys : List Polynomial) (outcome : Outcome) → ReadsAs words (Check name) → HonestFiles name now given.held polys → Means words given outcome →
    outcome ≡ done [] (check_text (checked_by now (files_of now given.held) polys))
honest_check words name given now polys outcome reads h means =
    let meant : MeansCheck name given.held outcome = (meant_of words given (Check name) outcome reads means).1 in
    meant.2 ∙ ap check_outcome (honest_states name given.held now polys meant.0 h meant.1)

-- documents are sealed and opened under the key that the files of N - T honest members have
means_document : (direction : Direction) (name source target : List ℕ) (given : Given) (outcome : Outcome) → MeansSome (document_command direction name source target) given outcome → MeansDocument direction name source target given.held outcome
means_document Sealing name source target given outcome meant = meant.1
means_document Opening name source target given outcome meant = meant.1

pub honest_document : (direction : Direction) (words : List (List ℕ)) (name source target : List ℕ) (given : Given) (now : Now) (polys : List Polynomial) (outcome : Outcome) →
    ReadsAs words (document_command direction name source target) → HonestFiles name now given.held polys → Means words given outcome → DocumentCommandBy direction (KeyIsOf polys) name source target given.held outcome
honest_document direction words name source target given now polys outcome reads h means =
    let meant = means_document direction name source target given outcome (meant_of words given (document_command direction name source target) outcome reads means) in
    (meant.0, honest_work direction name source target given.held now polys meant.0 h meant.1, meant.2)
