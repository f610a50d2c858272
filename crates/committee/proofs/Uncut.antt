-- Where nobody is cut the words and the outside have one status.
use Rattle.std.proofs.Common.{◌≡◌, ◌⊎◌, inl, inr, ℕ, List, sym, ◌∙◌}
use Rattle.keyroom.specs.Outcome.{Outcome}
use Rattle.keyroom.specs.Words.{Command, Create, Refresh, Move, Recover, Check, Seal, Open, Rehearse, ReadsAs}
use Rattle.committee.specs.Meaning.{Given, of_phase, MeansCommand, TakesSeeds, ComeToMove}
use Rattle.commands.specs.Uncut.{IsUncut}
use Rattle.committee.specs.Uncut.{UncutHaveOneStatus}
use Rattle.commands.proofs.Uncut.{uncut_creates_are_done, uncut_refreshes_are_done}
use Rattle.committee.proofs.Rehearsing.{rehearsed_done}
use Rattle.committee.proofs.OneMeaning.{one_under}

done_or_move : (words : List (List ℕ)) (command : Command) (given : Given) (masks others : List (List ℕ)) (a b : Outcome) (count : ℕ) → ReadsAs words command → IsUncut given.cuts →
    MeansCommand command given masks a → MeansCommand command given others b → TakesSeeds command given.held count → (a.status ≡ b.status) ⊎ ComeToMove words given.held
done_or_move words (Create name n t drill) given masks others a b count reads uncut p q takes =
    let first = uncut_creates_are_done name n t drill given.held takes.1.0 given.coming given.cuts (of_phase masks 0) a reads.in_range takes.1.1 uncut p in
    let second = uncut_creates_are_done name n t drill given.held takes.1.0 given.coming given.cuts (of_phase others 0) b reads.in_range takes.1.1 uncut q in
    inl (first ∙ sym second)
done_or_move words (Refresh name drill) given masks others a b count reads uncut p q takes =
    let first = uncut_refreshes_are_done name drill given.held takes.0 given.coming given.cuts (of_phase masks 0) a takes.1 uncut p in
    let second = uncut_refreshes_are_done name drill given.held takes.0 given.coming given.cuts (of_phase others 0) b takes.1 uncut q in
    inl (first ∙ sym second)
done_or_move words (Move name m u drill) given masks others a b count reads uncut p q takes = inr (name, m, u, drill, reads, (takes.0, takes.1))
done_or_move words (Recover name) given masks others a b count reads uncut p q takes = absurd takes
done_or_move words (Check name) given masks others a b count reads uncut p q takes = absurd takes
done_or_move words (Seal name doc target) given masks others a b count reads uncut p q takes = absurd takes
done_or_move words (Open name source target) given masks others a b count reads uncut p q takes = absurd takes
done_or_move words (Rehearse members bound periods number) given masks others a b count reads uncut p q takes = inl (rehearsed_done members bound periods number a b p q)

pub uncut_have_one_status : UncutHaveOneStatus
uncut_have_one_status words given a b uncut p q =
    elim (one_under words given p.0 q.0 a b p.1 q.1) [
      | inl same ↦ inl same
      | inr (command, reads, means, meant, takes) ↦ done_or_move words command given p.0 q.0 a b takes.0 reads uncut means meant takes.1
    ]
