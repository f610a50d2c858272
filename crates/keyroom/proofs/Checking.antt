-- A check is a recovery without the key.
use Rattle.std.proofs.Common.{◌≡◌, inl, inr, ℕ, List, Result, Ok, Err, refl, sym, ap, ◌∙◌}
use Rattle.algebra61.specs.Polynomial.{Polynomial}
use Rattle.shelf.specs.Held.{Held}
use Rattle.sharefile.specs.Files.{Now}
use Rattle.keyroom.specs.declared.status.Status.{Status}
use Rattle.keyroom.specs.declared.status.Status.TheVariants.{NoKey}
use Rattle.keyroom.specs.declared.recover.Recovered.{Recovered}
use Rattle.keyroom.specs.declared.check.Checked.{Checked}
use Rattle.keyroom.specs.Outcome.{Then}
use Rattle.keyroom.specs.Steps.{now_of, files_of}
use Rattle.keyroom.specs.Recover.{recovered_by, MeansKeyOf}
use Rattle.keyroom.specs.Decoding.{HonestFiles}
use Rattle.keyroom.specs.Check.{checked_by, MeansStatesOf, MeansStates}
use Rattle.keyroom.proofs.Honest.{one_key, honest_end}

-- the end of a check that belongs to an end of recovery
abbrev pub without_key : Result Recovered Status → Result Checked Status
without_key (Ok r) = Ok (record { file = r.file; members = r.members })
without_key (Err status) = Err status

-- each end of a check comes of an end of recovery
record Comes (held : Held) (now : Now) (c : Result Checked Status) : Type 0 where
  pub end : Result Recovered Status
  pub means : MeansKeyOf now (files_of now held) end
  pub is : c ≡ without_key end

comes_of : (held : Held) (now : Now) (c : Result Checked Status) → MeansStatesOf now (files_of now held) c → Comes held now c
comes_of held now c (inl (polys, near, is)) = record { end = Ok (recovered_by now (files_of now held) polys); means = inl (polys, near, refl); is = is }
comes_of held now c (inr (lane, first, is)) = record { end = Err (NoKey lane); means = inr (lane, first, refl); is = is }

comes_then : (name : List ℕ) (held : Held) (r : Result Now Status) (c : Result Checked Status) → now_of name held ≡ r → Then r (λ now. MeansStatesOf now (files_of now held)) c →
    (end : Result Recovered Status) × Then r (λ now. MeansKeyOf now (files_of now held)) end × (c ≡ without_key end)
comes_then name held (Ok now) c read means = let h = comes_of held now c means in (h.end, h.means, h.is)
comes_then name held (Err status) c read means = (Err status, refl, means)

pub one_check : (name : List ℕ) (held : Held) (a b : Result Checked Status) → MeansStates name held a → MeansStates name held b → a ≡ b
one_check name held a b p q =
    let h = comes_then name held (now_of name held) a refl p in
    let k = comes_then name held (now_of name held) b refl q in
    h.2 ∙ ap without_key (one_key name held h.0 k.0 h.1 k.1) ∙ sym k.2

-- a check of the files of N - T honest members ends with the states by their polynomials
pub honest_states : (name : List ℕ) (held : Held) (now : Now) (polys : List Polynomial) (end : Result Checked Status) → HonestFiles name now held polys → MeansStates name held end → end ≡ Ok (checked_by now (files_of now held) polys)
honest_states name held now polys end h means =
    let c = comes_then name held (now_of name held) end refl means in
    c.2 ∙ ap without_key (honest_end name held now polys c.0 h c.1)
