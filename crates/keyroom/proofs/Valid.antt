-- A member's valid share file.
use Rattle.std.proofs.Common.{◌≡◌, ℕ, Bool, true, false, cond, ◌&&◌, List, Option, Some, None, Result, Ok, Err, refl, sym, ap, ◌∙◌}
use Rattle.std.specs.Prelude.{◌==◌}
use Rattle.std.specs.FinMap.{get}
use Rattle.std.specs.Str.{bytes_eq}
use Rattle.std.specs.Option.{option_eq}
use Rattle.std.proofs.lemmas.Bool.{and_parts, eqb-true}
use Rattle.shelf.specs.Held.{Held}
use Rattle.sharefile.specs.declared.fault.FileFault.{FileFault}
use Rattle.sharefile.specs.Files.{Now, Share, committee_of}
use Rattle.sharefile.specs.Reading.{share_at}
use Rattle.keyroom.specs.declared.steps.Found.TheVariants.{Invalid, Valid}
use Rattle.keyroom.specs.Names.{share_name}
use Rattle.keyroom.specs.Steps.{is_asked, share_asked, share_step, HasShare}

asked_cases : (b : Bool) (f file : Share) → cond b (Valid f) Invalid ≡ Valid file → (b ≡ true) × (f ≡ file)
asked_cases true f file e = (refl, cc)
asked_cases false f file e = absurd (cc)

asked_index : (now : Now) (index : ℕ) (f : Share) → is_asked now index f ≡ true → f.index ≡ index
asked_index now index f e =
    let before : Bool = bytes_eq f.name now.name && (f.period == now.period) && (f.n == now.n) && (f.t == now.t) && option_eq bytes_eq f.committee (committee_of now) in
    eqb-true f.index index (and_parts before (f.index == index) e).1

-- what the name of a valid share file holds
pub record Holds (now : Now) (j : ℕ) (o : Option (List ℕ)) (file : Share) : Type 0 where
  pub bytes : List ℕ
  pub is : o ≡ Some bytes
  pub read : share_at bytes ≡ Ok file
  pub index : file.index ≡ j

asked_held : (now : Now) (j : ℕ) (bytes : List ℕ) (r : Result Share FileFault) (file : Share) → share_at bytes ≡ r → share_asked now j r ≡ Valid file → Holds now j (Some bytes) file
asked_held now j bytes (Err fault) file e h = absurd (cc)
asked_held now j bytes (Ok f) file e h =
    let both = asked_cases (is_asked now j f) f file h in
    record { bytes = bytes; is = refl; read = e ∙ ap (λ (x : Share). Ok x) both.1; index = ap (λ (x : Share). x.index) (sym both.1) ∙ asked_index now j f both.0 }

pub step_held : (now : Now) (j : ℕ) (o : Option (List ℕ)) (file : Share) → share_step now j o ≡ Valid file → Holds now j o file
step_held now j None file h = absurd (cc)
step_held now j (Some bytes) file h = asked_held now j bytes (share_at bytes) file refl h

pub valid_held : (now : Now) (held : Held) (j : ℕ) (file : Share) → HasShare now held j file → Holds now j (get held (share_name now.name now.period j)) file
valid_held now held j file h = step_held now j (get held (share_name now.name now.period j)) file h
