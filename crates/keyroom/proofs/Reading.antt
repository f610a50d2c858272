-- The now file that a command reads.
use Rattle.std.proofs.Common.{◌≡◌, ℕ, Bool, true, false, cond, List, Option, Some, None, Result, Ok, Err, refl, sym, ap, ◌∙◌}
use Rattle.std.specs.Str.{bytes_eq}
use Rattle.std.specs.FinMap.{get}
use Rattle.std.proofs.lemmas.Slice.Eq.{bytes_eq-Decides}
use Rattle.shelf.specs.Held.{Held}
use Rattle.sharefile.specs.declared.fault.FileFault.{FileFault}
use Rattle.sharefile.specs.declared.fault.FileFault.TheVariants.{Field}
use Rattle.sharefile.specs.Files.{Now, IsChecked}
use Rattle.sharefile.specs.Reading.{now_at}
use Rattle.sharefile.proofs.NowLaws.{now_in_range}
use Rattle.keyroom.specs.declared.status.Status.{Status}
use Rattle.keyroom.specs.declared.status.Status.TheVariants.{BadNow}
use Rattle.keyroom.specs.Names.{now_name}
use Rattle.keyroom.specs.Steps.{now_named, now_step, now_of}

-- what the name of a now file holds
pub record HoldsNow (name : List ℕ) (o : Option (List ℕ)) (f : Now) : Type 0 where
  pub bytes : List ℕ
  pub there : o ≡ Some bytes
  pub reads : now_at bytes ≡ Ok f
  pub named : f.name ≡ name

named_cases : (same : Bool) (name : List ℕ) (g f : Now) (s : Status) → bytes_eq g.name name ≡ same → cond same (Ok g) (Err s) ≡ Ok f → (g ≡ f) × (f.name ≡ name)
named_cases true name g f s is e = let same : g ≡ f = cc in (same, ap (λ (h : Now). h.name) (sym same) ∙ (bytes_eq-Decides g.name name).0 is)
named_cases false name g f s is e = absurd cc

read_named : (name bytes : List ℕ) (r : Result Now FileFault) (f : Now) → now_at bytes ≡ r → now_named name r ≡ Ok f → HoldsNow name (Some bytes) f
read_named name bytes (Ok g) f read e =
    let c = named_cases (bytes_eq g.name name) name g f (BadNow (Field 16)) refl e in
    record { bytes = bytes; there = refl; reads = read ∙ ap Ok c.0; named = c.1 }
read_named name bytes (Err fault) f read e = absurd cc

read_step : (name : List ℕ) (o : Option (List ℕ)) (f : Now) → now_step name o ≡ Ok f → HoldsNow name o f
read_step name None f e = absurd cc
read_step name (Some bytes) f e = read_named name bytes (now_at bytes) f refl e

pub now_read : (name : List ℕ) (held : Held) (f : Now) → now_of name held ≡ Ok f → HoldsNow name (get held (now_name name)) f
now_read name held f e = read_step name (get held (now_name name)) f e

-- it has a key's name, and is of a committee that the program has
pub now_checked : (name : List ℕ) (held : Held) (f : Now) → now_of name held ≡ Ok f → IsChecked f
now_checked name held f e = let r = now_read name held f e in now_in_range r.bytes f r.reads
