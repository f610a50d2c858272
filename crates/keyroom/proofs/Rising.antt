-- Seals one after another take document numbers that rise.
use Rattle.std.proofs.Common.{◌≡◌, ◌≢◌, ℕ, ◌+◌, Bool, true, false, cond, List, Option, Some, None, Ok, refl, sym, ap, ◌∙◌, arith}
use Rattle.std.specs.Str.{bytes_eq}
use Rattle.std.specs.Ordering.{nat_cmp, eq_by_cmp}
use Rattle.std.specs.Cmp.Lexicographic.{slice_cmp, nat_list_cmp_total}
use Rattle.std.specs.FinMap.{get, insert, get-insert}
use Rattle.std.proofs.lemmas.Map.Text.{is_eq-slice_cmp}
use Rattle.std.proofs.lemmas.Slice.Eq.{bytes_eq-Decides}
use Rattle.shelf.specs.Held.{Held, after}
use Rattle.sharefile.specs.Files.{Now, IsNow, now_bytes}
use Rattle.sharefile.specs.Reading.{now_at}
use Rattle.sharefile.proofs.Steps.{IsBytes}
use Rattle.sharefile.proofs.NowLaws.{now_taken, now_again}
use Rattle.keyroom.specs.declared.document.Direction.TheVariants.{Sealing}
use Rattle.keyroom.specs.Names.{now_name}
use Rattle.keyroom.specs.Steps.{now_named, now_step, now_of, free_step}
use Rattle.keyroom.specs.Work.{Work}
use Rattle.keyroom.specs.Seal.{raised}
use Rattle.keyroom.specs.Document.{MeansWork}
use Rattle.keyroom.proofs.Reading.{now_read}
use Rattle.keyroom.proofs.RoundTrip.{WasSealed, was_sealed, get_put}

-- a file that the numbers of the next seal fit
raised_is : (now : Now) → IsNow now → (now.next_number ≡ 4294967295 → ⊥) → IsNow (raised now)
raised_is now is room = record {
  name = is.name;
  size = is.size;
  bound = is.bound;
  period = is.period;
  period_fits = is.period_fits;
  number_fits = let no : now.next_number ≢ 4294967295 = room in omega (arith, is.number_fits, no);
  link = is.link;
}

-- it is read under its name
raised_read : (name : List ℕ) (f : Now) → IsNow f → f.name ≡ name → now_step name (Some (now_bytes f)) ≡ Ok f
raised_read name f is named =
    let again : now_at (now_bytes f) ≡ Ok f = now_again f is in
    let same : bytes_eq f.name name ≡ true = (bytes_eq-Decides f.name name).1 named in
    ap (now_named name) again ∙ rw same refl

free_is_none : (o : Option (List ℕ)) → free_step o ≡ Ok tt → o ≡ None
free_is_none None e = refl
free_is_none (Some bytes) e = absurd cc

other_name : (b : Bool) (held : Held) (name target bytes : List ℕ) (o : Option (List ℕ)) → eq_by_cmp (slice_cmp nat_cmp) name target ≡ b → (name ≡ target → ⊥) → cond b (Some bytes) o ≡ o
other_name true held name target bytes o e apart = absurd (apart ((bytes_eq-Decides name target).0 (sym (is_eq-slice_cmp name target) ∙ e)))
other_name false held name target bytes o e apart = refl

-- another name keeps its bytes under a put
get_other : (held : Held) (name target bytes : List ℕ) → (name ≡ target → ⊥) → get (insert held target bytes) name ≡ get held name
get_other held name target bytes apart =
    get-insert nat_list_cmp_total held target bytes name ∙ other_name (eq_by_cmp (slice_cmp nat_cmp) name target) held name target bytes (get held name) refl apart

-- the number of a seal is the next one, and the now file that it leaves has the number behind it
module _ (name doc target : List ℕ) (before : Held) (work : Work) (bytes : List ℕ) (there : get before (now_name name) ≡ Some bytes) (fits : IsBytes bytes) (means : MeansWork Sealing name doc target before (Ok work)) where
  abbrev was : WasSealed name doc target before work
  was = was_sealed name doc target before work means

  pub numbered : work.number ≡ was.asked.now.next_number
  numbered = ap (λ (w : Work). w.number) was.work_is

  now_is : IsNow was.asked.now
  now_is =
      let r = now_read name before was.asked.now was.is.now in
      let same : r.bytes ≡ bytes = let e = sym r.there ∙ there in cc in
      (now_taken bytes was.asked.now fits (ap now_at (sym same) ∙ r.reads)).0

  apart : now_name name ≡ target → ⊥
  apart e =
      let free : get before target ≡ None = free_is_none (get before target) was.is.free in
      let held : get before target ≡ Some bytes = ap (get before) (sym e) ∙ there in
      cc

  left : get (after work.changes before) (now_name name) ≡ Some (now_bytes (raised was.asked.now))
  left =
      let raised_put = insert before (now_name name) (now_bytes (raised was.asked.now)) in
      ap (λ (w : Work). get (after w.changes before) (now_name name)) was.work_is
      ∙ get_other raised_put (now_name name) target was.bytes apart
      ∙ get_put before (now_name name) (now_bytes (raised was.asked.now))

  pub read_later : (later : Held) → get later (now_name name) ≡ get (after work.changes before) (now_name name) → now_of name later ≡ Ok (raised was.asked.now)
  read_later later kept =
      ap (now_step name) (kept ∙ left)
      ∙ raised_read name (raised was.asked.now) (raised_is was.asked.now now_is was.room) (now_read name before was.asked.now was.is.now).named

pub numbers_rise : (name doc target paper copy : List ℕ) (before later : Held) (first second : Work) (bytes : List ℕ) →
    get before (now_name name) ≡ Some bytes → IsBytes bytes → MeansWork Sealing name doc target before (Ok first) →
    get later (now_name name) ≡ get (after first.changes before) (now_name name) → MeansWork Sealing name paper copy later (Ok second) → second.number ≡ first.number + 1
numbers_rise name doc target paper copy before later first second bytes there fits means kept again =
    let a = was_sealed name doc target before first means in
    let b = was_sealed name paper copy later second again in
    let read : now_of name later ≡ Ok (raised a.asked.now) = read_later name doc target before first bytes there fits means later kept in
    let same : b.asked.now ≡ raised a.asked.now = let e = sym b.is.now ∙ read in cc in
    ap (λ (w : Work). w.number) b.work_is ∙ ap (λ (f : Now). f.next_number) same ∙ ap (λ (n : ℕ). n + 1) (sym (numbered name doc target before first bytes there fits means))
