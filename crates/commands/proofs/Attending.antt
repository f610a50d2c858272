-- A member attended on each seat of a command's phase.
use Rattle.std.proofs.Common.{◌≡◌, ℕ, ◌+◌, ◌-◌, ◌^◌, List, Option, Some, None, Result, Ok, Err, sym, ◌∙◌, subst, arith}
use Rattle.std.specs.Prelude.{min, IfSome, IfOk}
use Rattle.shelf.specs.Held.{Held}
use Rattle.sharefile.specs.Files.{Now}
use Rattle.talk.specs.Shape.{Shape}
use Rattle.keyroom.specs.Steps.{now_of}
use Rattle.commands.specs.Crews.{Attended}
use Rattle.commands.specs.Standing.{Standing, next_asked}
use Rattle.commands.proofs.GoingOn.{asked_stands}

-- so many attended
pub attended_all : {X E : Type 0} (count before now : ℕ) (r : Result X E) → IfOk r (λ _. now ≡ min (before + count) (2 ^ 64 - 1)) → IfOk r (λ _. Attended count before now)
attended_all count before now (Ok x) is = omega (arith, is)
attended_all count before now (Err e) is = tt

-- as many as the committee of the now file has members, and `more`
module _ (setting : Now → Shape) (name : List ℕ) (drill : Option (List ℕ)) (more before now : ℕ) where
  attended_at : (m : Held) (st : Standing) → next_asked setting name drill m ≡ Ok st → now ≡ min (before + (st.now.n + more)) (2 ^ 64 - 1) → (file : Now) → now_of name m ≡ Ok file → Attended (file.n + more) before now
  attended_at m st asked is file held =
      let same : st.now ≡ file = let e = sym (asked_stands setting name drill m st asked).now_is ∙ held in cc in
      subst (λ (f : Now). Attended (f.n + more) before now) same (omega (arith, is))

  attended_told : (held : Option Held) (st : Standing) → IfSome held (λ m. next_asked setting name drill m ≡ Ok st) → now ≡ min (before + (st.now.n + more)) (2 ^ 64 - 1) →
      IfSome held (λ m. (file : Now) → now_of name m ≡ Ok file → Attended (file.n + more) before now)
  attended_told None st asked is = tt
  attended_told (Some m) st asked is = attended_at m st asked is

  pub attended_both : {X E : Type 0} (held : Option Held) (st : Standing) (r : Result X E) → IfSome held (λ m. next_asked setting name drill m ≡ Ok st) → IfOk r (λ _. now ≡ min (before + (st.now.n + more)) (2 ^ 64 - 1)) →
      IfOk r (λ _. IfSome held (λ m. (file : Now) → now_of name m ≡ Ok file → Attended (file.n + more) before now))
  attended_both held st (Ok x) asked is = attended_told held st asked is
  attended_both held st (Err e) asked is = tt

-- and no more
module _ (setting : Now → Shape) (name : List ℕ) (drill : Option (List ℕ)) (before now : ℕ) where
  one_at : (m : Held) (st : Standing) → next_asked setting name drill m ≡ Ok st → now ≡ min (before + st.now.n) (2 ^ 64 - 1) → (file : Now) → now_of name m ≡ Ok file → Attended file.n before now
  one_at m st asked is file held =
      let same : st.now ≡ file = let e = sym (asked_stands setting name drill m st asked).now_is ∙ held in cc in
      subst (λ (f : Now). Attended f.n before now) same (omega (arith, is))

  one_told : (held : Option Held) (st : Standing) → IfSome held (λ m. next_asked setting name drill m ≡ Ok st) → now ≡ min (before + st.now.n) (2 ^ 64 - 1) →
      IfSome held (λ m. (file : Now) → now_of name m ≡ Ok file → Attended file.n before now)
  one_told None st asked is = tt
  one_told (Some m) st asked is = one_at m st asked is

  pub attended_one : {X E : Type 0} (held : Option Held) (st : Standing) (r : Result X E) → IfSome held (λ m. next_asked setting name drill m ≡ Ok st) → IfOk r (λ _. now ≡ min (before + st.now.n) (2 ^ 64 - 1)) →
      IfOk r (λ _. IfSome held (λ m. (file : Now) → now_of name m ≡ Ok file → Attended file.n before now))
  attended_one held st (Ok x) asked is = one_told held st asked is
  attended_one held st (Err e) asked is = tt
