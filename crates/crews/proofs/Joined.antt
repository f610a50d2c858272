-- Who was started and came to an end has attended.
use Rattle.std.specs.declared.alloc.Global.{Global}
use Rattle.crews.specs.declared.starts.Stop.{Stop}
use Rattle.crews.specs.declared.starts.Stop.TheVariants.{Barred}
use Rattle.crews.specs.declared.starts.Halt.{Halt}
use Rattle.std.proofs.Common.{Vec, IsNone, ◌≡◌, ℕ, zero, suc, ◌+◌, ◌<◌, ◌≤◌, Bool, List, [], ◌∷◌, length, Option, Some, None, Result, Ok, Err, refl, sym, ap, ◌∙◌, subst, arith}
use Rattle.std.specs.Prelude.{slice_get, IfSome, IfOk, IfErr, IsTrue}
use Rattle.crews.specs.declared.starts.Started.{Started}
use Rattle.crews.specs.Crews.{EachAttended}
use Rattle.crews.specs.Starts.{StartedFrom, EachStarted, EachEnded}

-- what has an element at each place of a longer list
has_at : {A B : Type 0} (xs : List A) (ys : List B) (k : ℕ) (y : B) → length ys ≡ length xs → slice_get ys k ≡ Some y → (x : A) × (slice_get xs k ≡ Some x)
has_at [] [] k y e h = absurd (cc (h))
has_at [] (z ∷ ys) k y e h = absurd (omega (arith, e))
has_at (x ∷ xs) [] k y e h = absurd (omega (arith, e))
has_at (x ∷ xs) (z ∷ ys) zero y e h = (x, refl)
has_at (x ∷ xs) (z ∷ ys) (suc k) y e h = has_at xs ys k y (omega (arith, e)) h

module _ {M : Type 0} (attends : M → M → Type 0) (before : List M) (started : List (Started M)) where
  joined : (after : List M) → EachStarted attends before started → EachEnded attends started after → EachAttended attends before after
  joined after s e = (
    e.0 ∙ s.0,
    λ k a b ha hb.
        let one = has_at started after k b e.0 hb in
        e.1 k one.0 b one.1 hb a (s.1 k a one.0 ha one.1),
  )

  pub joined_ok : (r : Result (Vec M Global) Halt) (stop : Option Stop) (complete : Bool) (attended : List M) → IfOk r (λ v. IsNone stop × IsTrue complete × (v.items ≡ attended)) →
      (IsNone stop → EachStarted attends before started) → (IsTrue complete → EachEnded attends started attended) → IfOk r (λ v. EachAttended attends before v.items)
  joined_ok (Ok v) stop complete attended h s e = subst (λ (l : List M). EachAttended attends before l) (sym h.2) (joined attended (s h.0) (e h.1))
  joined_ok (Err x) stop complete attended h s e = tt

-- a stop at a start that was barred
pub barred_of : {A : Type 0} (r : Result A Halt) (stop : Option Stop) (n : ℕ) → IfErr r (λ halt. halt.stop ≡ Barred → stop ≡ Some halt.stop) → IfSome stop (λ one. one ≡ Barred → 1 ≤ n) → IfErr r (λ halt. halt.stop ≡ Barred → 1 ≤ n)
barred_of (Ok v) stop n h s = tt
barred_of (Err x) stop n h s = λ e. subst (λ (o : Option Stop). IfSome o (λ one. one ≡ Barred → 1 ≤ n)) (h e) s e

-- no more members attended than there are
pub few_of : {A : Type 0} (r : Result A Halt) (attended started members : ℕ) → IfErr r (λ halt. halt.attended ≡ attended) → attended ≤ started → started ≤ members → IfErr r (λ halt. halt.attended ≤ members)
few_of (Ok v) attended started members h a b = tt
few_of (Err x) attended started members h a b = omega (arith, h, a, b)
