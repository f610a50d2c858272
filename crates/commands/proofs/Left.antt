-- What it means for a phase and for a move that enough members are left, and what is refused where too few are.
use Rattle.std.proofs.Common.{◌≡◌, inl, inr, ◌⊎◌, ℕ, ◌-◌, ◌<◌, ◌≤◌, Bool, true, false, cond, List, length, Result, Ok, Err, refl, sym, ap, ◌∙◌, subst, arith}
use Rattle.std.specs.Prelude.{nat_lt}
use Rattle.std.proofs.lemmas.Bool.{cases_lt, lt-ltb}
use Rattle.sharing61.specs.Count.{how_many}
use Rattle.talk.specs.Shape.{Shape}
use Rattle.machines.specs.Machines.{InMasks}
use Rattle.plays.specs.Play.{Play}
use Rattle.keyroom.specs.declared.status.Status.{Status}
use Rattle.keyroom.specs.declared.status.Status.TheVariants.{TooFewSound}
use Rattle.keyroom.specs.Outcome.{Outcome}
use Rattle.keyroom.specs.Steps.{◌and_then◌}
use Rattle.keyroom.proofs.Working.{and_then_ok}
use Rattle.commands.specs.Late.{down_after, enough_after, refused_after}
use Rattle.commands.specs.Move.{new_down, enough_moved, ThenAfter}
use Rattle.commands.specs.Standing.{Standing}
use Rattle.commands.proofs.Late.{each_has, after_up, few_left}

-- who isn't down after a phase is in each of its masks
pub in_masks_after : (s : Shape) (rounds : ℕ) (masks : List ℕ) (before : ℕ → Bool) → rounds ≤ length masks → InMasks s rounds masks (down_after before masks)
in_masks_after s rounds masks before long round seat lt honest = each_has masks round seat (omega (arith, lt, long)) (after_up before masks seat honest.up).1

-- ---- enough are left
left_cases : (left needed k : ℕ) → (left < needed) ⊎ (needed ≤ left) → cond (nat_lt left needed) (Err (TooFewSound left needed)) (Ok left) ≡ Ok k → needed ≤ left
left_cases left needed k (inl lt) e = absurd (let f = sym (ap (λ (b : Bool). let r : Result ℕ Status = cond b (Err (TooFewSound left needed)) (Ok left) in r) (lt-ltb left needed lt)) ∙ e in cc)
left_cases left needed k (inr le) e = le

-- then few are down
pub few_after : (n t k : ℕ) (down : ℕ → Bool) → t < n → enough_after n t down ≡ Ok k → how_many n down ≤ t
few_after n t k down lt e = few_left n t (how_many n down) lt (left_cases (n - how_many n down) (n - t) k (cases_lt (n - how_many n down) (n - t)) e)

-- of both committees of a move
pub both_left : (st : Standing) (m u k : ℕ) (p : Play) → st.now.t < st.now.n → u < m → enough_moved st m u p ≡ Ok k → (how_many st.now.n p.down ≤ st.now.t) × (how_many m (new_down p) ≤ u)
both_left st m u k p old new e =
    let r = and_then_ok (enough_after st.now.n st.now.t p.down) (λ left. enough_after m u (new_down p)) k e in
    (few_after st.now.n st.now.t r.0 p.down old r.1, few_after m u k (new_down p) new r.2)

-- ---- too few are
abbrev pub IsTooFew : Status → Type 0
IsTooFew (TooFewSound sound needed) = Unit {0}
IsTooFew status = ⊥

few_refused : (b : Bool) (left needed : ℕ) (status : Status) → cond b (Err (TooFewSound left needed)) (Ok left) ≡ Err status → IsTooFew status
few_refused true left needed status e = let same : TooFewSound left needed ≡ status = cc in subst IsTooFew same tt
few_refused false left needed status e = absurd cc

pub left_refused : (n t : ℕ) (down : ℕ → Bool) (status : Status) → enough_after n t down ≡ Err status → IsTooFew status
left_refused n t down status e = few_refused (nat_lt (n - how_many n down) (n - t)) (n - how_many n down) (n - t) status e

then_refused : {A B : Type 0} (r : Result A Status) (f : A → Result B Status) (status : Status) →
    ((s : Status) → r ≡ Err s → IsTooFew s) → ((x : A) (s : Status) → f x ≡ Err s → IsTooFew s) → (r and_then f) ≡ Err status → IsTooFew status
then_refused (Ok x) f status first second e = second x status e
then_refused (Err s) f status first second e = let same : s ≡ status = cc in subst IsTooFew same (first s refl)

pub both_refused : (st : Standing) (m u : ℕ) (p : Play) (status : Status) → enough_moved st m u p ≡ Err status → IsTooFew status
both_refused st m u p status e =
    then_refused (enough_after st.now.n st.now.t p.down) (λ left. enough_after m u (new_down p)) status
    (λ s f. left_refused st.now.n st.now.t p.down s f) (λ left s f. left_refused m u (new_down p) s f) e

-- ---- a step behind a phase
-- it gave a value, or refused
pub after_cases : {A : Type 0} (taken : ℕ) (r : Result A Status) (next : A → Outcome → Type 0) (outcome : Outcome) → ThenAfter taken r next outcome →
    ((x : A) × (r ≡ Ok x) × next x outcome) ⊎ ((status : Status) × (r ≡ Err status) × (outcome ≡ refused_after taken status))
after_cases taken (Ok x) next outcome h = inl (x, refl, h)
after_cases taken (Err status) next outcome h = inr (status, refl, h)

pub after_ok : {A : Type 0} (taken : ℕ) (r : Result A Status) (x : A) (next : A → Outcome → Type 0) (outcome : Outcome) → r ≡ Ok x → next x outcome → ThenAfter taken r next outcome
after_ok {A = A} taken (Ok y) x next outcome e h = let same : y ≡ x = cc in subst (λ (z : A). next z outcome) (sym same) h
after_ok {A = A} taken (Err status) x next outcome e h = absurd cc

pub after_refused : {A : Type 0} (taken : ℕ) (r : Result A Status) (status : Status) (next : A → Outcome → Type 0) → r ≡ Err status → ThenAfter taken r next (refused_after taken status)
after_refused taken (Ok x) status next e = absurd cc
after_refused taken (Err s) status next e = let same : s ≡ status = cc in ap (refused_after taken) (sym same)
