-- The drill that a phase reads: no committee has more members named than may be faulty, and what the step refuses with.
use Rattle.std.proofs.Common.{◌≡◌, ℕ, zero, suc, ◌≤◌, Bool, true, false, cond, List, [], Option, Some, None, Result, Ok, Err, refl, sym, ap, ◌∙◌, subst, arith, leb}
use Rattle.std.specs.FinMap.{get}
use Rattle.std.proofs.lemmas.Bool.{leb-true}
use Rattle.shelf.specs.Held.{Held}
use Rattle.talk.specs.Shape.{Shape}
use Rattle.drillbook.specs.declared.order.Order.{Order}
use Rattle.drillbook.specs.declared.fault.DrillFault.{DrillFault}
use Rattle.drillbook.specs.declared.fault.DrillFault.TheVariants.{TooMany}
use Rattle.drillbook.specs.Orders.{moves}
use Rattle.drillbook.specs.Text.{drill_at, lines_at, split, counted, named_among, old_bound, unless_many}
use Rattle.drillbook.proofs.Lawful.{both_ok}
use Rattle.keyroom.specs.declared.status.Status.{Status}
use Rattle.keyroom.specs.declared.status.Status.TheVariants.{NoSuch, BadNow, BadDrill, TooFewSound, Full}
use Rattle.keyroom.specs.declared.status.What.TheVariants.{Drill}
use Rattle.commands.specs.Drill.{drill_read, drill_step, drill_of}

-- ---- few are named
few_cases : (b : Bool) (r : Result (List Order) DrillFault) (orders : List Order) (e : DrillFault) → cond b r (Err e) ≡ Ok orders → (b ≡ true) × (r ≡ Ok orders)
few_cases true r orders e h = (refl, h)
few_cases false r orders e h = absurd cc

few_counted : (bound : ℕ) (s : Shape) (a orders : List Order) → unless_many (named_among a s.shift s.receivers) bound (Ok a) ≡ Ok orders → named_among orders s.shift s.receivers ≤ bound
few_counted bound s a orders h =
    let r = few_cases (leb (named_among a s.shift s.receivers) bound) (Ok a) orders (TooMany (named_among a s.shift s.receivers) bound) h in
    let same : a ≡ orders = let e = r.1 in cc in
    leb-true (named_among orders s.shift s.receivers) bound (ap (λ (x : List Order). leb (named_among x s.shift s.receivers) bound) (sym same) ∙ r.0)

-- whether or not an old committee is looked at first
few_either : (b : Bool) (s : Shape) (a orders : List Order) →
    cond b (unless_many (named_among a 0 s.dealers) (old_bound s) (unless_many (named_among a s.shift s.receivers) s.bound (Ok a))) (unless_many (named_among a s.shift s.receivers) s.bound (Ok a)) ≡ Ok orders →
    named_among orders s.shift s.receivers ≤ s.bound
few_either true s a orders h =
    let r = few_cases (leb (named_among a 0 s.dealers) (old_bound s)) (unless_many (named_among a s.shift s.receivers) s.bound (Ok a)) orders (TooMany (named_among a 0 s.dealers) (old_bound s)) h in
    few_counted s.bound s a orders r.1
few_either false s a orders h = few_counted s.bound s a orders h

few_read : (s : Shape) (text : List ℕ) (orders : List Order) → drill_at s text ≡ Ok orders → named_among orders s.shift s.receivers ≤ s.bound
unfolding drill_at
few_read s text orders h =
    let r = both_ok (lines_at s 1 [] (split 10 text)) (counted s) orders h in
    few_either (moves s) s r.0 orders r.2

pub none_named : (n shift : ℕ) → named_among [] shift n ≡ 0
none_named zero shift = refl
none_named (suc n) shift = omega (arith, none_named n shift)

few_text : (s : Shape) (text : List ℕ) (r : Result (List Order) DrillFault) (orders : List Order) → drill_at s text ≡ r → drill_read r ≡ Ok orders → named_among orders s.shift s.receivers ≤ s.bound
few_text s text (Ok read) orders e h = let same : read ≡ orders = cc in few_read s text orders (e ∙ ap Ok same)
few_text s text (Err fault) orders e h = absurd cc

few_step : (s : Shape) (text : Option (List ℕ)) (orders : List Order) → drill_step s text ≡ Ok orders → named_among orders s.shift s.receivers ≤ s.bound
few_step s None orders e = absurd cc
few_step s (Some text) orders e = few_text s text (drill_at s text) orders refl e

-- of the receivers at most the bound is named
pub few_drill : (s : Shape) (drill : Option (List ℕ)) (held : Held) (orders : List Order) → drill_of s drill held ≡ Ok orders → named_among orders s.shift s.receivers ≤ s.bound
few_drill s None held orders e =
    let same : [] ≡ orders = cc in
    subst (λ (os : List Order). named_among os s.shift s.receivers ≤ s.bound) same (omega (arith, none_named s.receivers s.shift))
few_drill s (Some file) held orders e = few_step s (get held file) orders e

-- ---- refusals
-- what the steps before a phase may refuse with
abbrev pub FromSteps : Status → Type 0
FromSteps (NoSuch what) = Unit {0}
FromSteps (BadNow fault) = Unit {0}
FromSteps (BadDrill fault) = Unit {0}
FromSteps (TooFewSound sound needed) = Unit {0}
FromSteps (Full number) = Unit {0}
FromSteps status = ⊥

read_refuses : (r : Result (List Order) DrillFault) (status : Status) → drill_read r ≡ Err status → FromSteps status
read_refuses (Ok orders) status e = absurd cc
read_refuses (Err fault) status e = let same : BadDrill fault ≡ status = cc in subst FromSteps same tt

step_refuses : (s : Shape) (text : Option (List ℕ)) (status : Status) → drill_step s text ≡ Err status → FromSteps status
step_refuses s None status e = let same : NoSuch Drill ≡ status = cc in subst FromSteps same tt
step_refuses s (Some text) status e = read_refuses (drill_at s text) status e

pub drill_refuses : (s : Shape) (drill : Option (List ℕ)) (held : Held) (status : Status) → drill_of s drill held ≡ Err status → FromSteps status
drill_refuses s None held status e = absurd cc
drill_refuses s (Some file) held status e = step_refuses s (get held file) status e
