-- Parts of a text, and how its lines are read.
use Rattle.std.proofs.Common.{◌≡◌, ℕ, ◌+◌, ◌<◌, Bool, true, false, eqb, cond, List, [], ◌∷◌, length, take, drop, sym, ap, refl, subst, ◌∙◌, arith, ltb}
use Rattle.std.specs.Prelude.{MatchOption, Option, Some, None, Result, Err}
use Rattle.std.specs.List.{position, position_or_len}
use Rattle.std.proofs.lemmas.Bool.{ltb-true, ltb-false}
use Rattle.std.proofs.lemmas.List.Elements.{All-from_get_or}
use Rattle.std.proofs.lemmas.List.Sums.{fails_before_first}
use Rattle.std.proofs.lemmas.List.Splits.{slice_split_first, slice_split_none, length-slice_split}
use Rattle.talk.specs.Shape.{Shape}
use Rattle.drillbook.specs.declared.order.Order.{Order}
use Rattle.drillbook.specs.declared.fault.DrillFault.{DrillFault}
use Rattle.drillbook.specs.declared.fault.DrillFault.TheVariants.{BadLine, Stranger, TooMany, OutOfMemory}
use Rattle.drillbook.specs.Text.{split, stranger_in, order_in, Fails, after_ok}

-- by whether the first separator is in the text
cut_by : (sep : ℕ) (text : List ℕ) (b : Bool) → ltb (position_or_len (λ c. eqb c sep) text) (length text) ≡ b →
    MatchOption (cond b (Some (position_or_len (λ c. eqb c sep) text)) None) (split sep text ≡ text ∷ []) (λ k. (k < length text) × (split sep text ≡ take k text ∷ split sep (drop (k + 1) text)))
cut_by sep text true e =
    let lt = ltb-true (position_or_len (λ c. eqb c sep) text) (length text) e in
    (lt, slice_split_first (λ c. eqb c sep) text 0 lt)
cut_by sep text false e =
    let le = ltb-false (position_or_len (λ c. eqb c sep) text) (length text) e in
    slice_split_none (λ c. eqb c sep) text
    (All-from_get_or (λ c. eqb c sep ≡ false) text 0 (λ i lt. fails_before_first (λ c. eqb c sep) text i 0 (omega (arith, lt, le))))

-- the first separator ends the first part, and where there is none the text is the one part
pub cut_is : (sep : ℕ) (text : List ℕ) (r : Option ℕ) → r ≡ position (λ c. eqb c sep) text →
    MatchOption r (split sep text ≡ text ∷ []) (λ k. (k < length text) × (split sep text ≡ take k text ∷ split sep (drop (k + 1) text)))
cut_is sep text r e =
    subst (λ (o : Option ℕ). MatchOption o (split sep text ≡ text ∷ []) (λ k. (k < length text) × (split sep text ≡ take k text ∷ split sep (drop (k + 1) text)))) (sym e)
    (cut_by sep text (ltb (position_or_len (λ c. eqb c sep) text) (length text)) refl)

-- five words or more
long_stranger : (s : Shape) (p r v a : List ℕ) (parts : List (List ℕ)) → 0 < length parts → stranger_in s (p ∷ r ∷ v ∷ a ∷ parts) ≡ None
long_stranger s p r v a [] more = absurd (omega (arith, more))
long_stranger s p r v [] (w ∷ ws) more = refl
long_stranger s p r v (c ∷ cs) (w ∷ ws) more = refl

long_order : (s : Shape) (p r v a : List ℕ) (parts : List (List ℕ)) → 0 < length parts → order_in s (p ∷ r ∷ v ∷ a ∷ parts) ≡ None
long_order s p r v a [] more = absurd (omega (arith, more))
long_order s p r v a (w ∷ ws) more = refl

some_part : (text : List ℕ) → 0 < length (split 32 text)
some_part text = let e = length-slice_split (λ c. eqb c 32) text in omega (arith, e)

pub fifth_stranger : (s : Shape) (p r v text a rest : List ℕ) → split 32 text ≡ a ∷ split 32 rest → stranger_in s (p ∷ r ∷ v ∷ split 32 text) ≡ None
fifth_stranger s p r v text a rest e = ap (λ (ws : List (List ℕ)). stranger_in s (p ∷ r ∷ v ∷ ws)) e ∙ long_stranger s p r v a (split 32 rest) (some_part rest)

pub fifth_order : (s : Shape) (p r v text a rest : List ℕ) → split 32 text ≡ a ∷ split 32 rest → order_in s (p ∷ r ∷ v ∷ split 32 text) ≡ None
fifth_order s p r v text a rest e = ap (λ (ws : List (List ℕ)). order_in s (p ∷ r ∷ v ∷ ws)) e ∙ long_order s p r v a (split 32 rest) (some_part rest)

-- a fault is handed on
pub fails_on : (e : DrillFault) (r : Result (List Order) DrillFault) (f : List Order → Result (List Order) DrillFault) → Fails e r → Fails e (after_ok r f)
fails_on OutOfMemory r f h = h
fails_on (BadLine k) r f h = ap (λ (x : Result (List Order) DrillFault). after_ok x f) h
fails_on (Stranger k party) r f h = ap (λ (x : Result (List Order) DrillFault). after_ok x f) h
fails_on (TooMany named bound) r f h = ap (λ (x : Result (List Order) DrillFault). after_ok x f) h

-- so is one that a step gives exactly
pub fails_exactly : (e : DrillFault) (r : Result (List Order) DrillFault) → r ≡ Err e → Fails e r
fails_exactly OutOfMemory r h = tt
fails_exactly (BadLine k) r h = h
fails_exactly (Stranger k party) r h = h
fails_exactly (TooMany named bound) r h = h
