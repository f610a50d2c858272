-- The orders that a text gives are lawful, and name few of a committee.
use Rattle.std.proofs.Common.{◌≡◌, ℕ, ◌+◌, Bool, true, false, cond, List, [], ◌∷◌, ◌++◌, sym, ap, refl, subst}
use Rattle.std.specs.List.{list_all}
use Rattle.std.proofs.lemmas.Bool.Decides.{Decides-and, Decides-at}
use Rattle.std.specs.Prelude.{Decides, Option, Some, None, is_some, Result, Ok, Err}
use Rattle.talk.specs.Shape.{Shape}
use Rattle.drillbook.specs.declared.order.Order.{Order}
use Rattle.drillbook.specs.declared.order.Verb.{Verb}
use Rattle.drillbook.specs.declared.fault.DrillFault.{DrillFault}
use Rattle.drillbook.specs.declared.fault.DrillFault.TheVariants.{BadLine}
use Rattle.drillbook.specs.Orders.{AllLawful, IsLawful, is_lawful, order_at}
use Rattle.decimals.specs.Decimals.{number_in}
use Rattle.drillbook.specs.Text.{split, some_if, order_of, order_in, stranger_in, judged, is_idle, line_at, after_ok, lines_at, plain_verb, argued_verb}

-- the test of all orders
pub all_lawful : (s : Shape) (os : List Order) → Decides (list_all (is_lawful s) os) (AllLawful s os)
all_lawful s [] = (λ _. tt, λ _. refl)
all_lawful s (o ∷ os) = Decides-and (is_lawful s o) (list_all (is_lawful s) os) (λ e. e, λ e. e) (all_lawful s os)

pub all_lawful_at : (s : Shape) (os : List Order) (b : Bool) → b ≡ list_all (is_lawful s) os → Decides b (AllLawful s os)
all_lawful_at s os b e = Decides-at b (list_all (is_lawful s) os) e (all_lawful s os)

-- what is in Ok and what is in Some
ok_or : {A : Type 0} → A → Result A DrillFault → A
ok_or a (Ok b) = b
ok_or a (Err e) = a

pub same_ok : {A : Type 0} (a b : A) → ◌≡◌ {A = Result A DrillFault} (Ok a) (Ok b) → a ≡ b
unfolding ok_or
same_ok a b e = ap (ok_or a) e

some_or : {A : Type 0} → A → Option A → A
some_or a (Some b) = b
some_or a None = a

pub same_some : {A : Type 0} (a b : A) → Some a ≡ Some b → a ≡ b
unfolding some_or
same_some a b e = ap (some_or a) e

-- what passes a test
pub some_if_true : {A : Type 0} (b : Bool) (a o : A) → some_if b a ≡ Some o → (b ≡ true) × (a ≡ o)
some_if_true true a o e = (refl, same_some a o e)
some_if_true false a o e = absurd cc

pub order_of_lawful : (s : Shape) (p r : Option ℕ) (v : Option Verb) (o : Order) → order_of s p r v ≡ Some o → IsLawful s o
order_of_lawful s (Some p) (Some r) (Some v) o e =
    let h = some_if_true (is_lawful s (record { party = p; round = r; verb = v })) (record { party = p; round = r; verb = v }) o e in
    subst (IsLawful s) h.1 h.0
order_of_lawful s (Some p) (Some r) None o e = absurd cc
order_of_lawful s (Some p) None v o e = absurd cc
order_of_lawful s None r v o e = absurd cc

pub order_in_lawful : (s : Shape) (words : List (List ℕ)) (o : Order) → order_in s words ≡ Some o → IsLawful s o
order_in_lawful s [] o e = absurd cc
order_in_lawful s (p ∷ []) o e = absurd cc
order_in_lawful s (p ∷ r ∷ []) o e = absurd cc
order_in_lawful s (p ∷ r ∷ v ∷ []) o e = order_of_lawful s (number_in p) (number_in r) (plain_verb v) o e
order_in_lawful s (p ∷ r ∷ v ∷ a ∷ []) o e = order_of_lawful s (number_in p) (number_in r) (argued_verb v a) o e
order_in_lawful s (p ∷ r ∷ v ∷ a ∷ w ∷ ws) o e = absurd cc

-- an order that was added is new, and last
pub record Added (before after : List Order) (o : Order) : Type 0 where
  pub new : order_at before o.party o.round ≡ None
  pub last : after ≡ before ++ o ∷ []

none_if : {A : Type 0} (o : Option A) → is_some o ≡ false → o ≡ None
none_if (Some a) e = absurd cc
none_if None e = refl

added_if : (k : ℕ) (b : Bool) (before after : List Order) (o : Order) → is_some (order_at before o.party o.round) ≡ b → cond b (Err (BadLine k)) (Ok (before ++ o ∷ [])) ≡ Ok after → Added before after o
added_if k true before after o e h = absurd cc
added_if k false before after o e h = record { new = none_if _ e; last = sym (same_ok _ _ h) }

-- a line that is taken adds the order that it is
pub judged_adds : (k : ℕ) (before after : List Order) (party : Option ℕ) (o : Option Order) → judged k before party o ≡ Ok after → (party ≡ None) × ((x : Order) × (o ≡ Some x) × Added before after x)
judged_adds k before after (Some party) o e = absurd cc
judged_adds k before after None None e = absurd cc
judged_adds k before after None (Some x) e = (refl, (x, refl, added_if k (is_some (order_at before x.party x.round)) before after x refl e))

lawful_more : (s : Shape) (os : List Order) (o : Order) → AllLawful s os → IsLawful s o → AllLawful s (os ++ o ∷ [])
lawful_more s [] o all h = (h, tt)
lawful_more s (x ∷ xs) o all h = (all.0, lawful_more s xs o all.1 h)

line_if : (s : Shape) (k : ℕ) (before after : List Order) (line : List ℕ) (b : Bool) → cond b (Ok before) (judged k before (stranger_in s (split 32 line)) (order_in s (split 32 line))) ≡ Ok after → AllLawful s before → AllLawful s after
line_if s k before after line true e all = subst (AllLawful s) (same_ok _ _ e) all
line_if s k before after line false e all =
    let h = judged_adds k before after (stranger_in s (split 32 line)) (order_in s (split 32 line)) e in
    subst (AllLawful s) (sym h.1.2.last) (lawful_more s before h.1.0 all (order_in_lawful s (split 32 line) h.1.0 h.1.1))

-- two steps that both went well
pub both_ok : {A B : Type 0} (r : Result A DrillFault) (f : A → Result B DrillFault) (b : B) → after_ok r f ≡ Ok b → (a : A) × (r ≡ Ok a) × (f a ≡ Ok b)
both_ok (Ok a) f b e = (a, refl, e)
both_ok (Err x) f b e = absurd cc

pub lines_lawful : (s : Shape) (k : ℕ) (before after : List Order) (lines : List (List ℕ)) → lines_at s k before lines ≡ Ok after → AllLawful s before → AllLawful s after
lines_lawful s k before after [] e all = subst (AllLawful s) (same_ok _ _ e) all
lines_lawful s k before after (line ∷ lines) e all =
    let h = both_ok (line_at s k before line) (λ now. lines_at s (k + 1) now lines) after e in
    lines_lawful s (k + 1) h.0 after lines h.2 (line_if s k before h.0 line (is_idle line) h.1 all)
