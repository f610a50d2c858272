-- Lines and their spelling.
use Rattle.std.proofs.Common.{◌≡◌, ℕ, ◌^◌, ◌<◌, ◌≤◌, ◌⊎◌, inl, inr, Bool, true, false, ◌&&◌, eqb, leb, ltb, cond, List, [], ◌∷◌, ◌++◌, length, get_or, sym, ap, ap₂, refl, subst, ◌∙◌, arith, lit≤}
use Rattle.std.specs.Prelude.{Option, Some, None, is_some, Ok, Err, decimal, codes}
use Rattle.std.specs.List.{All, join_with_byte}
use Rattle.std.specs.Str.{bytes_eq}
use Rattle.std.proofs.lemmas.Bool.{and_parts, leb-true, lt-ltb, ltb-true, ne_eqb}
use Rattle.std.proofs.lemmas.List.Elements.{All-from_get_or}
use Rattle.std.proofs.lemmas.List.Splits.{slice_split_at, slice_split_none, join_with_byte-slice_split}
use Rattle.std.proofs.lemmas.Fmt.{decimal_nonempty, digits_decimal, digits_value-decimal}
use Rattle.std.proofs.lemmas.Slice.Eq.{bytes_eq-Decides}
use Rattle.std.proofs.lemmas.Str.Parse.{digit_at}
use Rattle.algebra61.specs.Field.{Fp, fe, fe-num, Prime}
use Rattle.algebra61.proofs.Ring.{num-fe_small}
use Rattle.talk.specs.Shape.{Shape, Lawful, OneCommittee, TwoCommittees, seats, rounds, within}
use Rattle.drillbook.specs.declared.order.Order.{Order}
use Rattle.drillbook.specs.declared.order.Verb.{Verb}
use Rattle.drillbook.specs.declared.order.Verb.TheVariants.{Silent, Late, Garble, Skew, Wrong, Accuse, Veto}
use Rattle.drillbook.specs.declared.fault.DrillFault.TheVariants.{BadLine}
use Rattle.talk.specs.Basics.{first_of}
use Rattle.drillbook.specs.Orders.{IsLawful, NamesReceiver, allows, is_lawful, order_at}
use Rattle.drillbook.specs.Text.{split, some_if, plain_verb, argued_verb, element_of, skew_by, wrong_by, accuse_of, is_verb, stranger_of, stranger_in, order_of, order_in, judged, with_order, is_idle}
use Rattle.drillbook.specs.Law.{ReadIsSpelled, SpelledIsRead, verb_text, order_text}
use Rattle.decimals.specs.Decimals.{number_in}
use Rattle.decimals.proofs.Numbers.{own, found_below, read_below}
use Rattle.drillbook.proofs.Ordered.{allowed_names}
use Rattle.drillbook.proofs.Lawful.{same_some, some_if_true, order_in_lawful, judged_adds}

-- A number's word.
-- every character of a number's word but the separators
digit_of : (n i : ℕ) → n < 2 ^ 64 → i < length (decimal n) → 48 ≤ get_or (decimal n) i 0
digit_of n i lt inside = (digit_at (decimal n) i (own.to (decimal n) (digits_decimal own n lt)) inside).0

no_space : (n : ℕ) → n < 2 ^ 64 → All (λ c. eqb c 32 ≡ false) (decimal n)
no_space n lt =
    All-from_get_or (λ c. eqb c 32 ≡ false) (decimal n) 0
    (λ i inside. ne_eqb (get_or (decimal n) i 0) 32 (λ e. let h = digit_of n i lt inside in omega (arith, h, e)))

split_number : (n : ℕ) (rest : List ℕ) → n < 2 ^ 64 → split 32 (decimal n ++ 32 ∷ rest) ≡ decimal n ∷ split 32 rest
split_number n rest lt = slice_split_at (λ c. eqb c 32) (decimal n) 32 rest (no_space n lt) refl

split_last : (n : ℕ) → n < 2 ^ 64 → split 32 (decimal n) ≡ decimal n ∷ []
split_last n lt = slice_split_none (λ c. eqb c 32) (decimal n) (no_space n lt)

idle_from : (ds rest : List ℕ) → 0 < length ds → 48 ≤ get_or ds 0 0 → is_idle (ds ++ rest) ≡ false
idle_from [] rest some first = absurd (omega (arith, some))
idle_from (c ∷ cs) rest some first = ne_eqb c 35 (λ e. omega (arith, first, e))

number_read : (n : ℕ) → n < 2 ^ 64 → number_in (decimal n) ≡ Some n
number_read n lt = read_below (2 ^ 64) n lt lt

number_is : (word : List ℕ) (n : ℕ) → number_in word ≡ Some n → word ≡ decimal n
number_is word n e = (found_below (2 ^ 64) word n e).0

-- From the order to its line.
-- the words of the rest of a line
abbrev verb_words : Verb → List (List ℕ)
verb_words Silent = codes "silent" ∷ []
verb_words Late = codes "late" ∷ []
verb_words Garble = codes "garble" ∷ []
verb_words (Skew k) = codes "skew" ∷ decimal k.num ∷ []
verb_words (Wrong k) = codes "wrong" ∷ decimal k.num ∷ []
verb_words (Accuse j) = codes "accuse" ∷ decimal j ∷ []
verb_words Veto = codes "veto" ∷ []

small_element : (k : Fp) → k.num < 2 ^ 64
small_element k = let h = k.below in omega (arith, h)

split_verb : (v : Verb) (bound : ℕ) → ((j : ℕ) → v ≡ Accuse j → j < 2 ^ 64) → split 32 (verb_text v) ≡ verb_words v
split_verb Silent bound small = refl
split_verb Late bound small = refl
split_verb Garble bound small = refl
split_verb (Skew k) bound small = ap (λ (ws : List (List ℕ)). codes "skew" ∷ ws) (split_last k.num (small_element k))
split_verb (Wrong k) bound small = ap (λ (ws : List (List ℕ)). codes "wrong" ∷ ws) (split_last k.num (small_element k))
split_verb (Accuse j) bound small = ap (λ (ws : List (List ℕ)). codes "accuse" ∷ ws) (split_last j (small j refl))
split_verb Veto bound small = refl

-- the order that words are, given the numbers before the verb
element_read : (k : Fp) → element_of (number_in (decimal k.num)) ≡ Some k
element_read k =
    ap element_of (number_read k.num (small_element k))
    ∙ ap₂ (λ (b : Bool) (x : Fp). some_if b x) (lt-ltb k.num Prime k.below) (fe-num k)

receiver_read : (j : ℕ) → j < 2 ^ 32 → accuse_of (number_in (decimal j)) ≡ Some (Accuse j)
receiver_read j lt =
    ap accuse_of (number_read j (omega (arith, lt)))
    ∙ ap (λ (b : Bool). some_if b (Accuse j)) (lt-ltb j (2 ^ 32) lt)

order_words : (s : Shape) (p r : List ℕ) (v : Verb) → ((j : ℕ) → v ≡ Accuse j → j < 2 ^ 32) → order_in s (p ∷ r ∷ verb_words v) ≡ order_of s (number_in p) (number_in r) (Some v)
order_words s p r Silent small = refl
order_words s p r Late small = refl
order_words s p r Garble small = refl
order_words s p r (Skew k) small = ap (λ (x : Option Fp). order_of s (number_in p) (number_in r) (skew_by x)) (element_read k)
order_words s p r (Wrong k) small = ap (λ (x : Option Fp). order_of s (number_in p) (number_in r) (wrong_by x)) (element_read k)
order_words s p r (Accuse j) small = ap (λ (x : Option Verb). order_of s (number_in p) (number_in r) x) (receiver_read j (small j refl))
order_words s p r Veto small = refl

-- a party that is a seat is no stranger
seated_none : (s : Shape) (p r : Option ℕ) (n : ℕ) (b : Bool) → p ≡ Some n → within 1 n (seats s) ≡ true → stranger_of s p r b ≡ None
seated_none s p None n b e at = ap (λ (x : Option ℕ). stranger_of s x None b) e
seated_none s p (Some m) n b e at = ap (λ (x : Option ℕ). stranger_of s x (Some m) b) e ∙ ap (λ (t : Bool). cond t None (some_if b n)) at

no_stranger4 : (s : Shape) (p r v a : List ℕ) (n : ℕ) → number_in p ≡ Some n → within 1 n (seats s) ≡ true → stranger_in s (p ∷ r ∷ v ∷ a ∷ []) ≡ None
no_stranger4 s p r v [] n e at = refl
no_stranger4 s p r v (c ∷ cs) n e at = seated_none s (number_in p) (number_in r) n (is_verb v) e at

no_stranger : (s : Shape) (p r : List ℕ) (v : Verb) (n : ℕ) → number_in p ≡ Some n → within 1 n (seats s) ≡ true → stranger_in s (p ∷ r ∷ verb_words v) ≡ None
no_stranger s p r Silent n e at = seated_none s (number_in p) (number_in r) n (is_verb (codes "silent")) e at
no_stranger s p r Late n e at = seated_none s (number_in p) (number_in r) n (is_verb (codes "late")) e at
no_stranger s p r Garble n e at = seated_none s (number_in p) (number_in r) n (is_verb (codes "garble")) e at
no_stranger s p r (Skew k) n e at = no_stranger4 s p r (codes "skew") (decimal k.num) n e at
no_stranger s p r (Wrong k) n e at = no_stranger4 s p r (codes "wrong") (decimal k.num) n e at
no_stranger s p r (Accuse j) n e at = no_stranger4 s p r (codes "accuse") (decimal j) n e at
no_stranger s p r Veto n e at = seated_none s (number_in p) (number_in r) n (is_verb (codes "veto")) e at

-- a setting is small
few_seats : (s : Shape) → Lawful s → seats s ≤ 30
few_seats s h = by_committees h.committees
  where
    by_committees : OneCommittee s ⊎ ((t : ℕ) × TwoCommittees s t) → seats s ≤ 30
    by_committees (inl c) = let a = c.no_shift in let b = h.receivers.1 in omega (arith, a, b)
    by_committees (inr (t, c)) = let a = c.behind in let b = h.receivers.1 in let d = h.dealers.1 in omega (arith, a, b, d)

few_rounds : (b : Bool) → cond b 5 6 ≤ 6
few_rounds true = lit≤ tt
few_rounds false = lit≤ tt

small_receiver : (s : Shape) (v : Verb) (j : ℕ) → Lawful s → NamesReceiver s v → v ≡ Accuse j → j < 2 ^ 32
small_receiver s v j h named e =
    let at : NamesReceiver s (Accuse j) = subst (NamesReceiver s) e named in
    let a = at.1 in let b = h.receivers.1 in omega (arith, a, b)

-- the order that is read from its own words
order_read : (s : Shape) (o : Order) (p r : Option ℕ) → p ≡ Some o.party → r ≡ Some o.round → IsLawful s o → order_of s p r (Some o.verb) ≡ Some o
order_read s o p r ep er h =
    ap₂ (λ (x y : Option ℕ). order_of s x y (Some o.verb)) ep er ∙ ap (λ (b : Bool). some_if b o) h

is_new : (k : ℕ) (before : List Order) (o : Order) → order_at before o.party o.round ≡ None → with_order k before o ≡ Ok (before ++ o ∷ [])
is_new k before o e = ap (λ (x : Option Verb). cond (is_some x) (Err (BadLine k)) (Ok (before ++ o ∷ []))) e

pub spelled_is_read : SpelledIsRead
spelled_is_read s k before o h lawful new =
    let a = and_parts (within 1 o.party (seats s)) _ lawful in
    let b = and_parts (within 1 o.round (rounds s)) (allows s o.party o.round o.verb) a.1 in
    let party_most = leb-true o.party (seats s) (and_parts (leb 1 o.party) (leb o.party (seats s)) a.0).1 in
    let round_most = leb-true o.round (rounds s) (and_parts (leb 1 o.round) (leb o.round (rounds s)) b.0).1 in
    let few = few_seats s h in
    let short = few_rounds (eqb s.checks 0) in
    let p : o.party < 2 ^ 64 = omega (arith, party_most, few) in
    let r : o.round < 2 ^ 64 = omega (arith, round_most, short) in
    let named = allowed_names s o.party o.round o.verb b.1 in
    let small : (j : ℕ) → o.verb ≡ Accuse j → j < 2 ^ 32 = λ j e. small_receiver s o.verb j h named e in
    let words : split 32 (order_text o) ≡ decimal o.party ∷ decimal o.round ∷ verb_words o.verb =
    split_number o.party (decimal o.round ++ 32 ∷ verb_text o.verb) p
    ∙ ap (λ (ws : List (List ℕ)). decimal o.party ∷ ws)
    (split_number o.round (verb_text o.verb) r
    ∙ ap (λ (ws : List (List ℕ)). decimal o.round ∷ ws) (split_verb o.verb 0 (λ j e. let lt = small j e in omega (arith, lt))))
    in
    let idle : is_idle (order_text o) ≡ false =
    idle_from (decimal o.party) (32 ∷ (decimal o.round ++ 32 ∷ verb_text o.verb)) (decimal_nonempty o.party p) (digit_of o.party 0 p (decimal_nonempty o.party p))
    in
    let stranger : stranger_in s (split 32 (order_text o)) ≡ None = ap (stranger_in s) words ∙ no_stranger s (decimal o.party) (decimal o.round) o.verb o.party (number_read o.party p) a.0 in
    let order : order_in s (split 32 (order_text o)) ≡ Some o =
    ap (order_in s) words
    ∙ order_words s (decimal o.party) (decimal o.round) o.verb small
    ∙ order_read s o (number_in (decimal o.party)) (number_in (decimal o.round)) (number_read o.party p) (number_read o.round r) lawful
    in
    ap (λ (b : Bool). cond b (Ok before) (judged k before (stranger_in s (split 32 (order_text o))) (order_in s (split 32 (order_text o))))) idle
    ∙ ap₂ (λ (x : Option ℕ) (y : Option Order). judged k before x y) stranger order
    ∙ is_new k before o new

-- From the line to its order.
order_parts : (s : Shape) (p r : Option ℕ) (v : Option Verb) (o : Order) → order_of s p r v ≡ Some o → (p ≡ Some o.party) × (r ≡ Some o.round) × (v ≡ Some o.verb)
order_parts s (Some p) (Some r) (Some v) o e =
    let h = (some_if_true (is_lawful s (record { party = p; round = r; verb = v })) (record { party = p; round = r; verb = v }) o e).1 in
    (ap (λ (x : Order). Some x.party) h, ap (λ (x : Order). Some x.round) h, ap (λ (x : Order). Some x.verb) h)
order_parts s (Some p) (Some r) None o e = absurd cc
order_parts s (Some p) None v o e = absurd cc
order_parts s None r v o e = absurd cc

-- a word that is a verb's name, or else what the rest gives
first_is : (word name : List ℕ) (v x : Verb) (o : Option Verb) (P : Verb → Type 0) → (word ≡ name → P v) → (o ≡ Some x → P x) → (b : Bool) → bytes_eq word name ≡ b → first_of b v o ≡ Some x → P x
first_is word name v x o P here later true t e = subst P (same_some v x e) (here ((bytes_eq-Decides word name).0 t))
first_is word name v x o P here later false t e = later e

plain_is : (word : List ℕ) (x : Verb) → plain_verb word ≡ Some x → word ≡ verb_text x
plain_is word x e =
    let P : Verb → Type 0 = λ v. word ≡ verb_text v in
    first_is word (codes "silent") Silent x _ P (λ h. h)
    (λ e. first_is word (codes "late") Late x _ P (λ h. h)
    (λ e. first_is word (codes "garble") Garble x _ P (λ h. h)
    (λ e. first_is word (codes "veto") Veto x _ P (λ h. h) (λ e. absurd cc) _ refl e) _ refl e) _ refl e) _ refl e

-- how the rest of a line with an argument is spelled
abbrev Argued : List ℕ → List ℕ → Verb → Type 0
Argued word argument x = word ++ 32 ∷ argument ≡ verb_text x

element_is : (argument : List ℕ) (n : Option ℕ) (k : Fp) → number_in argument ≡ n → element_of n ≡ Some k → argument ≡ decimal k.num
element_is argument None k is e = absurd cc
element_is argument (Some n) k is e =
    let h = some_if_true (ltb n Prime) (fe n) k e in
    number_is argument n is ∙ ap decimal (sym (num-fe_small n (ltb-true n Prime h.0)) ∙ ap (λ (x : Fp). x.num) h.1)

skew_is : (word argument : List ℕ) (k : Option Fp) (x : Verb) → word ≡ codes "skew" → element_of (number_in argument) ≡ k → skew_by k ≡ Some x → Argued word argument x
skew_is word argument None x w is e = absurd cc
skew_is word argument (Some k) x w is e =
    subst (Argued word argument) (same_some (Skew k) x e)
    (ap₂ (λ (a b : List ℕ). a ++ 32 ∷ b) w (element_is argument (number_in argument) k refl is))

wrong_is : (word argument : List ℕ) (k : Option Fp) (x : Verb) → word ≡ codes "wrong" → element_of (number_in argument) ≡ k → wrong_by k ≡ Some x → Argued word argument x
wrong_is word argument None x w is e = absurd cc
wrong_is word argument (Some k) x w is e =
    subst (Argued word argument) (same_some (Wrong k) x e)
    (ap₂ (λ (a b : List ℕ). a ++ 32 ∷ b) w (element_is argument (number_in argument) k refl is))

accuse_is : (word argument : List ℕ) (j : Option ℕ) (x : Verb) → word ≡ codes "accuse" → number_in argument ≡ j → accuse_of j ≡ Some x → Argued word argument x
accuse_is word argument None x w is e = absurd cc
accuse_is word argument (Some j) x w is e =
    subst (Argued word argument) (some_if_true (ltb j (2 ^ 32)) (Accuse j) x e).1
    (ap₂ (λ (a b : List ℕ). a ++ 32 ∷ b) w (number_is argument j is))

choose : (word name : List ℕ) (a o : Option Verb) (x : Verb) (P : Type 0) → (word ≡ name → a ≡ Some x → P) → (o ≡ Some x → P) → (b : Bool) → bytes_eq word name ≡ b → cond b a o ≡ Some x → P
choose word name a o x P here later true t e = here ((bytes_eq-Decides word name).0 t) e
choose word name a o x P here later false t e = later e

argued_is : (word argument : List ℕ) (x : Verb) → argued_verb word argument ≡ Some x → Argued word argument x
argued_is word argument x e =
    choose word (codes "skew") _ _ x (Argued word argument x) (λ w h. skew_is word argument _ x w refl h)
    (λ e. choose word (codes "wrong") _ _ x (Argued word argument x) (λ w h. wrong_is word argument _ x w refl h)
    (λ e. choose word (codes "accuse") _ _ x (Argued word argument x) (λ w h. accuse_is word argument _ x w refl h) (λ e. absurd cc) _ refl e) _ refl e) _ refl e

-- the words of a line, joined by spaces, are the line of the order that they are
joined_is : (s : Shape) (words : List (List ℕ)) (o : Order) → order_in s words ≡ Some o → join_with_byte 32 words ≡ order_text o
joined_is s [] o e = absurd cc
joined_is s (p ∷ []) o e = absurd cc
joined_is s (p ∷ r ∷ []) o e = absurd cc
joined_is s (p ∷ r ∷ v ∷ []) o e =
    let h = order_parts s (number_in p) (number_in r) (plain_verb v) o e in
    ap₂ (λ (a b : List ℕ). a ++ 32 ∷ b) (number_is p o.party h.0) (ap₂ (λ (a b : List ℕ). a ++ 32 ∷ b) (number_is r o.round h.1) (plain_is v o.verb h.2))
joined_is s (p ∷ r ∷ v ∷ a ∷ []) o e =
    let h = order_parts s (number_in p) (number_in r) (argued_verb v a) o e in
    ap₂ (λ (a b : List ℕ). a ++ 32 ∷ b) (number_is p o.party h.0) (ap₂ (λ (a b : List ℕ). a ++ 32 ∷ b) (number_is r o.round h.1) (argued_is v a o.verb h.2))
joined_is s (p ∷ r ∷ v ∷ a ∷ w ∷ ws) o e = absurd cc

pub read_is_spelled : ReadIsSpelled
read_is_spelled s k before after line says e =
    let at : judged k before (stranger_in s (split 32 line)) (order_in s (split 32 line)) ≡ Ok after =
    ap (λ (b : Bool). cond b (Ok before) (judged k before (stranger_in s (split 32 line)) (order_in s (split 32 line)))) (sym says) ∙ e
    in
    let h = judged_adds k before after (stranger_in s (split 32 line)) (order_in s (split 32 line)) at in
    let o = h.1.0 in (
      o,
      record {
        spelled = sym (join_with_byte-slice_split 32 line) ∙ joined_is s (split 32 line) o h.1.1;
        lawful = order_in_lawful s (split 32 line) o h.1.1;
        new = h.1.2.new;
        last = h.1.2.last;
      },
    )
