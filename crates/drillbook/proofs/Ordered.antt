-- What a seat without an order says.
use Rattle.std.proofs.Common.{◌≡◌, ℕ, zero, suc, ◌+◌, ◌-◌, ◌<◌, ◌≤◌, ◌⊎◌, inl, inr, Bool, true, false, not, eqb, leb, cond, ◌&&◌, ◌||◌, List, [], ◌∷◌, length, get_or, set, Option, Some, None, refl, ap, sym, subst, ◌∙◌, arith}
use Rattle.std.proofs.lemmas.Bool.{and_parts, leb-true, cases_lt, eq-eqb}
use Rattle.std.proofs.lemmas.List.{length-set}
use Rattle.std.proofs.lemmas.List.FromFn.{length-map-range_with_len, get_or-map-range_with_len}
use Rattle.algebra61.specs.Field.{Fp}
use Rattle.talk.specs.declared.messages.Ring.{Ring}
use Rattle.talk.specs.declared.messages.Ring.TheVariants.{Nothing, Cross}
use Rattle.talk.specs.declared.messages.Say.TheVariants.{Speak, Pass, PassThenSpeak}
use Rattle.talk.specs.Shape.{seats, within, receives}
use Rattle.talk.specs.Hears.{OneEach, WordFits}
use Rattle.drillbook.specs.declared.order.Verb.{Verb}
use Rattle.drillbook.specs.declared.order.Verb.TheVariants.{Silent, Late, Garble, Skew, Wrong, Accuse, Veto}
use Rattle.talk.specs.declared.messages.Say.{Say}
use Rattle.talk.specs.Shape.{Shape}
use Rattle.drillbook.specs.declared.order.Order.{Order}
use Rattle.talk.specs.Basics.{first_of}
use Rattle.drillbook.specs.Orders.{AllLawful, NamesReceiver, allows, names, order_at, other_receiver}
use Rattle.drillbook.specs.Word.{drilled_word, ordered_word, ordered_rings, reworded, garbled_rings, ring_changed, skewed_rings, skewed_deal, skewed_cross, lowest_other, late_word}
use Rattle.drillbook.specs.Law.{UnnamedSpeaks, SpeaksWithoutOrder}

pub speaks_without_order : SpeaksWithoutOrder
unfolding drilled_word
speaks_without_order s orders seat round second w e = ap (λ v. ordered_word s seat round second v w) e

-- by whether an order names the seat, and what the later orders give
at_party : {A : Type 0} (named round : Bool) (rest : Bool) (v : A) (o : Option A) → (rest ≡ false → o ≡ None) → (named || rest) ≡ false → first_of (named && round) v o ≡ None
at_party true round rest v o h e = absurd cc
at_party false round rest v o h e = h e

-- a seat that no order names has none in any round
pub unnamed_has_no_order : (orders : List Order) (seat round : ℕ) → names orders seat ≡ false → order_at orders seat round ≡ None
unnamed_has_no_order [] seat round e = refl
unnamed_has_no_order (o ∷ os) seat round e =
    at_party (eqb o.party seat) (eqb o.round round) (names os seat) o.verb (order_at os seat round) (unnamed_has_no_order os seat round) e

pub unnamed_speaks : UnnamedSpeaks
unnamed_speaks s orders seat round second w e = speaks_without_order s orders seat round second w (unnamed_has_no_order orders seat round e)

-- a receiver that an order of a lawful drill names is one of the setting
accused_there : (s : Shape) (seat round j : ℕ) → allows s seat round (Accuse j) ≡ true → (1 ≤ j) × (j ≤ s.receivers)
accused_there s seat round j e =
    let a = and_parts (eqb round 3) (receives s seat && other_receiver s seat j) e in
    let b = and_parts (receives s seat) (other_receiver s seat j) a.1 in
    let c = and_parts (within 1 j s.receivers) (not (eqb (s.shift + j) seat)) b.1 in
    let d = and_parts (leb 1 j) (leb j s.receivers) c.0 in
    (leb-true 1 j d.0, leb-true j s.receivers d.1)

pub allowed_names : (s : Shape) (seat round : ℕ) (v : Verb) → allows s seat round v ≡ true → NamesReceiver s v
allowed_names s seat round Silent e = tt
allowed_names s seat round Late e = tt
allowed_names s seat round Garble e = tt
allowed_names s seat round (Skew k) e = tt
allowed_names s seat round (Wrong k) e = tt
allowed_names s seat round (Accuse j) e = accused_there s seat round j e
allowed_names s seat round Veto e = tt

verb_or : Verb → Option Verb → Verb
verb_or v None = v
verb_or v (Some w) = w

some_same : {v w : Verb} → Some v ≡ Some w → v ≡ w
unfolding verb_or
some_same {v = v} e = ap (verb_or v) e

named_by : (s : Shape) (b : Bool) (v w : Verb) (o : Option Verb) → NamesReceiver s v → (o ≡ Some w → NamesReceiver s w) → first_of b v o ≡ Some w → NamesReceiver s w
named_by s true v w o here later e = subst (NamesReceiver s) (some_same e) here
named_by s false v w o here later e = later e

pub names_receiver : (s : Shape) (orders : List Order) (seat round : ℕ) (v : Verb) → AllLawful s orders → order_at orders seat round ≡ Some v → NamesReceiver s v
names_receiver s [] seat round v all e = absurd cc
names_receiver s (o ∷ os) seat round v all e =
    let a = and_parts (within 1 o.party (seats s)) _ all.0 in
    let b = and_parts _ (allows s o.party o.round o.verb) a.1 in
    named_by s (eqb o.party seat && eqb o.round round) o.verb v (order_at os seat round) (allowed_names s o.party o.round o.verb b.1) (names_receiver s os seat round v all.1) e

-- A drilled word has a ring message for each seat and none for the own, where the word has.
changed_own : (rs : List Ring) (i j : ℕ) (f : Ring → Ring) → f Nothing ≡ Nothing → get_or rs j Nothing ≡ Nothing → get_or (set rs i (f (get_or rs i Nothing))) j Nothing ≡ Nothing
changed_own [] i j f keeps own = refl
changed_own (r ∷ rs) zero zero f keeps own = ap f own ∙ keeps
changed_own (r ∷ rs) zero (suc j) f keeps own = own
changed_own (r ∷ rs) (suc i) zero f keeps own = own
changed_own (r ∷ rs) (suc i) (suc j) f keeps own = changed_own rs i j f keeps own

changed_fits : (s : Shape) (seat to : ℕ) (f : Ring → Ring) (rs : List Ring) → f Nothing ≡ Nothing → OneEach s seat rs → OneEach s seat (ring_changed to f rs)
changed_fits s seat to f rs keeps h = record {
  all = length-set rs (to - 1) (f (get_or rs (to - 1) Nothing)) ∙ h.all;
  own = changed_own rs (to - 1) (seat - 1) f keeps h.own;
}

get_past : (rs : List Ring) (i : ℕ) → length rs ≤ i → get_or rs i Nothing ≡ Nothing
get_past [] i le = refl
get_past (r ∷ rs) zero le = absurd (omega (arith, le))
get_past (r ∷ rs) (suc i) le = get_past rs i (omega (arith, le))

garbled_at : (n seat : ℕ) → (seat - 1 < n) ⊎ (n ≤ seat - 1) → get_or (garbled_rings n seat) (seat - 1) Nothing ≡ Nothing
garbled_at n seat (inl lt) =
    get_or-map-range_with_len (λ k. cond (eqb k (seat - 1)) Nothing (Cross [])) 0 n (seat - 1) (seat - 1) Nothing lt (omega arith)
    ∙ ap (λ (b : Bool). cond b Nothing (Cross [])) (eq-eqb (seat - 1) (seat - 1) refl)
garbled_at n seat (inr le) =
    let long = length-map-range_with_len (λ (k : ℕ). cond (eqb k (seat - 1)) Nothing (Cross [])) 0 n in
    get_past (garbled_rings n seat) (seat - 1) (omega (arith, long, le))

garbled_fits : (s : Shape) (seat : ℕ) → OneEach s seat (garbled_rings (seats s) seat)
garbled_fits s seat = record {
  all = length-map-range_with_len (λ (k : ℕ). cond (eqb k (seat - 1)) Nothing (Cross [])) 0 (seats s);
  own = garbled_at (seats s) seat (cases_lt (seat - 1) (seats s));
}

either_fits : (s : Shape) (seat : ℕ) (b : Bool) (xs ys : List Ring) → OneEach s seat xs → OneEach s seat ys → OneEach s seat (cond b xs ys)
either_fits s seat true xs ys hx hy = hx
either_fits s seat false xs ys hx hy = hy

skewed_fits : (s : Shape) (seat round : ℕ) (k : Fp) (rs : List Ring) → OneEach s seat rs → OneEach s seat (skewed_rings s seat round k rs)
skewed_fits s seat round k rs h =
    either_fits s seat (eqb round 1) _ _ (changed_fits s seat (lowest_other s seat) (skewed_deal s.degree k) rs refl h)
    (either_fits s seat (eqb round 2) _ _ (changed_fits s seat (lowest_other s seat) (skewed_cross k) rs refl h) h)

rings_fit : (s : Shape) (seat round : ℕ) (v : Verb) (rs : List Ring) → OneEach s seat rs → OneEach s seat (ordered_rings s seat round v rs)
rings_fit s seat round Garble rs h = garbled_fits s seat
rings_fit s seat round (Skew k) rs h = skewed_fits s seat round k rs h
rings_fit s seat round (Accuse j) rs h = h
rings_fit s seat round Veto rs h = h
rings_fit s seat round (Wrong k) rs h = h
rings_fit s seat round Late rs h = h
rings_fit s seat round Silent rs h = h

reworded_fits : (s : Shape) (seat round : ℕ) (second : Say) (v : Verb) (w : Say) → WordFits s seat w → WordFits s seat (reworded s seat round second v w)
reworded_fits s seat round second v (Speak p rs) h = rings_fit s seat round v rs h
reworded_fits s seat round second v Pass h = tt
reworded_fits s seat round second v (PassThenSpeak p rs) h = rings_fit s seat round v rs h

late_fits : (s : Shape) (seat : ℕ) (w : Say) → WordFits s seat w → WordFits s seat (late_word w)
late_fits s seat (Speak p rs) h = h
late_fits s seat Pass h = tt
late_fits s seat (PassThenSpeak p rs) h = h

ordered_fits : (s : Shape) (seat round : ℕ) (second : Say) (v : Option Verb) (w : Say) → WordFits s seat w → WordFits s seat (ordered_word s seat round second v w)
ordered_fits s seat round second None w h = h
ordered_fits s seat round second (Some Silent) w h = tt
ordered_fits s seat round second (Some Late) w h = late_fits s seat w h
ordered_fits s seat round second (Some Garble) w h = reworded_fits s seat round second Garble w h
ordered_fits s seat round second (Some (Skew k)) w h = reworded_fits s seat round second (Skew k) w h
ordered_fits s seat round second (Some (Wrong k)) w h = h
ordered_fits s seat round second (Some (Accuse j)) w h = reworded_fits s seat round second (Accuse j) w h
ordered_fits s seat round second (Some Veto) w h = reworded_fits s seat round second Veto w h

pub drilled_fits : (s : Shape) (orders : List Order) (seat round : ℕ) (second w said : Say) → said ≡ drilled_word s orders seat round second w → WordFits s seat w → WordFits s seat said
unfolding drilled_word
drilled_fits s orders seat round second w said e h = subst (WordFits s seat) (sym e) (ordered_fits s seat round second (order_at orders seat round) w h)
