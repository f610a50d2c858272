-- Where nobody is cut and nobody is told to speak late, the words allow one list of masks.
use Rattle.std.proofs.Common.{◌≡◌, ℕ, zero, suc, ◌+◌, ◌-◌, ◌<◌, ◌≤◌, Bool, true, false, ◌&&◌, not, eqb, List, [], ◌∷◌, length, Option, Some, None, refl, sym, ap, ap₂, ◌∙◌, subst, arith}
use Rattle.std.specs.List.{list_all}
use Rattle.std.proofs.lemmas.Bool.{and_from, and_parts}
use Rattle.std.proofs.lemmas.List.{length-map}
use Rattle.std.proofs.lemmas.Nat.Bits.{bit_at-lt, same_from_bits_below}
use Rattle.std.specs.Int.{bit_at}
use Rattle.talk.specs.declared.messages.Heard.{Heard}
use Rattle.talk.specs.declared.messages.Say.{Say}
use Rattle.talk.specs.declared.messages.Say.TheVariants.{Speak, Pass, PassThenSpeak}
use Rattle.talk.specs.Shape.{Shape, seats}
use Rattle.talk.specs.Sync.{Ways, AllAllowed, Allowed, MaySay, IsMask, after_round, after_words, after_hears, has, heard_at, nobody, said_when, words_of}
use Rattle.machines.proofs.Runs.{length-sync}
use Rattle.drillbook.specs.declared.order.Verb.{Verb}
use Rattle.drillbook.specs.declared.order.Verb.TheVariants.{Silent, Late, Garble, Skew, Wrong, Accuse, Veto}
use Rattle.drillbook.specs.declared.order.Order.{Order}
use Rattle.drillbook.specs.Orders.{order_at}
use Rattle.drillbook.specs.Word.{DrilledMind, drilled_ways, drilled_word, ordered_word, reworded}
use Rattle.talk.specs.Basics.{first_of}
use Rattle.commands.specs.Run.{numbered, drilled_on, drilled_all}
use Rattle.scenes.specs.Lawful.{is_late}
use Rattle.scenes.proofs.Masks.{none_in}

-- the word is said in time, or is none
abbrev pub is_plain : Say → Bool
is_plain (Speak post rings) = true
is_plain Pass = true
is_plain (PassThenSpeak post rings) = false

-- ---- one round
-- such a word says whether its seat is in the mask
one_answer : (before now other : Bool) (word : Say) → is_plain word ≡ true → MaySay before now word → MaySay before other word → now ≡ other
one_answer before now other (Speak post rings) plain here there = here ∙ sym there
one_answer before now other Pass plain here there = here ∙ sym there
one_answer before now other (PassThenSpeak post rings) plain here there = absurd cc

one_round : (before mask other seat : ℕ) (words : List Say) → list_all is_plain words ≡ true → Allowed before mask 0 seat words → Allowed before other 0 seat words →
    (k : ℕ) → k < length words → has mask (seat + k) ≡ has other (seat + k)
one_round before mask other seat [] plain here there k lt = absurd (omega (arith, lt))
one_round before mask other seat (word ∷ words) plain here there zero lt =
    let e : seat + 0 ≡ seat = omega arith in
    let uncut : said_when (has 0 seat) word ≡ word = ap (λ (b : Bool). said_when b word) (none_in seat) in
    ap (has mask) e
    ∙ one_answer (has before seat) (has mask seat) (has other seat) word (and_parts (is_plain word) (list_all is_plain words) plain).0 (subst (MaySay (has before seat) (has mask seat)) uncut here.0)
    (subst (MaySay (has before seat) (has other seat)) uncut there.0)
    ∙ sym (ap (has other) e)
one_round before mask other seat (word ∷ words) plain here there (suc k) lt =
    let e : (seat + 1) + k ≡ seat + suc k = omega arith in
    subst (λ (n : ℕ). has mask n ≡ has other n) e (one_round before mask other (seat + 1) words (and_parts (is_plain word) (list_all is_plain words) plain).1 here.1 there.1 k (omega (arith, lt)))

-- two masks with the same seats are one
bit_from : (one other : ℕ) → one < 2 → other < 2 → eqb one 1 ≡ eqb other 1 → one ≡ other
bit_from zero zero a b e = refl
bit_from zero (suc zero) a b e = absurd cc
bit_from (suc zero) zero a b e = absurd cc
bit_from (suc zero) (suc zero) a b e = refl
bit_from (suc (suc one)) other a b e = absurd (omega (arith, a))
bit_from one (suc (suc other)) a b e = absurd (omega (arith, b))

pub one_mask : (s : Shape) (mask other : ℕ) → IsMask s mask → IsMask s other → ((seat : ℕ) → 1 ≤ seat → seat ≤ seats s → has mask seat ≡ has other seat) → mask ≡ other
one_mask s mask other is more same =
    same_from_bits_below (seats s) mask other is more
    (λ i lt.
    let e : i + 1 - 1 ≡ i = omega arith in
    let bits : eqb (bit_at mask (i + 1 - 1)) 1 ≡ eqb (bit_at other (i + 1 - 1)) 1 = same (i + 1) (omega arith) (omega (arith, lt)) in
    bit_from (bit_at mask i) (bit_at other i) (bit_at-lt mask i) (bit_at-lt other i) (subst (λ (n : ℕ). eqb (bit_at mask n) 1 ≡ eqb (bit_at other n) 1) e bits))

-- ---- all rounds
-- minds whose words are plain as long as a test holds of them, which it goes on to do
module _ {M : Type 0} (w : Ways M) (test : M → Bool) (plain : (m : M) (round : ℕ) → test m ≡ true → is_plain (w.word m round) ≡ true)
    (said : (m : M) (round : ℕ) → test (w.after_say m round) ≡ test m) (heard : (m : M) (round : ℕ) (h : Heard) → test (w.after_hear m round h) ≡ test m) (s : Shape) where
  words_plain : (round : ℕ) (ms : List M) → list_all test ms ≡ true → list_all is_plain (words_of w round ms) ≡ true
  words_plain round [] all = refl
  words_plain round (m ∷ ms) all =
      let both = and_parts (test m) (list_all test ms) all in
      and_from (is_plain (w.word m round)) (list_all is_plain (words_of w round ms)) (plain m round both.0) (words_plain round ms both.1)

  still_said : (round : ℕ) (ms : List M) → list_all test ms ≡ true → list_all test (after_words w round ms) ≡ true
  still_said round [] all = refl
  still_said round (m ∷ ms) all =
      let both = and_parts (test m) (list_all test ms) all in
      and_from (test (w.after_say m round)) (list_all test (after_words w round ms)) (said m round ∙ both.0) (still_said round ms both.1)

  still_heard : (round mask : ℕ) (words : List Say) (seat : ℕ) (ms : List M) → list_all test ms ≡ true → list_all test (after_hears w s round mask words seat ms) ≡ true
  still_heard round mask words seat [] all = refl
  still_heard round mask words seat (m ∷ ms) all =
      let both = and_parts (test m) (list_all test ms) all in
      and_from (test (w.after_hear m round (heard_at s round mask words seat))) (list_all test (after_hears w s round mask words (seat + 1) ms)) (heard m round (heard_at s round mask words seat) ∙ both.0)
      (still_heard round mask words (seat + 1) ms both.1)

  pub one_run : (round before : ℕ) (masks others : List ℕ) (ms : List M) → length ms ≡ seats s → list_all test ms ≡ true → length masks ≡ length others →
      AllAllowed w s round before nobody masks ms → AllAllowed w s round before nobody others ms → masks ≡ others
  one_run round before [] [] ms seated all long here there = refl
  one_run round before [] (other ∷ others) ms seated all long here there = absurd (omega (arith, long))
  one_run round before (mask ∷ masks) [] ms seated all long here there = absurd (omega (arith, long))
  one_run round before (mask ∷ masks) (other ∷ others) ms seated all long here there =
      let words : List Say = words_of w round ms in
      let count : length words ≡ seats s = length-map ms (λ (m : M). w.word m round) ∙ seated in
      let same : mask ≡ other =
      one_mask s mask other here.0 there.0
      (λ seat from to.
      let e : 1 + (seat - 1) ≡ seat = omega (arith, from) in
      subst (λ (n : ℕ). has mask n ≡ has other n) e (one_round before mask other 1 words (words_plain round ms all) here.1 there.1 (seat - 1) (omega (arith, from, to, count)))) in
      let rest : AllAllowed w s (round + 1) mask nobody others (after_round w s round mask ms) =
      subst (λ (m : ℕ). AllAllowed w s (round + 1) m nobody others (after_round w s round m ms)) (sym same) there.2 in
      ap₂ (λ (m : ℕ) (xs : List ℕ). m ∷ xs) same
      (one_run (round + 1) mask masks others (after_round w s round mask ms) (length-sync w s round (mask ∷ []) ms ∙ seated)
      (still_heard round mask words 1 (after_words w round ms) (still_said round ms all)) (omega (arith, long)) here.2 rest)

-- ---- drilled minds
abbrev in_time : Option Verb → Bool
in_time None = true
in_time (Some verb) = not (is_late verb)

first_in_time : (here : Bool) (verb : Verb) (later : Option Verb) → not (is_late verb) ≡ true → in_time later ≡ true → in_time (first_of here verb later) ≡ true
first_in_time true verb later one more = one
first_in_time false verb later one more = more

order_in_time : (orders : List Order) (seat round : ℕ) → list_all (λ (order : Order). not (is_late order.verb)) orders ≡ true → in_time (order_at orders seat round) ≡ true
order_in_time [] seat round all = refl
order_in_time (order ∷ orders) seat round all =
    let both = and_parts (not (is_late order.verb)) (list_all (λ (o : Order). not (is_late o.verb)) orders) all in
    first_in_time (eqb order.party seat && eqb order.round round) order.verb (order_at orders seat round) both.0 (order_in_time orders seat round both.1)

reworded_plain : (s : Shape) (seat round : ℕ) (second : Say) (verb : Verb) (word : Say) → is_plain word ≡ true → is_plain (reworded s seat round second verb word) ≡ true
reworded_plain s seat round second verb (Speak post rings) plain = refl
reworded_plain s seat round second verb Pass plain = refl
reworded_plain s seat round second verb (PassThenSpeak post rings) plain = plain

ordered_plain : (s : Shape) (seat round : ℕ) (second : Say) (told : Option Verb) (word : Say) → in_time told ≡ true → is_plain word ≡ true → is_plain (ordered_word s seat round second told word) ≡ true
ordered_plain s seat round second None word timely plain = plain
ordered_plain s seat round second (Some Silent) word timely plain = refl
ordered_plain s seat round second (Some Late) word timely plain = absurd cc
ordered_plain s seat round second (Some Garble) word timely plain = reworded_plain s seat round second Garble word plain
ordered_plain s seat round second (Some (Skew by)) word timely plain = reworded_plain s seat round second (Skew by) word plain
ordered_plain s seat round second (Some (Wrong by)) word timely plain = plain
ordered_plain s seat round second (Some (Accuse receiver)) word timely plain = reworded_plain s seat round second (Accuse receiver) word plain
ordered_plain s seat round second (Some Veto) word timely plain = reworded_plain s seat round second Veto word plain

drilled_plain : (s : Shape) (orders : List Order) (seat round : ℕ) (second word : Say) → list_all (λ (order : Order). not (is_late order.verb)) orders ≡ true → is_plain word ≡ true →
    is_plain (drilled_word s orders seat round second word) ≡ true
unfolding drilled_word
drilled_plain s orders seat round second word timely plain = ordered_plain s seat round second (order_at orders seat round) word (order_in_time orders seat round timely) plain

module _ {M : Type 0} (w : Ways M) (plain : (m : M) (round : ℕ) → is_plain (w.word m round) ≡ true) where
  all_timely : (s : Shape) (orders : List Order) (k : ℕ) (minds : List M) → list_all (λ (order : Order). not (is_late order.verb)) orders ≡ true →
      list_all (λ (d : DrilledMind M). list_all (λ (order : Order). not (is_late order.verb)) d.orders) (numbered (drilled_on s orders) k minds) ≡ true
  all_timely s orders k [] timely = refl
  all_timely s orders k (m ∷ ms) timely = and_from _ _ timely (all_timely s orders (k + 1) ms timely)

  -- minds that nobody tells to speak late allow one list of masks
  pub one_list : (s : Shape) (orders : List Order) (minds : List M) (masks others : List ℕ) → length (drilled_all s orders minds) ≡ seats s → list_all (λ (order : Order). not (is_late order.verb)) orders ≡ true →
      length masks ≡ length others → (before : ℕ) → AllAllowed (drilled_ways w) s 1 before nobody masks (drilled_all s orders minds) →
      AllAllowed (drilled_ways w) s 1 before nobody others (drilled_all s orders minds) → masks ≡ others
  one_list s orders minds masks others seated timely long before here there =
      one_run (drilled_ways w) (λ (d : DrilledMind M). list_all (λ (order : Order). not (is_late order.verb)) d.orders)
      (λ d round all. drilled_plain d.shape d.orders d.seat round d.second (w.word d.inner round) all (plain d.inner round)) (λ d round. refl) (λ d round h. refl) s 1 before masks others (drilled_all s orders minds) seated
      (all_timely s orders 1 minds timely) long here there
