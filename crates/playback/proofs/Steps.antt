-- The steps of the playing.
use Rattle.std.proofs.Common.{inl, inr, ◌≡◌, ℕ, suc, ◌+◌, ◌-◌, ◌<◌, ◌≤◌, Bool, true, false, ◌&&◌, eqb, cond, List, [], ◌∷◌, ◌++◌, length, map, get_or, take, drop, min, refl, sym, ap, ap₂, ◌∙◌, subst, arith}
use Rattle.std.specs.Prelude.{Option, Some, None, Result, Ok, Err, OnOk, IfOk}
use Rattle.std.specs.List.{flat_map, range_with_len}
use Rattle.std.proofs.lemmas.Bool.{cases_lt, cond-true, cond-false, ne_eqb}
use Rattle.std.proofs.lemmas.List.{take-append-le}
use Rattle.std.proofs.lemmas.List.FromFn.{get_or-map-range_with_len, length-map-range_with_len, map-range_with_len_more}
use Rattle.sharing61.specs.Agreement.{Deals}
use Rattle.talk.specs.declared.messages.Post.{Post}
use Rattle.talk.specs.declared.messages.Ring.{Ring}
use Rattle.talk.specs.declared.messages.Ring.TheVariants.{Nothing}
use Rattle.talk.specs.declared.messages.Heard.{Heard}
use Rattle.talk.specs.declared.messages.Say.{Say}
use Rattle.talk.specs.declared.messages.Say.TheVariants.{Speak}
use Rattle.talk.specs.Shape.{Shape, Lawful, seats, rounds, receives}
use Rattle.talk.specs.Sync.{post_in, ring_in}
use Rattle.plays.specs.Play.{Play, instance_of}
use Rattle.plays.specs.Said.{points_up_to, unless_down}
use Rattle.plays.specs.Heard.{post_by, ring_by, post_heard, ring_heard, play_heard}
use Rattle.plays.specs.Law.{IsPlay}
use Rattle.plays.specs.Stage.{Stage, AtReady, AtDealt, AtCrossed, AtComplained, AtRevealed, AtDone, IsTurn, receiver_at}
use Rattle.members.specs.Member.{Member, member_after_hear, rings_said}
use Rattle.members.specs.Shares.{IsDone}
use Rattle.periods.specs.Move.{syndromes_by}
use Rattle.periods.specs.Mover.{mover_post}
use Rattle.moveshare.specs.Seat.{IsMoving}
use Rattle.sharer.specs.Sharer.{MayHear}
use Rattle.histories61.proofs.Lists.{map_same}
use Rattle.choices61.specs.Views.{post_by_rules, post_in_phase, posts_in_phase, rings_got, rings_in_phase}
use Rattle.playback.specs.Playing.{stage_on_seat, member_on_seat, seat_after, seats_after, word_read, words_read}
use Rattle.playback.proofs.Places.{map_twice, drop_item}
use Rattle.playback.proofs.Ends.{seat_some, seat_none}
use Rattle.playback.proofs.Fits.{may_hear, turn_on_seat}
use Rattle.playback.proofs.Speaking.{says_as_read}

-- ---- what is heard of the words
early_post : (p : Play) (round seat : ℕ) → round ≤ 5 → post_in_phase p round seat ≡ post_heard p round seat
early_post p round seat le =
    ap (λ b. unless_down (p.down seat) (p.post round seat) (cond (b && receives p.shape seat) (syndromes_by p (receiver_at p.shape seat)) (post_by p round seat))) (ne_eqb round 6 (λ e. omega (arith, e, le)))

sent_of : (p : Play) (round seat to : ℕ) → 1 ≤ to → to ≤ seats p.shape → ring_in to (word_read p round seat) ≡ ring_heard p round seat to
sent_of p round seat to from le = get_or-map-range_with_len (ring_heard p round seat) 1 (seats p.shape) (to - 1) to Nothing (omega (arith, from, le)) (omega (arith, from))

posts_are : (p : Play) (round : ℕ) (words : List Say) → words ≡ words_read p round → map post_in words ≡ map (post_in_phase p round) (points_up_to (seats p.shape))
posts_are p round words e = ap (map post_in) e ∙ map_twice post_in (word_read p round) (points_up_to (seats p.shape))

rings_are : (p : Play) (round to : ℕ) (words : List Say) → words ≡ words_read p round → 1 ≤ to → to ≤ seats p.shape → map (ring_in to) words ≡ map (λ seat. ring_heard p round seat to) (points_up_to (seats p.shape))
rings_are p round to words e from le =
    ap (map (ring_in to)) e ∙ map_twice (ring_in to) (word_read p round) (points_up_to (seats p.shape))
    ∙ map_same _ (λ seat. ring_heard p round seat to) (seats p.shape) 1 (λ seat a b. sent_of p round seat to from le)

pub last_is : (p : Play) (round : ℕ) (words slice : List Say) (posts : List Post) → slice ≡ words → words ≡ words_read p round → posts ≡ map post_in slice → posts ≡ map (post_in_phase p round) (points_up_to (seats p.shape))
last_is p round words slice posts s e ep = ep ∙ posts_are p round slice (s ∙ e)

heard_record : (posts qs : List Post) (rings rs : List Ring) → posts ≡ qs → rings ≡ rs → (let h : Heard = record { posts = posts; rings = rings } in h) ≡ (let h : Heard = record { posts = qs; rings = rs } in h)
heard_record posts qs rings rs e f = ap₂ (λ (a : List Post) (b : List Ring). let h : Heard = record { posts = a; rings = b } in h) e f

pub heard_is : (p : Play) (round to : ℕ) (words : List Say) (posts : List Post) (rings old : List Ring) → words ≡ words_read p round → round ≤ 5 → 1 ≤ to → to ≤ seats p.shape →
    posts ≡ map post_in words → old ≡ [] → rings ≡ old ++ map (ring_in to) words → (let h : Heard = record { posts = posts; rings = rings } in h) ≡ play_heard p round to
heard_is p round to words posts rings old e r5 from le ep eo er =
    heard_record posts _ rings _
    (ep ∙ posts_are p round words e ∙ map_same (post_in_phase p round) (post_heard p round) (seats p.shape) 1 (λ seat a b. early_post p round seat r5))
    (er ∙ ap (λ (l : List Ring). l ++ map (ring_in to) words) eo ∙ rings_are p round to words e from le)

pub got_is : (p : Play) (round to : ℕ) (words : List Say) (list old : List Ring) → words ≡ words_read p round → 1 ≤ to → to ≤ seats p.shape → p.down to ≡ true →
    list ≡ old ++ map (ring_in to) words → list ≡ old ++ rings_got p round to
got_is p round to words list old e from le down el =
    el ∙ ap (λ (l : List Ring). old ++ l) (rings_are p round to words e from le ∙ sym (cond-true (p.down to) _ [] down))

empty_behind : {A : Type 0} (xs : List A) → xs ++ [] ≡ xs
empty_behind [] = refl
empty_behind {A} (x ∷ xs) = ap (λ (l : List A). x ∷ l) (empty_behind xs)

pub none_got : (p : Play) (round to : ℕ) (old : List Ring) → p.down to ≡ false → old ≡ old ++ rings_got p round to
none_got p round to old up = sym (ap (λ (l : List Ring). old ++ l) (cond-false (p.down to) _ [] up) ∙ empty_behind old)

-- ---- words
-- a seat that isn't down is the member there
record On (p : Play) (k seat : ℕ) (m : Member) : Type 0 where
  up : p.down seat ≡ false
  is : m ≡ member_on_seat p k seat

on_seat : (p : Play) (k seat : ℕ) (o : Option Member) (m : Member) → o ≡ seat_after p k seat → o ≡ Some m → On p k seat m
on_seat p k seat o m e s = let got = seat_some (p.down seat) m (member_on_seat p k seat) (sym s ∙ e) in record { up = got.0; is = got.1 }

early_stage : (st : Stage) (round : ℕ) → IsTurn round st → IsDone st → ⊥
early_stage AtReady round t d = d
early_stage (AtDealt ps) round t d = d
early_stage (AtCrossed ps cs) round t d = d
early_stage (AtComplained ps third) round t d = d
early_stage (AtRevealed ps fourth votes) round t d = d
early_stage (AtDone ps acc) round t d = t

-- before its end the sharing is not done
not_done : (p : Play) (seat k : ℕ) → k < 5 → IsDone (stage_on_seat p seat k) → ⊥
not_done p seat k lt d = early_stage (stage_on_seat p seat k) (suc k) (turn_on_seat p seat k lt) d

five_or_six : (b : Bool) → cond b 5 6 ≤ 6
five_or_six true = omega arith
five_or_six false = omega arith

pub most_rounds : (s : Shape) → rounds s ≤ 6
most_rounds s = five_or_six (eqb s.checks 0)

pub may_tell : (p : Play) (round seat : ℕ) (o : Option Member) (m : Member) → 1 ≤ round → round ≤ rounds p.shape → (rounds p.shape ≡ 6 → IsMoving p.shape) → o ≡ seat_after p (round - 1) seat → o ≡ Some m → IsDone m.stage → IsMoving m.shape
may_tell p round seat o m from to six e s d =
    let on = on_seat p (round - 1) seat o m e s in
    let d2 : IsDone (stage_on_seat p seat (round - 1)) = subst (λ (x : Member). IsDone x.stage) on.is d in
    subst (λ (x : Member). IsMoving x.shape) (sym on.is)
    (elim (cases_lt (round - 1) 5) [
      | inl lt ↦ absurd (not_done p seat (round - 1) lt d2)
      | inr past ↦ six (omega (arith, past, to, most_rounds p.shape))
    ])

pub word_is : (p : Play) (round seat : ℕ) (o : Option Member) (m : Member) → Lawful p.shape → ((i : ℕ) → Deals p.shape.degree (instance_of p i).dealer) → 1 ≤ round → round ≤ 6 → 1 ≤ seat → seat ≤ seats p.shape →
    o ≡ seat_after p (round - 1) seat → o ≡ Some m → Speak (mover_post m.shape m.seat m.grids m.stage) (rings_said m.shape m.seat m.grids m.stage) ≡ word_read p round seat
word_is p round seat o m lw al from to sf st e s =
    let on = on_seat p (round - 1) seat o m e s in
    let next : suc (round - 1) ≡ round = omega (arith, from) in
    ap (λ (x : Member). Speak (mover_post x.shape x.seat x.grids x.stage) (rings_said x.shape x.seat x.grids x.stage)) on.is
    ∙ says_as_read p lw al seat (round - 1) sf st on.up (omega (arith, to, from))
    ∙ ap (λ (r : ℕ). word_read p r seat) next

-- what is recorded of a seat that is down
pub word_recorded : (p : Play) (round seat : ℕ) (post : Post) (rings : List Ring) → None ≡ seat_after p (round - 1) seat → post ≡ p.post round seat → rings ≡ map (p.ring round seat) (points_up_to (seats p.shape)) →
    Speak post rings ≡ word_read p round seat
word_recorded p round seat post rings none ep er =
    let down : p.down seat ≡ true = seat_none (p.down seat) _ none in
    ap₂ (λ (a : Post) (b : List Ring). Speak a b) (ep ∙ sym (ap (λ b. unless_down b (p.post round seat) (post_by_rules p round seat)) down))
    (er ∙ map_same (p.ring round seat) (ring_heard p round seat) (seats p.shape) 1 (λ to a b. sym (ap (λ d. unless_down d (p.ring round seat to) (ring_by p round seat to)) down)))

-- ---- hearing
pub hears : (p : Play) → IsPlay p → (round seat : ℕ) (o : Option Member) (m : Member) (h : Heard) → 1 ≤ round → round ≤ 5 → o ≡ seat_after p (round - 1) seat → o ≡ Some m → h ≡ play_heard p round seat → MayHear m h
hears p is round seat o m h from to e s eh =
    let on = on_seat p (round - 1) seat o m e s in
    let next : suc (round - 1) ≡ round = omega (arith, from) in
    subst (λ (x : Member). MayHear x h) (sym on.is)
    (subst (λ (x : Heard). MayHear (member_on_seat p (round - 1) seat) x) (sym (eh ∙ ap (λ (r : ℕ). play_heard p r seat) (sym next))) (may_hear p is seat (round - 1) (omega (arith, to, from))))

pub heard_on_seat : (p : Play) (round seat r : ℕ) (o : Option Member) (m n : Member) (h : Heard) → 1 ≤ round → o ≡ seat_after p (round - 1) seat → o ≡ Some m → h ≡ play_heard p round seat → n ≡ member_after_hear m r h →
    Some n ≡ seat_after p round seat
heard_on_seat p round seat r o m n h from e s eh en =
    let on = on_seat p (round - 1) seat o m e s in
    let next : suc (round - 1) ≡ round = omega (arith, from) in
    ap (λ (x : Member). Some x)
    (en ∙ ap₂ (λ (x : Member) (y : Heard). member_after_hear x r y) on.is (eh ∙ ap (λ (k : ℕ). play_heard p k seat) (sym next)) ∙ ap (λ (k : ℕ). member_on_seat p k seat) next)
    ∙ sym (cond-false (p.down seat) None (Some (member_on_seat p round seat)) on.up)

pub still_down : (p : Play) (round k seat : ℕ) → None ≡ seat_after p k seat → None ≡ seat_after p round seat
still_down p round k seat none = sym (cond-true (p.down seat) None _ (seat_none (p.down seat) _ none))

-- ---- lists by seat
pub points_append : {A : Type 0} (f : ℕ → A) (k : ℕ) (xs ys : List A) (x : A) → xs ≡ map f (points_up_to k) → ys ≡ xs ++ x ∷ [] → x ≡ f (k + 1) → ys ≡ map f (points_up_to (k + 1))
points_append f k xs ys x e ey ex =
    let o : 1 + k ≡ k + 1 = omega arith in
    ey ∙ ap₂ (λ (l : List _) (a : _). l ++ a ∷ []) e ex ∙ sym (map-range_with_len_more f 1 k (k + 1) o)

pub seat_at_place : (p : Play) (round k : ℕ) (x : Option Member) (states : List (Option Member)) → k < length states → states ≡ seats_after p round → x ≡ get_or states k x → x ≡ seat_after p round (k + 1)
seat_at_place p round k x states lt e ex =
    let long : length states ≡ seats p.shape = ap length e ∙ length-map-range_with_len (seat_after p round) 1 (seats p.shape) in
    ex ∙ ap (λ (l : List (Option Member)). get_or l k x) e ∙ get_or-map-range_with_len (seat_after p round) 1 (seats p.shape) k (k + 1) x (omega (arith, lt, long)) (omega arith)

-- min as the rounds of the sharing take it
pub min_shared : (p : Play) (round k : ℕ) (states : List (Option Member)) → round ≤ 6 → 1 ≤ round → states ≡ seats_after p (min (round - 1) 5) → states ≡ seats_after p (round - 1)
min_shared p round k states le from e = let same : min (round - 1) 5 ≡ round - 1 = omega (arith, le) in e ∙ ap (seats_after p) same

-- ---- the seats, as they hear one after another
abbrev head_or : {A : Type 0} → A → List A → A
head_or d [] = d
head_or d (x ∷ xs) = x

abbrev behind_head : {A : Type 0} → List A → List A
behind_head [] = []
behind_head (x ∷ xs) = xs

pub next_state : (p : Play) (k i n : ℕ) (items : List (Option Member)) (x : Option Member) → i < length items → length items ≡ n → drop i items ≡ map (seat_after p k) (range_with_len (1 + i) (n - i)) → x ≡ get_or items i x →
    (x ≡ seat_after p k (i + 1)) × (drop (i + 1) items ≡ map (seat_after p k) (range_with_len (1 + (i + 1)) (n - (i + 1))))
next_state p k i n items x lt long e is =
    let m : n - i ≡ suc (n - (i + 1)) = omega (arith, lt, long) in
    let both : x ∷ drop (i + 1) items ≡ seat_after p k (1 + i) ∷ map (seat_after p k) (range_with_len (1 + i + 1) (n - (i + 1))) =
    sym (drop_item items i x lt is) ∙ e ∙ ap (λ (r : ℕ). map (seat_after p k) (range_with_len (1 + i) r)) m in
    let one : 1 + i ≡ i + 1 = omega arith in
    let two : 1 + i + 1 ≡ 1 + (i + 1) = omega arith in (
      ap (head_or x) both ∙ ap (seat_after p k) one,
      ap behind_head both ∙ ap (λ (a : ℕ). map (seat_after p k) (range_with_len a (n - (i + 1)))) two,
    )

pub all_heard : (p : Play) (round i n : ℕ) (items rest : List (Option Member)) → length items ≡ seats p.shape → take i items ≡ map (seat_after p round) (range_with_len 1 i) → i ≡ seats p.shape → n ≡ seats p.shape →
    take n (items ++ rest) ≡ seats_after p round
all_heard p round i n items rest long e ei en =
    let same : n ≡ i = en ∙ sym ei in
    take-append-le n items rest (omega (arith, long, en)) ∙ ap (λ (k : ℕ). take k items) same ∙ e ∙ ap (λ (k : ℕ). map (seat_after p round) (range_with_len 1 k)) ei

pub length-states : (p : Play) (round : ℕ) (states : List (Option Member)) → states ≡ seats_after p round → length states ≡ seats p.shape
length-states p round states e = ap length e ∙ length-map-range_with_len (seat_after p round) 1 (seats p.shape)

pub on_ok : {A E : Type 0} {P Q : Type 0} (r : Result A E) → (P → Q) → OnOk r P → OnOk r Q
on_ok (Ok a) f h = f h
on_ok (Err e) f h = tt

pub if_ok : {A E : Type 0} (P Q : A → Type 0) (r : Result A E) → ((a : A) → P a → Q a) → IfOk r P → IfOk r Q
if_ok P Q (Ok a) f h = f a h
if_ok P Q (Err e) f h = tt

-- the lists of a phase, round by round
pub posts_listed : (p : Play) → flat_map (λ round. map (post_in_phase p round) (points_up_to (seats p.shape))) (points_up_to (rounds p.shape)) ≡ posts_in_phase p
unfolding posts_in_phase
posts_listed p = refl

pub rings_listed : (p : Play) → flat_map (λ round. flat_map (rings_got p round) (points_up_to (seats p.shape))) (points_up_to (rounds p.shape)) ≡ rings_in_phase p
unfolding rings_in_phase
rings_listed p = refl
