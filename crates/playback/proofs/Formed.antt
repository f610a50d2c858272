-- A phase that is kept is a play: its messages have their shapes, and its grids their degree.
use Rattle.std.proofs.Common.{inl, inr, ◌≡◌, ℕ, zero, suc, ◌+◌, ◌-◌, ◌*◌, ◌<◌, ◌≤◌, Bool, true, false, ◌&&◌, not, eqb, ltb, leb, cond, List, [], ◌∷◌, length, map, get_or, Option, Some, None, refl, sym, ap, ◌∙◌, subst, arith}
use Rattle.std.specs.List.{list_all}
use Rattle.std.proofs.lemmas.Bool.{cases_eq, cases_lt, cond-true, cond-false, eqb-true, ltb-true, leb-true, and_parts, and_from, lt-ltb, not-true}
use Rattle.std.proofs.lemmas.List.Elements.{All-get_or}
use Rattle.algebra61.specs.Field.{Fp}
use Rattle.algebra61.specs.Grid.{AllShort, Degree}
use Rattle.bivar61.specs.Grids.{IsGrid}
use Rattle.sharing61.specs.Count.{how_many}
use Rattle.sharing61.specs.Agreement.{Deals}
use Rattle.sizes.specs.Instances.{dealer_of, lane_of, instance_at}
use Rattle.talk.specs.declared.messages.Post.{Post}
use Rattle.talk.specs.declared.messages.Ring.{Ring}
use Rattle.talk.specs.declared.messages.Ring.TheVariants.{Nothing, Dealt, Cross}
use Rattle.talk.specs.Basics.{first_of}
use Rattle.talk.specs.Shape.{Shape, Lawful, instances, seats, rounds, within, deals}
use Rattle.talk.specs.Read.{post_ok, ring_ok}
use Rattle.talk.specs.Sync.{has}
use Rattle.plays.specs.Read.{seek}
use Rattle.plays.specs.Play.{instance_of, dealer_if}
use Rattle.plays.specs.Law.{IsPlay}
use Rattle.plays.specs.Said.{places}
use Rattle.plays.proofs.Shapes.{within_from}
use Rattle.vss_core.specs.States.{FiveGrids}
use Rattle.members.specs.Member.{Member, member_at}
use Rattle.std.proofs.lemmas.List.FromFn.{length-map-range_with_len}
use Rattle.plays.proofs.Ends.{lane_below}
use Rattle.plays.proofs.Proper.{short_dealt, short_revealed}
use Rattle.choices61.proofs.Sums.{at_dealer}
use Rattle.playback.specs.declared.phase.SaidItem.{SaidItem}
use Rattle.playback.specs.declared.phase.Phase.{Phase}
use Rattle.playback.specs.Recorded.{quiet_or, nothing_or, is_item, said_post, said_ring, up_to, grid_place, is_dealt, play_of}
use Rattle.playback.specs.Playing.{dealt_by_seat, seat_after}
use Rattle.playback.proofs.Places.{all_map}
use Rattle.playback.specs.Kept.{is_quiet, is_nothing, message_ok, item_ok, IsKept}

-- ---- one item
record Is (x : SaidItem) (round seat to : ℕ) : Type 0 where
  round_is : x.round ≡ round
  seat_is : x.seat ≡ seat
  to_is : x.to ≡ to

item_is : (x : SaidItem) (round seat to : ℕ) → is_item round seat to x ≡ true → Is x round seat to
item_is x round seat to e =
    let a = and_parts (eqb x.round round) _ e in
    let b = and_parts (eqb x.seat seat) (eqb x.to to) a.1 in
    record { round_is = eqb-true x.round round a.0; seat_is = eqb-true x.seat seat b.0; to_is = eqb-true x.to to b.1 }

message_of : (s : Shape) (down : ℕ) (x : SaidItem) → item_ok s down x ≡ true → message_ok s x ≡ true
message_of s down x e =
    let a = and_parts (within 1 x.round (rounds s)) _ e in
    let b = and_parts (within 1 x.seat (seats s)) _ a.1 in
    (and_parts (has down x.seat) (message_ok s x) b.1).1

nothing_ok : (s : Shape) (round seat to : ℕ) (r : Ring) → is_nothing r ≡ true → ring_ok s round seat to r ≡ true
nothing_ok s round seat to Nothing e = refl
nothing_ok s round seat to (Dealt xs) e = cc
nothing_ok s round seat to (Cross xs) e = cc

-- the message that an item means
abbrev means : Shape → SaidItem → Bool → Bool
means s x b =
    cond b (is_nothing x.ring && post_ok s x.round x.seat x.post)
    (within 1 x.to (seats s) && (not (eqb x.to x.seat) && (is_quiet x.post && ring_ok s x.round x.seat x.to x.ring)))

post_by : (s : Shape) (x : SaidItem) (b : Bool) → b ≡ true → means s x b ≡ true → post_ok s x.round x.seat x.post ≡ true
post_by s x true f m = (and_parts (is_nothing x.ring) _ m).1
post_by s x false f m = cc

ring_by : (s : Shape) (x : SaidItem) (b : Bool) → means s x b ≡ true → ring_ok s x.round x.seat x.to x.ring ≡ true
ring_by s x true m = nothing_ok s x.round x.seat x.to x.ring (and_parts (is_nothing x.ring) _ m).0
ring_by s x false m =
    let a = and_parts (within 1 x.to (seats s)) _ m in
    let b = and_parts (not (eqb x.to x.seat)) _ a.1 in
    (and_parts (is_quiet x.post) _ b.1).1

post_of_item : (s : Shape) (down round seat : ℕ) (x : SaidItem) → item_ok s down x ≡ true → is_item round seat 0 x ≡ true → post_ok s round seat x.post ≡ true
post_of_item s down round seat x ok e =
    let at : Is x round seat 0 = item_is x round seat 0 e in
    let z : eqb x.to 0 ≡ true = ap (λ n. eqb n 0) at.to_is in
    subst (λ r. post_ok s r seat x.post ≡ true) at.round_is (subst (λ k. post_ok s x.round k x.post ≡ true) at.seat_is (post_by s x (eqb x.to 0) z (message_of s down x ok)))

ring_of_item : (s : Shape) (down round seat to : ℕ) (x : SaidItem) → item_ok s down x ≡ true → is_item round seat to x ≡ true → ring_ok s round seat to x.ring ≡ true
ring_of_item s down round seat to x ok e =
    let at : Is x round seat to = item_is x round seat to e in
    subst (λ r. ring_ok s r seat to x.ring ≡ true) at.round_is
    (subst (λ k. ring_ok s x.round k to x.ring ≡ true) at.seat_is (subst (λ k. ring_ok s x.round x.seat k x.ring ≡ true) at.to_is (ring_by s x (eqb x.to 0) (message_of s down x ok))))

-- ---- all items
post_found : (s : Shape) (round seat : ℕ) (b : Bool) (p : Post) (o : Option Post) → (b ≡ true → post_ok s round seat p ≡ true) → post_ok s round seat (quiet_or o) ≡ true → post_ok s round seat (quiet_or (first_of b p o)) ≡ true
post_found s round seat true p o h r = h refl
post_found s round seat false p o h r = r

ring_found : (s : Shape) (round seat to : ℕ) (b : Bool) (x : Ring) (o : Option Ring) → (b ≡ true → ring_ok s round seat to x ≡ true) → ring_ok s round seat to (nothing_or o) ≡ true → ring_ok s round seat to (nothing_or (first_of b x o)) ≡ true
ring_found s round seat to true x o h r = h refl
ring_found s round seat to false x o h r = r

pub posts_ok : (s : Shape) (down round seat : ℕ) (xs : List SaidItem) → list_all (item_ok s down) xs ≡ true → post_ok s round seat (said_post xs round seat) ≡ true
posts_ok s down round seat [] ok = refl
posts_ok s down round seat (x ∷ xs) ok =
    let both = and_parts (item_ok s down x) (list_all (item_ok s down) xs) ok in
    post_found s round seat (is_item round seat 0 x) x.post (seek (is_item round seat 0) (λ (y : SaidItem). y.post) xs) (post_of_item s down round seat x both.0) (posts_ok s down round seat xs both.1)

pub rings_ok : (s : Shape) (down round seat to : ℕ) (xs : List SaidItem) → list_all (item_ok s down) xs ≡ true → ring_ok s round seat to (said_ring xs round seat to) ≡ true
rings_ok s down round seat to [] ok = refl
rings_ok s down round seat to (x ∷ xs) ok =
    let both = and_parts (item_ok s down x) (list_all (item_ok s down) xs) ok in
    ring_found s round seat to (is_item round seat to x) x.ring (seek (is_item round seat to) (λ (y : SaidItem). y.ring) xs) (ring_of_item s down round seat to x both.0) (rings_ok s down round seat to xs both.1)

-- ---- where grids stand
count_more : (m n : ℕ) (f : ℕ → Bool) → m ≤ n → how_many m f ≤ how_many n f
count_more m zero f le = let e : m ≡ 0 = omega (arith, le) in let g : how_many m f ≡ how_many 0 f = ap (λ i. how_many i f) e in omega (arith, g)
count_more m (suc n) f le =
    elim (cases_eq m (suc n)) [
      | inl same ↦ let e : how_many m f ≡ how_many (suc n) f = ap (λ i. how_many i f) same in omega (arith, e)
      | inr ne ↦ omega (arith, count_more m n f (omega (arith, ne, le)))
    ]

counted_one : (b : Bool) → b ≡ false → 1 ≤ cond (not b) 1 0
counted_one true e = let no : true ≡ false = e in cc
counted_one false e = omega arith

-- a number that is counted stands behind fewer
pub more_below : (down : ℕ → Bool) (m n k : ℕ) → suc m ≡ k → k ≤ n → down k ≡ false → how_many m (λ k. not (down k)) + 1 ≤ how_many n (λ k. not (down k))
more_below down m n k e le up =
    omega (arith, count_more (suc m) n (λ k. not (down k)) (omega (arith, e, le)), counted_one (down (suc m)) (ap down e ∙ up))

pub dealer_most : (s : Shape) (i : ℕ) → i < instances s → dealer_of i ≤ s.dealers
dealer_most s i lt = omega (arith, lt)

-- ---- grids
short_rows : (n : ℕ) (g : List (List Fp)) → ((k : ℕ) → k < length g → length (get_or g k []) ≡ n) → AllShort n g
short_rows n [] h = tt
short_rows n (p ∷ ps) h = (omega (arith, h 0 (omega arith)), short_rows n ps (λ k lt. h (suc k) (omega (arith, lt))))

degree_of : (d : ℕ) (g : List (List Fp)) → IsGrid d g → Degree d g
degree_of d g is = record {
  in_x = omega (arith, is.in_x);
  in_y = short_rows (d + 1) g (λ k lt. All-get_or (λ (p : List Fp). length p ≡ d + 1) g k [] lt is.in_y);
}

-- the grid of a dealer that isn't down is in the record
pub dealt_at : (p : Phase) (k l : ℕ) → 1 ≤ k → k ≤ p.setting.dealers → l < 5 → has p.down k ≡ false →
    (play_of p).grid (instance_at k l) ≡ get_or p.grids (5 * up_to p.down (k - 1) + l) []
dealt_at p k l a b l5 up =
    let i : ℕ = instance_at k l in
    let lt : i < instances p.setting = omega (arith, a, b, l5) in
    let dl : dealer_of i ≡ k = omega (arith, a, l5) in
    cond-true (is_dealt p.setting p.down i) _ _ (and_from _ (not (has p.down (dealer_of i))) (lt-ltb i (instances p.setting) lt) (ap (λ i. not (has p.down i)) dl ∙ ap not up))
    ∙ at_dealer (λ i m. get_or p.grids (5 * up_to p.down (i - 1) + m) []) k l a l5

-- there are as many grids
pub place_below : (p : Phase) → IsKept p → (k l : ℕ) → 1 ≤ k → k ≤ p.setting.dealers → l < 5 → has p.down k ≡ false → 5 * up_to p.down (k - 1) + l < length p.grids
place_below p kept k l a b l5 up =
    let before : suc (k - 1) ≡ k = omega (arith, a) in
    omega (arith, kept.number, l5, more_below (has p.down) (k - 1) p.setting.dealers k before b up)

pub grid_there : (p : Phase) → IsKept p → (i : ℕ) → i < instances p.setting → has p.down (dealer_of i) ≡ false → IsGrid p.setting.degree ((play_of p).grid i)
grid_there p kept i lt up =
    let dealt : is_dealt p.setting p.down i ≡ true = and_from (ltb i (instances p.setting)) (not (has p.down (dealer_of i))) (lt-ltb i (instances p.setting) lt) (ap not up) in
    subst (IsGrid p.setting.degree) (sym (cond-true (is_dealt p.setting p.down i) (get_or p.grids (grid_place p.down i) []) [] dealt))
    (All-get_or (IsGrid p.setting.degree) p.grids (grid_place p.down i) []
    (place_below p kept (dealer_of i) (lane_of i) (omega arith) (dealer_most p.setting i lt) (lane_below i) up) kept.degrees)

-- ---- the play
pub formed : (p : Phase) → IsKept p → Lawful p.setting → IsPlay (play_of p)
formed p kept lawful = record {
  setting = lawful;
  degrees = λ i lt up. degree_of p.setting.degree ((play_of p).grid i) (grid_there p kept i lt up);
  posts = λ round seat from to e. posts_ok p.setting p.down round seat p.said kept.items;
  rings = λ round seat to from most e. rings_ok p.setting p.down round seat to p.said kept.items;
}

-- whatever instance is asked for, its dealer deals what has the degree
grid_short : (p : Phase) → IsKept p → (i : ℕ) (b : Bool) → is_dealt p.setting p.down i ≡ b → Degree p.setting.degree (cond b (get_or p.grids (grid_place p.down i) []) [])
grid_short p kept i true e =
    let both = and_parts (ltb i (instances p.setting)) (not (has p.down (dealer_of i))) e in
    let lt : i < instances p.setting = ltb-true i (instances p.setting) both.0 in
    degree_of p.setting.degree (get_or p.grids (grid_place p.down i) [])
    (All-get_or (IsGrid p.setting.degree) p.grids (grid_place p.down i) []
    (place_below p kept (dealer_of i) (lane_of i) (omega arith) (dealer_most p.setting i lt) (lane_below i) (not-true (has p.down (dealer_of i)) both.1)) kept.degrees)
grid_short p kept i false e = record { in_x = omega arith; in_y = tt }

deals_by : (p : Phase) → IsKept p → (i : ℕ) (b : Bool) → Deals p.setting.degree (dealer_if b (play_of p) i)
deals_by p kept i false = grid_short p kept i (is_dealt p.setting p.down i) refl
deals_by p kept i true = (
  λ j. short_dealt p.setting.degree (lane_of i) _,
  λ j q s. short_revealed p.setting (dealer_of i) (lane_of i) j (said_post p.said 4 (dealer_of i)) (posts_ok p.setting p.down 4 (dealer_of i) p.said kept.items) q s,
)

pub all_deal : (p : Phase) → IsKept p → (i : ℕ) → Deals p.setting.degree (instance_of (play_of p) i).dealer
unfolding instance_of
all_deal p kept i = deals_by p kept i (has p.down (dealer_of i))

-- ---- the grids of a seat
pub five_grids : (p : Phase) → IsKept p → (k : ℕ) (grids : List (List (List Fp))) → 1 ≤ k → k ≤ p.setting.dealers → has p.down k ≡ false → grids ≡ dealt_by_seat (play_of p) k → FiveGrids p.setting.degree grids
five_grids p kept k grids a b up e =
    let listed : dealt_by_seat (play_of p) k ≡ map (λ lane. (play_of p).grid (instance_at k lane)) (places 5) = cond-true (deals p.setting k) _ [] (within_from 1 k p.setting.dealers a b) in
    subst (FiveGrids p.setting.degree) (sym (e ∙ listed))
    (record {
      five = length-map-range_with_len (λ lane. (play_of p).grid (instance_at k lane)) 0 5;
      degree = all_map (IsGrid p.setting.degree) (λ lane. (play_of p).grid (instance_at k lane)) 5
          (λ lane l5.
          let there : dealer_of (instance_at k lane) ≡ k = omega (arith, a, l5) in
          grid_there p kept (instance_at k lane) (omega (arith, a, b, l5)) (ap (has p.down) there ∙ up));
    })

not_both : (b : Bool) → b ≡ true → b ≡ false → ⊥
not_both b e f = let g : true ≡ false = sym e ∙ f in cc

-- a seat that neither is down nor deals is a receiver's behind all dealers
pub record Behind (s : Shape) (seat : ℕ) : Type 0 where
  pub past : s.dealers < seat
  pub apart : s.shift ≡ s.dealers
  pub receiver : (1 ≤ seat - s.shift) × (seat - s.shift ≤ s.receivers)
  pub seat_is : s.shift + (seat - s.shift) ≡ seat

past_dealers : (s : Shape) (seat : ℕ) → deals s seat ≡ false → 1 ≤ seat → s.dealers < seat
past_dealers s seat e from =
    elim (cases_lt s.dealers seat) [
      | inl lt ↦ lt
      | inr le ↦ absurd (not_both (deals s seat) (within_from 1 seat s.dealers from (omega (arith, le))) e)
    ]

apart_behind : (s : Shape) → Lawful s → (seat : ℕ) → s.dealers < seat → seat ≤ seats s → s.shift ≡ s.dealers
apart_behind s lw seat past le =
    elim lw.committees [
      | inl one ↦ absurd (omega (arith, one.no_shift, one.same, past, le))
      | inr two ↦ two.1.behind
    ]

pub behind : (s : Shape) → Lawful s → (seat : ℕ) → deals s seat ≡ false → 1 ≤ seat → seat ≤ seats s → Behind s seat
behind s lw seat e from le =
    let past : s.dealers < seat = past_dealers s seat e from in
    let apart : s.shift ≡ s.dealers = apart_behind s lw seat past le in
    record { past = past; apart = apart; receiver = (omega (arith, past, apart), omega (arith, le)); seat_is = omega (arith, past, apart) }

-- what is on a seat before the first round
pub fresh_there : (p : Phase) (seat : ℕ) (grids : List (List (List Fp))) (m : Member) → has p.down seat ≡ false → grids ≡ dealt_by_seat (play_of p) seat → m ≡ member_at p.setting seat grids → Some m ≡ seat_after (play_of p) zero seat
fresh_there p seat grids m up eg em =
    ap (λ (x : Member). Some x) (em ∙ ap (member_at p.setting seat) eg) ∙ sym (cond-false (has p.down seat) None _ up)

pub none_dealt : (p : Phase) (seat : ℕ) → deals p.setting seat ≡ false → [] ≡ dealt_by_seat (play_of p) seat
none_dealt p seat e = sym (cond-false (deals p.setting seat) _ [] e)

pub dealer_within : (s : Shape) (seat : ℕ) → deals s seat ≡ true → (1 ≤ seat) × (seat ≤ s.dealers)
dealer_within s seat e = let both = and_parts (leb 1 seat) (leb seat s.dealers) e in (leb-true 1 seat both.0, leb-true seat s.dealers both.1)

pub fresh_at : (p : Phase) (seat place : ℕ) (m : Member) → has p.down seat ≡ false → deals p.setting seat ≡ false → place ≡ seat → m ≡ member_at p.setting place [] → Some m ≡ seat_after (play_of p) zero seat
fresh_at p seat place m up e ep em = fresh_there p seat [] m up (none_dealt p seat e) (em ∙ ap (λ (k : ℕ). member_at p.setting k []) ep)
