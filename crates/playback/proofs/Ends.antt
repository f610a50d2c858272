-- Where the seats of a play end, and the shares that these give.
use Rattle.std.proofs.Common.{◌≡◌, ℕ, ◌+◌, ◌-◌, ◌<◌, ◌≤◌, Bool, true, false, cond, List, [], length, map, get_or, refl, sym, ap, ap₂, ◌∙◌, subst, arith}
use Rattle.std.specs.Prelude.{Option, Some, None, Err}
use Rattle.std.proofs.lemmas.Bool.{cond-true, cond-false, ne_eqb}
use Rattle.std.proofs.lemmas.List.FromFn.{get_or-map-range_with_len, length-map-range_with_len}
use Rattle.algebra61.specs.Field.{Fp, zeroₚ, fe, ◌+ₚ◌, ◌*ₚ◌}
use Rattle.sharing61.specs.Agreement.{Deals}
use Rattle.talk.specs.declared.messages.Post.{Post}
use Rattle.talk.specs.declared.messages.Post.TheVariants.{Quiet}
use Rattle.talk.specs.Shape.{Shape, Lawful, TwoCommittees, seats, rounds, receives}
use Rattle.plays.specs.Play.{Play, instance_of, seat_of, created_share}
use Rattle.plays.specs.Said.{places}
use Rattle.plays.specs.Seat.{post_at}
use Rattle.plays.specs.Stage.{Stage, receiver_at}
use Rattle.plays.specs.Run.{done_stage}
use Rattle.plays.proofs.Shapes.{within_from}
use Rattle.members.specs.Member.{Member}
use Rattle.members.specs.Shares.{IsDone, member_shares}
use Rattle.members.proofs.Sums.{done_is_play}
use Rattle.periods.specs.Refresh.{refreshed_share}
use Rattle.checks61.specs.Checks.{IsErrorOf}
use Rattle.periods.specs.Move.{syndromes_by, syndromes_heard, IsOpenedSyndrome, HaveErrors, old_bound, moved_share, IsMove}
use Rattle.periods.proofs.Opening.{one_opened}
use Rattle.histories61.specs.Phases.{receivers_down}
use Rattle.histories61.proofs.Errors.{same_entries}
use Rattle.histories61.proofs.Lists.{unless_same, map_same}
use Rattle.choices61.specs.Views.{post_in_phase}
use Rattle.choices61.proofs.Products.{ReceiverOn}
use Rattle.subshare.specs.Opening.{post_of}
use Rattle.moveshare.specs.declared.lanes.LaneFault.{LaneFault}
use Rattle.moveshare.specs.declared.lanes.LaneFault.TheVariants.{NotOpened, NoWord, OutOfMemory}
use Rattle.moveshare.specs.Lanes.{AnswersLanes}
use Rattle.moveshare.specs.Result.{share_without}
use Rattle.moveshare.proofs.Playing.{errors_too, moved_shares}
use Rattle.playback.specs.Playing.{dealt_by_seat, member_on_seat, seat_after, seats_after, posts_read_in}
use Rattle.playback.specs.Shares.{shares_at, shares_by, HasBefore, sums_of, refreshed_of}
use Rattle.playback.proofs.Places.{places_points}
use Rattle.playback.proofs.Speaking.{receiver_stage}

-- ---- what stands on a seat
abbrev from_some : {A : Type 0} → A → Option A → A
from_some a None = a
from_some a (Some x) = x

pub seat_some : {A : Type 0} (b : Bool) (m n : A) → Some m ≡ cond b None (Some n) → (b ≡ false) × (m ≡ n)
seat_some true m n e = cc
seat_some false m n e = (refl, ap (from_some m) e)

pub seat_none : {A : Type 0} (b : Bool) (n : A) → None ≡ cond b None (Some n) → b ≡ true
seat_none true n e = refl
seat_none false n e = cc

pub seat_at : (p : Play) (round place seat : ℕ) → 1 ≤ seat → seat ≤ seats p.shape → place + 1 ≡ seat → get_or (seats_after p round) place None ≡ seat_after p round seat
seat_at p round place seat from to e =
    get_or-map-range_with_len (seat_after p round) 1 (seats p.shape) place seat None (omega (arith, from, to, e)) (omega (arith, from, e))

module _ (p : Play) (lw : Lawful p.shape) (al : (i : ℕ) → Deals p.shape.degree (instance_of p i).dealer) (j : ℕ) (from : 1 ≤ j) (to : j ≤ p.shape.receivers) where
  abbrev place : ℕ
  place = seat_of p.shape j

  here : ReceiverOn p.shape place
  here = record { from = omega (arith, from); to = omega (arith, to); seat_is = omega (arith, from) }

  index_is : receiver_at p.shape place ≡ j
  index_is = omega arith

  pub receives_here : receives p.shape place ≡ true
  receives_here = within_from (p.shape.shift + 1) place (seats p.shape) (omega (arith, from)) (omega (arith, to))

  pub stage_done : p.down place ≡ false → (member_on_seat p 5 place).stage ≡ done_stage p j
  stage_done up = receiver_stage p lw al place here up 5 (omega arith) ∙ ap (done_stage p) index_is

  pub is_done : p.down place ≡ false → IsDone (member_on_seat p 5 place).stage
  is_done up = subst IsDone (sym (stage_done up)) tt

  pub created_is : p.down place ≡ false → member_shares (member_on_seat p 5 place) ≡ map (λ lane. created_share p lane j) (places 5)
  created_is up = (done_is_play p j (member_on_seat p 5 place) (record { shape = refl; stage = stage_done up })).shares

  -- the share with the lanes' errors taken off
  pub moved_is : (t : ℕ) (errors : List (List Fp)) → IsMove t p → p.down place ≡ false →
      map (share_without (member_on_seat p 5 place) errors) (places 5) ≡ map (λ lane. moved_share p lane (get_or errors lane []) j) (places 5)
  moved_is t errors move up =
      ap (λ (st : Stage). let m : Member = record { shape = p.shape; seat = place; grids = dealt_by_seat p place; stage = st } in map (share_without m errors) (places 5)) (stage_done up)
      ∙ moved_shares t p (dealt_by_seat p) [] j errors move

-- a receiver's seat in the end
pub record EndsAs (p : Play) (j : ℕ) (m : Member) : Type 0 where
  pub up : receivers_down p j ≡ false
  pub shape : m.shape ≡ p.shape
  pub receives : receives m.shape m.seat ≡ true
  pub done : IsDone m.stage
  pub created : member_shares m ≡ map (λ lane. created_share p lane j) (places 5)
  pub moved : (t : ℕ) (errors : List (List Fp)) → IsMove t p →
      map (share_without m errors) (places 5) ≡ map (λ lane. moved_share p lane (get_or errors lane []) j) (places 5)

pub ends_as : (p : Play) → Lawful p.shape → ((i : ℕ) → Deals p.shape.degree (instance_of p i).dealer) → (j : ℕ) → 1 ≤ j → j ≤ p.shape.receivers →
    (seat : ℕ) (o : Option Member) (m : Member) → seat ≡ p.shape.shift + j → o ≡ seat_after p 5 seat → o ≡ Some m → EndsAs p j m
ends_as p lw al j from to seat o m es e s =
    let got = seat_some (p.down (seat_of p.shape j)) m (member_on_seat p 5 (seat_of p.shape j)) (sym s ∙ e ∙ ap (seat_after p 5) es) in
    subst (EndsAs p j) (sym got.1)
    (record {
      up = got.0;
      shape = refl;
      receives = receives_here p lw al j from to;
      done = is_done p lw al j from to got.0;
      created = created_is p lw al j from to got.0;
      moved = λ t errors move. moved_is p lw al j from to t errors move got.0;
    })

pub ends_down : (p : Play) (j seat : ℕ) (o : Option Member) → seat ≡ p.shape.shift + j → o ≡ seat_after p 5 seat → o ≡ None → receivers_down p j ≡ true
ends_down p j seat o es e s = seat_none (p.down (seat_of p.shape j)) _ (sym s ∙ e ∙ ap (seat_after p 5) es)

-- ---- the shares of all receivers
pub some_shares : (p : Play) (share : ℕ → ℕ → Fp) (j : ℕ) (x : List Fp) → receivers_down p j ≡ false → x ≡ map (λ lane. share lane j) (places 5) → Some x ≡ shares_at p share j
some_shares p share j x up e = ap Some e ∙ sym (cond-false (receivers_down p j) None _ up)

pub no_shares : (p : Play) (share : ℕ → ℕ → Fp) (j : ℕ) → receivers_down p j ≡ true → None ≡ shares_at p share j
no_shares p share j e = sym (cond-true (receivers_down p j) None _ e)

pub shares_there : (p : Play) (share : ℕ → ℕ → Fp) (place j : ℕ) → place + 1 ≡ j → j ≤ p.shape.receivers → get_or (shares_by p share) place None ≡ shares_at p share j
shares_there p share place j e le = get_or-map-range_with_len (shares_at p share) 1 p.shape.receivers place j None (omega (arith, e, le)) (omega (arith, e))

-- ---- a refresh
sums_are : (p : Play) (share : ℕ → ℕ → Fp) (j : ℕ) →
    sums_of (fe j) (map (λ lane. share lane j) (places 5)) (map (λ lane. created_share p lane j) (places 5)) ≡ map (λ lane. refreshed_share p lane j (share lane j)) (places 5)
sums_are p share j =
    map_same _ _ 5 0
    (λ lane a b.
    let five : lane < 5 = omega (arith, b) in
    let there : 0 + lane ≡ lane = omega arith in
    ap₂ (λ x y. x +ₚ fe j *ₚ y) (get_or-map-range_with_len (λ l. share l j) 0 5 lane lane zeroₚ five there) (get_or-map-range_with_len (λ l. created_share p l j) 0 5 lane lane zeroₚ five there))

refreshed_by : (p : Play) (share : ℕ → ℕ → Fp) (j : ℕ) (b : Bool) (old : Option (List Fp)) → (b ≡ false → old ≡ Some (map (λ lane. share lane j) (places 5))) →
    refreshed_of j old (cond b None (Some (map (λ lane. created_share p lane j) (places 5)))) ≡ cond b None (Some (map (λ lane. refreshed_share p lane j (share lane j)) (places 5)))
refreshed_by p share j true None h = refl
refreshed_by p share j true (Some old) h = refl
refreshed_by p share j false old h =
    ap (λ (o : Option (List Fp)). refreshed_of j o (Some (map (λ lane. created_share p lane j) (places 5)))) (h refl) ∙ ap Some (sums_are p share j)

-- the shares of a receiver after a refresh
pub refreshed_is : (p : Play) (share : ℕ → ℕ → Fp) (before : List (Option (List Fp))) (place j : ℕ) → HasBefore p.shape.receivers (receivers_down p) share before → place + 1 ≡ j → j ≤ p.shape.receivers →
    refreshed_of j (get_or before place None) (get_or (shares_by p (created_share p)) place None) ≡ shares_at p (λ lane receiver. refreshed_share p lane receiver (share lane receiver)) j
refreshed_is p share before place j are e le =
    let back : j - 1 ≡ place = omega (arith, e) in
    ap (refreshed_of j (get_or before place None)) (shares_there p (created_share p) place j e le)
    ∙ refreshed_by p share j (receivers_down p j) (get_or before place None)
    (λ up. ap (λ k. get_or before k None) (sym back) ∙ are j (omega (arith, e)) le up)

-- ---- the sixth round
pub six_rounds : (s : Shape) (t : ℕ) → TwoCommittees s t → rounds s ≡ 6
six_rounds s t two = ap (λ b. cond b 5 6) (ne_eqb s.checks 0 (λ e. omega (arith, e, two.checks, two.third, two.some_bad)))

sixth_heard : (p : Play) (j : ℕ) → 1 ≤ j → j ≤ p.shape.receivers → post_in_phase p 6 (seat_of p.shape j) ≡ syndromes_heard p j
sixth_heard p j from to =
    unless_same (p.down (seat_of p.shape j)) _ _ _
    (λ up. cond-true (receives p.shape (seat_of p.shape j)) _ _ (within_from (p.shape.shift + 1) (seat_of p.shape j) (seats p.shape) (omega (arith, from)) (omega (arith, to))) ∙ ap (syndromes_by p) (let e : receiver_at p.shape (seat_of p.shape j) ≡ j = omega arith in e))

pub last_posts : (p : Play) (t : ℕ) (last : List Post) → IsMove t p → last ≡ posts_read_in p (rounds p.shape) → (j : ℕ) → 1 ≤ j → j ≤ p.shape.receivers → post_of p.shape last j ≡ syndromes_heard p j
last_posts p t last move e j from to =
    ap (λ (posts : List Post). post_at posts (seat_of p.shape j)) (e ∙ ap (posts_read_in p) (six_rounds p.shape t move.two))
    ∙ get_or-map-range_with_len (post_in_phase p 6) 1 (seats p.shape) (seat_of p.shape j - 1) (seat_of p.shape j) Quiet (omega (arith, from, to)) (omega (arith, from))
    ∙ sixth_heard p j from to

pub length-last : (p : Play) (round : ℕ) (last : List Post) → last ≡ posts_read_in p round → length last ≡ seats p.shape
length-last p round last e = ap length e ∙ length-map-range_with_len (post_in_phase p round) 1 (seats p.shape)

-- a lane has one opened syndrome
same_syndrome : (s : Shape) (post : ℕ → Post) (lane : ℕ) (one other : List Fp) → Lawful s → IsOpenedSyndrome s post lane one → IsOpenedSyndrome s post lane other → one ≡ other
same_syndrome s post lane one other lw h g =
    same_entries zeroₚ one other (h.long ∙ sym g.long)
    (λ k lt. one_opened s post lane k (get_or one k zeroₚ) (get_or other k zeroₚ) lw (h.each k (omega (arith, lt, h.long))) (g.each k (omega (arith, lt, h.long))))

-- where there are error vectors, no lane is without one, and none stays unopened
pub never_without : (s : Shape) (post : ℕ → Post) (errors : List (List Fp)) (fault : LaneFault) → Lawful s → HaveErrors s post errors → AnswersLanes s post (Err fault) → fault ≡ OutOfMemory
never_without s post errors (NotOpened lane place) lw have lacks =
    let opened = (have.each lane lacks.within).opened.each place lacks.first.within in
    absurd (lacks.first.unopened.none opened.0 opened.1)
never_without s post errors (NoWord lane syndrome) lw have lacks =
    let one = have.each lane lacks.within in
    absurd (lacks.without (get_or errors lane []) (subst (λ (z : List Fp). IsErrorOf s.dealers (old_bound s) z (get_or errors lane [])) (same_syndrome s post lane one.syndrome syndrome lw one.opened lacks.named) one.is))
never_without s post errors OutOfMemory lw have lacks = refl

-- error vectors by the last posts are the play's, and the play's are such
pub errors_in_play : (p : Play) (t : ℕ) (last : List Post) (errors : List (List Fp)) → IsMove t p → last ≡ posts_read_in p (rounds p.shape) → HaveErrors p.shape (post_of p.shape last) errors → HaveErrors p.shape (syndromes_heard p) errors
errors_in_play p t last errors move e have = errors_too p.shape (post_of p.shape last) (syndromes_heard p) (last_posts p t last move e) errors have

pub memory_wanting : (p : Play) (t : ℕ) (last : List Post) (errors : List (List Fp)) (fault : LaneFault) → IsMove t p → last ≡ posts_read_in p (rounds p.shape) → HaveErrors p.shape (syndromes_heard p) errors →
    AnswersLanes p.shape (post_of p.shape last) (Err fault) → fault ≡ OutOfMemory
memory_wanting p t last errors fault move e have answer =
    never_without p.shape (post_of p.shape last) errors fault move.setting
    (errors_too p.shape (syndromes_heard p) (post_of p.shape last) (λ j from to. sym (last_posts p t last move e j from to)) errors have) answer

-- the shares of all receivers after a refresh
pub all_refreshed : (p : Play) (share : ℕ → ℕ → Fp) (before made : List (Option (List Fp))) (place : ℕ) → made ≡ shares_by p (created_share p) → length made ≡ place → HasBefore p.shape.receivers (receivers_down p) share before →
    map (λ k. refreshed_of (k + 1) (get_or before k None) (get_or made k None)) (places place) ≡ shares_by p (λ lane receiver. refreshed_share p lane receiver (share lane receiver))
all_refreshed p share before made place em el has =
    let long : place ≡ p.shape.receivers = sym el ∙ ap length em ∙ length-map-range_with_len (shares_at p (created_share p)) 1 p.shape.receivers in
    ap₂ (λ (m : List (Option (List Fp))) (n : ℕ). map (λ k. refreshed_of (k + 1) (get_or before k None) (get_or m k None)) (places n)) em long
    ∙ places_points (λ k. refreshed_of (k + 1) (get_or before k None) (get_or (shares_by p (created_share p)) k None)) (shares_at p (λ lane receiver. refreshed_share p lane receiver (share lane receiver))) p.shape.receivers 0
    (λ k from lt. refreshed_is p share before k (k + 1) has refl (omega (arith, lt)))
