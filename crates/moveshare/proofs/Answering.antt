-- From the lanes' syndromes and errors to what a new member comes to.
use Rattle.std.proofs.Common.{◌≡◌, ℕ, ◌+◌, ◌-◌, ◌*◌, ◌<◌, ◌≤◌, true, false, not, ◌||◌, eqb, List, [], length, map, drop, get_or, Some, slice_get, sym, ap, ap₂, ◌∙◌, subst, arith}
use Rattle.std.specs.Prelude.{Result, Ok, Err, IfOk}
use Rattle.std.specs.List.{range_with_len}
use Rattle.std.proofs.lemmas.List.FromFn.{get_or-map-range_with_len, length-map-range_with_len}
use Rattle.algebra61.specs.Field.{Fp, zeroₚ, ◌-ₚ◌, ◌*ₚ◌}
use Rattle.checks61.specs.Checks.{syndrome_of, entry, corrected, weight_at_zero, IsErrorOf}
use Rattle.checks61.proofs.Sums.{sum_same}
use Rattle.checks61.proofs.Errors.{check_same, syndrome_same}
use Rattle.talk.specs.declared.messages.Post.{Post}
use Rattle.talk.specs.Shape.{Shape, TwoCommittees}
use Rattle.lists.proofs.Places.{drop_at, at_or}
use Rattle.rs61.specs.declared.ErrorFault.{ErrorFault}
use Rattle.rs61.specs.declared.ErrorFault.TheVariants.{NoError}
use Rattle.rs61.specs.Errors.{ErrorAnswers}
use Rattle.subshare.specs.declared.OpenFault.{OpenFault}
use Rattle.subshare.specs.declared.OpenFault.TheVariants.{NotOpened as PlaceNotOpened, OutOfMemory as NoMemory}
use Rattle.subshare.specs.Opening.{post_of, Opens}
use Rattle.members.specs.Member.{Member}
use Rattle.periods.specs.Mover.{Mover}
use Rattle.periods.specs.Move.{IsOpenedSyndrome, HaveErrors, old_bound}
use Rattle.moveshare.specs.Seat.{IsMoving}
use Rattle.moveshare.specs.declared.out.MoveOut.{MoveOut}
use Rattle.moveshare.specs.declared.lanes.LaneFault.{LaneFault}
use Rattle.moveshare.specs.declared.lanes.LaneFault.TheVariants.{NotOpened, NoWord, OutOfMemory}
use Rattle.moveshare.specs.Result.{has_error, posts_in_sixth, AnswersPosts, AnswersMove}
use Rattle.moveshare.specs.Lanes.{EachLane, AreOpened, IsErrorAt, IsFirstWithout, OpensLanes, FindsErrors, AnswersLanes, fault_at}

-- ---- the old committee
pub record OldCommittee (shape : Shape) : Type 0 where
  pub dealers : shape.dealers ≡ shape.checks + old_bound shape + 1
  pub third : 3 * old_bound shape < shape.dealers
  pub checks : 1 ≤ shape.checks

pub old_committee : (shape : Shape) → IsMoving shape → OldCommittee shape
old_committee shape moving =
    let two : TwoCommittees shape moving.0 = moving.1 in
    let bound : old_bound shape ≡ moving.0 = omega (arith, two.checks) in
    record {
      dealers = omega (arith, bound, two.checks);
      third = omega (arith, bound, two.third);
      checks = omega (arith, two.checks, two.third, two.some_bad);
    }

-- ---- what a receiver has of the dealers, as a list
entry_of : (n : ℕ) (v : ℕ → Fp) (shares : List Fp) → shares ≡ map v (range_with_len 1 n) → (i : ℕ) → 1 ≤ i → i ≤ n → entry shares i ≡ v i
entry_of n v shares e i from to =
    ap (λ (l : List Fp). entry l i) e ∙ get_or-map-range_with_len v 1 n (i - 1) i zeroₚ (omega (arith, from, to)) (omega (arith, from))

pub length-shares : (n : ℕ) (v : ℕ → Fp) (shares : List Fp) → shares ≡ map v (range_with_len 1 n) → length shares ≡ n
length-shares n v shares e = ap length e ∙ length-map-range_with_len v 1 n

-- its syndrome
pub syndrome_of_shares : (n k bound : ℕ) (v : ℕ → Fp) (shares values : List Fp) → n ≡ k + bound + 1 → shares ≡ map v (range_with_len 1 n) →
    values ≡ syndrome_of (length shares) (length shares - bound - 1) (entry shares) → values ≡ syndrome_of n k v
syndrome_of_shares n k bound v shares values en es ev =
    let long : length shares ≡ n = length-shares n v shares es in
    let rows : length shares - bound - 1 ≡ k = omega (arith, long, en) in
    ev ∙ ap₂ (λ a b. syndrome_of a b (entry shares)) long rows
    ∙ syndrome_same n k (entry shares) v (λ m lt. check_same n m (entry shares) v (entry_of n v shares es))

-- the value at 0 of what the errors leave
pub corrected_of_shares : (n k : ℕ) (v : ℕ → Fp) (shares error : List Fp) → k ≤ n → shares ≡ map v (range_with_len 1 n) → corrected k (entry shares) (entry error) ≡ corrected k v (entry error)
corrected_of_shares n k v shares error le es =
    sum_same k (λ i. weight_at_zero k i *ₚ (entry shares i -ₚ entry error i)) (λ i. weight_at_zero k i *ₚ (v i -ₚ entry error i))
    (λ i from to. ap (λ x. weight_at_zero k i *ₚ (x -ₚ entry error i)) (entry_of n v shares es i from (omega (arith, to, le))))

-- ---- the dealers with an error
is_zero : (n : ℕ) → n ≡ 0 → eqb n 0 ≡ true
is_zero n e = grind arith

is_not_zero : (n : ℕ) → 1 ≤ n → eqb n 0 ≡ false
is_not_zero n le = grind arith

entry_here : (error : List Fp) (dealer n : ℕ) (x : Fp) → slice_get error (dealer - 1) ≡ Some x → n ≡ x.num → (entry error dealer).num ≡ n
entry_here error dealer n x at e = ap (λ (y : Fp). y.num) (sym (at_or error (dealer - 1) zeroₚ x at)) ∙ sym e

pub error_here : (errors : List (List Fp)) (lane dealer n : ℕ) (error : List Fp) (x : Fp) → slice_get errors lane ≡ Some error → slice_get error (dealer - 1) ≡ Some x → n ≡ x.num → 1 ≤ n →
    has_error (drop lane errors) dealer ≡ true
error_here errors lane dealer n error x here at e le =
    ap (λ (l : List (List Fp)). has_error l dealer) (drop_at errors lane error here)
    ∙ ap (λ b. not b || has_error (drop (lane + 1) errors) dealer) (ap (λ k. eqb k 0) (entry_here error dealer n x at e) ∙ is_not_zero n le)

pub none_here : (errors : List (List Fp)) (lane dealer n : ℕ) (error : List Fp) (x : Fp) → slice_get errors lane ≡ Some error → slice_get error (dealer - 1) ≡ Some x → n ≡ x.num → n ≡ 0 →
    has_error (drop lane errors) dealer ≡ has_error (drop (lane + 1) errors) dealer
none_here errors lane dealer n error x here at e zero =
    ap (λ (l : List (List Fp)). has_error l dealer) (drop_at errors lane error here)
    ∙ ap (λ b. not b || has_error (drop (lane + 1) errors) dealer) (ap (λ k. eqb k 0) (entry_here error dealer n x at e) ∙ is_zero n zero)

-- ---- the lanes
pub open_stops : (shape : Shape) (post : ℕ → Post) (lane : ℕ) (syndromes : List (List Fp)) (fault : OpenFault) → lane < 5 → EachLane lane (IsOpenedSyndrome shape post) syndromes →
    Opens shape post lane (Err fault) → OpensLanes shape post (Err (fault_at lane fault))
open_stops shape post lane syndromes (PlaceNotOpened place) lt before h =
    record { within = lt; first = h; before = λ other less. (get_or syndromes other [], before.1 other less) }
open_stops shape post lane syndromes NoMemory lt before h = tt

pub errors_stop : (shape : Shape) (syndromes errors : List (List Fp)) (lane size bound : ℕ) (syndrome : List Fp) (fault : ErrorFault) → lane < 5 → EachLane lane (IsErrorAt shape syndromes) errors →
    size ≡ shape.dealers → bound ≡ old_bound shape → syndrome ≡ get_or syndromes lane [] → fault ≡ NoError → ErrorAnswers size bound syndrome (Err fault) → IsFirstWithout shape syndromes lane syndrome
errors_stop shape syndromes errors lane size bound syndrome fault lt before es eb ey e h = record {
  within = lt;
  named = ey;
  without = λ error is.
      subst (λ (f : ErrorFault). ErrorAnswers size bound syndrome (Err f)) e h error
      (subst (λ n. IsErrorOf n bound syndrome error) (sym es) (subst (λ n. IsErrorOf shape.dealers n syndrome error) (sym eb) (subst (λ (z : List Fp). IsErrorOf shape.dealers (old_bound shape) z error) (sym ey) is)));
  before = λ other less. (get_or errors other [], before.1 other less);
}

module _ (shape : Shape) (post : ℕ → Post) where
  pub all_long : (syndromes : List (List Fp)) → AreOpened shape post syndromes → EachLane 5 (λ lane list. length list ≡ shape.checks) syndromes
  all_long syndromes opened = (opened.0, λ lane lt. (opened.1 lane lt).long)

  pub not_opened : (fault : LaneFault) → OpensLanes shape post (Err fault) → AnswersLanes shape post (Err fault)
  not_opened (NotOpened lane place) h = h
  not_opened (NoWord lane syndrome) h = absurd h
  not_opened OutOfMemory h = tt

  -- the lanes are opened, and their syndromes have these error vectors or not
  pub found : (syndromes : List (List Fp)) (result : Result (List (List Fp)) LaneFault) → AreOpened shape post syndromes → FindsErrors shape syndromes result → AnswersLanes shape post result
  found syndromes (Ok errors) opened h = record {
    five = h.0;
    each = λ lane lt. record { syndrome = get_or syndromes lane []; opened = opened.1 lane lt; is = h.1 lane lt };
  }
  found syndromes (Err (NotOpened lane place)) opened h = absurd h
  found syndromes (Err (NoWord lane syndrome)) opened h = record {
    within = h.within;
    opened = λ other lt. (get_or syndromes other [], opened.1 other lt);
    named = subst (IsOpenedSyndrome shape post lane) (sym h.named) (opened.1 lane h.within);
    without = λ error is. h.without error (subst (λ (z : List Fp). IsErrorOf shape.dealers (old_bound shape) z error) h.named is);
    before = λ other less.
        let one = h.before other less in
        (one.0, record { syndrome = get_or syndromes other []; opened = opened.1 other (omega (arith, less, h.within)); is = one.1 });
  }
  found syndromes (Err OutOfMemory) opened h = tt

  pub errors_long : (errors : List (List Fp)) → HaveErrors shape post errors → EachLane 5 (λ lane error. length error ≡ shape.dealers) errors
  errors_long errors have = (have.five, λ lane lt. (have.each lane lt).is.long)

-- ---- the answer of a new member
pub by_what_it_heard : {E : Type 0} (mover : Mover) (member : Member) (posts : List Post) (result : Result MoveOut E) → member ≡ mover.member → Some posts ≡ mover.sixth →
    IfOk result (AnswersPosts member (post_of member.shape posts)) → IfOk result (AnswersMove mover)
by_what_it_heard mover member posts result em es h =
    subst (λ (p : List Post). IfOk result (AnswersPosts mover.member (post_of mover.member.shape p))) (ap posts_in_sixth es)
    (subst (λ (m : Member). IfOk result (AnswersPosts m (post_of m.shape posts))) em h)
