-- Each party may attend.
use Rattle.std.proofs.Common.{◌≡◌, ℕ, zero, suc, ◌+◌, ◌-◌, ◌<◌, ◌≤◌, List, [], ◌∷◌, length, get_or, Option, Some, refl, sym, ap, ◌∙◌, subst, arith}
use Rattle.std.specs.Prelude.{slice_get, All}
use Rattle.talk.specs.declared.messages.Post.{Post}
use Rattle.talk.specs.declared.messages.Ring.{Ring}
use Rattle.talk.specs.Shape.{Shape, seats, rounds}
use Rattle.talk.specs.Hears.{Hearing, Seated}
use Rattle.roundboard.specs.declared.board.Board.{Board}
use Rattle.roundboard.specs.declared.board.Pen.{Pen}
use Rattle.roundboard.specs.Pens.{IsPen, IsFresh as IsFreshPen, events, rounds_of}
use Rattle.pairrings.specs.declared.ends.End.{End}
use Rattle.pairrings.specs.Ends.{IsFresh as IsFreshEnd, room_to}
use Rattle.party_crew.specs.declared.party.Party.{Party}
use Rattle.party_crew.specs.Parties.{PartyReady, IsPlaced, ArePlaced}

pub hearing_at : {M : Type 0} (may : M → ℕ → Type 0) (round : ℕ) (ms : List M) (k : ℕ) (m : M) → Hearing may round ms → slice_get ms k ≡ Some m → may m round
hearing_at may round [] k m h e = absurd (cc (e))
hearing_at may round (x ∷ xs) zero m h e = let is : x ≡ m = cc (e) in subst (λ y. may y round) is h.0
hearing_at may round (x ∷ xs) (suc k) m h e = hearing_at may round xs k m h.1 e

pub seated_at : {M : Type 0} (made : M → Shape → ℕ → Type 0) (s : Shape) (seat : ℕ) (ms : List M) (k : ℕ) (m : M) → Seated made s seat ms → slice_get ms k ≡ Some m → made m s (seat + k)
seated_at made s seat [] k m h e = absurd (cc (e))
seated_at {M} made s seat (x ∷ xs) zero m h e =
    let is : x ≡ m = cc (e) in
    let z : seat ≡ seat + 0 = omega arith in
    subst (λ (y : M × ℕ). made y.0 s y.1) (λ i. (is i, z i)) h.0
seated_at {M} made s seat (x ∷ xs) (suc k) m h e =
    let z : (seat + 1) + k ≡ seat + suc k = omega arith in
    subst (λ (y : ℕ). made m s y) z (seated_at made s (seat + 1) xs k m h.1 e)

-- what stands at a place
pub get_is : {A : Type 0} (xs : List A) (k : ℕ) (x d : A) → slice_get xs k ≡ Some x → get_or xs k d ≡ x
get_is [] k x d e = absurd (cc (e))
get_is (y ∷ ys) zero x d e = cc (e)
get_is (y ∷ ys) (suc k) x d e = get_is ys k x d e

pub get_within : {A : Type 0} (xs : List A) (k : ℕ) (x : A) → slice_get xs k ≡ Some x → k < length xs
get_within [] k x e = absurd (cc (e))
get_within (y ∷ ys) zero x e = omega arith
get_within (y ∷ ys) (suc k) x e = let lt = get_within ys k x e in omega (arith, lt)

pub get_some : {A : Type 0} (xs : List A) (k : ℕ) (d : A) → k < length xs → slice_get xs k ≡ Some (get_or xs k d)
get_some [] k d lt = absurd (omega (arith, lt))
get_some (y ∷ ys) zero d lt = refl
get_some (y ∷ ys) (suc k) d lt = get_some ys k d (omega (arith, lt))

pub all_at : {A : Type 0} (P : A → Type 0) (xs : List A) (k : ℕ) (x : A) → All P xs → slice_get xs k ≡ Some x → P x
all_at P xs k x h e = subst P (get_is xs k x x e) (h k x (get_within xs k x e))

module _ {M G : Type 0} {S : ℕ} (made_for : M → Shape → ℕ → Type 0) (may_say : M → ℕ → Type 0) (b : Board Post S) (s : Shape) (minds : List M) (pens : List (Pen Post S)) (ends : List (End Ring S))
    (few : S ≤ 30) (all_rounds : rounds_of b ≡ rounds s) (sized : seats s ≡ S) (all_minds : length minds ≡ S) (may : Hearing may_say 1 minds) (made : Seated made_for s 1 minds)
    (unused : (k : ℕ) (p : Pen Post S) → slice_get pens k ≡ Some p → IsFreshPen b k p) (empty : All (IsFreshEnd {M = Ring} {S = S} (rounds s)) ends) where
  pub ready_at : (k : ℕ) (p : Party M G S) → IsPlaced b s minds pens ends k p → PartyReady made_for may_say p
  ready_at k p i =
      let fresh : IsFreshPen b k p.pen = unused k p.pen i.pen in
      let end : IsFreshEnd (rounds s) p.end = all_at (IsFreshEnd (rounds s)) ends k p.end empty i.end in
      let within : k < length minds = get_within minds k p.mind.value i.mind in
      let first : 1 + k ≡ k + 1 = omega arith in
      record {
        pen = subst (λ (x : Board Post S). IsPen x p.pen) (sym i.board) fresh.pen;
        all_rounds = ap rounds_of i.board ∙ all_rounds ∙ ap rounds (sym i.setting);
        me = (omega (arith, i.me), omega (arith, i.me, within, all_minds), few);
        place = fresh.place ∙ (let z : k ≡ (k + 1) - 1 = omega arith in z) ∙ ap (λ x. x - 1) (sym i.me);
        all_seats = ap seats i.setting ∙ sized;
        may = hearing_at may_say 1 minds k p.mind.value may i.mind;
        made = subst (λ (z : Shape × ℕ). made_for p.mind.value z.0 z.1) (λ j. (sym i.setting j, (first ∙ sym i.me) j)) (seated_at made_for s 1 minds k p.mind.value made i.mind);
        quiet = fresh.quiet;
        room = λ j lt. (let e : room_to p.end j ≡ rounds s = end.room j lt in subst (λ (r : Shape). rounds r ≤ room_to p.end j) (sym i.setting) (omega (arith, e)));
        sent = end.sent;
        got = end.got;
      }

  pub all_ready : (parties : List (Party M G S)) → ArePlaced b s minds pens ends parties → (k : ℕ) (p : Party M G S) → slice_get parties k ≡ Some p → PartyReady made_for may_say p
  all_ready parties h k p e = ready_at k p (h k p e)
