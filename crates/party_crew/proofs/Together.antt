-- What all parties did together.
use Rattle.std.proofs.Common.{◌≡◌, ◌⊎◌, inl, inr, ℕ, zero, suc, ◌+◌, ◌-◌, ◌<◌, ◌≤◌, true, List, [], ◌∷◌, length, map, get_or, Option, Some, None, Result, Ok, Err, Vec, refl, sym, ap, ◌∙◌, subst, arith}
use Rattle.std.specs.Prelude.{slice_get, IfOk}
use Rattle.std.specs.declared.alloc.Global.{Global}
use Rattle.std.proofs.lemmas.Bool.{cases_lt}
use Rattle.std.proofs.lemmas.List.{length-map}
use Rattle.talk.specs.declared.messages.Post.{Post}
use Rattle.talk.specs.declared.messages.Ring.{Ring}
use Rattle.talk.specs.Shape.{Shape, rounds}
use Rattle.talk.specs.Sync.{Ways}
use Rattle.crews.specs.Crews.{EachAttended}
use Rattle.roundboard.specs.declared.board.Board.{Board}
use Rattle.roundboard.specs.declared.board.Pen.{Pen}
use Rattle.roundboard.specs.Pens.{IsPen, Seated, events, place_of, cells_of, IsFresh as IsFreshPen}
use Rattle.roundboard.specs.Cells.{knows}
use Rattle.roundboard.proofs.ListLemmas.{one_value}
use Rattle.pairrings.specs.declared.ends.End.{End}
use Rattle.pairrings.specs.Ends.{SameRings, got_from, sent_to}
use Rattle.pairrings.proofs.EndLemmas.{rings_same}
use Rattle.turns.specs.Turns.{Turn}
use Rattle.turns.specs.Account.{Account}
use Rattle.party_crew.specs.declared.party.Party.{Party}
use Rattle.party_crew.specs.Parties.{PartyAttended, IsPlaced, ArePlaced, TookPart, AllTook, minds_in, pens_in, ends_in}
use Rattle.party_crew.proofs.Ready.{get_is, get_within, get_some}

-- the element of which another is the image
image : {A B : Type 0} (f : A → B) (xs : List A) (k : ℕ) (y : B) → slice_get (map f xs) k ≡ Some y → (x : A) × (slice_get xs k ≡ Some x) × (f x ≡ y)
image f [] k y e = absurd (cc (e))
image f (x ∷ xs) zero y e = (x, refl, cc (e))
image f (x ∷ xs) (suc k) y e = image f xs k y e

-- past the end stands the default
past : {A : Type 0} (xs : List A) (k : ℕ) (d : A) → length xs ≤ k → get_or xs k d ≡ d
past [] k d le = refl
past (x ∷ xs) zero d le = absurd (omega (arith, le))
past (x ∷ xs) (suc k) d le = past xs k d (omega (arith, le))

same_some : {A : Type 0} (x y : A) (o : Option A) → o ≡ Some x → o ≡ Some y → x ≡ y
same_some x y o e f = one_value o x y e f

module _ {M G : Type 0} {S : ℕ} (w : Ways M) (b : Board Post S) (s : Shape) (minds : List M) (pens : List (Pen Post S)) (ends : List (End Ring S)) (befores afters : List (Party M G S))
    (count : length befores ≡ S) (all_ends : length ends ≡ S) (placed : ArePlaced b s minds pens ends befores)
    (unused : (k : ℕ) (p : Pen Post S) → slice_get pens k ≡ Some p → IsFreshPen b k p)
    (each : EachAttended (PartyAttended w) befores afters)
    (done : (k : ℕ) (p : Party M G S) → slice_get afters k ≡ Some p → p.done ≡ true) where
  -- the party on a place, before and after
  both_at : (k : ℕ) (y : Party M G S) → slice_get afters k ≡ Some y → (x : Party M G S) × IsPlaced b s minds pens ends k x × PartyAttended w x y
  both_at k y e =
      let lt : k < length befores = (let l = get_within afters k y e in let n = each.0 in omega (arith, l, n)) in
      let x = get_or befores k y in
      let ex : slice_get befores k ≡ Some x = get_some befores k y lt in
      (x, placed k x ex, each.1 k x y ex e)

  part_at : (k : ℕ) (a c : M) (p : Pen Post S) (e : End Ring S) (y : Party M G S) → slice_get minds k ≡ Some a → slice_get afters k ≡ Some y → y.mind.value ≡ c → y.pen ≡ p → y.end ≡ e → TookPart w s (k + 1) a c p e
  part_at k a c p e y ea ey em ep ee =
      let t = both_at k y ey in
      let x = t.0 in
      let turns = t.2.part (done k y ey) in
      let mind : x.mind.value ≡ a = same_some x.mind.value a (slice_get minds k) t.1.mind ea in
      subst (λ (z : Shape × ℕ × M × M × Pen Post S × End Ring S). TookPart w z.0 z.1 z.2 z.3 z.4 z.5)
      (λ i. (t.1.setting i, t.1.me i, mind i, em i, ep i, ee i)) turns

  rings_at : (k : ℕ) (d : End Ring S) → SameRings (get_or ends k d) (get_or (ends_in afters) k d)
  rings_at k d = elim (cases_lt k S) [
    | inl lt ↦
        let la : k < length (ends_in afters) = (let n = length-map afters (λ (a : Party M G S). a.end) in let m = each.0 in omega (arith, lt, n, m, count)) in
        let e = get_or (ends_in afters) k d in
        let y = image (λ (a : Party M G S). a.end) afters k e (get_some (ends_in afters) k d la) in
        let t = both_at k y.0 y.1 in
        subst (λ (z : End Ring S × End Ring S). SameRings z.0 z.1)
        (λ i. (sym (get_is ends k (t.0).end d t.1.end) i, y.2 i)) t.2.rings
    | inr ge ↦
        let lo : length ends ≤ k = omega (arith, ge, all_ends) in
        let la : length (ends_in afters) ≤ k = (let n = length-map afters (λ (a : Party M G S). a.end) in let m = each.0 in omega (arith, ge, n, m, count)) in
        subst (λ (z : End Ring S × End Ring S). SameRings z.0 z.1) (λ i. (sym (past ends k d lo) i, sym (past (ends_in afters) k d la) i)) (rings_same d)
  ]

  pub all_took : AllTook w s b minds ends (minds_in afters) (pens_in afters) (ends_in afters)
  all_took = record {
    all_minds = length-map afters (λ (a : Party M G S). a.mind.value) ∙ each.0 ∙ count;
    seated = (
      length-map afters (λ (a : Party M G S). a.pen) ∙ each.0 ∙ count,
      λ k p e.
          let y = image (λ (a : Party M G S). a.pen) afters k p e in
          let t = both_at k y.0 y.1 in
          let fresh = unused k (t.0).pen t.1.pen in (
            subst (λ (z : Board Post S × Pen Post S). IsPen z.0 z.1) (λ i. (t.1.board i, y.2 i)) t.2.pen,
            ap place_of (sym y.2) ∙ t.2.place ∙ fresh.place,
          ),
    );
    all_ends = length-map afters (λ (a : Party M G S). a.end) ∙ each.0 ∙ count;
    rings = rings_at;
    parts = λ k a c p e ea ec ep ee.
        let ym = image (λ (x : Party M G S). x.mind.value) afters k c ec in
        let yp = image (λ (x : Party M G S). x.pen) afters k p ep in
        let ye = image (λ (x : Party M G S). x.end) afters k e ee in
        let sp : (yp.0 ≡ ym.0) = same_some yp.0 ym.0 (slice_get afters k) yp.1 ym.1 in
        let se : (ye.0 ≡ ym.0) = same_some ye.0 ym.0 (slice_get afters k) ye.1 ym.1 in
        part_at k a c p e ym.0 ea ym.1 ym.2 (ap (λ (x : Party M G S). x.pen) (sym sp) ∙ yp.2) (ap (λ (x : Party M G S). x.end) (sym se) ∙ ye.2);
  }

  -- as they come out of the parties
  pub opened : {E : Type 0} (r : Result (Vec M Global × Vec (Pen Post S) Global × Vec (End Ring S) Global) E) → IfOk r (λ x. x.0.items ≡ minds_in afters) → IfOk r (λ x. x.1.items ≡ pens_in afters) → IfOk r (λ x. x.2.items ≡ ends_in afters) →
      IfOk r (λ x. AllTook w s b minds ends x.0.items x.1.items x.2.items)
  opened (Ok x) em ep ee = subst (λ (z : List M × List (Pen Post S) × List (End Ring S)). AllTook w s b minds ends z.0 z.1 z.2) (λ i. (sym em i, sym ep i, sym ee i)) all_took
  opened (Err e) em ep ee = tt
