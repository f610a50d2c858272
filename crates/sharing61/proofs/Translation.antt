-- Adding u (x) * h (y) to an honest dealer's grid, where both are 0 on those who are down.
use Rattle.std.proofs.Common.{◌≡◌, ℕ, ◌+◌, ◌<◌, Bool, true, false, not, List, Option, Some, None, refl, sym, ap, ap₂, ◌∙◌, subst, arith}
use Rattle.std.proofs.lemmas.Bool.{cond-true}
use Rattle.algebra61.specs.Field.{Fp, Prime, fe, zeroₚ, ◌+ₚ◌, ◌*ₚ◌}
use Rattle.algebra61.specs.Poly.{eval}
use Rattle.algebra61.specs.Polynomial.{Polynomial, poly}
use Rattle.algebra61.specs.Grid.{row, column, grid_at, Degree, add_product}
use Rattle.algebra61.proofs.Ring.{mul_zero, zero_mul, add_zero, one_mul}
use Rattle.algebra61.proofs.Grid.{eval-column}
use Rattle.algebra61.proofs.Ext.{at_add_product}
use Rattle.sharing61.specs.Rules.{Pair, at_point, swapped, same_crossing, pair_on, crossing_on, unless_same, complaint_of, off_grid, shown_if}
use Rattle.sharing61.specs.declared.Crossing.{Crossing}
use Rattle.sharing61.specs.Instance.{Dealer, Honest, Instance, crossing_pair, complaint, shown, vote, share}
use Rattle.sharing61.specs.Agreement.{Proper, HonestReceiver, Short, Deals}
use Rattle.sharing61.specs.Translation.{translated, Hides, InRange, OtherChoice}
use Rattle.sharing61.proofs.Count.{anyone_same, same_crossing_from}
use Rattle.sharing61.proofs.Values.{at_pair_on, eval-poly, poly_same, short_on}
use Rattle.sharing61.proofs.Votes.{complaint_is}
use Rattle.sharing61.proofs.Own.{held_own, shown_own, complaint_up, hidden_own, yes_own, accepted_own, honest_dealer}

-- ---- values that stay
at_keeps_x : (g : List (List Fp)) (u h : List Fp) (x y : Fp) → eval u x ≡ zeroₚ → grid_at (add_product g u h) x y ≡ grid_at g x y
at_keeps_x g u h x y e = at_add_product g u h x y ∙ ap (λ v. grid_at g x y +ₚ v *ₚ eval h y) e ∙ simp (zero_mul, add_zero)

at_keeps_y : (g : List (List Fp)) (u h : List Fp) (x y : Fp) → eval h y ≡ zeroₚ → grid_at (add_product g u h) x y ≡ grid_at g x y
at_keeps_y g u h x y e = at_add_product g u h x y ∙ ap (λ v. grid_at g x y +ₚ eval u x *ₚ v) e ∙ simp (mul_zero, add_zero)

two_keeps : (g : List (List Fp)) (u h : List Fp) (j k : ℕ) → eval u (fe k) ≡ zeroₚ → eval h (fe k) ≡ zeroₚ → crossing_on (add_product g u h) j k ≡ crossing_on g j k
two_keeps g u h j k eu eh =
    ap₂ (λ (a b : Fp). let t : Crossing = record { row = a; column = b } in t) (at_keeps_x g u h (fe k) (fe j) eu) (at_keeps_y g u h (fe j) (fe k) eh)

two_keeps_down : (g : List (List Fp)) (u h : List Fp) (j k : ℕ) → eval u (fe j) ≡ zeroₚ → eval h (fe j) ≡ zeroₚ → crossing_on (add_product g u h) j k ≡ crossing_on g j k
two_keeps_down g u h j k eu eh = ap swapped (two_keeps g u h k j eu eh)

pair_keeps : (d : ℕ) (g : List (List Fp)) (u h : List Fp) (j : ℕ) → d + 1 < Prime → Degree d g → Degree d (add_product g u h) → eval u (fe j) ≡ zeroₚ → eval h (fe j) ≡ zeroₚ →
    pair_on (add_product g u h) j ≡ pair_on g j
pair_keeps d g u h j small dg dm eu eh =
    let m : List (List Fp) = add_product g u h in
    let sm : Short d (pair_on m j) = short_on d m j dm in
    let sg : Short d (pair_on g j) = short_on d g j dg in
    ap₂ (λ (r c : Polynomial). let q : Pair = record { row = r; column = c } in q)
    (poly_same (poly (row m (fe j))) (poly (row g (fe j))) (omega (arith, sm.across)) (omega (arith, sg.across))
    (λ x. eval-poly (row m (fe j)) x ∙ at_keeps_y g u h x (fe j) eh ∙ sym (eval-poly (row g (fe j)) x)))
    (poly_same (poly (column m (fe j))) (poly (column g (fe j))) (omega (arith, sm.down)) (omega (arith, sg.down))
    (λ y. eval-poly (column m (fe j)) y ∙ eval-column m (fe j) y ∙ at_keeps_x g u h (fe j) y eu ∙ sym (eval-column g (fe j) y) ∙ sym (eval-poly (column g (fe j)) y)))

-- ---- complaints
none_of : (g : List (List Fp)) (j k : ℕ) (b : Bool) → same_crossing (crossing_on g k j) (swapped (crossing_on g j k)) ≡ b → unless_same b (crossing_on g j k) ≡ None
none_of g j k true e = refl
none_of g j k false e = let h : same_crossing (crossing_on g k j) (crossing_on g k j) ≡ true = same_crossing_from (crossing_on g k j) (crossing_on g k j) refl in let f : true ≡ false = sym h ∙ e in cc

-- honest receivers of an honest dealer do not complain of each other
quiet : (i : Instance) (g : List (List Fp)) (j k : ℕ) → i.dealer ≡ Honest g → i.down j ≡ false → i.down k ≡ false → complaint i j k ≡ None
quiet i g j k e uj uk =
    complaint_is i j k uj uk
    ∙ ap₂ (λ (s t : Crossing). unless_same (same_crossing s (swapped t)) t) (ap (λ p. at_point p j) (held_own i g k e) ∙ at_pair_on g k j) (ap (λ p. at_point p k) (held_own i g j e) ∙ at_pair_on g j k)
    ∙ none_of g j k _ refl

crossing_down : (i : Instance) (k j : ℕ) → i.down k ≡ true → crossing_pair i k j ≡ i.crossed k j
unfolding crossing_pair
crossing_down i k j e = cond-true (i.down k) _ _ e

complaint_down : (i : Instance) (j k : ℕ) → i.down j ≡ true → complaint i j k ≡ i.listed j k
unfolding complaint
complaint_down i j k e = cond-true (i.down j) _ _ e

complaints_stay : (i : Instance) (g : List (List Fp)) (u h : List Fp) → i.dealer ≡ Honest g → Hides i u h → (j k : ℕ) → InRange i j → InRange i k → (b c : Bool) → i.down j ≡ b → i.down k ≡ c →
    complaint (translated i g u h) j k ≡ complaint i j k
complaints_stay i g u h e hd j k rj rk true c dj dk = complaint_down (translated i g u h) j k dj ∙ sym (complaint_down i j k dj)
complaints_stay i g u h e hd j k rj rk false false dj dk = quiet (translated i g u h) (add_product g u h) j k refl dj dk ∙ sym (quiet i g j k e dj dk)
complaints_stay i g u h e hd j k rj rk false true dj dk =
    complaint_up (translated i g u h) j k dj
    ∙ ap₂ complaint_of
    (ap (λ p. at_point p k) (held_own (translated i g u h) (add_product g u h) j refl) ∙ at_pair_on (add_product g u h) j k ∙ two_keeps g u h j k (hd.across k rk.0 rk.1 dk) (hd.down k rk.0 rk.1 dk)
    ∙ sym (at_pair_on g j k) ∙ sym (ap (λ p. at_point p k) (held_own i g j e)))
    (crossing_down (translated i g u h) k j dk ∙ sym (crossing_down i k j dk))
    ∙ sym (complaint_up i j k dj)

-- ---- reveals
off_crossing : (g m : List (List Fp)) (j k : ℕ) (o : Option Crossing) → crossing_on m j k ≡ crossing_on g j k → off_grid m j k o ≡ off_grid g j k o
off_crossing g m j k None e = refl
off_crossing g m j k (Some t) e = ap (λ s. not (same_crossing t s)) e

reveals_stay : (d : ℕ) (i : Instance) (g : List (List Fp)) (u h : List Fp) → i.dealer ≡ Honest g → d + 1 < Prime → Degree d g → Degree d (add_product g u h) → Hides i u h →
    (j : ℕ) → InRange i j → (b : Bool) → i.down j ≡ b → shown (translated i g u h) j ≡ shown i j
reveals_stay d i g u h e small dg dm hd j rj false dj =
    hidden_own (translated i g u h) (add_product g u h) j refl (record { from = rj.0; to = rj.1; up = dj }) ∙ sym (hidden_own i g j e (record { from = rj.0; to = rj.1; up = dj }))
reveals_stay d i g u h e small dg dm hd j rj true dj =
    let m : List (List Fp) = add_product g u h in
    let eu = hd.across j rj.0 rj.1 dj in
    let eh = hd.down j rj.0 rj.1 dj in
    shown_own (translated i g u h) m j refl
    ∙ ap₂ shown_if
    (anyone_same i.receivers _ (λ k. off_grid g j k (complaint i j k))
    (λ k a b. off_crossing g m j k (complaint (translated i g u h) j k) (two_keeps_down g u h j k eu eh) ∙ ap (off_grid g j k) (complaints_stay i g u h e hd j k rj (a, b) true (i.down k) dj refl)))
    (pair_keeps d g u h j small dg dm eu eh)
    ∙ sym (shown_own i g j e)

-- ---- votes and shares
vote_down : (i : Instance) (j : ℕ) → i.down j ≡ true → vote i j ≡ i.voted j
unfolding vote
vote_down i j e = cond-true (i.down j) _ _ e

votes_stay : (i : Instance) (g : List (List Fp)) (u h : List Fp) → i.dealer ≡ Honest g → (j : ℕ) → InRange i j → (b : Bool) → i.down j ≡ b → vote (translated i g u h) j ≡ vote i j
votes_stay i g u h e j rj true dj = vote_down (translated i g u h) j dj ∙ sym (vote_down i j dj)
votes_stay i g u h e j rj false dj =
    yes_own (translated i g u h) (add_product g u h) j refl (record { from = rj.0; to = rj.1; up = dj }) ∙ sym (yes_own i g j e (record { from = rj.0; to = rj.1; up = dj }))

share_own : (d : ℕ) (i : Instance) (g : List (List Fp)) (j : ℕ) → i.dealer ≡ Honest g → Proper d i → HonestReceiver i j → share i j ≡ grid_at g zeroₚ (fe j)
share_own d i g j e p s = ap (λ (q : Pair). eval q.row.coeffs zeroₚ) ((honest_dealer d i g e p).own j s) ∙ eval-poly (row g (fe j)) zeroₚ

deals_honest : (d : ℕ) (dl : Dealer) (g : List (List Fp)) → dl ≡ Honest g → Deals d dl → Degree d g
deals_honest d dl g e h = subst (Deals d) e h

pub other_choice : (d : ℕ) → OtherChoice d
other_choice d i g u h e p dm hd =
    let m : List (List Fp) = add_product g u h in
    let dg : Degree d g = deals_honest d i.dealer g e p.deals in
    let small : d + 1 < Prime = omega (arith, p.degree, p.third, p.small) in
    let pm : Proper d (translated i g u h) = record { deals = dm; few = p.few; third = p.third; degree = p.degree; small = p.small } in (
      record {
        dealt = λ j r dj. held_own (translated i g u h) m j refl ∙ pair_keeps d g u h j small dg dm (hd.across j r.0 r.1 dj) (hd.down j r.0 r.1 dj) ∙ sym (held_own i g j e);
        crossed = λ j k rj rk dj.
            ap (λ q. at_point q j) (held_own (translated i g u h) m k refl) ∙ at_pair_on m k j ∙ two_keeps g u h k j (hd.across j rj.0 rj.1 dj) (hd.down j rj.0 rj.1 dj)
            ∙ sym (at_pair_on g k j) ∙ sym (ap (λ q. at_point q j) (held_own i g k e));
        complaints = λ j k rj rk. complaints_stay i g u h e hd j k rj rk (i.down j) (i.down k) refl refl;
        reveals = λ j rj. reveals_stay d i g u h e small dg dm hd j rj (i.down j) refl;
        votes = λ j rj. votes_stay i g u h e j rj (i.down j) refl;
        accepts = accepted_own d (translated i g u h) m refl pm ∙ sym (accepted_own d i g e p);
      },
      λ j s.
          share_own d (translated i g u h) m j refl pm (record { from = s.from; to = s.to; up = s.up })
          ∙ at_add_product g u h zeroₚ (fe j)
          ∙ ap (λ v. grid_at g zeroₚ (fe j) +ₚ v *ₚ eval h (fe j)) hd.one
          ∙ ap₂ (λ a b. a +ₚ b) (sym (share_own d i g j e p s)) (one_mul (eval h (fe j))),
    )
