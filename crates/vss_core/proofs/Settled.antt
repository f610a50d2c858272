-- Each two receivers are looked at once: that is enough, since what is asked of them is the same either way round.
use Rattle.std.proofs.Common.{◌≡◌, ℕ, zero, suc, ◌+◌, ◌-◌, ◌≤◌, Bool, true, false, ◌&&◌, eqb, List, get_or, map, Option, Some, None, is_none, refl, sym, ap, ap₂, ◌∙◌, arith}
use Rattle.std.proofs.lemmas.Bool.Decides.{nat_tests}
use Rattle.std.proofs.lemmas.List.FromFn.{get_or-map-range_with_len}
use Rattle.sharing61.specs.Count.{everyone}
use Rattle.sharing61.specs.Rules.{Pair, same, told_same, settled}
use Rattle.sharing61.specs.declared.Crossing.{Crossing}
use Rattle.talk.specs.declared.messages.Post.{Post}
use Rattle.talk.specs.Shape.{Shape}
use Rattle.plays.specs.Said.{places}
use Rattle.plays.specs.Seat.{heard_complaint}
use Rattle.vss_core.specs.Complaints.{settled_where, settled_here}

-- ---- tests of all receivers
pub everyone_same : (n : ℕ) (f g : ℕ → Bool) → ((k : ℕ) → 1 ≤ k → k ≤ n → f k ≡ g k) → everyone n f ≡ everyone n g
everyone_same zero f g e = refl
everyone_same (suc n) f g e =
    ap₂ (λ a b. a && b) (everyone_same n f g (λ k l m. e k l (omega arith))) (e (suc n) (omega arith) (omega arith))

regroup : (a b c d : Bool) → ((a && b) && (c && d)) ≡ ((a && c) && (b && d))
regroup true true c d = refl
regroup true false true d = refl
regroup true false false d = refl
regroup false b c d = refl

everyone_both : (n : ℕ) (f g : ℕ → Bool) → everyone n (λ k. f k && g k) ≡ (everyone n f && everyone n g)
everyone_both zero f g = refl
everyone_both (suc n) f g =
    ap (λ a. a && (f (suc n) && g (suc n))) (everyone_both n f g) ∙ regroup (everyone n f) (everyone n g) (f (suc n)) (g (suc n))

once : (a b c : Bool) → (a && (b && c)) ≡ ((a && b) && (b && c))
once true true c = refl
once true false c = refl
once false b c = refl

pub each_two_once : (n : ℕ) (f : ℕ → ℕ → Bool) → ((k l : ℕ) → f k l ≡ f l k) → everyone n (λ k. everyone k (f k)) ≡ everyone n (λ k. everyone n (f k))
each_two_once zero f e = refl
each_two_once (suc n) f e =
    let last : everyone n (λ k. f k (suc n)) ≡ everyone n (f (suc n)) = everyone_same n (λ k. f k (suc n)) (f (suc n)) (λ k l m. e k (suc n)) in
    ap (λ a. a && (everyone n (f (suc n)) && f (suc n) (suc n))) (each_two_once n f e)
    ∙ once (everyone n (λ k. everyone n (f k))) (everyone n (f (suc n))) (f (suc n) (suc n))
    ∙ ap (λ b. (everyone n (λ k. everyone n (f k)) && b) && (everyone n (f (suc n)) && f (suc n) (suc n))) (sym last)
    ∙ ap (λ a. a && (everyone n (f (suc n)) && f (suc n) (suc n))) (sym (everyone_both n (λ k. everyone n (f k)) (λ k. f k (suc n))))

-- ---- two receivers the other way round
eqb_swaps : (a b : ℕ) → eqb a b ≡ eqb b a
eqb_swaps a b = grind (arith, nat_tests)

both_swap : (a b : Bool) → (a && b) ≡ (b && a)
both_swap true true = refl
both_swap true false = refl
both_swap false true = refl
both_swap false false = refl

told_swaps : (s t : Option Crossing) → told_same s t ≡ told_same t s
told_swaps None None = refl
told_swaps None (Some t) = refl
told_swaps (Some s) None = refl
told_swaps (Some s) (Some t) =
    both_swap (same s.row t.column) (same s.column t.row) ∙ ap₂ (λ a b. a && b) (eqb_swaps s.column.num t.row.num) (eqb_swaps s.row.num t.column.num)

where_swaps : (a b : Bool) (s t : Option Crossing) → settled_where a b s t ≡ settled_where b a t s
where_swaps true true s t = told_swaps s t
where_swaps true false s t = refl
where_swaps false true s t = refl
where_swaps false false s t = refl

here_swaps : (s : Shape) (third : List Post) (hidden : List Bool) (i k l : ℕ) → settled_here s third hidden i k l ≡ settled_here s third hidden i l k
here_swaps s third hidden i k l =
    where_swaps (get_or hidden (k - 1) false) (get_or hidden (l - 1) false) (heard_complaint s third i k l) (heard_complaint s third i l k)

-- ---- with the revealed pairs
where_is : (p q : Option Pair) (s t : Option Crossing) → settled_where (is_none p) (is_none q) s t ≡ settled p q s t
where_is None None s t = refl
where_is None (Some q) s t = refl
where_is (Some p) None s t = refl
where_is (Some p) (Some q) s t = refl

hidden_is : (n : ℕ) (shown : ℕ → Option Pair) (hidden : List Bool) → hidden ≡ map (λ k. is_none (shown (k + 1))) (places n) → (k : ℕ) → 1 ≤ k → k ≤ n → get_or hidden (k - 1) false ≡ is_none (shown k)
hidden_is n shown hidden e k l m =
    let back : k - 1 + 1 ≡ k = omega arith in
    ap (λ (h : List Bool). get_or h (k - 1) false) e
    ∙ get_or-map-range_with_len (λ k. is_none (shown (k + 1))) 0 n (k - 1) (k - 1) false (omega arith) (omega arith)
    ∙ ap (λ (j : ℕ). is_none (shown j)) back

pub all_settled_is : (s : Shape) (third : List Post) (i n : ℕ) (shown : ℕ → Option Pair) (hidden : List Bool) → hidden ≡ map (λ k. is_none (shown (k + 1))) (places n) → everyone n (λ k. everyone k (settled_here s third hidden i k)) ≡ everyone n (λ k. everyone n (λ l. settled (shown k) (shown l) (heard_complaint s third i k l) (heard_complaint s third i l k)))
all_settled_is s third i n shown hidden e =
    each_two_once n (settled_here s third hidden i) (here_swaps s third hidden i)
    ∙ everyone_same n (λ k. everyone n (settled_here s third hidden i k)) (λ k. everyone n (λ l. settled (shown k) (shown l) (heard_complaint s third i k l) (heard_complaint s third i l k)))
    (λ k k1 kn. everyone_same n (settled_here s third hidden i k) (λ l. settled (shown k) (shown l) (heard_complaint s third i k l) (heard_complaint s third i l k))
    (λ l l1 ln.
    ap₂ (λ a b. settled_where a b (heard_complaint s third i k l) (heard_complaint s third i l k)) (hidden_is n shown hidden e k k1 kn) (hidden_is n shown hidden e l l1 ln)
    ∙ where_is (shown k) (shown l) (heard_complaint s third i k l) (heard_complaint s third i l k)))
