-- Steps of the loops over receivers, instances and messages.
use Rattle.std.proofs.Common.{◌≡◌, ℕ, zero, suc, ◌+◌, ◌-◌, ◌*◌, ◌≤◌, Bool, true, false, ◌&&◌, ◌||◌, cond, eqb, not, List, [], ◌∷◌, ◌++◌, length, map, refl, sym, ap, ap₂, ◌∙◌, subst, arith, get_or, append_assoc}
use Rattle.std.proofs.lemmas.Bool.{and_parts, eqb-true}
use Rattle.std.proofs.lemmas.List.FromFn.{map-range_with_len_more, length-map-range_with_len}
use Rattle.sharing61.specs.Count.{everyone, anyone, how_many}
use Rattle.talk.specs.declared.messages.Ring.{Ring}
use Rattle.talk.specs.declared.messages.Ring.TheVariants.{Nothing, Dealt, Cross}
use Rattle.talk.specs.Shape.{Shape, instances, deals, receives}
use Rattle.talk.specs.Read.{ring_ok}
use Rattle.talk.specs.Hears.{RingsOk}
use Rattle.plays.specs.Said.{places}
use Rattle.vss_core.specs.States.{DealtLong, CrossLong}

-- ---- one receiver more
last_point : (k : ℕ) → 1 ≤ k → k + 1 - 1 ≡ suc (k - 1)
last_point k le = omega arith

point_is : (k : ℕ) → 1 ≤ k → suc (k - 1) ≡ k
point_is k le = omega arith

pub everyone_step : (f : ℕ → Bool) (k : ℕ) (all next : Bool) → 1 ≤ k → all ≡ everyone (k - 1) f → next ≡ (all && f k) → next ≡ everyone (k + 1 - 1) f
everyone_step f k all next le e en = en ∙ ap₂ (λ a n. a && f n) e (sym (point_is k le)) ∙ ap (λ n. everyone n f) (sym (last_point k le))

pub anyone_step : (f : ℕ → Bool) (k : ℕ) (some next : Bool) → 1 ≤ k → some ≡ anyone (k - 1) f → next ≡ (some || f k) → next ≡ anyone (k + 1 - 1) f
anyone_step f k some next le e en = en ∙ ap₂ (λ a n. a || f n) e (sym (point_is k le)) ∙ ap (λ n. anyone n f) (sym (last_point k le))

pub how_many_step : (f : ℕ → Bool) (k count next : ℕ) → 1 ≤ k → count ≡ how_many (k - 1) f → next ≡ count + cond (f k) 1 0 → next ≡ how_many (k + 1 - 1) f
how_many_step f k count next le e en = en ∙ ap₂ (λ a n. a + cond (f n) 1 0) e (sym (point_is k le)) ∙ ap (λ n. how_many n f) (sym (last_point k le))

one_at_most : (b : Bool) → cond b 1 0 ≤ 1
one_at_most true = omega arith
one_at_most false = omega arith

pub how_many_most : (f : ℕ → Bool) (n : ℕ) → how_many n f ≤ n
how_many_most f zero = omega arith
how_many_most f (suc n) = omega (arith, how_many_most f n, one_at_most (f (suc n)))

-- the last of three tests, where the first two hold, is all three
pub vote_parts : (a b c x y z : Bool) → x ≡ a → y ≡ b → z ≡ c → x ≡ true → y ≡ true → z ≡ (a && (b && c))
vote_parts a b c x y z ea eb ec ex ey = ec ∙ ap₂ (λ s t. s && (t && c)) (sym ex ∙ ea) (sym ey ∙ eb)

-- ---- one place more
pub mapped_step : {B : Type 0} (f : ℕ → B) (n : ℕ) (xs ys : List B) (y : B) → xs ≡ map f (places n) → ys ≡ xs ++ y ∷ [] → y ≡ f n → ys ≡ map f (places (n + 1))
mapped_step f n xs ys y e ey e1 =
    ey ∙ ap₂ (λ a b. a ++ b ∷ []) e e1 ∙ sym (map-range_with_len_more f 0 n n (omega arith))

pub mapped_after : {B : Type 0} (f : ℕ → B) (n : ℕ) (old xs ys : List B) (y : B) → xs ≡ old ++ map f (places n) → ys ≡ xs ++ y ∷ [] → y ≡ f n → ys ≡ old ++ map f (places (n + 1))
mapped_after f n old xs ys y e ey e1 =
    ey ∙ ap₂ (λ a b. a ++ b ∷ []) e e1 ∙ append_assoc old (map f (places n)) (f n ∷ []) ∙ ap (λ zs. old ++ zs) (sym (map-range_with_len_more f 0 n n (omega arith)))

-- ---- messages as read
rings_at : (s : Shape) (round to seat : ℕ) (rings : List Ring) → RingsOk s round to seat rings → (k : ℕ) → ring_ok s round (seat + k) to (get_or rings k Nothing) ≡ true
rings_at s round to seat [] ok k = refl
rings_at s round to seat (r ∷ rs) ok zero = let e : seat ≡ seat + 0 = omega arith in subst (λ n. ring_ok s round n to r ≡ true) e ok.0
rings_at s round to seat (r ∷ rs) ok (suc k) =
    let e : (seat + 1) + k ≡ seat + suc k = omega arith in
    subst (λ n. ring_ok s round n to (get_or rs k Nothing) ≡ true) e (rings_at s round to (seat + 1) rs ok.1 k)

dealt_fits : (s : Shape) (sender to : ℕ) (r : Ring) → ring_ok s 1 sender to r ≡ true → DealtLong s.degree r
dealt_fits s sender to Nothing ok = tt
dealt_fits s sender to (Cross xs) ok = tt
dealt_fits s sender to (Dealt xs) ok =
    let a = and_parts (deals s sender) _ ok in
    let b = and_parts (receives s to) _ a.1 in
    let c = and_parts (not (eqb sender to)) _ b.1 in
    eqb-true (length xs) (10 * (s.degree + 1)) c.1

cross_fits : (s : Shape) (sender to : ℕ) (r : Ring) → ring_ok s 2 sender to r ≡ true → CrossLong (instances s) r
cross_fits s sender to Nothing ok = tt
cross_fits s sender to (Dealt xs) ok = tt
cross_fits s sender to (Cross xs) ok =
    let a = and_parts (receives s sender) _ ok in
    let b = and_parts (receives s to) _ a.1 in
    let c = and_parts (not (eqb sender to)) _ b.1 in
    eqb-true (length xs) (2 * instances s) c.1

dealt_long : (s : Shape) (to k : ℕ) (rings : List Ring) → RingsOk s 1 to 1 rings → DealtLong s.degree (get_or rings k Nothing)
dealt_long s to k rings ok = dealt_fits s (1 + k) to (get_or rings k Nothing) (rings_at s 1 to 1 rings ok k)

cross_long : (s : Shape) (to k : ℕ) (rings : List Ring) → RingsOk s 2 to 1 rings → CrossLong (instances s) (get_or rings k Nothing)
cross_long s to k rings ok = cross_fits s (1 + k) to (get_or rings k Nothing) (rings_at s 2 to 1 rings ok k)

-- the same of a message that was taken out of the list
pub dealt_premise : (s : Shape) (to k d : ℕ) (rings : List Ring) (r : Ring) → RingsOk s 1 to 1 rings → d ≡ s.degree → r ≡ get_or rings k Nothing → DealtLong d r
dealt_premise s to k d rings r ok ed er =
    subst (λ (e : ℕ). DealtLong e r) (sym ed) (subst (λ (q : Ring). DealtLong s.degree q) (sym er) (dealt_long s to k rings ok))

pub cross_premise : (s : Shape) (to k m : ℕ) (rings : List Ring) (r : Ring) → RingsOk s 2 to 1 rings → m ≡ instances s → r ≡ get_or rings k Nothing → CrossLong m r
cross_premise s to k m rings r ok em er =
    subst (λ (e : ℕ). CrossLong e r) (sym em) (subst (λ (q : Ring). CrossLong (instances s) q) (sym er) (cross_long s to k rings ok))

-- the length of a list made place by place
pub mapped_length : {B : Type 0} (f : ℕ → B) (n : ℕ) (xs : List B) → xs ≡ map f (places n) → length xs ≡ n
mapped_length f n xs e = ap length e ∙ length-map-range_with_len f 0 n
