-- What is posted for a place lies on one polynomial, so its value at 0 is found.
use Rattle.std.proofs.Common.{◌≡◌, ℕ, zero, suc, ◌+◌, ◌*◌, ◌<◌, ◌≤◌, ◌⊎◌, inl, inr, Bool, true, false, List, ◌++◌, length, get_or, Option, Some, None, refl, sym, ap, ◌∙◌, arith}
use Rattle.std.specs.List.{flat_map, range_with_len}
use Rattle.std.proofs.lemmas.Bool.{cases_eq}
use Rattle.std.proofs.lemmas.List.{get_or_append_left, get_or-append-add}
use Rattle.std.proofs.lemmas.List.FromFn.{get_or-map-range_with_len, length-map-range_with_len}
use Rattle.algebra61.specs.Field.{Fp, fe, zeroₚ}
use Rattle.algebra61.specs.Poly.{eval}
use Rattle.algebra61.specs.Polynomial.{Polynomial, poly}
use Rattle.algebra61.specs.Nearest.{IsNearest, Named}
use Rattle.algebra61.proofs.NearestLemmas.{few_faults, nearest_once}
use Rattle.checks61.specs.Checks.{check_entry, check_of, syndrome_of}
use Rattle.sharing61.specs.Count.{how_many}
use Rattle.sharing61.proofs.Count.{picked, picked_one, length-picked}
use Rattle.sharing61.proofs.Values.{eval-poly, length-poly}
use Rattle.talk.specs.declared.messages.Post.{Post}
use Rattle.talk.specs.Shape.{Shape}
use Rattle.plays.specs.Play.{Play, instance_of, seat_of}
use Rattle.plays.specs.Said.{unless_down}
use Rattle.periods.specs.Move.{subshare, syndrome_list, syndromes_by, syndromes_heard, syndrome_in, posted_values, AreConstants, IsMove}
use Rattle.periods.specs.Laws.{LieOn, PlacePolynomial, OpenedIs, OneOpened}
use Rattle.periods.proofs.Polynomials.{IsMixture, mixture, Constants, constants_of}

-- ---- parts of one length
pub part_at : {A : Type 0} (f : ℕ → List A) (k n a l m : ℕ) (d : A) → ((i : ℕ) → length (f i) ≡ k) → l < n → m < k → get_or (flat_map f (range_with_len a n)) (l * k + m) d ≡ get_or (f (a + l)) m d
part_at f k zero a l m d long lt less = absurd (omega arith)
part_at f k (suc n) a zero m d long lt less =
    let e : 0 * k + m ≡ m = omega arith in
    let z : a ≡ a + 0 = omega arith in
    ap (λ i. get_or (f a ++ flat_map f (range_with_len (a + 1) n)) i d) e
    ∙ get_or_append_left (f a) (flat_map f (range_with_len (a + 1) n)) d m (omega (arith, less, long a))
    ∙ ap (λ i. get_or (f i) m d) z
part_at f k (suc n) a (suc l) m d long lt less =
    let e : suc l * k + m ≡ length (f a) + (l * k + m) = omega (arith, long a) in
    let z : (a + 1) + l ≡ a + suc l = omega arith in
    ap (λ i. get_or (f a ++ flat_map f (range_with_len (a + 1) n)) i d) e
    ∙ get_or-append-add (f a) (flat_map f (range_with_len (a + 1) n)) (l * k + m) d
    ∙ part_at f k n (a + 1) l m d long (omega (arith, lt)) less
    ∙ ap (λ i. get_or (f i) m d) z

pub syndrome_value : (s : Shape) (sub : ℕ → ℕ → Fp) (l m : ℕ) → l < 5 → m < s.checks → get_or (syndrome_list s sub) (l * s.checks + m) zeroₚ ≡ check_of s.dealers m (sub l)
syndrome_value s sub l m l5 lt =
    let e : 0 + l ≡ l = omega arith in
    part_at (λ i. syndrome_of s.dealers s.checks (sub i)) s.checks 5 0 l m zeroₚ
    (λ i. length-map-range_with_len (λ k. check_of s.dealers k (sub i)) 0 s.checks) l5 lt
    ∙ ap (λ i. get_or (syndrome_of s.dealers s.checks (sub i)) m zeroₚ) e
    ∙ get_or-map-range_with_len (λ k. check_of s.dealers k (sub l)) 0 s.checks m m zeroₚ lt (omega arith)

-- ---- who is down is named
named_one : (b : Bool) (k j : ℕ) (ks : List ℕ) → b ≡ true → k ≡ j → Named k (picked_one b j ks)
named_one true k j ks t e = inl e
named_one false k j ks t e = cc

named_more : (b : Bool) (k j : ℕ) (ks : List ℕ) → Named k ks → Named k (picked_one b j ks)
named_more true k j ks m = inr m
named_more false k j ks m = m

pub named_picked : (n k : ℕ) (f : ℕ → Bool) → 1 ≤ k → k ≤ n → f k ≡ true → Named k (picked n f)
named_picked zero k f a b e = absurd (omega arith)
named_picked (suc n) k f a b e =
    elim (cases_eq k (suc n)) [
      | inl same ↦ named_one (f (suc n)) k (suc n) (picked n f) (ap f (sym same) ∙ e) same
      | inr ne ↦ named_more (f (suc n)) k (suc n) (picked n f) (named_picked n k f a (omega (arith, ne)) e)
    ]

either : (b : Bool) → (b ≡ true) ⊎ (b ≡ false)
either true = inl refl
either false = inr refl

-- ---- the values of a place
heard_up : (p : Play) (j : ℕ) (b : Bool) → b ≡ false → unless_down b (p.post 6 (seat_of p.shape j)) (syndromes_by p j) ≡ syndromes_by p j
heard_up p j true e = cc
heard_up p j false e = refl

posted_up : (p : Play) (l m j : ℕ) → l < 5 → m < p.shape.checks → p.down (seat_of p.shape j) ≡ false →
    syndrome_in (l * p.shape.checks + m) (syndromes_heard p j) ≡ Some (check_of p.shape.dealers m (λ i. subshare p l i j))
unfolding syndromes_by
posted_up p l m j l5 lt up =
    ap (syndrome_in (l * p.shape.checks + m)) (heard_up p j (p.down (seat_of p.shape j)) up)
    ∙ ap (λ v. Some v) (syndrome_value p.shape (λ k i. subshare p k i j) l m l5 lt)

value_at : (s : Shape) (post : ℕ → Post) (l m i : ℕ) → i < s.receivers → get_or (posted_values s post l m) i None ≡ syndrome_in (l * s.checks + m) (post (i + 1))
value_at s post l m i lt = get_or-map-range_with_len (λ j. syndrome_in (l * s.checks + m) (post j)) 1 s.receivers i (i + 1) None lt (omega arith)

pub length-values : (s : Shape) (post : ℕ → Post) (l m : ℕ) → length (posted_values s post l m) ≡ s.receivers
length-values s post l m = length-map-range_with_len (λ j. syndrome_in (l * s.checks + m) (post j)) 1 s.receivers

-- the checks of what a receiver has, by receiver
abbrev pub checks_in : Play → ℕ → ℕ → ℕ → Fp
checks_in p lane place receiver = check_of p.shape.dealers place (λ dealer. subshare p lane dealer receiver)

right_or_named : (p : Play) (l m : ℕ) (f : List Fp) → l < 5 → m < p.shape.checks → LieOn p p.shape.degree (checks_in p l m) f → (i : ℕ) → i < p.shape.receivers →
    Named (1 + i) (picked p.shape.receivers (λ j. p.down (seat_of p.shape j))) ⊎ (get_or (posted_values p.shape (syndromes_heard p) l m) i None ≡ Some (eval (poly f).coeffs (fe (1 + i))))
right_or_named p l m f l5 lt on i less =
    let z : i + 1 ≡ 1 + i = omega arith in
    elim (either (p.down (seat_of p.shape (1 + i)))) [
      | inl down ↦ inl (named_picked p.shape.receivers (1 + i) (λ j. p.down (seat_of p.shape j)) (omega arith) (omega (arith, less)) down)
      | inr up ↦ inr (
          value_at p.shape (syndromes_heard p) l m i less
          ∙ ap (λ j. syndrome_in (l * p.shape.checks + m) (syndromes_heard p j)) z
          ∙ posted_up p l m (1 + i) l5 lt up
          ∙ ap (λ v. Some v) (on.values (1 + i) (record { from = omega arith; to = omega (arith, less); up = up }) ∙ sym (eval-poly f (fe (1 + i))))
          )
    ]

few_down : (t : ℕ) (p : Play) → IsMove t p → how_many p.shape.receivers (λ j. p.down (seat_of p.shape j)) ≤ p.shape.bound
unfolding instance_of
few_down t p h = (h.proper 0 (omega (arith, h.setting.dealers.0))).few

-- the line is the polynomial that is nearest to what was posted
pub nearest_polynomial : (t : ℕ) (p : Play) (l m : ℕ) (f : List Fp) → IsMove t p → l < 5 → m < p.shape.checks → LieOn p p.shape.degree (checks_in p l m) f → IsNearest p.shape.degree (posted_values p.shape (syndromes_heard p) l m) (poly f)
nearest_polynomial t p l m f h l5 lt on =
    let vs : List (Option Fp) = posted_values p.shape (syndromes_heard p) l m in
    let down : ℕ → Bool = λ j. p.down (seat_of p.shape j) in
    let js : List ℕ = picked p.shape.receivers down in
    let few = few_faults (poly f).coeffs 1 vs js (λ i less. right_or_named p l m f l5 lt on i (omega (arith, less, length-values p.shape (syndromes_heard p) l m))) in
    record {
      short = omega (arith, length-poly f, on.short);
      close = omega (arith, few, length-picked p.shape.receivers down, few_down t p h, h.setting.third, h.setting.degree, length-values p.shape (syndromes_heard p) l m);
    }

-- ---- the laws
mixed_checks : (p : Play) (lane place : ℕ) (c : ℕ → Fp) → AreConstants p lane c → IsMixture p lane (check_entry p.shape.dealers place) c p.shape.dealers
mixed_checks p lane place c are = mixture p lane (check_entry p.shape.dealers place) c are p.shape.dealers (omega arith)

pub place_polynomial : PlacePolynomial
place_polynomial t p lane place h l5 =
    let cs : Constants p lane = constants_of p lane h.proper l5 in
    let got = mixed_checks p lane place cs.value cs.are in
    (got.polynomial, got.lie)

pub opened_is : OpenedIs
opened_is t p lane place c h l5 lt are =
    let got = mixed_checks p lane place c are in
    (poly got.polynomial, nearest_polynomial t p lane place got.polynomial h l5 lt got.lie, got.at_zero ∙ sym (eval-poly got.polynomial zeroₚ))

pub one_opened : OneOpened
one_opened s post lane place y z law hy hz =
    hy.2 ∙ ap (λ (q : Polynomial). eval q.coeffs zeroₚ)
    (nearest_once s.degree (posted_values s post lane place) hy.0 hz.0 (omega (arith, length-values s post lane place, law.receivers.1)) hy.1 hz.1)
    ∙ sym hz.2
