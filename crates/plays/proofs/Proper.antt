-- A play with few down is as agreement asks: its dealers deal polynomials of the setting's degree. What agreement says of it.
use Rattle.std.proofs.Common.{inl, inr, ◌⊎◌, ◌≡◌, ℕ, ◌+◌, ◌*◌, ◌<◌, ◌≤◌, Bool, true, false, ◌&&◌, eqb, ltb, drop, List, [], ◌∷◌, length, Option, Some, refl, ap, subst, arith}
use Rattle.std.specs.List.{list_all}
use Rattle.std.proofs.lemmas.Bool.{eqb-true, and_parts}
use Rattle.std.proofs.lemmas.List.{length-take}
use Rattle.algebra61.specs.Field.{Fp}
use Rattle.algebra61.specs.Polynomial.{poly}
use Rattle.sharing61.proofs.Values.{length-poly}
use Rattle.sharing61.proofs.Agree.{agreement}
use Rattle.sharing61.proofs.Own.{honest_dealer}
use Rattle.sharing61.specs.Rules.{Pair, zero_pair}
use Rattle.sharing61.specs.Instance.{Honest}
use Rattle.sharing61.specs.Agreement.{Short, Deals}
use Rattle.talk.specs.declared.messages.Reveal.{Reveal}
use Rattle.talk.specs.declared.messages.Post.{Post}
use Rattle.talk.specs.declared.messages.Post.TheVariants.{Quiet, Complaints, Reveals, Votes, Syndromes}
use Rattle.talk.specs.declared.messages.Ring.{Ring}
use Rattle.talk.specs.declared.messages.Ring.TheVariants.{Nothing, Dealt, Cross}
use Rattle.talk.specs.Basics.{first_of}
use Rattle.talk.specs.Shape.{Shape, Lawful, instances, seats, within, deals}
use Rattle.sizes.specs.Instances.{dealer_of, lane_of}
use Rattle.talk.specs.Read.{ascends, reveal_before, reveal_in, reveals_ok, post_ok}
use Rattle.plays.specs.Play.{Play, instance_of, dealer_if}
use Rattle.plays.specs.Read.{part, dealt_in, reveal_at, shown_in}
use Rattle.plays.specs.Law.{IsPlay, PlaysAreProper, PlaysAgree, HonestDealersInPlays}

-- every dealer has a seat
pub dealers_seated : (s : Shape) → Lawful s → s.dealers ≤ seats s
dealers_seated s law = elim law.committees [ inl o ↦ omega (arith, o.no_shift, o.same) | inr w ↦ omega (arith, w.1.behind) ]

-- ---- what is dealt and revealed is short
none_short : (d : ℕ) → Short d zero_pair
none_short d = record { across = omega (arith, length-poly []); down = omega (arith, length-poly []) }

part_short : (n k : ℕ) (xs : List Fp) → length (poly (part n k xs)).coeffs ≤ n
part_short n k xs = omega (arith, length-poly (part n k xs), length-take n (drop (k * n) xs))

pub short_dealt : (d l : ℕ) (r : Ring) → Short d (dealt_in d l r)
short_dealt d l Nothing = none_short d
short_dealt d l (Dealt xs) = record { across = part_short (d + 1) (2 * l) xs; down = part_short (d + 1) (2 * l + 1) xs }
short_dealt d l (Cross xs) = none_short d

first_cases : {B : Type 0} (b : Bool) (x p : B) (o : Option B) → first_of b x o ≡ Some p → (x ≡ p) ⊎ (o ≡ Some p)
first_cases true x p o e = inl (cc)
first_cases false x p o e = inr e

short_one : (s : Shape) (r : Reveal) → reveal_in s r ≡ true → Short s.degree (record { row = poly r.row; column = poly r.column })
short_one s r e =
    let a = and_parts (ltb r.lane 5) _ e in
    let b = and_parts (within 1 r.receiver s.receivers) _ a.1 in
    let c = and_parts (eqb (length r.row) (s.degree + 1)) (eqb (length r.column) (s.degree + 1)) b.1 in
    record {
      across = omega (arith, length-poly r.row, eqb-true (length r.row) (s.degree + 1) c.0);
      down = omega (arith, length-poly r.column, eqb-true (length r.column) (s.degree + 1) c.1);
    }

short_found : (s : Shape) (l j : ℕ) (rs : List Reveal) → list_all (reveal_in s) rs ≡ true → (p : Pair) → reveal_at l j rs ≡ Some p → Short s.degree p
short_found s l j [] ok p e = cc
short_found s l j (r ∷ rs) ok p e =
    let both = and_parts (reveal_in s r) (list_all (reveal_in s) rs) ok in
    let mine : Pair = record { row = poly r.row; column = poly r.column } in
    elim (first_cases (eqb r.lane l && eqb r.receiver j) mine p (reveal_at l j rs) e) [
      | inl same ↦ subst (Short s.degree) same (short_one s r both.0)
      | inr rest ↦ short_found s l j rs both.1 p rest
    ]

pub short_revealed : (s : Shape) (seat l j : ℕ) (post : Post) → post_ok s 4 seat post ≡ true → (p : Pair) → shown_in l j post ≡ Some p → Short s.degree p
short_revealed s seat l j Quiet ok p e = cc
short_revealed s seat l j (Complaints cs) ok p e = cc
short_revealed s seat l j (Votes vs) ok p e = cc
short_revealed s seat l j (Syndromes xs) ok p e = cc
short_revealed s seat l j (Reveals rs) ok p e =
    let a = and_parts (deals s seat) (reveals_ok s rs) ok in
    let b = and_parts (ascends reveal_before rs) (list_all (reveal_in s) rs) a.1 in
    short_found s l j rs b.1 p e

deals_in : (p : Play) → IsPlay p → (i : ℕ) → i < instances p.shape → (b : Bool) → p.down (dealer_of i) ≡ b → Deals p.shape.degree (dealer_if b p i)
deals_in p h i lt false e = h.degrees i lt e
deals_in p h i lt true e = (
  λ j. short_dealt p.shape.degree (lane_of i) _,
  λ j q s. short_revealed p.shape (dealer_of i) (lane_of i) j (p.post 4 (dealer_of i))
      (h.posts 4 (dealer_of i) (omega arith) (omega (arith, lt, dealers_seated p.shape h.setting)) e) q s,
)

pub plays_are_proper : PlaysAreProper
unfolding instance_of
plays_are_proper p h few i lt = record {
  deals = deals_in p h i lt (p.down (dealer_of i)) refl;
  few = few;
  third = h.setting.third;
  degree = h.setting.degree;
  small = omega (arith, h.setting.receivers.1);
}

-- ---- agreement
pub plays_agree : PlaysAgree
plays_agree p i proper lt acc = agreement p.shape.degree (instance_of p i) (proper i lt) acc

pub dealer_is : (p : Play) (i : ℕ) → p.down (dealer_of i) ≡ false → (instance_of p i).dealer ≡ Honest (p.grid i)
unfolding instance_of
dealer_is p i up = ap (λ b. dealer_if b p i) up

pub honest_dealers_in_plays : HonestDealersInPlays
honest_dealers_in_plays p i proper lt up = honest_dealer p.shape.degree (instance_of p i) (p.grid i) (dealer_is p i up) (proper i lt)
