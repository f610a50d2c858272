-- The polynomials of instances, and weighted sums of them.
use Rattle.std.proofs.Common.{◌≡◌, ℕ, zero, suc, ◌+◌, ◌<◌, ◌≤◌, inl, inr, Bool, true, false, not, List, [], ◌∷◌, length, refl, sym, ap, ap₂, ◌∙◌, subst, arith}
use Rattle.std.proofs.lemmas.Bool.{not-true, cases_lt}
use Rattle.algebra61.specs.Field.{Fp, Prime, fe, zeroₚ, ◌+ₚ◌, ◌-ₚ◌, ◌*ₚ◌}
use Rattle.algebra61.specs.Poly.{eval, add_list, scale_list, AllRoots, Distinct}
use Rattle.algebra61.specs.Grid.{row, column, holder_points}
use Rattle.algebra61.proofs.Ring.{sub_self}
use Rattle.algebra61.proofs.PolyOps.{sub_list, eval-add, eval-scale, eval-sub, length-add, length-scale}
use Rattle.algebra61.proofs.Grid.{eval-column, length-column, same_everywhere, length-holder_points}
use Rattle.checks61.specs.Checks.{sum_to}
use Rattle.sharing61.specs.Rules.{Pair, kept_of, zero_pair}
use Rattle.sharing61.specs.Instance.{Instance, held, shown, accepted, kept}
use Rattle.sharing61.specs.Agreement.{Proper, HonestReceiver, Deals}
use Rattle.sharing61.proofs.Values.{eval-poly}
use Rattle.sharing61.proofs.Agree.{agreement}
use Rattle.sharing61.proofs.Count.{picked, length-picked, how_many_not}
use Rattle.sharing61.proofs.Team.{Each, each_picked, each_map, falling_picked, team, length-team, distinct_team}
use Rattle.talk.specs.Shape.{instances}
use Rattle.sizes.specs.Instances.{dealer_of, instance_at}
use Rattle.plays.specs.Play.{Play, instance_of}
use Rattle.plays.specs.Law.{ProperPlay, HonestIn}
use Rattle.plays.proofs.Proper.{dealer_is, honest_dealers_in_plays}
use Rattle.periods.specs.Move.{subshare, IsPolynomialOf, IsConstantOf, AreConstants}
use Rattle.periods.specs.Laws.{LieOn, HasConstant, OneConstant, HonestConstant}

-- ---- the polynomial of an instance
-- in an instance that isn't accepted everybody keeps zeros
kept_none : (i : Instance) (receiver : ℕ) → accepted i ≡ false → kept i receiver ≡ zero_pair
unfolding kept
kept_none i receiver e = ap (λ b. kept_of b (shown i receiver) (held i receiver)) e

polynomial_by : (d : ℕ) (i : Instance) (b : Bool) → accepted i ≡ b → Proper d i → (f : List Fp) × IsPolynomialOf d i f
polynomial_by d i true e p =
    let got = agreement d i p e in (
      column got.0 zeroₚ,
      record {
        short = omega (arith, length-column (d + 1) got.0 zeroₚ got.1.in_y);
        values = λ j honest.
            ap (λ (q : Pair). eval q.row.coeffs zeroₚ) (got.2 j honest) ∙ eval-poly (row got.0 (fe j)) zeroₚ ∙ sym (eval-column got.0 zeroₚ (fe j));
      },
    )
polynomial_by d i false e p = (
  [],
  record { short = omega arith; values = λ j honest. ap (λ (q : Pair). eval q.row.coeffs zeroₚ) (kept_none i j e) ∙ eval-poly [] zeroₚ },
)

pub has_constant : (d : ℕ) → HasConstant d
has_constant d i p =
    let got = polynomial_by d i (accepted i) refl p in
    (eval got.0 zeroₚ, record { polynomial = got.0; is = got.1; at_zero = refl })

-- more than d receivers are honest, so there is one polynomial
honest_roots : (d : ℕ) (i : Instance) (f g : List Fp) (ks : List ℕ) → IsPolynomialOf d i f → IsPolynomialOf d i g → Each (HonestReceiver i) ks → AllRoots (sub_list f g) (holder_points (team i ks))
honest_roots d i f g [] hf hg s = tt
honest_roots d i f g (k ∷ ks) hf hg s = (
  eval-sub f g (fe k) ∙ ap (λ v. v -ₚ eval g (fe k)) (sym (hf.values k s.0) ∙ hg.values k s.0) ∙ sub_self (eval g (fe k)),
  honest_roots d i f g ks hf hg s.1,
)

one_polynomial : (d : ℕ) (i : Instance) (f g : List Fp) → Proper d i → IsPolynomialOf d i f → IsPolynomialOf d i g → (y : Fp) → eval f y ≡ eval g y
one_polynomial d i f g p hf hg y =
    let up : ℕ → Bool = λ j. not (i.down j) in
    let ks : List ℕ = picked i.receivers up in
    let honest : Each (HonestReceiver i) ks =
    each_picked (HonestReceiver i) i.receivers up (λ k a b e. record { from = a; to = b; up = not-true (i.down k) e }) in
    let differ : Distinct (holder_points (team i ks)) =
    distinct_team i ks (falling_picked i.receivers up) (each_map (HonestReceiver i) (λ k. k < Prime) (λ k s. omega (arith, s.to, p.small)) ks honest) in
    let many : d + 1 ≤ length (holder_points (team i ks)) =
    omega (arith, length-holder_points (team i ks), length-team i ks, length-picked i.receivers up, how_many_not i.receivers i.down, p.few, p.third, p.degree) in
    same_everywhere f g (holder_points (team i ks)) differ (omega (arith, many, hf.short)) (omega (arith, many, hg.short)) (honest_roots d i f g ks hf hg honest) y

pub one_constant : (d : ℕ) → OneConstant d
one_constant d i b c p hb hc = hb.at_zero ∙ one_polynomial d i hb.polynomial hc.polynomial p hb.is hc.is zeroₚ ∙ sym hc.at_zero

-- ---- the instance of a dealer in a lane
pub dealer_there : (dealer lane : ℕ) → 1 ≤ dealer → lane < 5 → dealer_of (instance_at dealer lane) ≡ dealer
dealer_there dealer lane a b = omega (arith, a, b)

pub number_below : (p : Play) (dealer lane : ℕ) → 1 ≤ dealer → dealer ≤ p.shape.dealers → lane < 5 → instance_at dealer lane < instances p.shape
number_below p dealer lane a b c = omega (arith, a, b, c)

pub honest_constant : HonestConstant
honest_constant p dealer lane proper a b c up =
    let k : ℕ = instance_at dealer lane in
    let less : k < instances p.shape = number_below p dealer lane a b c in
    let mine : p.down (dealer_of k) ≡ false = ap p.down (dealer_there dealer lane a c) ∙ up in
    let end = honest_dealers_in_plays p k proper less mine in
    let deg = subst (λ d. Deals p.shape.degree d) (dealer_is p k mine) (proper k less).deals in
    record {
      polynomial = column (p.grid k) zeroₚ;
      is = record {
        short = omega (arith, length-column (p.shape.degree + 1) (p.grid k) zeroₚ deg.in_y);
        values = λ j honest.
            ap (λ (q : Pair). eval q.row.coeffs zeroₚ) (end.own j honest) ∙ eval-poly (row (p.grid k) (fe j)) zeroₚ ∙ sym (eval-column (p.grid k) zeroₚ (fe j));
      };
      at_zero = sym (eval-column (p.grid k) zeroₚ zeroₚ);
    }

-- ---- weighted sums
honest_at : (p : Play) (i receiver : ℕ) → HonestIn p receiver → HonestReceiver (instance_of p i) receiver
unfolding instance_of
honest_at p i receiver s = record { from = s.from; to = s.to; up = s.up }

-- the sum, with the weights w, of what the receivers have of the dealers 1 to n lies on one polynomial, whose constant is
-- that of the constants c
pub record IsMixture (p : Play) (lane : ℕ) (w c : ℕ → Fp) (n : ℕ) : Type 0 where
  pub polynomial : List Fp
  pub lie : LieOn p p.shape.degree (λ receiver. sum_to n (λ dealer. w dealer *ₚ subshare p lane dealer receiver)) polynomial
  pub at_zero : sum_to n (λ dealer. w dealer *ₚ c dealer) ≡ eval polynomial zeroₚ

pub mixture : (p : Play) (lane : ℕ) (w c : ℕ → Fp) → AreConstants p lane c → (n : ℕ) → n ≤ p.shape.dealers → IsMixture p lane w c n
mixture p lane w c h zero le = record { polynomial = []; lie = record { short = omega arith; values = λ j s. refl }; at_zero = refl }
mixture p lane w c h (suc n) le =
    let before : IsMixture p lane w c n = mixture p lane w c h n (omega (arith, le)) in
    let here = h (suc n) (omega arith) le in
    let term : List Fp = scale_list (w (suc n)) here.polynomial in
    record {
      polynomial = add_list before.polynomial term;
      lie = record {
        short = omega (arith, length-add before.polynomial term, length-scale (w (suc n)) here.polynomial, before.lie.short, here.is.short);
        values = λ j s.
            ap₂ (λ a b. a +ₚ b) (before.lie.values j s)
            (ap (λ v. w (suc n) *ₚ v) (here.is.values j (honest_at p (instance_at (suc n) lane) j s)) ∙ sym (eval-scale (w (suc n)) here.polynomial (fe j)))
            ∙ sym (eval-add before.polynomial term (fe j));
      };
      at_zero =
          ap₂ (λ a b. a +ₚ b) before.at_zero (ap (λ v. w (suc n) *ₚ v) here.at_zero ∙ sym (eval-scale (w (suc n)) here.polynomial zeroₚ))
          ∙ sym (eval-add before.polynomial term zeroₚ);
    }

-- ---- the constants of all dealers
pub record Constants (p : Play) (lane : ℕ) : Type 0 where
  pub value : ℕ → Fp
  pub are : AreConstants p lane value

-- a choice of one value for each number from 1 to n
chosen : (n : ℕ) (P : ℕ → Fp → Type 0) → ((i : ℕ) → 1 ≤ i → i ≤ n → (c : Fp) × P i c) → (v : ℕ → Fp) × ((i : ℕ) → 1 ≤ i → i ≤ n → P i (v i))
chosen n P h =
    let pick : (i : ℕ) → (c : Fp) × (1 ≤ i → i ≤ n → P i c) = λ i.
    elim (cases_lt 0 i) [
      | inl from ↦ elim (cases_lt n i) [
        | inl past ↦ (zeroₚ, λ a b. absurd (omega (arith, past, b)))
        | inr to ↦ let got = h i (omega (arith, from)) to in (got.0, λ a b. got.1)
      ]
      | inr none ↦ (zeroₚ, λ a b. absurd (omega (arith, none, a)))
    ] in
    (λ i. (pick i).0, λ i a b. (pick i).1 a b)

pub constants_of : (p : Play) (lane : ℕ) → ProperPlay p → lane < 5 → Constants p lane
constants_of p lane proper l5 =
    let got = chosen p.shape.dealers (λ i c. IsConstantOf p.shape.degree (instance_of p (instance_at i lane)) c)
    (λ i a b. has_constant p.shape.degree (instance_of p (instance_at i lane)) (proper (instance_at i lane) (number_below p i lane a b l5))) in
    record { value = got.0; are = got.1 }
