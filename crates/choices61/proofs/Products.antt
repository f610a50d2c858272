-- All that is said in the sharing stays where products are added to grids of honest dealers.
use Rattle.std.proofs.Common.{◌≡◌, ℕ, ◌+◌, ◌-◌, ◌*◌, ◌<◌, ◌≤◌, Bool, true, false, ◌&&◌, not, eqb, List, refl, sym, ap, ◌∙◌, subst, arith, leb}
use Rattle.std.proofs.lemmas.Bool.{cond-true, cond-false, and_parts, leb-true}
use Rattle.algebra61.specs.Field.{Fp, zeroₚ, ◌+ₚ◌}
use Rattle.algebra61.specs.Grid.{Degree, add_product}
use Rattle.algebra61.proofs.Ring.{add_zero}
use Rattle.sizes.specs.Instances.{dealer_of, instance_at}
use Rattle.sharing61.specs.Instance.{Dealer, Honest, Instance, complaint, vote, share}
use Rattle.sharing61.specs.Agreement.{Proper, HonestReceiver, Deals}
use Rattle.sharing61.specs.Translation.{translated, Hides, SameViews}
use Rattle.sharing61.proofs.Translation.{other_choice}
use Rattle.talk.specs.declared.messages.Post.TheVariants.{Complaints, Reveals, Votes}
use Rattle.talk.specs.declared.messages.Ring.TheVariants.{Dealt, Cross}
use Rattle.talk.specs.Shape.{Shape, instances, seats, deals, receives}
use Rattle.plays.specs.Play.{Play, instance_of, dealer_if, seat_of}
use Rattle.plays.specs.Said.{pair_list, crossing_values, reveal_item, dealt_by, crossed_by, complaints_by, reveals_by, votes_by}
use Rattle.plays.specs.Law.{HonestIn}
use Rattle.plays.specs.Stage.{receiver_at}
use Rattle.plays.specs.Heard.{post_by, ring_by}
use Rattle.plays.proofs.Proper.{dealer_is}
use Rattle.plays.proofs.Steps.{flat_same, complaint_list_same}
use Rattle.histories61.proofs.Lists.{cond_same, unless_same, map_same}
use Rattle.choices61.specs.Products.{with_products, AllHide, rise_of, ProductsLookSame}
use Rattle.choices61.proofs.Degrees.{degree_added}

-- ---- one instance
same_dealer : (p : Play) (named : ℕ → Bool) (u : List Fp) (h : ℕ → List Fp) (i : ℕ) (b : Bool) → named i ≡ false → dealer_if b (with_products p named u h) i ≡ dealer_if b p i
same_dealer p named u h i true e = refl
same_dealer p named u h i false e = ap Honest (cond-false (named i) _ _ e)

instance_same : (p : Play) (named : ℕ → Bool) (u : List Fp) (h : ℕ → List Fp) (i : ℕ) → named i ≡ false → instance_of (with_products p named u h) i ≡ instance_of p i
unfolding instance_of
instance_same p named u h i e = ap (λ (dl : Dealer). record (instance_of p i) { dealer = dl }) (same_dealer p named u h i (p.down (dealer_of i)) e)

instance_changed : (p : Play) (named : ℕ → Bool) (u : List Fp) (h : ℕ → List Fp) (i : ℕ) → named i ≡ true → p.down (dealer_of i) ≡ false →
    instance_of (with_products p named u h) i ≡ translated (instance_of p i) (p.grid i) u (h i)
unfolding instance_of
instance_changed p named u h i e d =
    ap (λ (dl : Dealer). record (instance_of p i) { dealer = dl }) (ap (λ b. dealer_if b (with_products p named u h) i) d ∙ ap Honest (cond-true (named i) _ _ e))

-- what is seen of instance i stays, and its shares rise
pub record Sees (d : ℕ) (i m : Instance) (rise : ℕ → Fp) : Type 0 where
  pub views : SameViews i m
  pub proper : Proper d m
  pub shares : (j : ℕ) → HonestReceiver i j → share m j ≡ share i j +ₚ rise j

sees_itself : (d : ℕ) (i : Instance) (rise : ℕ → Fp) → Proper d i → ((j : ℕ) → rise j ≡ zeroₚ) → Sees d i i rise
sees_itself d i rise p z = record {
  views = record {
    dealt = λ j r dj. refl;
    crossed = λ j k rj rk dj. refl;
    complaints = λ j k rj rk. refl;
    reveals = λ j rj. refl;
    votes = λ j rj. refl;
    accepts = refl;
  };
  proper = p;
  shares = λ j s. sym (ap (λ v. share i j +ₚ v) (z j) ∙ add_zero (share i j));
}

pub deals_honest : (d : ℕ) (dl : Dealer) (g : List (List Fp)) → dl ≡ Honest g → Deals d dl → Degree d g
deals_honest d dl g e h = subst (Deals d) e h

hides_in : (p : Play) (named : ℕ → Bool) (u : List Fp) (h : ℕ → List Fp) (i : ℕ) → AllHide p named u h → i < instances p.shape → named i ≡ true → Hides (instance_of p i) u (h i)
unfolding instance_of
hides_in p named u h i hd lt e = record { one = hd.one; across = λ k a b dk. hd.across k a b dk; down = λ k a b dk. hd.down i k lt e a b dk }

sees_changed : (p : Play) (named : ℕ → Bool) (u : List Fp) (h : ℕ → List Fp) (i : ℕ) → Proper p.shape.degree (instance_of p i) → AllHide p named u h → i < instances p.shape → named i ≡ true →
    Sees p.shape.degree (instance_of p i) (translated (instance_of p i) (p.grid i) u (h i)) (rise_of named h i)
sees_changed p named u h i pr hd lt e =
    let d : ℕ = p.shape.degree in
    let up : p.down (dealer_of i) ≡ false = hd.honest i lt e in
    let dl : (instance_of p i).dealer ≡ Honest (p.grid i) = dealer_is p i up in
    let dm : Degree d (add_product (p.grid i) u (h i)) = degree_added d (p.grid i) u (h i) (deals_honest d (instance_of p i).dealer (p.grid i) dl pr.deals) (hd.short_x i lt e) (hd.short_y i lt e) in
    let got = other_choice d (instance_of p i) (p.grid i) u (h i) dl pr dm (hides_in p named u h i hd lt e) in
    record {
      views = got.0;
      proper = record { deals = dm; few = pr.few; third = pr.third; degree = pr.degree; small = pr.small };
      shares = λ j s. got.1 j s ∙ ap (λ v. share (instance_of p i) j +ₚ v) (sym (cond-true (named i) _ _ e));
    }

pub sees_by : (p : Play) (named : ℕ → Bool) (u : List Fp) (h : ℕ → List Fp) (i : ℕ) (b : Bool) → named i ≡ b → Proper p.shape.degree (instance_of p i) → AllHide p named u h → i < instances p.shape →
    Sees p.shape.degree (instance_of p i) (instance_of (with_products p named u h) i) (rise_of named h i)
sees_by p named u h i true e pr hd lt =
    subst (λ m. Sees p.shape.degree (instance_of p i) m (rise_of named h i)) (sym (instance_changed p named u h i e (hd.honest i lt e))) (sees_changed p named u h i pr hd lt e)
sees_by p named u h i false e pr hd lt =
    subst (λ m. Sees p.shape.degree (instance_of p i) m (rise_of named h i)) (sym (instance_same p named u h i e))
    (sees_itself p.shape.degree (instance_of p i) (rise_of named h i) pr (λ j. cond-false (named i) _ _ e))

-- ---- all messages of a play whose grids alone are others
abbrev pub with_grid : Play → (ℕ → List (List Fp)) → Play
with_grid p g = record p { grid = g }

abbrev pub AllSee : Play → (ℕ → List (List Fp)) → Type 0
AllSee p g = (i : ℕ) → i < instances p.shape → SameViews (instance_of p i) (instance_of (with_grid p g) i)

complaints_stay : (p : Play) (g : ℕ → List (List Fp)) → AllSee p g → (j : ℕ) → 1 ≤ j → j ≤ p.shape.receivers → complaints_by (with_grid p g) j ≡ complaints_by p j
unfolding complaints_by instance_of
complaints_stay p g all j a b =
    ap Complaints
    (complaint_list_same (instances p.shape) p.shape.receivers (λ i. complaint (instance_of (with_grid p g) i) j) (λ i. complaint (instance_of p i) j)
    (λ i k lt k1 kn. (all i lt).complaints j k (a, b) (k1, kn)))

reveals_stay : (p : Play) (g : ℕ → List (List Fp)) → AllSee p g → (dealer : ℕ) → 1 ≤ dealer → dealer ≤ p.shape.dealers → reveals_by (with_grid p g) dealer ≡ reveals_by p dealer
unfolding reveals_by instance_of
reveals_stay p g all dealer a b =
    ap Reveals
    (flat_same _ _ 5 0
    (λ l l0 l5. flat_same _ _ p.shape.receivers 1
    (λ j j1 jn. ap (reveal_item p.shape.degree l j) ((all (instance_at dealer l) (omega (arith, a, b, l5))).reveals j (j1, omega (arith, jn))))))

votes_stay : (p : Play) (g : ℕ → List (List Fp)) → AllSee p g → (j : ℕ) → 1 ≤ j → j ≤ p.shape.receivers → votes_by (with_grid p g) j ≡ votes_by p j
unfolding votes_by instance_of
votes_stay p g all j a b =
    ap Votes (map_same (λ i. vote (instance_of (with_grid p g) i) j) (λ i. vote (instance_of p i) j) (instances p.shape) 0 (λ i i0 im. (all i (omega (arith, im))).votes j (a, b)))

dealt_stay : (p : Play) (g : ℕ → List (List Fp)) → AllSee p g → (dealer j : ℕ) → 1 ≤ dealer → dealer ≤ p.shape.dealers → 1 ≤ j → j ≤ p.shape.receivers → p.down (seat_of p.shape j) ≡ true →
    dealt_by (with_grid p g) dealer j ≡ dealt_by p dealer j
unfolding dealt_by instance_of
dealt_stay p g all dealer j a b j1 jn dj =
    ap Dealt (flat_same _ _ 5 0 (λ l l0 l5. ap (pair_list p.shape.degree) ((all (instance_at dealer l) (omega (arith, a, b, l5))).dealt j (j1, jn) dj)))

crossed_stay : (p : Play) (g : ℕ → List (List Fp)) → AllSee p g → (k j : ℕ) → 1 ≤ k → k ≤ p.shape.receivers → 1 ≤ j → j ≤ p.shape.receivers → p.down (seat_of p.shape j) ≡ true →
    crossed_by (with_grid p g) k j ≡ crossed_by p k j
unfolding crossed_by instance_of
crossed_stay p g all k j k1 kn j1 jn dj =
    ap Cross (flat_same _ _ (instances p.shape) 0 (λ i i0 im. ap crossing_values ((all i (omega (arith, im))).crossed j k (j1, jn) (k1, kn) dj)))

-- ---- by seats
pub record ReceiverOn (s : Shape) (seat : ℕ) : Type 0 where
  pub from : 1 ≤ receiver_at s seat
  pub to : receiver_at s seat ≤ s.receivers
  pub seat_is : seat_of s (receiver_at s seat) ≡ seat

pub receiver_on : (s : Shape) (seat : ℕ) → receives s seat ≡ true → ReceiverOn s seat
receiver_on s seat e =
    let both = and_parts (leb (s.shift + 1) seat) (leb seat (seats s)) e in
    let a : s.shift + 1 ≤ seat = leb-true (s.shift + 1) seat both.0 in
    let b : seat ≤ seats s = leb-true seat (seats s) both.1 in
    record { from = omega (arith, a); to = omega (arith, b); seat_is = omega (arith, a) }

dealer_on : (s : Shape) (seat : ℕ) → deals s seat ≡ true → (1 ≤ seat) × (seat ≤ s.dealers)
dealer_on s seat e =
    let both = and_parts (leb 1 seat) (leb seat s.dealers) e in
    (leb-true 1 seat both.0, leb-true seat s.dealers both.1)

pub posts_stay : (p : Play) (g : ℕ → List (List Fp)) → AllSee p g → (round seat : ℕ) → post_by (with_grid p g) round seat ≡ post_by p round seat
posts_stay p g all round seat =
    cond_same (eqb round 3 && receives p.shape seat) _ _ _ _
    (λ e. let r = receiver_on p.shape seat (and_parts (eqb round 3) _ e).1 in complaints_stay p g all (receiver_at p.shape seat) r.from r.to)
    (cond_same (eqb round 4 && deals p.shape seat) _ _ _ _
    (λ e. let r = dealer_on p.shape seat (and_parts (eqb round 4) _ e).1 in reveals_stay p g all seat r.0 r.1)
    (cond_same (eqb round 5 && receives p.shape seat) _ _ _ _
    (λ e. let r = receiver_on p.shape seat (and_parts (eqb round 5) _ e).1 in votes_stay p g all (receiver_at p.shape seat) r.from r.to)
    refl))

down_at : (p : Play) (a b : ℕ) → a ≡ b → p.down b ≡ true → p.down a ≡ true
down_at p a b e d = ap p.down e ∙ d

pub rings_stay : (p : Play) (g : ℕ → List (List Fp)) → AllSee p g → (round seat to : ℕ) → p.down to ≡ true → ring_by (with_grid p g) round seat to ≡ ring_by p round seat to
rings_stay p g all round seat to dt =
    cond_same (eqb round 1 && (deals p.shape seat && (receives p.shape to && not (eqb seat to)))) _ _ _ _
    (λ e.
    let first = and_parts (eqb round 1) _ e in
    let second = and_parts (deals p.shape seat) _ first.1 in
    let d = dealer_on p.shape seat second.0 in
    let r = receiver_on p.shape to (and_parts (receives p.shape to) _ second.1).0 in
    dealt_stay p g all seat (receiver_at p.shape to) d.0 d.1 r.from r.to (down_at p _ to r.seat_is dt))
    (cond_same (eqb round 2 && (receives p.shape seat && (receives p.shape to && not (eqb seat to)))) _ _ _ _
    (λ e.
    let first = and_parts (eqb round 2) _ e in
    let second = and_parts (receives p.shape seat) _ first.1 in
    let k = receiver_on p.shape seat second.0 in
    let r = receiver_on p.shape to (and_parts (receives p.shape to) _ second.1).0 in
    crossed_stay p g all (receiver_at p.shape seat) (receiver_at p.shape to) k.from k.to r.from r.to (down_at p _ to r.seat_is dt))
    refl)

honest_at : (p : Play) (i j : ℕ) → HonestIn p j → HonestReceiver (instance_of p i) j
unfolding instance_of
honest_at p i j s = record { from = s.from; to = s.to; up = s.up }

pub products_look_same : ProductsLookSame
products_look_same p named u h proper hd =
    let sees : (i : ℕ) → i < instances p.shape → Sees p.shape.degree (instance_of p i) (instance_of (with_products p named u h) i) (rise_of named h i) =
    λ i lt. sees_by p named u h i (named i) refl (proper i lt) hd lt in
    let all : AllSee p (with_products p named u h).grid = λ i lt. (sees i lt).views in
    record {
      proper = λ i lt. (sees i lt).proper;
      posts = λ round seat. unless_same (p.down seat) _ _ _ (λ up. posts_stay p (with_products p named u h).grid all round seat);
      rings = λ round seat to dt. unless_same (p.down seat) _ _ _ (λ up. rings_stay p (with_products p named u h).grid all round seat to dt);
      shares = λ i j lt s. (sees i lt).shares j (honest_at p i j s);
    }
