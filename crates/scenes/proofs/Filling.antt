-- Who is exposed.
use Rattle.std.proofs.Common.{◌≡◌, ℕ, zero, suc, ◌+◌, ◌-◌, ◌*◌, ◌<◌, ◌≤◌, Bool, true, false, ◌||◌, not, cond, ltb, List, length, get_or, map, refl, sym, ap, ap₂, ◌∙◌, subst, arith, inl, inr}
use Rattle.std.proofs.lemmas.Bool.{cases_lt, le-ltb, lt-ltb, ltb-false, ltb-true, or_left}
use Rattle.std.proofs.lemmas.Bool.Decides.{nat_tests}
use Rattle.std.proofs.lemmas.List.FromFn.{get_or-map-range_with_len, length-map-range_with_len}
use Rattle.sizes.specs.Committees.{is_bound, is_size}
use Rattle.sharing61.specs.Count.{how_many}
use Rattle.sharing61.proofs.Count.{how_many_not}
use Rattle.talk.specs.Sync.{has}
use Rattle.talk.specs.Basics.{places}
use Rattle.scenes.specs.declared.side.Side.{Side}
use Rattle.scenes.specs.declared.scene.Scene.{Scene}
use Rattle.scenes.specs.Scenes.{down_count, is_down_on, new_side, old_side, scene_at}
use Rattle.scenes.specs.Exposed.{exposed_at, exposed_on, is_filled, is_seen}
use Rattle.scenes.specs.Law.{AreExposed, Follows, IsSide}
use Rattle.scenes.proofs.Masks.{mask_below, mask_count, mask_has}
use Rattle.scenes.proofs.Sides.{scenes_are}
use Rattle.scenes.proofs.Following.{scenes_follow}

-- the members that the test doesn't name
abbrev pub others : ℕ → (ℕ → Bool) → ℕ
others count test = how_many count (λ other. not (test other))

-- how many are taken of the first few
pub record AreTaken (n bound : ℕ) (test : ℕ → Bool) (count : ℕ) : Type 0 where
  -- each of the others, while they are at most as many as are wanting
  pub each : others count test ≤ bound - how_many n test → how_many count (is_filled n bound test) ≡ how_many count test + others count test
  -- as many as are wanting, from then on
  pub full : bound - how_many n test ≤ others count test → how_many count (is_filled n bound test) ≡ how_many count test + (bound - how_many n test)

record Growth (n bound : ℕ) (test : ℕ → Bool) (count : ℕ) (b c : Bool) : Type 0 where
  grown : how_many (suc count) (is_filled n bound test) ≡ how_many count (is_filled n bound test) + cond (b || c) 1 0
  tests : how_many (suc count) test ≡ how_many count test + cond b 1 0
  rest : others (suc count) test ≡ others count test + cond (not b) 1 0

growth : (n bound : ℕ) (test : ℕ → Bool) (count : ℕ) (b c : Bool) → test (suc count) ≡ b → ltb (others count test) (bound - how_many n test) ≡ c → Growth n bound test count b c
growth n bound test count b c e f =
    let before : suc count - 1 ≡ count = omega arith in
    let filled : is_filled n bound test (suc count) ≡ (b || c) =
    ap (λ k. test (suc count) || ltb (others k test) (bound - how_many n test)) before ∙ ap₂ (λ x y. x || y) e f in
    record {
      grown = ap (λ x. how_many count (is_filled n bound test) + cond x 1 0) filled;
      tests = ap (λ x. how_many count test + cond x 1 0) e;
      rest = ap (λ x. others count test + cond (not x) 1 0) e;
    }

taken_step : (n bound : ℕ) (test : ℕ → Bool) (count : ℕ) (b c : Bool) → ltb (others count test) (bound - how_many n test) ≡ c → Growth n bound test count b c → AreTaken n bound test count → AreTaken n bound test (suc count)
taken_step n bound test count true c f g before = record {
  each = λ few.
      let old : how_many count (is_filled n bound test) ≡ how_many count test + others count test = before.each (omega (arith, few, g.rest)) in
      omega (arith, old, g.grown, g.tests, g.rest);
  full = λ many.
      let old : how_many count (is_filled n bound test) ≡ how_many count test + (bound - how_many n test) = before.full (omega (arith, many, g.rest)) in
      omega (arith, old, g.grown, g.tests, g.rest);
}
taken_step n bound test count false true f g before =
    let room : others count test < bound - how_many n test = ltb-true (others count test) (bound - how_many n test) f in
    let old : how_many count (is_filled n bound test) ≡ how_many count test + others count test = before.each (omega (arith, room)) in
    record {
      each = λ few. omega (arith, old, g.grown, g.tests, g.rest);
      full = λ many. omega (arith, old, room, many, g.grown, g.tests, g.rest);
    }
taken_step n bound test count false false f g before =
    let none : bound - how_many n test ≤ others count test = ltb-false (others count test) (bound - how_many n test) f in
    let old : how_many count (is_filled n bound test) ≡ how_many count test + (bound - how_many n test) = before.full none in
    record {
      each = λ few. absurd (omega (arith, none, few, g.rest));
      full = λ many. omega (arith, old, g.grown, g.tests, g.rest);
    }

pub are_taken : (n bound : ℕ) (test : ℕ → Bool) (count : ℕ) → AreTaken n bound test count
are_taken n bound test zero = record { each = λ few. refl; full = λ many. omega (arith, many) }
are_taken n bound test (suc count) =
    taken_step n bound test count (test (suc count)) (ltb (others count test) (bound - how_many n test)) refl
    (growth n bound test count (test (suc count)) (ltb (others count test) (bound - how_many n test)) refl refl)
    (are_taken n bound test count)

-- they are as many as the bound
pub filled_count : (n bound : ℕ) (test : ℕ → Bool) → how_many n test ≤ bound → bound ≤ n → how_many n (is_filled n bound test) ≡ bound
filled_count n bound test few room =
    let all : others n test + how_many n test ≡ n = how_many_not n test in
    let taken : how_many n (is_filled n bound test) ≡ how_many n test + (bound - how_many n test) = (are_taken n bound test n).full (omega (arith, all, room)) in
    omega (arith, taken, few)

-- ---- in a period
pub bound_fits : (n bound : ℕ) → is_bound n bound ≡ true → bound ≤ n
bound_fits n bound is = grind (arith, nat_tests)

-- those who are seen are at most as many as the bound
pub seen_few : (n bound : ℕ) (before after : ℕ → Bool) (b : Bool) → how_many n before ≤ bound → how_many n after ≤ bound → how_many n (cond b after before) ≤ bound
seen_few n bound before after true few more = more
seen_few n bound before after false few more = few

-- who is down before is seen where that stays so
pub seen_before : (before after : ℕ → Bool) (b : Bool) (member : ℕ) → (before member ≡ true → after member ≡ true) → before member ≡ true → cond b after before member ≡ true
seen_before before after true member stays down = stays down
seen_before before after false member stays down = down

pub seen_next : (before after : ℕ → Bool) (b : Bool) (member : ℕ) → b ≡ true → after member ≡ true → cond b after before member ≡ true
seen_next before after b member e down = ap (λ x. cond x after before member) e ∙ down

module _ (members bound number periods phase : ℕ) (size : is_size members ≡ true) (bounded : is_bound members bound ≡ true) where
  abbrev holding : Side
  holding = new_side (scene_at members bound number phase)

  abbrev coming : Side
  coming = old_side (scene_at members bound number (phase + 1))

  abbrev seen : ℕ → Bool
  seen = is_seen members bound number periods phase

  holding_is : IsSide holding
  holding_is = (scenes_are members bound number phase size bounded).1

  coming_few : how_many holding.members (is_down_on coming) ≤ holding.bound
  coming_few =
      let next : Follows (scene_at members bound number phase) (scene_at members bound number (phase + 1)) = scenes_follow members bound number phase in
      let few : down_count coming ≤ coming.bound = (scenes_are members bound number (phase + 1) size bounded).0.few in
      subst (λ (k : ℕ). how_many k (is_down_on coming) ≤ holding.bound) next.members (subst (λ (k : ℕ). down_count coming ≤ k) next.bound few)

  stays : (member : ℕ) → 1 ≤ member → member ≤ holding.members → is_down_on holding member ≡ true → is_down_on coming member ≡ true
  stays member from to = (scenes_follow members bound number phase).stays member from to

  few : how_many holding.members seen ≤ holding.bound
  few = seen_few holding.members holding.bound (is_down_on holding) (is_down_on coming) (ltb phase periods) holding_is.few coming_few

  exposed_has : (member : ℕ) → 1 ≤ member → member ≤ holding.members → seen member ≡ true → has (exposed_at members bound number periods phase) member ≡ true
  exposed_has member from to is =
      mask_has holding.members (is_filled holding.members holding.bound seen) member from to
      ∙ or_left (seen member) (ltb (how_many (member - 1) (λ other. not (seen other))) (holding.bound - how_many holding.members seen)) is

  pub are_exposed : AreExposed members bound number periods phase
  are_exposed = record {
    mask = mask_below holding.members (is_filled holding.members holding.bound seen);
    count =
        mask_count holding.members (is_filled holding.members holding.bound seen)
        ∙ filled_count holding.members holding.bound seen few (bound_fits holding.members holding.bound holding_is.bound);
    seen = λ member from to down.
        exposed_has member from to (seen_before (is_down_on holding) (is_down_on coming) (ltb phase periods) member (stays member from to) down);
    seen_after = λ later member from to down.
        exposed_has member from to (seen_next (is_down_on holding) (is_down_on coming) (ltb phase periods) member (lt-ltb phase periods later) down);
  }

-- ---- in a loop over the members
-- how many are still wanting
abbrev pub wanting_after : ℕ → ℕ → (ℕ → Bool) → ℕ → ℕ
wanting_after n bound test count = bound - how_many n test - others count test

taken_next : (w o : ℕ) → ltb 0 (w - o) ≡ ltb o w
taken_next w o = elim (cases_lt o w) [
  | inl lt ↦ lt-ltb 0 (w - o) (omega (arith, lt)) ∙ sym (lt-ltb o w lt)
  | inr le ↦ le-ltb 0 (w - o) (omega (arith, le)) ∙ sym (le-ltb o w le)
]

-- whether the next member is taken
pub next_taken : (n bound : ℕ) (test : ℕ → Bool) (member wanting : ℕ) → wanting ≡ wanting_after n bound test (member - 1) → (test member || ltb 0 wanting) ≡ is_filled n bound test member
next_taken n bound test member wanting e =
    ap (λ k. test member || ltb 0 k) e ∙ ap (λ b. test member || b) (taken_next (bound - how_many n test) (others (member - 1) test))

wanting_step : (b : Bool) (w o : ℕ) → cond b (w - o) (w - o - 1) ≡ w - (o + cond (not b) 1 0)
wanting_step true w o = omega arith
wanting_step false w o = omega arith

-- how many are wanting behind it
pub next_wanting : (n bound : ℕ) (test : ℕ → Bool) (count wanting : ℕ) → wanting ≡ wanting_after n bound test count → cond (test (suc count)) wanting (wanting - 1) ≡ wanting_after n bound test (suc count)
next_wanting n bound test count wanting e =
    ap (λ k. cond (test (suc count)) k (k - 1)) e ∙ wanting_step (test (suc count)) (bound - how_many n test) (others count test)

pub next_wanting_at : (n bound : ℕ) (test : ℕ → Bool) (member wanting : ℕ) → 1 ≤ member → wanting ≡ wanting_after n bound test (member - 1) → cond (test member) wanting (wanting - 1) ≡ wanting_after n bound test (member + 1 - 1)
next_wanting_at n bound test member wanting from e =
    let own : member ≡ suc (member - 1) = omega (arith, from) in
    let next : suc (member - 1) ≡ member + 1 - 1 = omega (arith, from) in
    ap (λ k. cond (test k) wanting (wanting - 1)) own ∙ next_wanting n bound test (member - 1) wanting e ∙ ap (wanting_after n bound test) next

-- ---- who is exposed, by the phases at hand
-- in a period that another phase ends, and in the last one
pub between : (members bound number periods phase : ℕ) → phase < periods → exposed_on (new_side (scene_at members bound number phase)) (is_down_on (old_side (scene_at members bound number (phase + 1)))) ≡ exposed_at members bound number periods phase
between members bound number periods phase later =
    ap (λ b. exposed_on (new_side (scene_at members bound number phase)) (cond b (is_down_on (old_side (scene_at members bound number (phase + 1)))) (is_down_on (new_side (scene_at members bound number phase)))))
    (sym (lt-ltb phase periods later))

pub at_last : (members bound number periods : ℕ) → exposed_on (new_side (scene_at members bound number periods)) (is_down_on (new_side (scene_at members bound number periods))) ≡ exposed_at members bound number periods periods
at_last members bound number periods =
    ap (λ b. exposed_on (new_side (scene_at members bound number periods)) (cond b (is_down_on (old_side (scene_at members bound number (periods + 1)))) (is_down_on (new_side (scene_at members bound number periods)))))
    (sym (le-ltb periods periods (omega arith)))

-- the phase at a place of a list of them
pub scene_there : (members bound number count place : ℕ) (scenes : List Scene) (default : Scene) → scenes ≡ map (scene_at members bound number) (places count) → place < count → get_or scenes place default ≡ scene_at members bound number place
scene_there members bound number count place scenes default e lt =
    ap (λ xs. get_or xs place default) e ∙ get_or-map-range_with_len (scene_at members bound number) 0 count place place default lt (omega arith)

pub scenes_count : (members bound number count : ℕ) (scenes : List Scene) → scenes ≡ map (scene_at members bound number) (places count) → length scenes ≡ count
scenes_count members bound number count scenes e = ap length e ∙ length-map-range_with_len (scene_at members bound number) 0 count
