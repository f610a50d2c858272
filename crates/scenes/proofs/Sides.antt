-- The committees of a phase.
use Rattle.std.proofs.Common.{◌≡◌, ◌≢◌, ℕ, zero, suc, ◌+◌, ◌-◌, ◌*◌, ◌/◌, ◌%◌, ◌^◌, ◌<◌, ◌≤◌, Bool, true, false, ◌||◌, not, cond, eqb, leb, Option, Some, None, refl, sym, ap, ◌∙◌, subst, arith, inl, inr}
use Rattle.std.proofs.lemmas.Bool.{eq-eqb, eqb-true, leb-false, not-true}
use Rattle.std.proofs.lemmas.Bool.Decides.{nat_tests}
use Rattle.std.proofs.lemmas.Nat.{pow_pos}
use Rattle.std.proofs.Math.Nat.{mod-lt}
use Rattle.sizes.specs.Committees.{is_bound, is_size}
use Rattle.sharing61.specs.Count.{how_many}
use Rattle.sharing61.proofs.Count.{how_many_same}
use Rattle.talk.specs.Sync.{has}
use Rattle.scenes.specs.declared.side.Side.{Side}
use Rattle.scenes.specs.declared.scene.Scene.{Scene}
use Rattle.scenes.specs.declared.scene.Scene.TheVariants.{Create, Refresh, Move}
use Rattle.scenes.specs.Numbers.{draw}
use Rattle.scenes.specs.Members.{first_unnamed, largest_bound, mask_of, size_after}
use Rattle.scenes.specs.Scenes.{coming_side, down_count, down_mask, drilled_by, draws_before, is_down_on, is_drilled, new_side, old_side, scene_after, scene_at, side_drawn, side_with, staying_side}
use Rattle.scenes.specs.Law.{AreSides, Follows, IsSide}
use Rattle.scenes.proofs.Masks.{mask_below, mask_count, mask_has, none_count}
use Rattle.scenes.proofs.Circle.{IsFound, found_is}

-- ---- sizes
sized : (a b c d : Bool) → is_size (cond a 5 (cond b 7 (cond c 10 (cond d 13 4)))) ≡ true
sized true b c d = refl
sized false true c d = refl
sized false false true d = refl
sized false false false true = refl
sized false false false false = refl

pub size_of_next : (n : ℕ) → is_size (size_after n) ≡ true
size_of_next n = sized (eqb n 4) (eqb n 5) (eqb n 7) (eqb n 10)

bounded : (a b c d : Bool) → is_bound (cond a 5 (cond b 7 (cond c 10 (cond d 13 4)))) (largest_bound (cond a 5 (cond b 7 (cond c 10 (cond d 13 4))))) ≡ true
bounded true b c d = refl
bounded false true c d = refl
bounded false false true d = refl
bounded false false false true = refl
bounded false false false false = refl

pub bound_of_next : (n : ℕ) → is_bound (size_after n) (largest_bound (size_after n)) ≡ true
bound_of_next n = bounded (eqb n 4) (eqb n 5) (eqb n 7) (eqb n 10)

pub size_least : (n : ℕ) → is_size n ≡ true → 4 ≤ n
size_least n is = grind (arith, nat_tests)

pub size_most : (n : ℕ) → is_size n ≡ true → n ≤ 13
size_most n is = grind (arith, nat_tests)

-- ---- who is drilled
-- one member at most is that one
abbrev OneAtMost : ℕ → ℕ → Type 0
OneAtMost n member = (how_many n (λ k. eqb member k) ≤ 1) × (n < member → how_many n (λ k. eqb member k) ≡ 0)

one_step : (n member : ℕ) (b : Bool) → eqb member (suc n) ≡ b → OneAtMost n member → OneAtMost (suc n) member
one_step n member true e before =
    let same : member ≡ suc n = eqb-true member (suc n) e in
    let none : how_many n (λ k. eqb member k) ≡ 0 = before.1 (omega (arith, same)) in
    let count : how_many (suc n) (λ k. eqb member k) ≡ how_many n (λ k. eqb member k) + 1 = ap (λ b. how_many n (λ k. eqb member k) + cond b 1 0) e in
    (omega (arith, none, count), λ lt. absurd (omega (arith, lt, same)))
one_step n member false e before =
    let count : how_many (suc n) (λ k. eqb member k) ≡ how_many n (λ k. eqb member k) + 0 = ap (λ b. how_many n (λ k. eqb member k) + cond b 1 0) e in
    (omega (arith, before.0, count), λ lt. let none : how_many n (λ k. eqb member k) ≡ 0 = before.1 (omega (arith, lt)) in omega (arith, none, count))

one_at_most : (n member : ℕ) → OneAtMost n member
one_at_most zero member = (omega arith, λ lt. refl)
one_at_most (suc n) member = one_step n member (eqb member (suc n)) refl (one_at_most n member)

either_one : (b c : Bool) → cond (b || c) 1 0 ≤ cond b 1 0 + cond c 1 0
either_one true c = omega arith
either_one false c = omega arith

pub either_count : (n : ℕ) (f g : ℕ → Bool) → how_many n (λ k. f k || g k) ≤ how_many n f + how_many n g
either_count zero f g = omega arith
either_count (suc n) f g = omega (arith, either_count n f g, either_one (f (suc n)) (g (suc n)))

pub or_nobody : (b : Bool) → (b || false) ≡ b
or_nobody true = refl
or_nobody false = refl

pub nobody_more : (n : ℕ) (f : ℕ → Bool) → how_many n (λ k. f k || false) ≡ how_many n f
nobody_more n f = how_many_same n (λ k. f k || false) f (λ k from to. or_nobody (f k))

-- a drilled member is one who has a share, and there is room for it
pub record IsDrilled (members bound shareless member : ℕ) : Type 0 where
  pub from : 1 ≤ member
  pub to : member ≤ members
  pub has_share : has shareless member ≡ false
  pub room : how_many members (has shareless) < bound

pub found_one : (members bound shareless draw member : ℕ) → 1 ≤ members → how_many members (has shareless) < bound → first_unnamed members draw (has shareless) ≡ Some member → IsDrilled members bound shareless member
found_one members bound shareless draw member some room e =
    let found : IsFound (λ k. not (has shareless k)) (λ steps. 1 + (draw + steps) % members) 0 members member =
    found_is (λ k. not (has shareless k)) (λ steps. 1 + (draw + steps) % members) members 0 member e in
    let at : member ≡ 1 + (draw + found.place.0) % members = found.place.3 in
    let small : (draw + found.place.0) % members < members = mod-lt (draw + found.place.0) (omega (arith, some)) in
    record {
      from = omega (arith, at);
      to = omega (arith, at, small);
      has_share = not-true (has shareless member) found.passes;
      room = room;
    }

drilled_step : (members bound shareless draw member : ℕ) (b : Bool) → leb bound (how_many members (has shareless)) ≡ b → 1 ≤ members → cond b None (first_unnamed members draw (has shareless)) ≡ Some member → IsDrilled members bound shareless member
drilled_step members bound shareless draw member true full some e = let differ : None ≡ Some member = e in cc
drilled_step members bound shareless draw member false full some e =
    found_one members bound shareless draw member some (leb-false bound (how_many members (has shareless)) full) e

pub drilled_is : (members bound shareless draw member : ℕ) → 1 ≤ members → drilled_by members bound shareless draw ≡ Some member → IsDrilled members bound shareless member
drilled_is members bound shareless draw member some e =
    drilled_step members bound shareless draw member (leb bound (how_many members (has shareless))) refl some e

-- ---- who is down
pub few_with : (members bound shareless : ℕ) (drilled : Option ℕ) → how_many members (has shareless) ≤ bound → ((member : ℕ) → drilled ≡ Some member → IsDrilled members bound shareless member) → how_many members (λ k. has shareless k || is_drilled drilled k) ≤ bound
few_with members bound shareless None few is = omega (arith, few, nobody_more members (has shareless))
few_with members bound shareless (Some member) few is =
    let room : how_many members (has shareless) < bound = (is member refl).room in
    omega (arith, room, either_count members (has shareless) (λ k. eqb member k), (one_at_most members member).0)

pub named_only : (members bound shareless : ℕ) (drilled : Option ℕ) (member : ℕ) → ((k : ℕ) → drilled ≡ Some k → IsDrilled members bound shareless k) → is_drilled drilled member ≡ true → IsDrilled members bound shareless member
named_only members bound shareless None member is e = let differ : false ≡ true = e in cc
named_only members bound shareless (Some k) member is e =
    subst (IsDrilled members bound shareless) (eqb-true k member e) (is k refl)

-- a committee for which two draws are taken
pub side_is : (members bound shareless who how : ℕ) → is_size members ≡ true → is_bound members bound ≡ true → shareless < 2 ^ members → how_many members (has shareless) ≤ bound → IsSide (side_with members bound shareless who how)
side_is members bound shareless who how size bounded mask few =
    let is : (k : ℕ) → drilled_by members bound shareless who ≡ Some k → IsDrilled members bound shareless k =
    λ k e. drilled_is members bound shareless who k (let least : 4 ≤ members = size_least members size in omega (arith, least)) e in
    record {
      size = size;
      bound = bounded;
      members = mask;
      drilled = λ member e.
          let one : IsDrilled members bound shareless member = named_only members bound shareless (drilled_by members bound shareless who) member is e in
          (one.from, one.to, one.has_share);
      manner = mod-lt how (omega arith);
      few = few_with members bound shareless (drilled_by members bound shareless who) few is;
    }

-- ---- phases
pub staying_is : (number phase : ℕ) (last : Side) → IsSide last → IsSide (staying_side number phase last)
staying_is number phase last is =
    side_is last.members last.bound (down_mask last) (draw number (draws_before phase + 1)) (draw number (draws_before phase + 2)) is.size is.bound
    (mask_below last.members (is_down_on last))
    (subst (λ (k : ℕ). k ≤ last.bound) (sym (mask_count last.members (is_down_on last))) is.few)

pub none_down : (members bound : ℕ) → how_many members (has 0) ≤ bound
none_down members bound = let none : how_many members (has 0) ≡ 0 = none_count members in omega (arith, none)

pub some_mask : (members : ℕ) → 0 < 2 ^ members
some_mask members = pow_pos members

pub coming_is : (number phase : ℕ) (last : Side) → IsSide (coming_side number phase last)
coming_is number phase last =
    side_is (size_after last.members) (largest_bound (size_after last.members)) 0 (draw number (draws_before phase + 2 + 1)) (draw number (draws_before phase + 2 + 2))
    (size_of_next last.members) (bound_of_next last.members) (some_mask (size_after last.members)) (none_down (size_after last.members) (largest_bound (size_after last.members)))

pub after_is : (number phase : ℕ) (last : Side) → IsSide last → (b : Bool) → AreSides (cond b (Move (staying_side number phase last) (coming_side number phase last)) (Refresh (staying_side number phase last)))
after_is number phase last is true = (staying_is number phase last is, coming_is number phase last)
after_is number phase last is false = (staying_is number phase last is, staying_is number phase last is)

pub scenes_are : (members bound number phase : ℕ) → is_size members ≡ true → is_bound members bound ≡ true → AreSides (scene_at members bound number phase)
unfolding scene_at
scenes_are members bound number zero size bounded =
    let side : IsSide (side_drawn number 0 members bound 0) =
    side_is members bound 0 (draw number (0 + 1)) (draw number (0 + 2)) size bounded (some_mask members) (none_down members bound) in
    (side, side)
scenes_are members bound number (suc before) size bounded =
    after_is number (suc before) (new_side (scene_at members bound number before)) (scenes_are members bound number before size bounded).1 (eqb (suc before % 3) 0)

-- a drilled member's index is small
pub drilled_small : (side : Side) (member : ℕ) → IsSide side → side.drilled ≡ Some member → member ≤ 13
drilled_small side member is e =
    let named : is_drilled side.drilled member ≡ true = ap (λ o. is_drilled o member) e ∙ eq-eqb member member refl in
    let to : member ≤ side.members = (is.drilled member named).1 in
    omega (arith, to, size_most side.members is.size)

-- and so is a committee
pub few_members : (side : Side) → IsSide side → side.members ≤ 30
few_members side is = omega (arith, size_most side.members is.size)
