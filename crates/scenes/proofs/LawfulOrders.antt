-- The orders of a phase are lawful, name who is drilled alone, and tell nobody to speak late.
use Rattle.std.proofs.Common.{◌≡◌, ℕ, zero, suc, ◌+◌, ◌-◌, ◌%◌, ◌<◌, ◌≤◌, Bool, true, false, ◌&&◌, ◌||◌, not, cond, eqb, ltb, List, [], ◌∷◌, ◌++◌, Option, Some, None, refl, sym, ap, ap₂, ◌∙◌, subst, arith, inl, inr}
use Rattle.std.specs.List.{list_all}
use Rattle.std.proofs.lemmas.Bool.{and_from, and_left, and_right, cases_eq, cases_lt, eq-eqb, le-leb, le-ltb, lt-ltb, ne_eqb, or_left}
use Rattle.std.proofs.lemmas.Bool.Decides.{nat_tests}
use Rattle.std.proofs.lemmas.List.Folds.{list_all-append}
use Rattle.std.proofs.Math.Nat.{mod-eq_of_lt, mod-lt, mod_self}
use Rattle.algebra61.specs.Field.{oneₚ}
use Rattle.sizes.specs.Committees.{is_bound, is_size}
use Rattle.talk.specs.Shape.{Shape, create_shape, deals, move_shape, receives, refresh_shape, rounds, seats, within}
use Rattle.drillbook.specs.declared.order.Verb.{Verb}
use Rattle.drillbook.specs.declared.order.Verb.TheVariants.{Accuse, Silent, Skew, Veto, Wrong}
use Rattle.drillbook.specs.declared.order.Order.{Order}
use Rattle.drillbook.specs.Orders.{AllLawful, IsLawful, allows, is_lawful, moves, names, other_receiver}
use Rattle.scenes.specs.declared.side.Side.{Side}
use Rattle.scenes.specs.declared.scene.Scene.{Scene}
use Rattle.scenes.specs.declared.scene.Scene.TheVariants.{Create, Move, Refresh}
use Rattle.scenes.specs.Scenes.{is_drilled, scene_at}
use Rattle.scenes.specs.Orders.{by_manner, following, for_drilled, listed, order, orders_of, shape_of, told_among, told_coming, told_leaving}
use Rattle.scenes.specs.Law.{AreSides, IsSide}
use Rattle.scenes.specs.Lawful.{AreOrders, is_drilled_seat, is_late}
use Rattle.scenes.proofs.Sides.{scenes_are, size_least}

-- ---- one order
pub within_from : (low k high : ℕ) → low ≤ k → k ≤ high → within low k high ≡ true
within_from low k high from to = and_from _ _ (le-leb low k from) (le-leb k high to)

pub lawful_from : (s : Shape) (o : Order) → 1 ≤ o.party → o.party ≤ seats s → 1 ≤ o.round → o.round ≤ rounds s → allows s o.party o.round o.verb ≡ true → IsLawful s o
lawful_from s o from to early late may =
    and_from _ _ (within_from 1 o.party (seats s) from to) (and_from _ _ (within_from 1 o.round (rounds s) early late) may)

-- the member that follows in the circle is another one
follows_other : (n member : ℕ) → 2 ≤ n → 1 ≤ member → member ≤ n → following n member ≡ member → ⊥
follows_other n member some from to same = elim (cases_lt member n) [
  | inl lt ↦ let low : member % n ≡ member = mod-eq_of_lt lt in omega (arith, low, same)
  | inr le ↦
      let last : member ≡ n = omega (arith, le, to) in
      let none : member % n ≡ 0 = ap (λ k. k % n) last ∙ mod_self n in
      omega (arith, none, last, some, same)
]

pub follows_within : (n member : ℕ) → 1 ≤ n → following n member ≤ n
follows_within n member some = let low : member % n < n = mod-lt member (omega (arith, some)) in omega (arith, low)

pub follows_receiver : (s : Shape) (member : ℕ) → 2 ≤ s.receivers → 1 ≤ member → member ≤ s.receivers → other_receiver s (s.shift + member) (following s.receivers member) ≡ true
follows_receiver s member some from to =
    let differ : eqb (s.shift + following s.receivers member) (s.shift + member) ≡ false =
    ne_eqb (s.shift + following s.receivers member) (s.shift + member) (λ same. follows_other s.receivers member some from to (omega (arith, same))) in
    and_from _ _
    (within_from 1 (following s.receivers member) s.receivers (omega arith) (follows_within s.receivers member (omega (arith, some))))
    (ap not differ)

-- ---- one of four
picked : {A : Type 0} (P : A → Type 0) (x y z : Bool) (a b c d : A) → P a → P b → P c → P d → P (cond x a (cond y b (cond z c d)))
picked P true y z a b c d p q r s = p
picked P false true z a b c d p q r s = q
picked P false false true a b c d p q r s = r
picked P false false false a b c d p q r s = s

turned : {A : Type 0} (P : A → Type 0) (manner : ℕ) (a b c d : A) → P a → P b → P c → P d → P (by_manner manner a b c d)
turned P manner a b c d p q r s = picked P (eqb manner 0) (eqb manner 1) (eqb manner 2) a b c d p q r s

-- ---- the order of who is drilled
told_all : (P : Order → Type 0) (All : List Order → Type 0) (f : ℕ → Order) (drilled : Option ℕ) → All [] → ((o : Order) → P o → All (o ∷ [])) → ((member : ℕ) → is_drilled drilled member ≡ true → P (f member)) → All (listed (for_drilled f drilled))
told_all P All f None none one each = none
told_all P All f (Some member) none one each = one (f member) (each member (eq-eqb member member refl))

pub told_lawful : (s : Shape) (f : ℕ → Order) (drilled : Option ℕ) → ((member : ℕ) → is_drilled drilled member ≡ true → IsLawful s (f member)) → AllLawful s (listed (for_drilled f drilled))
told_lawful s f drilled each = told_all (IsLawful s) (AllLawful s) f drilled tt (λ o is. (is, tt)) each

abbrev pub in_time : List Order → Bool
in_time orders = list_all (λ order. not (is_late order.verb)) orders

pub told_in_time : (f : ℕ → Order) (drilled : Option ℕ) → ((member : ℕ) → not (is_late (f member).verb) ≡ true) → in_time (listed (for_drilled f drilled)) ≡ true
told_in_time f drilled each =
    told_all (λ o. not (is_late o.verb) ≡ true) (λ orders. in_time orders ≡ true) f drilled refl (λ o is. and_from (not (is_late o.verb)) true is refl) (λ member named. each member)

or_nobody : (b : Bool) → (b || false) ≡ b
or_nobody true = refl
or_nobody false = refl

pub told_names : (f : ℕ → Order) (drilled : Option ℕ) → ((member : ℕ) → (f member).party ≡ member) → (seat : ℕ) → names (listed (for_drilled f drilled)) seat ≡ is_drilled drilled seat
told_names f None party seat = refl
told_names f (Some member) party seat = or_nobody (eqb (f member).party seat) ∙ ap (λ k. eqb k seat) (party member)

shifted : (shift member seat : ℕ) → 1 ≤ member → eqb (shift + member) seat ≡ (ltb shift seat && eqb member (seat - shift))
shifted shift member seat from = elim (cases_eq (shift + member) seat) [
  | inl same ↦
      eq-eqb (shift + member) seat same
      ∙ sym (and_from _ _ (lt-ltb shift seat (omega (arith, same, from))) (eq-eqb member (seat - shift) (omega (arith, same))))
  | inr ne ↦
      ne_eqb (shift + member) seat ne
      ∙ sym
      (elim (cases_lt shift seat) [
        | inl lt ↦ and_right (ltb shift seat) (eqb member (seat - shift)) (ne_eqb member (seat - shift) (λ same. ne (omega (arith, same, lt))))
        | inr le ↦ and_left (ltb shift seat) (eqb member (seat - shift)) (le-ltb shift seat le)
      ])
]

pub told_names_behind : (shift : ℕ) (f : ℕ → Order) (drilled : Option ℕ) → ((member : ℕ) → (f member).party ≡ shift + member) → ((member : ℕ) → is_drilled drilled member ≡ true → 1 ≤ member) → (seat : ℕ) → names (listed (for_drilled f drilled)) seat ≡ (ltb shift seat && is_drilled drilled (seat - shift))
told_names_behind shift f None party some seat = sym (and_right (ltb shift seat) false refl)
told_names_behind shift f (Some member) party some seat =
    or_nobody (eqb (f member).party seat) ∙ ap (λ k. eqb k seat) (party member) ∙ shifted shift member seat (some member (eq-eqb member member refl))

-- ---- lists of them
or_again : (x y z : Bool) → (x || (y || z)) ≡ ((x || y) || z)
or_again true y z = refl
or_again false y z = refl

pub lawful_both : (s : Shape) (xs ys : List Order) → AllLawful s xs → AllLawful s ys → AllLawful s (xs ++ ys)
lawful_both s [] ys first second = second
lawful_both s (x ∷ xs) ys first second = (first.0, lawful_both s xs ys first.1 second)

pub names_both : (xs ys : List Order) (seat : ℕ) → names (xs ++ ys) seat ≡ (names xs seat || names ys seat)
names_both [] ys seat = refl
names_both (x ∷ xs) ys seat = ap (λ b. eqb x.party seat || b) (names_both xs ys seat) ∙ or_again (eqb x.party seat) (names xs seat) (names ys seat)

pub in_time_both : (xs ys : List Order) → in_time xs ≡ true → in_time ys ≡ true → in_time (xs ++ ys) ≡ true
in_time_both xs ys first second = list_all-append (λ order. not (is_late order.verb)) xs ys ∙ and_from (in_time xs) (in_time ys) first second

-- ---- the verbs of each committee
abbrev pub among_order : Side → ℕ → Order
among_order side member =
    by_manner side.manner
    (order member 1 Silent)
    (order member 1 (Skew oneₚ))
    (order member 3 (Accuse (following side.members member)))
    (order member 5 Veto)

abbrev pub leaving_order : Side → ℕ → Order
leaving_order side member =
    by_manner side.manner (order member 1 Silent) (order member 1 (Skew oneₚ)) (order member 1 (Wrong oneₚ)) (order member 4 Silent)

abbrev pub coming_order : ℕ → Side → ℕ → Order
coming_order shift side member =
    by_manner side.manner
    (order (shift + member) 1 Silent)
    (order (shift + member) 2 (Skew oneₚ))
    (order (shift + member) 3 (Accuse (following side.members member)))
    (order (shift + member) 5 Veto)

-- of a member that deals and receives on its own seat
pub among_lawful : (s : Shape) (side : Side) (member : ℕ) → s.shift ≡ 0 → s.receivers ≡ side.members → s.dealers ≡ side.members → 5 ≤ rounds s → 2 ≤ side.members → 1 ≤ member → member ≤ side.members → IsLawful s (among_order side member)
among_lawful s side member shift receivers dealers five some from to =
    let all : member ≤ seats s = omega (arith, shift, receivers, to) in
    let dealing : deals s member ≡ true = within_from 1 member s.dealers from (omega (arith, dealers, to)) in
    let receiving : receives s member ≡ true = within_from (s.shift + 1) member (seats s) (omega (arith, shift, from)) all in
    let seat : s.shift + member ≡ member = omega (arith, shift) in
    let other : other_receiver s member (following side.members member) ≡ true =
    ap₂ (λ (k m : ℕ). other_receiver s k (following m member)) (sym seat) (sym receivers)
    ∙ follows_receiver s member (omega (arith, receivers, some)) from (omega (arith, receivers, to)) in
    turned (IsLawful s) side.manner _ _ _ _
    (lawful_from s (order member 1 Silent) from all (omega arith) (omega (arith, five)) refl)
    (lawful_from s (order member 1 (Skew oneₚ)) from all (omega arith) (omega (arith, five)) (or_left _ _ dealing))
    (lawful_from s (order member 3 (Accuse (following side.members member))) from all (omega arith) (omega (arith, five)) (and_from _ _ receiving other))
    (lawful_from s (order member 5 Veto) from all (omega arith) five receiving)

-- of an old member of a move
pub leaving_lawful : (s : Shape) (side : Side) (member : ℕ) → moves s ≡ true → s.dealers ≡ side.members → s.dealers ≤ seats s → 5 ≤ rounds s → 1 ≤ member → member ≤ side.members → IsLawful s (leaving_order side member)
leaving_lawful s side member moving dealers seated five from to =
    let all : member ≤ seats s = omega (arith, dealers, seated, to) in
    let dealing : deals s member ≡ true = within_from 1 member s.dealers from (omega (arith, dealers, to)) in
    turned (IsLawful s) side.manner _ _ _ _
    (lawful_from s (order member 1 Silent) from all (omega arith) (omega (arith, five)) refl)
    (lawful_from s (order member 1 (Skew oneₚ)) from all (omega arith) (omega (arith, five)) (or_left _ _ dealing))
    (lawful_from s (order member 1 (Wrong oneₚ)) from all (omega arith) (omega (arith, five)) (and_from _ _ moving dealing))
    (lawful_from s (order member 4 Silent) from all (omega arith) (omega (arith, five)) refl)

-- of a new one
pub coming_lawful : (s : Shape) (side : Side) (member : ℕ) → s.receivers ≡ side.members → 5 ≤ rounds s → 2 ≤ side.members → 1 ≤ member → member ≤ side.members → IsLawful s (coming_order s.shift side member)
coming_lawful s side member receivers five some from to =
    let first : 1 ≤ s.shift + member = omega (arith, from) in
    let all : s.shift + member ≤ seats s = omega (arith, receivers, to) in
    let receiving : receives s (s.shift + member) ≡ true = within_from (s.shift + 1) (s.shift + member) (seats s) (omega (arith, from)) all in
    let other : other_receiver s (s.shift + member) (following side.members member) ≡ true =
    ap (λ (m : ℕ). other_receiver s (s.shift + member) (following m member)) (sym receivers)
    ∙ follows_receiver s member (omega (arith, receivers, some)) from (omega (arith, receivers, to)) in
    turned (IsLawful s) side.manner _ _ _ _
    (lawful_from s (order (s.shift + member) 1 Silent) first all (omega arith) (omega (arith, five)) refl)
    (lawful_from s (order (s.shift + member) 2 (Skew oneₚ)) first all (omega arith) (omega (arith, five)) (or_left _ _ receiving))
    (lawful_from s (order (s.shift + member) 3 (Accuse (following side.members member))) first all (omega arith) (omega (arith, five)) (and_from _ _ receiving other))
    (lawful_from s (order (s.shift + member) 5 Veto) first all (omega arith) five receiving)

-- ---- each kind of phase
pub some_members : (side : Side) → IsSide side → 4 ≤ side.members
some_members side is = size_least side.members is.size

pub among_are_lawful : (s : Shape) (side : Side) → IsSide side → s.shift ≡ 0 → s.receivers ≡ side.members → s.dealers ≡ side.members → 5 ≤ rounds s → AllLawful s (listed (told_among side))
among_are_lawful s side is shift receivers dealers five =
    told_lawful s (among_order side) side.drilled
    (λ member named.
    among_lawful s side member shift receivers dealers five (omega (arith, some_members side is)) (is.drilled member named).0 (is.drilled member named).1)

pub among_names : (side : Side) (seat : ℕ) → names (listed (told_among side)) seat ≡ is_drilled side.drilled seat
among_names side seat = told_names (among_order side) side.drilled (λ member. turned (λ (o : Order). o.party ≡ member) side.manner _ _ _ _ refl refl refl refl) seat

pub among_in_time : (side : Side) → in_time (listed (told_among side)) ≡ true
among_in_time side = told_in_time (among_order side) side.drilled (λ member. turned (λ (o : Order). not (is_late o.verb) ≡ true) side.manner _ _ _ _ refl refl refl refl)

pub created_are : (side : Side) → IsSide side → AreOrders (Create side)
created_are side is = record {
  lawful = among_are_lawful (create_shape side.members side.bound) side is refl refl refl (omega arith);
  named = among_names side;
  in_time = among_in_time side;
}

pub refreshed_are : (side : Side) → IsSide side → AreOrders (Refresh side)
refreshed_are side is = record {
  lawful = among_are_lawful (refresh_shape side.members side.bound) side is refl refl refl (omega arith);
  named = among_names side;
  in_time = among_in_time side;
}

pub some_checks : (n t : ℕ) → is_bound n t ≡ true → eqb (n - t - 1) 0 ≡ false
some_checks n t is = ne_eqb (n - t - 1) 0 (λ none. grind (arith, nat_tests))

pub six_rounds : (old new : Side) → IsSide old → rounds (move_shape old.members old.bound new.members new.bound) ≡ 6
six_rounds old new is = ap (λ b. cond b 5 6) (some_checks old.members old.bound is.bound)

moving : (n : ℕ) → 4 ≤ n → not (eqb n 0) ≡ true
moving n some = ap not (ne_eqb n 0 (λ none. omega (arith, some, none)))

pub moved_are : (old new : Side) → IsSide old → IsSide new → AreOrders (Move old new)
moved_are old new is will =
    let shape : Shape = move_shape old.members old.bound new.members new.bound in
    let six : rounds (move_shape old.members old.bound new.members new.bound) ≡ 6 = six_rounds old new is in
    let five : 5 ≤ rounds (move_shape old.members old.bound new.members new.bound) = omega (arith, six) in
    let leaving : (seat : ℕ) → names (listed (told_leaving old)) seat ≡ is_drilled old.drilled seat =
    told_names (leaving_order old) old.drilled (λ member. turned (λ (o : Order). o.party ≡ member) old.manner _ _ _ _ refl refl refl refl) in
    let coming : (seat : ℕ) → names (listed (told_coming old.members new)) seat ≡ (ltb old.members seat && is_drilled new.drilled (seat - old.members)) =
    told_names_behind old.members (coming_order old.members new) new.drilled
    (λ member. turned (λ (o : Order). o.party ≡ old.members + member) new.manner _ _ _ _ refl refl refl refl)
    (λ member named. (will.drilled member named).0) in
    record {
      lawful = lawful_both shape (listed (told_leaving old)) (listed (told_coming old.members new))
          (told_lawful shape (leaving_order old) old.drilled
          (λ member named.
          leaving_lawful shape old member (moving old.members (some_members old is)) refl (omega arith) five (is.drilled member named).0 (is.drilled member named).1))
          (told_lawful shape (coming_order old.members new) new.drilled
          (λ member named.
          coming_lawful shape new member refl five (omega (arith, some_members new will)) (will.drilled member named).0 (will.drilled member named).1));
      named = λ seat.
          names_both (listed (told_leaving old)) (listed (told_coming old.members new)) seat ∙ ap₂ (λ x y. x || y) (leaving seat) (coming seat);
      in_time = in_time_both (listed (told_leaving old)) (listed (told_coming old.members new))
          (told_in_time (leaving_order old) old.drilled (λ member. turned (λ (o : Order). not (is_late o.verb) ≡ true) old.manner _ _ _ _ refl refl refl refl))
          (told_in_time (coming_order old.members new) new.drilled (λ member. turned (λ (o : Order). not (is_late o.verb) ≡ true) new.manner _ _ _ _ refl refl refl refl));
    }

pub orders_of_scene : (scene : Scene) → AreSides scene → AreOrders scene
orders_of_scene (Create side) is = created_are side is.0
orders_of_scene (Refresh side) is = refreshed_are side is.0
orders_of_scene (Move old new) is = moved_are old new is.0 is.1

pub orders_are : (members bound number phase : ℕ) → is_size members ≡ true → is_bound members bound ≡ true → AreOrders (scene_at members bound number phase)
orders_are members bound number phase size bounded =
    orders_of_scene (scene_at members bound number phase) (scenes_are members bound number phase size bounded)
