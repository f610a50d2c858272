-- The honest receivers of an accepted instance are on one grid: d + 1 honest receivers that vote yes agree where they
-- cross, so they are on one grid; each further honest receiver agrees with them, so it is on the grid too.
use Rattle.std.proofs.Common.{◌≡◌, ℕ, suc, ◌+◌, ◌-◌, ◌<◌, ◌≤◌, Bool, true, false, ◌&&◌, not, List, [], ◌∷◌, length, Option, Some, None, refl, sym, ap, ◌∙◌, subst, arith, take}
use Rattle.std.proofs.lemmas.Bool.{and_parts, leb-true, not-true}
use Rattle.algebra61.specs.Field.{Fp, Prime}
use Rattle.algebra61.specs.Poly.{Distinct}
use Rattle.algebra61.specs.Grid.{AllShort, Degree, EachFacing, holder_points, AllWithin, AllOnGrid}
use Rattle.algebra61.proofs.Grid.{crossing}
use Rattle.sharing61.specs.Count.{anyone, how_many}
use Rattle.sharing61.specs.Rules.{Pair, pair_on, off_grid, shown_if, kept_of, revealed_or}
use Rattle.sharing61.specs.Instance.{Dealer, Honest, Faulty, Instance, held, held_from, complaint, shown, shown_from, vote, accepted, kept}
use Rattle.sharing61.specs.Agreement.{Agreement, Proper, HonestReceiver, Short, Deals}
use Rattle.algebra61.proofs.Further.{further}
use Rattle.std.proofs.lemmas.List.{length-take-le}
use Rattle.sharing61.proofs.Count.{picked, length-picked, how_many_apart}
use Rattle.sharing61.proofs.Values.{short_on, pair_same}
use Rattle.sharing61.proofs.Votes.{Yes, yes_says, agree_open, agree_shown}
use Rattle.sharing61.proofs.Team.{Each, each_picked, each_take, each_map, Falling, falling_picked, falling_take, member_at, team, length-team, distinct_team, Agrees, facing_team, faced_team}

-- ---- honest receivers that vote yes
pub record Voter (i : Instance) (k : ℕ) : Type 0 where
  pub honest : HonestReceiver i k
  pub yes : Yes i k

agree_held : (i : Instance) (j k : ℕ) → Voter i j → Voter i k → Agrees i j (held i j) k
agree_held i j k vj vk = agree_open i j vj.yes j k vj.honest vk.honest vj.yes.hidden vk.yes.hidden

agree_final : (i : Instance) (j k : ℕ) (o : Option Pair) → shown i j ≡ o → HonestReceiver i j → Voter i k → Agrees i j (revealed_or o (held i j)) k
agree_final i j k None e sj vk = agree_open i k vk.yes j k sj vk.honest e vk.yes.hidden
agree_final i j k (Some p) e sj vk = agree_shown i k vk.yes j p sj e

each_facing : (i : Instance) (all ks : List ℕ) → Each (Voter i) all → Each (Voter i) ks → EachFacing (team i ks) (team i all)
each_facing i all [] va vk = tt
each_facing i all (k ∷ ks) va vk =
    (facing_team i k (held i k) all (each_map (Voter i) (Agrees i k (held i k)) (λ l v. agree_held i k l vk.0 v) all va), each_facing i all ks va vk.1)

voter : (i : Instance) (k : ℕ) → 1 ≤ k → k ≤ i.receivers → (vote i k && not (i.down k)) ≡ true → Voter i k
voter i k a b e =
    let both : (vote i k ≡ true) × (not (i.down k) ≡ true) = and_parts (vote i k) (not (i.down k)) e in
    let s : HonestReceiver i k = record { from = a; to = b; up = not-true (i.down k) both.1 } in
    record { honest = s; yes = yes_says i k s both.0 }

abbrev pub voters : Instance → List ℕ
voters i = picked i.receivers (λ k. vote i k && not (i.down k))

accepted_count : (i : Instance) → accepted i ≡ true → i.receivers - i.bound ≤ how_many i.receivers (vote i)
unfolding accepted
accepted_count i e = leb-true (i.receivers - i.bound) (how_many i.receivers (vote i)) e

pub enough_voters : (d : ℕ) (i : Instance) → Proper d i → accepted i ≡ true → suc d ≤ length (voters i)
enough_voters d i p e =
    omega (
      arith,
      accepted_count i e,
      how_many_apart i.receivers (vote i) i.down,
      length-picked i.receivers (λ k. vote i k && not (i.down k)),
      p.few,
      p.third,
      p.degree,
    )

-- ---- degrees of what is held and revealed
short_from : (d : ℕ) (dl : Dealer) (j : ℕ) → Deals d dl → Short d (held_from dl j)
short_from d (Honest g) j h = short_on d g j h
short_from d (Faulty dealt said) j h = h.0 j

pub short_held : (d : ℕ) (i : Instance) (j : ℕ) → Deals d i.dealer → Short d (held i j)
unfolding held
short_held d i j h = short_from d i.dealer j h

shown_if_is : (b : Bool) (p q : Pair) → shown_if b p ≡ Some q → p ≡ q
shown_if_is true p q e = cc
shown_if_is false p q e = cc

short_shown_from : (d : ℕ) (i : Instance) (dl : Dealer) (j : ℕ) (p : Pair) → Deals d dl → shown_from i dl j ≡ Some p → Short d p
short_shown_from d i (Honest g) j p h e =
    subst (Short d) (shown_if_is (anyone i.receivers (λ k. off_grid g j k (complaint i j k))) (pair_on g j) p e) (short_on d g j h)
short_shown_from d i (Faulty dealt said) j p h e = h.1 j p e

pub short_shown : (d : ℕ) (i : Instance) (j : ℕ) (p : Pair) → Deals d i.dealer → shown i j ≡ Some p → Short d p
unfolding shown
short_shown d i j p h e = short_shown_from d i i.dealer j p h e

short_final : (d : ℕ) (i : Instance) (j : ℕ) (o : Option Pair) → Deals d i.dealer → shown i j ≡ o → Short d (revealed_or o (held i j))
short_final d i j None h e = short_held d i j h
short_final d i j (Some p) h e = short_shown d i j p h e

within_team : (d : ℕ) (i : Instance) (ks : List ℕ) → Deals d i.dealer → AllWithin (d + 1) (team i ks)
within_team d i [] h = tt
within_team d i (k ∷ ks) h = let s = short_held d i k h in ((s.across, s.down), within_team d i ks h)

-- ---- the theorem
pub kept_final : (i : Instance) (j : ℕ) → accepted i ≡ true → kept i j ≡ revealed_or (shown i j) (held i j)
unfolding kept
kept_final i j e = ap (λ b. kept_of b (shown i j) (held i j)) e

on_one : (d : ℕ) (i : Instance) (ks : List ℕ) (g : List (List Fp)) → Proper d i → length ks ≡ suc d → Falling ks → Each (Voter i) ks → Degree d g → AllOnGrid g (team i ks) →
    (j : ℕ) → HonestReceiver i j → revealed_or (shown i j) (held i j) ≡ pair_on g j
on_one d i ks g p len fall vs dg on j sj =
    let n : length (team i ks) ≡ d + 1 = omega (arith, length-team i ks, len) in
    let q : Pair = revealed_or (shown i j) (held i j) in
    let sq : Short d q = short_final d i j (shown i j) p.deals refl in
    let ag : Each (Agrees i j q) ks = each_map (Voter i) (Agrees i j q) (λ k v. agree_final i j k (shown i j) refl sj v) ks vs in
    let dist : Distinct (holder_points (team i ks)) =
    distinct_team i ks fall (each_map (Voter i) (λ k. k < Prime) (λ k v. omega (arith, v.honest.to, p.small)) ks vs) in
    pair_same d g j q sq dg (omega (arith, p.degree, p.third, p.small))
    (further g (member_at j q) (team i ks) dist (omega (arith, dg.in_x)) (subst (λ m. AllShort m g) (sym n) dg.in_y) on
    (omega (arith, sq.across)) (omega (arith, sq.down)) (facing_team i j q ks ag) (faced_team i j q ks ag))

pub agreement : (d : ℕ) → Agreement d
agreement d i p e =
    let ks : List ℕ = take (suc d) (voters i) in
    let len : length ks ≡ suc d = length-take-le (suc d) (voters i) (enough_voters d i p e) in
    let fall : Falling ks = falling_take (suc d) (voters i) (falling_picked i.receivers (λ k. vote i k && not (i.down k))) in
    let vs : Each (Voter i) ks = each_take (Voter i) (suc d) (voters i) (each_picked (Voter i) i.receivers (λ k. vote i k && not (i.down k)) (voter i)) in
    let dist : Distinct (holder_points (team i ks)) =
    distinct_team i ks fall (each_map (Voter i) (λ k. k < Prime) (λ k v. omega (arith, v.honest.to, p.small)) ks vs) in
    let got = crossing d (team i ks) (omega (arith, length-team i ks, len)) dist (within_team d i ks p.deals) (each_facing i ks ks vs vs) in
    (got.0, got.1, λ j sj. kept_final i j e ∙ on_one d i ks got.0 p len fall vs got.1 got.2 j sj)
