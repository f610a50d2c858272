-- The shares with which a later phase begins are those that the phases before it leave.
use Rattle.std.proofs.Common.{◌≡◌, ℕ, ◌+◌, ◌-◌, ◌<◌, ◌≤◌, Bool, true, false, cond, List, length, map, Option, Some, None, refl, sym, ap, ◌∙◌, arith}
use Rattle.std.proofs.lemmas.List.FromFn.{get_or-map-range_with_len, length-map-range_with_len}
use Rattle.algebra61.specs.Field.{Fp}
use Rattle.talk.specs.Basics.{places}
use Rattle.talk.specs.Sync.{has}
use Rattle.plays.specs.Play.{Play}
use Rattle.plays.specs.Said.{points_up_to}
use Rattle.histories61.specs.Phases.{receivers_down}
use Rattle.playback.specs.Shares.{shares_at, shares_by}
use Rattle.commands.specs.Phase.{shares_given, unless_down}
use Rattle.commands.proofs.Phases.{range_same}
use Rattle.rehearsal.specs.Lived.{begun_with, kept_of}

-- what follows from a test fails where the test does
up_by : (one other : Bool) → (one ≡ true → other ≡ true) → other ≡ false → one ≡ false
up_by true other h e = let differ : true ≡ false = sym (h refl) ∙ e in cc
up_by false other h e = refl

-- a member that has its shares still has those that the play left it
kept_up : (without down : Bool) (left : List Fp) → (without ≡ false → down ≡ false) → cond without None (cond down None (Some left)) ≡ unless_down without left
kept_up true down left h = refl
kept_up false true left h = let differ : true ≡ false = h refl in cc
kept_up false false left h = refl

module _ (play : Play) (share : ℕ → ℕ → Fp) (shareless members : ℕ) (all : members ≡ play.shape.receivers)
    (down : (member : ℕ) → 1 ≤ member → member ≤ members → receivers_down play member ≡ true → has shareless member ≡ true) where
  abbrev left : ℕ → List Fp
  left member = map (λ lane. share lane member) (places 5)

  count : length (shares_by play share) ≡ members
  count = length-map-range_with_len (shares_at play share) 1 play.shape.receivers ∙ sym all

  one : (member : ℕ) → 1 ≤ member → member < 1 + members → kept_of shareless (shares_by play share) member ≡ unless_down (has shareless member) (left member)
  one member from to =
      ap (λ (had : Option (List Fp)). cond (has shareless member) None had)
      (get_or-map-range_with_len (shares_at play share) 1 play.shape.receivers (member - 1) member None (omega (arith, from, to, all)) (omega (arith, from)))
      ∙ kept_up (has shareless member) (receivers_down play member) (left member) (up_by (receivers_down play member) (has shareless member) (down member from (omega (arith, to))))

  pub begun_is : begun_with shareless (shares_by play share) ≡ shares_given (has shareless) left members
  begun_is =
      ap (λ (n : ℕ). map (kept_of shareless (shares_by play share)) (points_up_to n)) count
      ∙ range_same (kept_of shareless (shares_by play share)) (λ member. unless_down (has shareless member) (left member)) 1 members one
