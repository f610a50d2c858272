-- What the phase of a move leaves, read off the minds.
use Rattle.std.specs.Prelude.{◌≡◌, ℕ, ◌+◌, ◌≤◌, Bool, true, false, List, [], ◌∷◌, ◌++◌, length, map, Option, Some, None, Result, Ok, Err}
use Rattle.std.specs.List.{range_with_len, filter}
use Rattle.algebra61.specs.Field.{Fp}
use Rattle.sizes.specs.Committees.{is_size, is_bound}
use Rattle.talk.specs.Shape.{Shape}
use Rattle.talk.specs.Sync.{has}
use Rattle.plays.specs.Play.{Play, seat_of}
use Rattle.members.specs.Shares.{accepted_in, accepted_count}
use Rattle.periods.specs.Mover.{mover_at}
use Rattle.moveshare.specs.declared.mind.MoveMind.{MoveMind}
use Rattle.moveshare.specs.declared.mind.MoveMind.TheVariants.{Old, New}
use Rattle.moveshare.specs.declared.out.MoveOut.{MoveOut}
use Rattle.moveshare.specs.declared.out.MoveOut.TheVariants.{Shares, NotOpened, NoWord}
use Rattle.moveshare.specs.Result.{IsOver, AnswersMove}
use Rattle.moveshare.specs.Laws.{DefinesOut}
use Rattle.drillbook.specs.Text.{named_among}
use Rattle.drillbook.specs.Word.{DrilledMind}
use Rattle.keyroom.specs.declared.plan.Plan.{Plan}
use Rattle.keyroom.specs.declared.status.Status.{Status}
use Rattle.keyroom.specs.declared.status.Status.TheVariants as status
use Rattle.keyroom.specs.Causes.{Refusal, cause_of}
use Rattle.keyroom.specs.Changes.{outcome_of}
use Rattle.commands.specs.Late.{enough_after, refused_after}
use Rattle.commands.specs.Move.{mover_on, AreMoveMasks, play_moved, new_down, enough_moved, EndsMove}
use Rattle.commands.specs.Phase.{IsReady, marks_of}
use Rattle.commands.specs.Run.{numbered}
use Rattle.commands.specs.Standing.{Standing, Holding, seeds_for}
use Rattle.keyroom.specs.Steps.{◌and_then◌}
use Rattle.commands.specs.declared.moving_phase.Moved.{Moved}

-- the key may go to a committee of m members of whom u may be faulty: not more than these are drilled there
pub record MayMove (st : Standing) (m u : ℕ) : Type 0 where
  pub ready : IsReady st
  pub size : is_size m ≡ true
  pub bound : is_bound m u ≡ true
  pub few : named_among st.orders st.now.n m ≤ u

-- ---- the minds
module _ {N M : ℕ} where
  -- an old member's mind before the first round
  abbrev pub old_on : Shape → ℕ → Option Holding → MoveMind N M
  old_on s seat held = Old (mover_on s seat held)

  -- new member j's
  abbrev pub new_on : Shape → ℕ → MoveMind N M
  new_on s j = New (mover_at s (seat_of s j) [])

  -- the minds on all seats, by what the old members take part with
  abbrev pub minds_on : Shape → List (Option Holding) → ℕ → List (MoveMind N M)
  minds_on s held m = numbered (old_on s) 1 held ++ map (new_on s) (range_with_len 1 m)

  -- it is a new member's, and has heard all rounds
  abbrev pub IsEnd : MoveMind N M → Type 0
  IsEnd (Old part) = ⊥
  IsEnd (New mover) = IsOver mover

  -- how many instances are accepted then
  abbrev pub accepted_at : MoveMind N M → ℕ
  accepted_at (Old part) = 0
  accepted_at (New mover) = accepted_in mover.member.stage

  -- it comes to this
  abbrev pub ComesTo : MoveMind N M → MoveOut → Type 0
  ComesTo (Old part) out = ⊥
  ComesTo (New mover) out = AnswersMove mover out

-- what a member comes to is there where it isn't down
abbrev pub OutIs : Bool → (MoveOut → Type 0) → Option MoveOut → Type 0
OutIs true comes out = out ≡ None
OutIs false comes None = ⊥
OutIs false comes (Some out) = comes out

module _ {N M : ℕ} where
  -- what the minds come to, the first of which is the new member `member`'s
  abbrev pub AllCome : (ℕ → Bool) → ℕ → List (DrilledMind (MoveMind N M)) → List (Option MoveOut) → Type 0
  AllCome down member [] [] = Unit {0}
  AllCome down member [] (out ∷ outs) = ⊥
  AllCome down member (m ∷ ms) [] = ⊥
  AllCome down member (m ∷ ms) (out ∷ outs) = OutIs (down member) (ComesTo m.inner) out × AllCome down (member + 1) ms outs

-- ---- what they come to
-- it is what a play defines, of the new members from `member` on
abbrev pub AreOuts : Play → ℕ → List (Option MoveOut) → Type 0
AreOuts p member [] = Unit {0}
AreOuts p member (out ∷ outs) = OutIs (new_down p member) (DefinesOut p member) out × AreOuts p (member + 1) outs

-- the steps behind the phase, where `down` says which seats are down: enough of the members 1 to n must not be, and enough of
-- the m behind them
abbrev pub both_enough : ℕ → ℕ → ℕ → ℕ → (ℕ → Bool) → Result ℕ Status
both_enough n t m u down = enough_after n t down and_then λ old. enough_after m u (λ j. down (n + j))

-- the phase leaves what a play of its run defines, with enough members of both committees
pub record IsMovePhase (st : Standing) (m u : ℕ) (seeds : List (List ℕ)) (cuts : ℕ → ℕ) (moved : Moved) : Type 0 where
  pub masks : AreMoveMasks st m u seeds cuts moved.masks
  pub left : ℕ
  pub enough : enough_moved st m u (play_moved st m u seeds moved.masks) ≡ Ok left
  pub down : moved.down.items ≡ marks_of (new_down (play_moved st m u seeds moved.masks)) m
  pub accepted : moved.accepted ≡ accepted_count (play_moved st m u seeds moved.masks)
  pub all : length moved.outs.items ≡ m
  pub outs : AreOuts (play_moved st m u seeds moved.masks) 1 moved.outs.items

-- or it refuses, by what it was given or with too few members
abbrev pub RefusesPhase : Standing → ℕ → ℕ → List (List ℕ) → (ℕ → ℕ) → Status → Type 0
RefusesPhase st m u seeds cuts status =
    cause_of status ≡ Refusal → (masks : List ℕ) × AreMoveMasks st m u seeds cuts masks × (enough_moved st m u (play_moved st m u seeds masks) ≡ Err status)

-- the shares that a member comes to, if any
abbrev pub shares_at : Option MoveOut → Option (List Fp)
shares_at None = None
shares_at (Some (Shares shares mask)) = Some shares
shares_at (Some (NotOpened lane place)) = None
shares_at (Some (NoWord lane syndrome)) = None

-- each lane was opened
abbrev pub IsOpened : Option MoveOut → Type 0
IsOpened None = Unit {0}
IsOpened (Some (Shares shares mask)) = Unit {0}
IsOpened (Some (NotOpened lane place)) = ⊥
IsOpened (Some (NoWord lane syndrome)) = Unit {0}

abbrev pub AreOpened : List (Option MoveOut) → Type 0
AreOpened [] = Unit {0}
AreOpened (out ∷ outs) = IsOpened out × AreOpened outs

-- which old members were corrected, as a mask, or that there is no result, by the first new member that isn't down
abbrev pub first_end : List (Option MoveOut) → Result ℕ Status
first_end [] = Ok 0
first_end (None ∷ outs) = first_end outs
first_end (Some (Shares shares mask) ∷ outs) = Ok mask
first_end (Some (NotOpened lane place) ∷ outs) = Ok 0
first_end (Some (NoWord lane syndrome) ∷ outs) = Err (status.NoWord lane syndrome)

-- the members of a mask, by index
abbrev pub members_in : ℕ → ℕ → List ℕ
members_in mask n = filter (has mask) (range_with_len 1 n)

-- ---- the plan, with these seeds, under masks that the phase allows; or a refusal
abbrev pub PlansMove : Standing → ℕ → ℕ → List (List ℕ) → (ℕ → ℕ) → Result Plan Status → Type 0
PlansMove st m u seeds cuts (Ok plan) =
    (masks : List ℕ) × AreMoveMasks st m u seeds cuts masks × EndsMove st m u masks (play_moved st m u seeds masks) (outcome_of (seeds_for st) plan)
PlansMove st m u seeds cuts (Err status) =
    cause_of status ≡ Refusal → (masks : List ℕ) × AreMoveMasks st m u seeds cuts masks × EndsMove st m u masks (play_moved st m u seeds masks) (refused_after (seeds_for st) status)
