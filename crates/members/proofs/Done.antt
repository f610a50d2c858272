-- After five rounds a mind whose member hears each round is done, whatever it says.
use Rattle.std.proofs.Common.{◌≡◌, ℕ, suc, ◌+◌, ◌≤◌, List, [], ◌∷◌, length, All, refl, sym, subst, arith}
use Rattle.std.proofs.lemmas.List.Elements.{All-nil, All-cons, All-head, All-tail}
use Rattle.algebra61.specs.Field.{Fp}
use Rattle.talk.specs.declared.messages.Say.{Say}
use Rattle.talk.specs.declared.messages.Heard.{Heard}
use Rattle.talk.specs.Shape.{Shape}
use Rattle.talk.specs.Sync.{Ways, words_of, after_words, after_hears, after_round, sync, heard_at}
use Rattle.plays.specs.Stage.{Stage, AtReady, AtDealt, AtCrossed, AtComplained, AtRevealed, AtDone, stage_after, receiver_at}
use Rattle.members.specs.Member.{Member, member_after_hear, member_ways}
use Rattle.members.specs.Shares.{IsDone}
use Rattle.members.specs.Laws.{AreDone}

-- the stage before round k + 1
abbrev AtTurn : ℕ → Stage → Type 0
AtTurn k AtReady = k ≡ 0
AtTurn k (AtDealt ps) = k ≡ 1
AtTurn k (AtCrossed ps cs) = k ≡ 2
AtTurn k (AtComplained ps third) = k ≡ 3
AtTurn k (AtRevealed ps fourth votes) = k ≡ 4
AtTurn k (AtDone ps acc) = 5 ≤ k

turn_next : (s : Shape) (me : ℕ) (own : List (List (List Fp))) (h : Heard) (stage : Stage) (k : ℕ) → AtTurn k stage → AtTurn (k + 1) (stage_after s me own h stage)
turn_next s me own h AtReady k e = omega (arith, e)
turn_next s me own h (AtDealt ps) k e = omega (arith, e)
turn_next s me own h (AtCrossed ps cs) k e = omega (arith, e)
turn_next s me own h (AtComplained ps third) k e = omega (arith, e)
turn_next s me own h (AtRevealed ps fourth votes) k e = omega (arith, e)
turn_next s me own h (AtDone ps acc) k e = omega (arith, e)

turn_done : (stage : Stage) → AtTurn 5 stage → IsDone stage
turn_done AtReady e = absurd (omega (arith, e))
turn_done (AtDealt ps) e = absurd (omega (arith, e))
turn_done (AtCrossed ps cs) e = absurd (omega (arith, e))
turn_done (AtComplained ps third) e = absurd (omega (arith, e))
turn_done (AtRevealed ps fourth votes) e = absurd (omega (arith, e))
turn_done (AtDone ps acc) e = tt

module _ {M : Type 0} where
  -- the member in a mind hears each round as a member does
  pub record Hears (w : Ways M) (inner : M → Member) : Type 0 where
    pub hears : (m : M) (round : ℕ) (h : Heard) → inner (w.after_hear (w.after_say m round) round h) ≡ member_after_hear (inner m) round h

  -- every mind's member is at the turn k
  abbrev EachTurn : (M → Member) → ℕ → List M → Type 0
  EachTurn inner k [] = Unit {0}
  EachTurn inner k (m ∷ ms) = AtTurn k (inner m).stage × EachTurn inner k ms

  turns_hear : (w : Ways M) (inner : M → Member) → Hears w inner → (s : Shape) (round mask : ℕ) (ws : List Say) (seat k : ℕ) (ms : List M) → EachTurn inner k ms →
      EachTurn inner (k + 1) (after_hears w s round mask ws seat (after_words w round ms))
  turns_hear w inner law s round mask ws seat k [] t = tt
  turns_hear w inner law s round mask ws seat k (m ∷ ms) t = (
    subst (λ (c : Member). AtTurn (k + 1) c.stage) (sym (law.hears m round (heard_at s round mask ws seat)))
        (turn_next (inner m).shape (receiver_at (inner m).shape (inner m).seat) (inner m).grids (heard_at s round mask ws seat) (inner m).stage k t.0),
    turns_hear w inner law s round mask ws (seat + 1) k ms t.1,
  )

  turns_sync : (w : Ways M) (inner : M → Member) → Hears w inner → (s : Shape) (round k : ℕ) (masks : List ℕ) (ms : List M) → EachTurn inner k ms → EachTurn inner (k + length masks) (sync w s round masks ms)
  turns_sync w inner law s round k [] ms t = let e : k ≡ k + 0 = omega arith in subst (λ (n : ℕ). EachTurn inner n ms) e t
  turns_sync w inner law s round k (mask ∷ masks) ms t =
      let e : (k + 1) + length masks ≡ k + suc (length masks) = omega arith in
      subst (λ (n : ℕ). EachTurn inner n (sync w s (round + 1) masks (after_round w s round mask ms))) e
      (turns_sync w inner law s (round + 1) (k + 1) masks (after_round w s round mask ms) (turns_hear w inner law s round mask (words_of w round ms) 1 k ms t))

  turns_ready : (inner : M → Member) (ms : List M) → All (λ (m : M). (inner m).stage ≡ AtReady) ms → EachTurn inner 0 ms
  turns_ready inner [] h = tt
  turns_ready inner (m ∷ ms) h = (subst (AtTurn 0) (sym (All-head (λ (x : M). (inner x).stage ≡ AtReady) m ms h)) refl, turns_ready inner ms (All-tail (λ (x : M). (inner x).stage ≡ AtReady) m ms h))

  turns_done : (inner : M → Member) (k : ℕ) (ms : List M) → k ≡ 5 → EachTurn inner k ms → All (λ (m : M). IsDone (inner m).stage) ms
  turns_done inner k [] e t = All-nil (λ (m : M). IsDone (inner m).stage)
  turns_done inner k (m ∷ ms) e t =
      All-cons (λ (x : M). IsDone (inner x).stage) m ms (turn_done (inner m).stage (subst (λ (n : ℕ). AtTurn n (inner m).stage) e t.0)) (turns_done inner k ms e t.1)

  pub done_after : (w : Ways M) (inner : M → Member) → Hears w inner → (s : Shape) (masks : List ℕ) (ms : List M) → length masks ≡ 5 → All (λ (m : M). (inner m).stage ≡ AtReady) ms →
      All (λ (m : M). IsDone (inner m).stage) (sync w s 1 masks ms)
  done_after w inner law s masks ms five h =
      turns_done inner (0 + length masks) (sync w s 1 masks ms) (omega (arith, five)) (turns_sync w inner law s 1 0 masks ms (turns_ready inner ms h))

pub members_hear : Hears member_ways (λ (m : Member). m)
members_hear = record { hears = λ m round h. refl }

pub are_done : AreDone
are_done s masks ms five h = done_after member_ways (λ (m : Member). m) members_hear s masks ms five h
