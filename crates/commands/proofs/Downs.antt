-- Who is down after a phase of a move, by the marks that were made of its seats before it.
use Rattle.std.proofs.Common.{◌≡◌, ℕ, ◌+◌, ◌-◌, ◌≤◌, Bool, ◌||◌, not, cond, List, length, Result, Ok, Err, sym, ap, ap₂, ◌∙◌, arith}
use Rattle.std.specs.Prelude.{nat_lt}
use Rattle.std.proofs.lemmas.List.FromFn.{length-map-range_with_len}
use Rattle.sharing61.proofs.Count.{how_many_same}
use Rattle.keyroom.specs.declared.status.Status.{Status}
use Rattle.keyroom.specs.declared.status.Status.TheVariants.{TooFewSound}
use Rattle.keyroom.specs.Causes.{Cause, Done, Refusal, Shelf, Entropy, Crew, Sink, Memory, cause_of}
use Rattle.keyroom.specs.Steps.{◌and_then◌}
use Rattle.commands.specs.Causes.{IsOfCrew, IsFromCrew, IsOfWork, IsFromWork, IsOfPhase, IsFromPhase}
use Rattle.commands.specs.Late.{in_each, down_after, enough_after}
use Rattle.commands.specs.Move.{down_moving, play_moved, new_down, enough_moved}
use Rattle.commands.specs.MovePhase.{both_enough}
use Rattle.commands.specs.Phase.{marked, marks_of}
use Rattle.commands.specs.Standing.{Standing}
use Rattle.commands.proofs.Phases.{marks_right, range_same}

-- tests that agree on the members leave as many
pub enough_same : (n t : ℕ) (f g : ℕ → Bool) → ((j : ℕ) → 1 ≤ j → j ≤ n → f j ≡ g j) → enough_after n t f ≡ enough_after n t g
enough_same n t f g agree =
    ap (λ (d : ℕ). let r : Result ℕ Status = cond (nat_lt (n - d) (n - t)) (Err (TooFewSound (n - d) (n - t))) (Ok (n - d)) in r) (how_many_same n f g agree)

-- marks tell who is down after the phase too
pub marked_after : (down : ℕ → Bool) (count : ℕ) (before : List Bool) (masks : List ℕ) → before ≡ marks_of down count → (seat : ℕ) → 1 ≤ seat → seat ≤ count → down_after (marked before) masks seat ≡ down_after down masks seat
marked_after down count before masks are seat from to =
    ap (λ (b : Bool). b || not (in_each masks seat)) (ap (λ (marks : List Bool). marked marks seat) are ∙ marks_right down count seat from to)

module _ (st : Standing) (m u : ℕ) (seeds : List (List ℕ)) (before : List Bool) (masks : List ℕ) (are : before ≡ marks_of (down_moving st) (st.now.n + m)) where
  pub length-before : length before ≡ st.now.n + m
  length-before = ap length are ∙ length-map-range_with_len (down_moving st) 1 (st.now.n + m)

  seat_after : (seat : ℕ) → 1 ≤ seat → seat ≤ st.now.n + m → down_after (marked before) masks seat ≡ (play_moved st m u seeds masks).down seat
  seat_after seat from to = marked_after (down_moving st) (st.now.n + m) before masks are seat from to

  -- of the new members
  pub behind_after : (n : ℕ) (marks : List Bool) → n ≡ st.now.n → marks ≡ marks_of (λ j. down_after (marked before) masks (n + j)) m → marks ≡ marks_of (new_down (play_moved st m u seeds masks)) m
  behind_after n marks same is =
      is ∙ ap (λ (k : ℕ). marks_of (λ j. down_after (marked before) masks (k + j)) m) same
      ∙ range_same (λ j. down_after (marked before) masks (st.now.n + j)) (new_down (play_moved st m u seeds masks)) 1 m (λ j from to. seat_after (st.now.n + j) (omega (arith, from)) (omega (arith, to)))

  -- and so many are left
  pub left_after : (n t : ℕ) → n ≡ st.now.n → t ≡ st.now.t → both_enough n t m u (down_after (marked before) masks) ≡ enough_moved st m u (play_moved st m u seeds masks)
  left_after n t same bound =
      ap₂ (λ (k b : ℕ). both_enough k b m u (down_after (marked before) masks)) same bound
      ∙ ap₂ (λ (old new : Result ℕ Status). old and_then λ left. new)
      (enough_same st.now.n st.now.t (down_after (marked before) masks) (play_moved st m u seeds masks).down (λ j from to. seat_after j from (omega (arith, to))))
      (enough_same m u (λ j. down_after (marked before) masks (st.now.n + j)) (new_down (play_moved st m u seeds masks)) (λ j from to. seat_after (st.now.n + j) (omega (arith, from)) (omega (arith, to))))

-- ---- marks of all seats, and of those behind the first n
module _ (down : ℕ → Bool) (count n m : ℕ) (within : n + m ≤ count) where
  pub agree_old : (marks : List Bool) → marks ≡ marks_of down count → (j : ℕ) → 1 ≤ j → j ≤ n → down j ≡ marked marks j
  agree_old marks are j from to = sym (ap (λ (xs : List Bool). marked xs j) are ∙ marks_right down count j from (omega (arith, to, within)))

  pub agree_new : (marks : List Bool) → marks ≡ marks_of (λ j. down (n + j)) m → (j : ℕ) → 1 ≤ j → j ≤ m → down (n + j) ≡ marked marks j
  agree_new marks are j from to = sym (ap (λ (xs : List Bool). marked xs j) are ∙ marks_right (λ (k : ℕ). down (n + k)) m j from to)

  pub marks_still : (all marks : List Bool) → all ≡ marks_of down count → marks ≡ marks_of (λ j. marked all (n + j)) m → marks ≡ marks_of (λ j. down (n + j)) m
  marks_still all marks are is =
      is ∙ range_same (λ j. marked all (n + j)) (λ j. down (n + j)) 1 m
      (λ j from to. ap (λ (xs : List Bool). marked xs (n + j)) are ∙ marks_right down count (n + j) (omega (arith, from)) (omega (arith, to, within)))

-- the steps behind the phase, one after the other
pub old_refused : (n t m u : ℕ) (down marks : ℕ → Bool) (status : Status) → ((j : ℕ) → 1 ≤ j → j ≤ n → down j ≡ marks j) → enough_after n t marks ≡ Err status → both_enough n t m u down ≡ Err status
old_refused n t m u down marks status agree e = ap (λ (r : Result ℕ Status). r and_then λ left. enough_after m u (λ j. down (n + j))) (enough_same n t down marks agree ∙ e)

pub both_are : (n t m u left : ℕ) (down marks behind : ℕ → Bool) (end : Result ℕ Status) → ((j : ℕ) → 1 ≤ j → j ≤ n → down j ≡ marks j) → ((j : ℕ) → 1 ≤ j → j ≤ m → down (n + j) ≡ behind j) →
    enough_after n t marks ≡ Ok left → enough_after m u behind ≡ end → both_enough n t m u down ≡ end
both_are n t m u left down marks behind end agree more e f =
    ap₂ (λ (old new : Result ℕ Status). old and_then λ k. new) (enough_same n t down marks agree ∙ e) (enough_same m u (λ j. down (n + j)) behind more ∙ f)

-- ---- what a phase refuses with
work_phase : (c : Cause) → IsOfWork c → IsOfPhase c × (c ≡ Crew → ⊥)
work_phase Done by = absurd by
work_phase Refusal by = (tt, λ (e : Refusal ≡ Crew). cc)
work_phase Shelf by = absurd by
work_phase Entropy by = absurd by
work_phase Crew by = absurd by
work_phase Sink by = absurd by
work_phase Memory by = (tt, λ (e : Memory ≡ Crew). cc)

pub phase_of_work : (crew worked : ℕ) (s : Status) → IsFromWork s → IsFromPhase crew worked s
phase_of_work crew worked s h =
    let by = work_phase (cause_of s) h.by in
    record { crew = λ e. absurd (by.1 e); by = by.0; read = h.read }

crew_no_refusal : (c : Cause) → IsOfCrew c → c ≡ Refusal → ⊥
crew_no_refusal Done by e = by
crew_no_refusal Refusal by e = by
crew_no_refusal Shelf by e = by
crew_no_refusal Entropy by e = by
crew_no_refusal Crew by e = cc
crew_no_refusal Sink by e = by
crew_no_refusal Memory by e = cc

pub crew_refuses_nothing : (crew worked : ℕ) (s : Status) → IsFromCrew crew worked s → cause_of s ≡ Refusal → ⊥
crew_refuses_nothing crew worked s h e = crew_no_refusal (cause_of s) h.by e
