-- The plan of a command that begins a period is its outcome.
use Rattle.std.proofs.Common.{◌≡◌, inl, inr, ℕ, ◌≤◌, ◌-◌, Bool, Option, Ok, Err, List, [], ◌∷◌, ◌++◌, length, map, not, refl, sym, ap, ◌∙◌, arith, subst}
use Rattle.std.specs.List.{range_with_len, filter}
use Rattle.std.proofs.lemmas.List.FromFn.{length-map-range_with_len}
use Rattle.algebra61.specs.Field.{Fp}
use Rattle.sharing61.specs.Count.{how_many}
use Rattle.shelf.specs.Held as shelf
use Rattle.shelf.specs.Held.{Put}
use Rattle.sharefile.specs.Files.{Now, now_bytes}
use Rattle.plays.specs.Play.{Play}
use Rattle.members.specs.Shares.{accepted_count}
use Rattle.periods.specs.Move.{IsMove}
use Rattle.keyroom.specs.declared.plan.Plan.{Plan}
use Rattle.keyroom.specs.declared.status.Status.{Status}
use Rattle.keyroom.specs.Causes.{Cause, Done, Refusal, Shelf, Entropy, Crew, Sink, Memory, cause_of}
use Rattle.keyroom.specs.Names.{now_name}
use Rattle.keyroom.specs.Texts.{move_text}
use Rattle.keyroom.specs.Outcome.{done_with, AreFirst}
use Rattle.commands.specs.declared.moving_phase.Moved.{Moved}
use Rattle.commands.specs.Late.{refused_after}
use Rattle.commands.specs.Planning.{Took, StopsBefore, PlansWith}
use Rattle.commands.specs.Causes.{IsOfPhase, IsFromPhase}
use Rattle.commands.specs.Links.{following_now}
use Rattle.commands.specs.Move.{play_moved, new_down, moved_shares, moved_now, move_changes, moved_text, enough_moved, EndsOpened, EndsMove, Moves}
use Rattle.commands.specs.MovePhase.{MayMove, IsMovePhase, RefusesPhase, shares_at, first_end, members_in, PlansMove}
use Rattle.commands.specs.Period.{removals, put_with, up_members, period_changes, next_changes}
use Rattle.commands.specs.Phase.{next_with, unless_down, shares_given, indexes_of, period_with, marked, marks_of}
use Rattle.commands.specs.Standing.{Standing, seeds_for}
use Rattle.commands.proofs.Given.{given_same}
use Rattle.commands.proofs.Left.{both_left, after_ok, after_refused}
use Rattle.commands.proofs.Links.{following_same}
use Rattle.commands.proofs.Movers.{CanMove, can_move, proper_move}
use Rattle.commands.proofs.Outs.{outs_shares, FirstEnd, outs_end, corrected_same}
use Rattle.commands.proofs.Phases.{marks_right, SomeUp, some_up}
use Rattle.commands.proofs.Pushing.{done_same}

map-same : (xs : List ℕ) → map (λ i. i) xs ≡ xs
map-same [] = refl
map-same (x ∷ xs) = ap (λ (ys : List ℕ). x ∷ ys) (map-same xs)

pub period_same : (now : Now) (down : ℕ → Bool) (lanes : ℕ → List Fp) (shares : List (Option (List Fp))) → shares ≡ shares_given down lanes now.n → period_with now shares ≡ period_changes now down lanes
period_same now down lanes shares e =
    ap (period_with now) e
    ∙ ap (λ (puts : List shelf.Change). removals now.name now.period ++ (puts ++ Put (now_name now.name) (now_bytes now) ∷ []))
    (given_same (put_with now) lanes down 1 now.n)

pub next_period_same : (before now : Now) (down : ℕ → Bool) (lanes : ℕ → List Fp) (shares : List (Option (List Fp))) → shares ≡ shares_given down lanes now.n → next_with before now shares ≡ next_changes before now down lanes
next_period_same before now down lanes shares e =
    ap (λ (cs : List shelf.Change). removals before.name (before.period - 1) ++ (cs ++ removals before.name before.period)) (period_same now down lanes shares e)

pub indexes_same : (down : ℕ → Bool) (lanes : ℕ → List Fp) (n : ℕ) → indexes_of 1 (shares_given down lanes n) ≡ up_members n down
indexes_same down lanes n = given_same (λ i x. i) lanes down 1 n ∙ map-same (filter (λ j. not (down j)) (range_with_len 1 n))

pub length-shares : (down : ℕ → Bool) (lanes : ℕ → List Fp) (n : ℕ) (shares : List (Option (List Fp))) → shares ≡ shares_given down lanes n → length shares ≡ n
length-shares down lanes n shares e = ap length e ∙ length-map-range_with_len _ 1 n

-- ---- a move
move_text_same : (old now made : Now) (masks : List ℕ) (a b : ℕ) (c d e f : List ℕ) → now ≡ made → a ≡ b → c ≡ d → e ≡ f → move_text old now masks a c e ≡ move_text old made masks b d f
move_text_same old now made masks a b c d e f h i j k = rw (h, i, j, k) refl

module _ (st : Standing) (m u : ℕ) (may : MayMove st m u) (seeds : List (List ℕ)) (cuts : ℕ → ℕ) (moved : Moved) (is : IsMovePhase st m u seeds cuts moved) where
  abbrev play : Play
  play = play_moved st m u seeds moved.masks

  can : CanMove st m u
  can = can_move st m u may

  -- enough members are left
  pub phase_few : how_many m (new_down (play_moved st m u seeds moved.masks)) ≤ u
  phase_few = (both_left st m u is.left play (omega (arith, can.old.third, can.old.some_bad)) (omega (arith, can.new.third, can.new.some_bad)) is.enough).1

  move : IsMove st.now.t play
  move = proper_move st m u can seeds cuts moved.masks is.masks phase_few

  end : FirstEnd play (first_end moved.outs.items)
  end =
      let some : SomeUp (new_down play) 1 m = some_up (new_down play) m (omega (arith, phase_few, can.new.third)) in
      outs_end play 1 moved.outs.items is.outs (subst (SomeUp (new_down play) 1) (sym is.all) some)

  -- where it has no result
  pub refused_move : (status : Status) → first_end moved.outs.items ≡ Err status → EndsMove st m u moved.masks (play_moved st m u seeds moved.masks) (refused_after (seeds_for st) status)
  refused_move status e =
      let none = subst (FirstEnd play) e end in
      after_ok (seeds_for st) (enough_moved st m u play) is.left (λ left. EndsOpened st m u moved.masks play) (refused_after (seeds_for st) status) is.enough
      (inr (none.0, none.1, none.2, ap (refused_after (seeds_for st)) none.3))

  -- where it has one
  module _ (mask : ℕ) (first : first_end moved.outs.items ≡ Ok mask) where
    one : FirstEnd play (Ok mask)
    one = subst (FirstEnd play) first end

    now_is : (now : Now) → now ≡ following_now st.now m u (marked moved.down.items) → now ≡ moved_now st m u play
    now_is now e =
        e ∙ ap (λ (marks : List Bool). following_now st.now m u (marked marks)) is.down
        ∙ following_same st.now m u (marked (marks_of (new_down play) m)) (new_down play) (marks_right (new_down play) m)

    shares_are : map shares_at moved.outs.items ≡ shares_given (new_down play) (moved_shares play one.0) m
    shares_are =
        outs_shares st.now.t play move one.0 one.1 1 moved.outs.items is.outs
        ∙ ap (λ (n : ℕ). map (λ k. unless_down (new_down play k) (moved_shares play one.0 k)) (range_with_len 1 n)) is.all

    pub planned_move : (now : Now) (shares : List (Option (List Fp))) (changes : List shelf.Change) (text : List ℕ) →
        now ≡ following_now st.now m u (marked moved.down.items) → shares ≡ map shares_at moved.outs.items → changes ≡ next_with st.now now shares →
        text ≡ move_text st.now now moved.masks moved.accepted (members_in mask st.now.n) (indexes_of 1 shares) →
        EndsMove st m u moved.masks (play_moved st m u seeds moved.masks) (done_with (seeds_for st) changes text)
    planned_move now shares changes text e f c t =
        let given = f ∙ shares_are in
        after_ok (seeds_for st) (enough_moved st m u play) is.left (λ left. EndsOpened st m u moved.masks play) (done_with (seeds_for st) changes text) is.enough
        (inl (
          one.0,
          one.1,
          done_same (seeds_for st) changes (move_changes st m u play one.0) text (moved_text st m u moved.masks play one.0)
              (c ∙ ap (λ (x : Now). next_with st.now x shares) (now_is now e) ∙ next_period_same st.now (moved_now st m u play) (new_down play) (moved_shares play one.0) shares given)
              (t ∙ move_text_same st.now now (moved_now st m u play) moved.masks moved.accepted (accepted_count play) _ _ _ _ (now_is now e) is.accepted
              (corrected_same st.now.n one.0 mask one.2) (ap (indexes_of 1) given ∙ indexes_same (new_down play) (moved_shares play one.0) m)),
        ))

-- where too few are left the refusal is what is meant
pub refused_few : (st : Standing) (m u : ℕ) (seeds : List (List ℕ)) (cuts : ℕ → ℕ) (status : Status) → RefusesPhase st m u seeds cuts status → PlansMove st m u seeds cuts (Err status)
refused_few st m u seeds cuts status refuses is =
    let r = refuses is in
    (r.0, r.1, after_refused (seeds_for st) (enough_moved st m u (play_moved st m u seeds r.0)) status (λ left. EndsOpened st m u r.0 (play_moved st m u seeds r.0)) r.2)

-- with the seeds taken it is what a move means
module _ (st : Standing) (m u : ℕ) (seeds others : List (List ℕ)) (cuts : ℕ → ℕ) (coming comes : Option (List (List ℕ))) (count : ℕ) (same : others ≡ seeds) (all : length seeds ≡ count) (enough : count ≡ seeds_for st)
    (first : AreFirst seeds coming) (took : Took count coming comes) where
  pub move_planned : (plan : Plan) → PlansMove st m u others cuts (Ok plan) → PlansWith (λ o. (masks : List ℕ) × Moves m u coming cuts masks st o) (λ k. k ≡ seeds_for st) coming comes (Ok plan)
  move_planned plan is =
      let made = subst (λ (xs : List (List ℕ)). PlansMove st m u xs cuts (Ok plan)) same is in
      (seeds_for st, (made.0, (seeds, all ∙ enough, first, made.1, made.2)), subst (λ (k : ℕ). Took k coming comes) enough took)

  refused_by : (status : Status) (cause : Cause) → cause_of status ≡ cause → IsOfPhase cause → PlansMove st m u others cuts (Err status) →
      StopsBefore (λ o. (masks : List ℕ) × Moves m u coming cuts masks st o) (λ k. k ≡ seeds_for st) coming comes status cause
  refused_by status Done e by is = absurd by
  refused_by status Refusal e by is =
      let made = subst (λ (xs : List (List ℕ)). PlansMove st m u xs cuts (Err status)) same is e in
      (seeds_for st, (made.0, (seeds, all ∙ enough, first, made.1, made.2)), subst (λ (k : ℕ). Took k coming comes) enough took)
  refused_by status Shelf e by is = absurd by
  refused_by status Entropy e by is = absurd by
  refused_by status Crew e by is = (count, enough, took)
  refused_by status Sink e by is = absurd by
  refused_by status Memory e by is = inr (count, enough, (count, omega arith, took))

  pub move_refused : (crew worked : ℕ) (status : Status) → IsFromPhase crew worked status → PlansMove st m u others cuts (Err status) → PlansWith (λ o. (masks : List ℕ) × Moves m u coming cuts masks st o) (λ k. k ≡ seeds_for st) coming comes (Err status)
  move_refused crew worked status from is = refused_by status (cause_of status) refl from.by is
