-- A run of a drawn move, in which nobody is cut: whom it leaves, and the record that is made of it.
use Rattle.std.proofs.Common.{◌≡◌, ℕ, ◌+◌, ◌-◌, ◌^◌, ◌<◌, ◌≤◌, Bool, cond, List, Option, Result, Ok, Err, refl, sym, ap, ◌∙◌, subst, arith}
use Rattle.algebra61.specs.Field.{Fp}
use Rattle.sharing61.specs.Count.{how_many}
use Rattle.sharing61.proofs.Count.{how_many_same}
use Rattle.talk.specs.Shape.{seats}
use Rattle.talk.specs.Sync.{nobody}
use Rattle.plays.specs.Play.{Play}
use Rattle.plays.specs.Law.{IsPlay}
use Rattle.members.specs.Shares.{accepted_count}
use Rattle.playback.specs.declared.phase.Phase.{Phase}
use Rattle.playback.specs.Recorded.{play_of}
use Rattle.hearsay.specs.Said.{Marks, said_in}
use Rattle.keyroom.specs.declared.status.Status.{Status}
use Rattle.keyroom.specs.declared.status.Status.TheVariants.{TooFewSound}
use Rattle.keyroom.specs.Causes.{Cause, Done, Refusal, Shelf, Entropy, Crew, Sink, Memory, cause_of}
use Rattle.keyroom.specs.Steps.{◌and_then◌}
use Rattle.commands.specs.Causes.{IsOfCrew, IsFromCrew, IsOfPhase, IsFromPhase}
use Rattle.commands.specs.Late.{down_after, enough_after}
use Rattle.commands.specs.Move.{AreMoveMasks, down_moving, enough_moved, moving_of, new_down, play_moved}
use Rattle.commands.specs.MovePhase.{RefusesPhase}
use Rattle.commands.specs.Standing.{Standing}
use Rattle.commands.proofs.Late.{not_less}
use Rattle.scenes.specs.declared.side.Side.{Side}
use Rattle.scenes.specs.declared.scene.Scene.TheVariants.{Move}
use Rattle.scenes.specs.Law.{AreSides}
use Rattle.scenes.specs.Lawful.{AreOrders}
use Rattle.scenes.specs.Orders.{shape_of}
use Rattle.rehearsal_laws.specs.Down.{down_on}
use Rattle.rehearsal_laws.specs.Played.{AreUncut, IsPlayed, kind_in, play_under}
use Rattle.rehearsal_laws.specs.Standing.{later_seeds, standing_before}
use Rattle.rehearsal_laws.proofs.Downs.{few_beginners, few_receivers}
use Rattle.rehearsal_laws.proofs.Moved.{move_down, move_is_play}
use Rattle.recorder.specs.Begun.{HaveShares}
use Rattle.recorder.specs.Dealt.{AreGridsOf}
use Rattle.recorder.proofs.Recording.{AreDown, IsReadOff, as_many, marks_down, record_made}

-- ---- refusals
-- where few are down enough are left
enough_left : (n t : ℕ) (down : ℕ → Bool) → how_many n down ≤ t → enough_after n t down ≡ Ok (n - how_many n down)
enough_left n t down few =
    ap (λ (b : Bool). let r : Result ℕ Status = cond b (Err (TooFewSound (n - how_many n down) (n - t))) (Ok (n - how_many n down)) in r) (not_less (n - how_many n down) (n - t) (omega (arith, few)))

-- on both sides
both_enough : (st : Standing) (m u : ℕ) (p : Play) → how_many st.now.n p.down ≤ st.now.t → how_many m (new_down p) ≤ u → enough_moved st m u p ≡ Ok (m - how_many m (new_down p))
both_enough st m u p old new =
    ap (λ (r : Result ℕ Status). r and_then λ left. enough_after m u (new_down p)) (enough_left st.now.n st.now.t p.down old) ∙ enough_left m u (new_down p) new

-- a phase that doesn't refuse by what it was given is refused by the crew, or for want of memory
crew_else : (cause : Cause) → IsOfPhase cause → (cause ≡ Refusal → ⊥) → IsOfCrew cause
crew_else Done by never = absurd by
crew_else Refusal by never = absurd (never refl)
crew_else Shelf by never = absurd by
crew_else Entropy by never = absurd by
crew_else Crew by never = tt
crew_else Sink by never = absurd by
crew_else Memory by never = tt

-- ---- a drawn move
module _ (number place : ℕ) (old new : Side) (shares : List (Option (List Fp))) (have : HaveShares old shares) (sides : AreSides (Move old new)) (told : AreOrders (Move old new)) where
  abbrev IsDownUnder : List (Option (List Fp)) → Type 0
  IsDownUnder shares = (masks : List ℕ) → AreUncut number place (Move old new) shares masks → AreDown (Move old new) (play_under number place (Move old new) shares masks).down

  abbrev IsPlayUnder : List (Option (List Fp)) → Type 0
  IsPlayUnder shares = (masks : List ℕ) → AreUncut number place (Move old new) shares masks → IsPlay (play_under number place (Move old new) shares masks)

  are_down : IsDownUnder shares
  are_down = subst IsDownUnder (sym have.1) (λ masks uncut. move_down number place old new have.0 sides told masks uncut)

  is_play : IsPlayUnder shares
  is_play = subst IsPlayUnder (sym have.1) (λ masks uncut. move_is_play number place old new have.0 sides told masks uncut)

  -- the play over what was found and drawn
  play_at : (st : Standing) (seeds : List (List ℕ)) → st ≡ standing_before place (Move old new) shares → seeds ≡ later_seeds number place old → (masks : List ℕ) →
      play_moved st new.members new.bound seeds masks ≡ play_under number place (Move old new) shares masks
  play_at st seeds found drawn masks = ap (λ (z : Standing × List (List ℕ)). play_moved z.0 new.members new.bound z.1 masks) (λ i. (found i, drawn i))

  -- what was found and drawn is that of the phase, and nobody was cut
  module _ (st : Standing) (seeds : List (List ℕ)) (cuts : ℕ → ℕ) (found : st ≡ standing_before place (Move old new) shares) (drawn : seeds ≡ later_seeds number place old) (none : cuts ≡ nobody) where
    uncut_here : (masks : List ℕ) → AreMoveMasks st new.members new.bound seeds cuts masks → AreUncut number place (Move old new) shares masks
    uncut_here masks allowed =
        subst (λ (s : Standing). AreMoveMasks s new.members new.bound (later_seeds number place old) nobody masks) found
        (subst (λ (drawn : List (List ℕ)). AreMoveMasks st new.members new.bound drawn nobody masks) drawn
        (subst (λ (cut : ℕ → ℕ). AreMoveMasks st new.members new.bound seeds cut masks) none allowed))

    -- the mask of who is down marks who is down in the play
    pub marks_here : (masks : List ℕ) (mask : ℕ) → AreMoveMasks st new.members new.bound seeds cuts masks → Marks (shape_of (Move old new)) mask (down_on (Move old new)) →
        Marks (moving_of st new.members new.bound) mask (down_after (down_moving st) masks)
    marks_here masks mask allowed marks =
        subst (λ (s : Standing). Marks (moving_of s new.members new.bound) mask (down_after (down_moving s) masks)) (sym found)
        (marks_down (Move old new) mask (play_under number place (Move old new) shares masks).down marks (are_down masks (uncut_here masks allowed)))

    -- enough are left on both sides
    left_here : (masks : List ℕ) → AreUncut number place (Move old new) shares masks →
        enough_moved (standing_before place (Move old new) shares) new.members new.bound (play_under number place (Move old new) shares masks) ≡ Ok (new.members - how_many new.members (new_down (play_under number place (Move old new) shares masks)))
    left_here masks uncut =
        let play : Play = play_under number place (Move old new) shares masks in
        both_enough (standing_before place (Move old new) shares) new.members new.bound play
        (omega (
          arith,
          how_many_same old.members play.down (down_on (Move old new)) (λ seat from to. are_down masks uncut seat from (omega (arith, to))),
          few_beginners (Move old new) tt sides,
        ))
        (omega (
          arith,
          how_many_same new.members (new_down play) (λ member. down_on (Move old new) (old.members + member)) (λ member from to. are_down masks uncut (old.members + member) (omega (arith, from)) (omega (arith, to))),
          few_receivers (Move old new) sides,
        ))

    never_few : (masks : List ℕ) (status : Status) → AreMoveMasks st new.members new.bound seeds cuts masks → enough_moved st new.members new.bound (play_moved st new.members new.bound seeds masks) ≡ Err status → ⊥
    never_few masks status allowed few =
        let there : enough_moved (standing_before place (Move old new) shares) new.members new.bound (play_under number place (Move old new) shares masks) ≡ Err status =
        subst (λ (s : Standing). enough_moved s new.members new.bound (play_under number place (Move old new) shares masks) ≡ Err status) found
        (subst (λ (p : Play). enough_moved st new.members new.bound p ≡ Err status) (play_at st seeds found drawn masks) few) in
        let e = sym (left_here masks (uncut_here masks allowed)) ∙ there in cc

    -- so it refuses as its crew does
    pub by_crew : (before now : ℕ) (status : Status) → RefusesPhase st new.members new.bound seeds cuts status → IsFromPhase before now status → IsFromCrew before now status
    by_crew before now status few from =
        let never : cause_of status ≡ Refusal → ⊥ = λ refusal. let r = few refusal in never_few r.0 status r.1 r.2 in
        record { crew = from.crew; by = crew_else (cause_of status) from.by never }

    -- ---- the record
    -- what is heard, and the grids that are dealt, are those of the play
    module _ (masks : List ℕ) (phase : Phase) (allowed : AreMoveMasks st new.members new.bound seeds cuts masks) (kind : phase.kind ≡ kind_in (Move old new)) (setting : phase.setting ≡ shape_of (Move old new))
        (seated : phase.down < 2 ^ seats (shape_of (Move old new))) (marks : Marks (shape_of (Move old new)) phase.down (down_on (Move old new)))
        (hearing dealing : List (List ℕ)) (heard : hearing ≡ later_seeds number place old) (dealt : dealing ≡ later_seeds number place old)
        (grids : AreGridsOf (Move old new) (play_moved (standing_before place (Move old new) shares) new.members new.bound dealing masks) phase.grids)
        (said : phase.said ≡ said_in (play_moved st new.members new.bound hearing masks)) where
      abbrev play : Play
      play = play_under number place (Move old new) shares masks

      uncut : AreUncut number place (Move old new) shares masks
      uncut = uncut_here masks allowed

      read : IsReadOff (Move old new) play phase
      read = record {
        kind = kind;
        setting = setting;
        seated = seated;
        marks = marks;
        grids = subst (λ (drawn : List (List ℕ)). AreGridsOf (Move old new) (play_moved (standing_before place (Move old new) shares) new.members new.bound drawn masks) phase.grids) dealt grids;
        said = said ∙ ap (λ (p : Play). said_in p) (play_at st hearing found heard masks);
      }

      pub move_played : IsPlayed number place (Move old new) shares phase
      move_played = record {
        masks = masks;
        uncut = uncut;
        record_is = record_made (Move old new) play phase (is_play masks uncut) refl (are_down masks uncut) read;
      }

      pub move_counted : (accepted : ℕ) → accepted ≡ accepted_count (play_moved st new.members new.bound seeds masks) → accepted ≡ accepted_count (play_of phase)
      move_counted accepted is =
          is ∙ ap (λ (p : Play). accepted_count p) (play_at st seeds found drawn masks)
          ∙ sym (as_many (Move old new) play phase (is_play masks uncut) refl (are_down masks uncut) read)
