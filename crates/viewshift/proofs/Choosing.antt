-- What is had from the other choices of a history: room for the products, the wished key, the same views, and the way back.
use Rattle.std.proofs.Common.{◌≡◌, ℕ, zero, suc, ◌+◌, ◌-◌, ◌<◌, ◌≤◌, ◌↔◌, Bool, List, [], ◌++◌, length, get_or, refl, sym, ap, ap₂, ◌∙◌, subst, arith}
use Rattle.algebra61.specs.Field.{Fp, zeroₚ, ◌+ₚ◌, ◌-ₚ◌}
use Rattle.algebra61.proofs.Ring.{dif-same, difs, by_dif2}
use Rattle.sizes.specs.Committees.{IsCommittee}
use Rattle.talk.specs.Shape.{Shape}
use Rattle.talk.specs.Sync.{has}
use Rattle.plays.specs.Play.{Play}
use Rattle.histories61.specs.Phases.{Kind, Created, Refreshed, Moved, receivers_down, Within, IsExposure, NextFits}
use Rattle.histories61.specs.Course.{Course, share_after_phase, IsHistoryBy, IsKey}
use Rattle.histories61.proofs.Fits.{committee_at}
use Rattle.histories61.proofs.Polynomials.{one_key}
use Rattle.choices61.specs.Views.{IsViews}
use Rattle.choices61.proofs.Fits.{fits_refresh, fits_move}
use Rattle.choices61.proofs.Again.{one_view, views_are_there}
use Rattle.playback.specs.declared.phase.Phase.{Phase}
use Rattle.playback.specs.Recorded.{kind_of, play_of}
use Rattle.phaseshift.specs.Shift.{HasRoom, other_phase}
use Rattle.viewshift.specs.Listed.{phase_at, mask_at, course_of}
use Rattle.viewshift.specs.Fits.{AreHistory}
use Rattle.viewshift.specs.Kept.{HistoryValue}
use Rattle.viewshift.specs.Key.{HasKey}
use Rattle.viewshift.specs.declared.views.Views.{Views}
use Rattle.viewshift.specs.Seen.{HasViews, lists_of}
use Rattle.viewshift.specs.Others.{meant, other_phases, other_history, SameButGrids, IsApart, IsTranslation, SameViews, FirstComesAgain, other_at}
use Rattle.viewshift.proofs.Standing.{lists_are_history}
use Rattle.viewshift.proofs.Keys.{key_by}
use Rattle.viewshift.proofs.Others.{before_is, length-others, at_other, other_choice, others_are_history}
use Rattle.viewshift.proofs.Back.{phases_come_again}

-- ---- room for the products
room_next : (kind : Kind) (old p : Play) (share : ℕ → ℕ → Fp) (before after : ℕ → Bool) → NextFits kind old p share → IsCommittee old.shape.receivers old.shape.bound →
    IsExposure old.shape.receivers old.shape.bound (receivers_down old) before → Within old.shape.receivers p.down before → IsExposure p.shape.receivers p.shape.bound (receivers_down p) after →
    HasRoom kind p.shape p.down before after
room_next Created old p share before after f c xb w xa = absurd f
room_next Refreshed old p share before after f c xb w xa =
    let hides = fits_refresh old p before after f c xb w xa in
    (omega (arith, hides.seen_before.few, hides.degree), omega (arith, hides.seen_after.few, hides.degree))
room_next Moved old p share before after f c xb w xa =
    let hides = fits_move old p share before after f c xb w xa in
    (omega (arith, f.few, hides.degree), omega (arith, hides.seen_after.few, hides.degree))

room_in : (course : Course) (errors : ℕ → List (List Fp)) → IsHistoryBy course errors → (k : ℕ) (before : ℕ → Bool) → k < course.phases → ((j : ℕ) → k ≡ suc j → before ≡ course.exposed j) →
    HasRoom (course.kind k) (course.play k).shape (course.play k).down before (course.exposed k)
room_in course errors is zero before lt e =
    let f = is.fits.phases_fit 0 lt in
    let degree : (course.play 0).shape.degree ≡ (course.play 0).shape.bound = ap (λ (s : Shape). s.degree) f.setting in
    subst (λ kind. HasRoom kind (course.play 0).shape (course.play 0).down before (course.exposed 0)) (sym f.create)
    (omega (arith, f.few, degree), omega (arith, (is.exposed_fit 0 lt).own.few, degree))
room_in course errors is (suc k) before lt e =
    let lk : k < course.phases = omega (arith, lt) in
    let x = is.exposed_fit k lk in
    subst (λ (b : ℕ → Bool). HasRoom (course.kind (suc k)) (course.play (suc k)).shape (course.play (suc k)).down b (course.exposed (suc k))) (sym (e k refl))
    (room_next (course.kind (suc k)) (course.play k) (course.play (suc k)) (share_after_phase course errors k) (course.exposed k) (course.exposed (suc k)) (is.fits.phases_fit (suc k) lt)
    (committee_at course errors course.phases is.fits k lk) x.own (x.next lt) (is.exposed_fit (suc k) lt).own)

pub room_at : (phases : List Phase) (exposed : List ℕ) → AreHistory phases exposed → (k : ℕ) → k < length phases →
    HasRoom (kind_of (phase_at phases k).kind) (phase_at phases k).setting (has (phase_at phases k).down) (has (mask_at exposed (k - 1))) (has (mask_at exposed k))
room_at phases exposed are k lt =
    let is = lists_are_history phases exposed are in
    room_in (course_of phases exposed) is.0 is.1 k (has (mask_at exposed (k - 1))) lt
    (λ j e. let z : k - 1 ≡ j = omega (arith, e) in ap (λ i. has (mask_at exposed i)) z)

-- ---- the key
-- there is only one
same_key : (phases : List Phase) (exposed : List ℕ) → AreHistory phases exposed → (key other : List Fp) → HasKey (course_of phases exposed) key → HasKey (course_of phases exposed) other →
    (lane : ℕ) → lane < 5 → get_or key lane zeroₚ ≡ get_or other lane zeroₚ
same_key phases exposed are key other hk ho lane l5 =
    let is = lists_are_history phases exposed are in
    one_key (course_of phases exposed) lane (get_or key lane zeroₚ) (get_or other lane zeroₚ) (is.1.fits.phases_fit 0 (omega (arith, is.1.some_phase))) (hk.first lane l5) (ho.first lane l5)

wished_ring : (key wished : Fp) → key +ₚ (wished -ₚ key) ≡ wished
wished_ring = by_dif2 _ (λ m n. simp difs (dif-same _ _ _ _ (omega arith)))

other_key : (phases : List Phase) (exposed : List ℕ) (difference : ℕ → Fp) (key wished : List Fp) → AreHistory phases exposed → HasKey (course_of phases exposed) key →
    ((lane : ℕ) → lane < 5 → difference lane ≡ get_or wished lane zeroₚ -ₚ get_or key lane zeroₚ) → HasKey (course_of (other_phases phases exposed difference) exposed) wished
other_key phases exposed difference key wished are hk apart =
    let is = lists_are_history phases exposed are in
    let other = other_choice phases exposed difference is.0 is.1 in
    key_by (course_of (other_phases phases exposed difference) exposed) wished
    (λ lane l5.
    subst (IsKey (course_of (other_phases phases exposed difference) exposed) lane)
    (ap (λ v. get_or key lane zeroₚ +ₚ v) (apart lane l5) ∙ wished_ring (get_or key lane zeroₚ) (get_or wished lane zeroₚ))
    (other.key lane (get_or key lane zeroₚ) l5 (hk.first lane l5)))

-- ---- the views
other_views : (phases : List Phase) (exposed : List ℕ) (difference : ℕ → Fp) → AreHistory phases exposed → (views : Views) →
    HasViews (course_of phases exposed) views ↔ HasViews (course_of (other_phases phases exposed difference) exposed) views
other_views phases exposed difference are views = (
  λ v.
      let other = other_choice phases exposed difference v.0 v.1 in
      (v.0, other.history, other.views (lists_of views) v.2),
  λ v.
      let is = lists_are_history phases exposed are in
      let other = other_choice phases exposed difference is.0 is.1 in
      let there = views_are_there (course_of phases exposed) is.0 is.1 in
      let same : there.0 ≡ lists_of views =
      one_view (course_of (other_phases phases exposed difference) exposed) is.0 v.0 there.0 (lists_of views) other.history v.1 (other.views there.0 there.1) v.2 in
      (is.0, is.1, subst (IsViews (course_of phases exposed) is.0) same there.1),
)

-- ---- the history that is made
pub key_made : (history other : HistoryValue) (wished : List Fp) → AreHistory history.phases history.exposed → IsTranslation history wished other → HasKey (meant other) wished
key_made history other wished are is =
    subst (λ (h : HistoryValue). HasKey (meant h) wished) (sym is.is_translated)
    (other_key history.phases history.exposed is.difference is.key wished are is.is_key is.is_difference)

pub views_made : (history other : HistoryValue) (wished : List Fp) → AreHistory history.phases history.exposed → IsTranslation history wished other → SameViews history other
views_made history other wished are is =
    subst (SameViews history) (sym is.is_translated) (λ views. other_views history.phases history.exposed is.difference are views)

grids_differ : (phases : List Phase) (exposed : List ℕ) (difference : ℕ → Fp) (place : ℕ) →
    phase_at (other_phases phases exposed difference) place ≡ record (phase_at phases place) { grids = (phase_at (other_phases phases exposed difference) place).grids }
grids_differ phases exposed difference place =
    let at = at_other phases exposed difference place in
    at ∙ sym (ap (λ (q : Phase). let r : Phase = record (phase_at phases place) { grids = q.grids } in r) at)

pub alone_made : (history other : HistoryValue) (wished : List Fp) → IsTranslation history wished other → SameButGrids history other
alone_made history other wished is =
    subst (SameButGrids history) (sym is.is_translated)
    (record {
      exposed = refl;
      number = length-others history.phases history.exposed is.difference;
      phases = grids_differ history.phases history.exposed is.difference;
    })

-- ---- the way back
back_ring : (wished key : Fp) → (wished -ₚ key) +ₚ (key -ₚ wished) ≡ zeroₚ
back_ring = by_dif2 _ (λ m n. simp difs (dif-same _ _ _ _ (omega arith)))

history_is : (h : HistoryValue) → record { phases = h.phases; exposed = h.exposed } ≡ h
history_is h = refl

-- the other choices of the other choices, by the difference back
again_is : (history other : HistoryValue) (difference back : ℕ → Fp) → AreHistory history.phases history.exposed → other ≡ other_history history difference → ((lane : ℕ) → lane < 5 → difference lane +ₚ back lane ≡ zeroₚ) →
    other_history other back ≡ history
again_is history other difference back are e opposite =
    ap (λ (h : HistoryValue). other_history h back) e
    ∙ ap (λ (ps : List Phase). let h : HistoryValue = record { phases = ps; exposed = history.exposed } in h) (phases_come_again history.phases history.exposed difference back are opposite)
    ∙ history_is history

pub again_made : (history other : HistoryValue) (wished : List Fp) → AreHistory history.phases history.exposed → IsTranslation history wished other → FirstComesAgain history other
again_made history other wished are is key again hk back =
    let there : HasKey (meant other) wished = key_made history other wished are is in
    let others : AreHistory other.phases other.exposed =
    subst (λ (h : HistoryValue). AreHistory h.phases h.exposed) (sym is.is_translated) (others_are_history history.phases history.exposed is.difference are) in
    back.is_translated
    ∙ again_is history other is.difference back.difference are is.is_translated
    (λ lane l5.
    ap₂ (λ (a b : Fp). a +ₚ b) (is.is_difference lane l5)
    (back.is_difference lane l5
    ∙ ap₂ (λ (a b : Fp). a -ₚ b) (same_key history.phases history.exposed are key is.key hk is.is_key lane l5) (same_key other.phases other.exposed others back.key wished back.is_key there lane l5))
    ∙ back_ring (get_or wished lane zeroₚ) (get_or is.key lane zeroₚ))

-- ---- the body
pub room_for : (phases : List Phase) (exposed : List ℕ) (place m before after : ℕ) (p : Phase) → AreHistory phases exposed → place < length phases → p ≡ phase_at phases place → m ≡ place - 1 → before ≡ mask_at exposed m →
    after ≡ mask_at exposed place → HasRoom (kind_of p.kind) p.setting (has p.down) (has before) (has after)
room_for phases exposed place m before after p are lt ep em eb ea =
    subst (λ (q : Phase). HasRoom (kind_of q.kind) q.setting (has q.down) (has before) (has after)) (sym ep)
    (subst (λ i. HasRoom (kind_of (phase_at phases place).kind) (phase_at phases place).setting (has (phase_at phases place).down) (has i) (has after)) (sym (eb ∙ ap (mask_at exposed) em))
    (subst (λ i. HasRoom (kind_of (phase_at phases place).kind) (phase_at phases place).setting (has (phase_at phases place).down) (has (mask_at exposed (place - 1))) (has i)) (sym ea) (room_at phases exposed are place lt)))

pub other_is : (phases : List Phase) (exposed : List ℕ) (difference : ℕ → Fp) (place m before after : ℕ) (p q : Phase) → p ≡ phase_at phases place → m ≡ place - 1 → before ≡ mask_at exposed m →
    after ≡ mask_at exposed place → q ≡ other_phase p (has before) (has after) difference → q ≡ other_at phases exposed difference place
other_is phases exposed difference place m before after p q ep em eb ea eq =
    eq
    ∙ ap₂ (λ (x : Phase) (i : ℕ). other_phase x (has i) (has after) difference) ep (eb ∙ ap (mask_at exposed) em)
    ∙ ap (λ (i : ℕ). other_phase (phase_at phases place) (has (mask_at exposed (place - 1))) (has i) difference) ea

pub history_there : (history : HistoryValue) (phases : List Phase) (masks : List ℕ) → phases ≡ history.phases → masks ≡ history.exposed → AreHistory history.phases history.exposed → AreHistory phases masks
history_there history phases masks ep em are =
    subst (λ (ps : List Phase). AreHistory ps masks) (sym ep) (subst (AreHistory history.phases) (sym em) are)

pub appended : (xs old slice masks : List ℕ) → xs ≡ old ++ slice → old ≡ [] → slice ≡ masks → xs ≡ masks
appended xs old slice masks e eo es = e ∙ ap (λ (l : List ℕ). l ++ slice) eo ∙ es

pub others_there : (phases others : List Phase) (masks exposed : List ℕ) (difference : ℕ → Fp) → others ≡ other_phases phases masks difference → exposed ≡ masks → AreHistory phases masks → AreHistory others exposed
others_there phases others masks exposed difference eo ee are =
    subst (λ (ps : List Phase). AreHistory ps exposed) (sym eo) (subst (AreHistory (other_phases phases masks difference)) (sym ee) (others_are_history phases masks difference are))

pub translation_made : (history other : HistoryValue) (phases others : List Phase) (masks exposed : List ℕ) (wished key d : List Fp) → phases ≡ history.phases → masks ≡ history.exposed →
    others ≡ other_phases phases masks (λ lane. get_or d lane zeroₚ) → exposed ≡ history.exposed → other ≡ record { phases = others; exposed = exposed } →
    HasKey (meant history) key → IsApart wished key (λ lane. get_or d lane zeroₚ) → IsTranslation history wished other
translation_made history other phases others masks exposed wished key d ep em eo ee e hk apart = record {
  key = key;
  is_key = hk;
  difference = λ lane. get_or d lane zeroₚ;
  is_difference = apart;
  is_translated =
      e
      ∙ ap₂ (λ (ps : List Phase) (es : List ℕ). let h : HistoryValue = record { phases = ps; exposed = es } in h)
      (eo ∙ ap₂ (λ (ps : List Phase) (es : List ℕ). other_phases ps es (λ lane. get_or d lane zeroₚ)) ep em) ee;
}
