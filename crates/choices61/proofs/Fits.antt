-- The phases of a history have translations.
use Rattle.std.proofs.Common.{◌≡◌, ℕ, zero, suc, ◌<◌, ◌≤◌, Bool, List, refl, sym, ap, ◌∙◌, subst, arith}
use Rattle.algebra61.specs.Field.{Fp}
use Rattle.sizes.specs.Committees.{IsCommittee}
use Rattle.sizes.specs.Instances.{dealer_of, lane_of}
use Rattle.sharing61.specs.Count.{how_many}
use Rattle.talk.specs.Shape.{Shape}
use Rattle.plays.specs.Play.{Play}
use Rattle.histories61.specs.Phases.{Kind, Created, Refreshed, Moved, receivers_down, Within, IsExposure, FirstFits, RefreshFits, MoveFits, NextFits}
use Rattle.histories61.specs.Course.{Course, share_after_phase, IsHistoryBy}
use Rattle.histories61.proofs.Fits.{proper_first, proper_refresh, refresh_degree, is_move, committee_at}
use Rattle.choices61.specs.Products.{AllHide}
use Rattle.choices61.specs.Translation.{factor_in_x, factor_in_y, is_translated}
use Rattle.choices61.specs.Phases.{CreateHides, RefreshHides, MoveHides}
use Rattle.choices61.specs.Other.{exposed_before}
use Rattle.choices61.proofs.Phases.{create_hides, refresh_hides}
use Rattle.choices61.proofs.Move.{move_hides}

-- ---- by kinds
pub fits_create : (kind : Kind) (p : Play) (after : ℕ → Bool) → FirstFits kind p → IsExposure p.shape.receivers p.shape.bound (receivers_down p) after → CreateHides p after
fits_create kind p after f x = record {
  proper = proper_first kind p f;
  setting = f.play_is.setting;
  one = record { no_shift = ap (λ (s : Shape). s.shift) f.setting; same = ap (λ (s : Shape). s.dealers) f.setting; checks = omega (arith, ap (λ (s : Shape). s.checks) f.setting) };
  no_checks = ap (λ (s : Shape). s.checks) f.setting;
  degree = ap (λ (s : Shape). s.degree) f.setting;
  seen_after = x;
}

exposure_for : (n m t u : ℕ) (down more exposed : ℕ → Bool) → n ≡ m → t ≡ u → IsExposure n t down exposed → Within n more exposed → IsExposure m u more exposed
exposure_for n m t u down more exposed en et x w = record { few = subst (λ k. how_many k exposed ≤ u) en (omega (arith, et, x.few)); seen = subst (λ k. Within k more exposed) en w }

pub fits_refresh : (old p : Play) (before after : ℕ → Bool) → RefreshFits old p → IsCommittee old.shape.receivers old.shape.bound →
    IsExposure old.shape.receivers old.shape.bound (receivers_down old) before → Within old.shape.receivers p.down before → IsExposure p.shape.receivers p.shape.bound (receivers_down p) after → RefreshHides p before after
fits_refresh old p before after f c xb w xa =
    let bound : p.shape.bound ≡ old.shape.bound = ap (λ (s : Shape). s.bound) f.setting in
    let size : p.shape.receivers ≡ old.shape.receivers = ap (λ (s : Shape). s.receivers) f.setting in
    let deal : p.shape.dealers ≡ old.shape.receivers = ap (λ (s : Shape). s.dealers) f.setting in
    record {
      proper = proper_refresh old p f;
      setting = f.play_is.setting;
      one = record { no_shift = ap (λ (s : Shape). s.shift) f.setting; same = deal ∙ sym size; checks = omega (arith, ap (λ (s : Shape). s.checks) f.setting) };
      no_checks = ap (λ (s : Shape). s.checks) f.setting;
      degree = refresh_degree old p f c;
      seen_before = exposure_for old.shape.receivers p.shape.dealers old.shape.bound p.shape.bound (receivers_down old) p.down before (sym deal) (sym bound) xb w;
      seen_after = xa;
    }

pub fits_move : (old p : Play) (share : ℕ → ℕ → Fp) (before after : ℕ → Bool) → MoveFits old p share → IsCommittee old.shape.receivers old.shape.bound →
    IsExposure old.shape.receivers old.shape.bound (receivers_down old) before → Within old.shape.receivers p.down before → IsExposure p.shape.receivers p.shape.bound (receivers_down p) after →
    MoveHides old.shape.bound p before after
fits_move old p share before after f c xb w xa =
    let move = is_move old p share f c in
    record {
      proper = move.proper;
      setting = move.setting;
      two = move.two;
      degree = ap (λ (s : Shape). s.degree) f.setting;
      seen_before = exposure_for old.shape.receivers p.shape.dealers old.shape.bound old.shape.bound (receivers_down old) p.down before (sym (ap (λ (s : Shape). s.dealers) f.setting)) refl xb w;
      seen_after = xa;
    }

-- ---- what is added in each phase hides
abbrev pub HidesIn : Kind → Play → (ℕ → Bool) → (ℕ → Bool) → (ℕ → Fp) → Type 0
HidesIn kind p before after difference =
    AllHide p (λ i. is_translated kind p.shape p.down (dealer_of i)) (factor_in_x p.shape p.down)
    (λ i. factor_in_y kind p.shape before after (difference (lane_of i)) (dealer_of i))

hides_next : (kind : Kind) (old p : Play) (share : ℕ → ℕ → Fp) (before after : ℕ → Bool) (difference : ℕ → Fp) → NextFits kind old p share → IsCommittee old.shape.receivers old.shape.bound →
    IsExposure old.shape.receivers old.shape.bound (receivers_down old) before → Within old.shape.receivers p.down before → IsExposure p.shape.receivers p.shape.bound (receivers_down p) after →
    HidesIn kind p before after difference
hides_next Created old p share before after difference f c xb w xa = absurd f
hides_next Refreshed old p share before after difference f c xb w xa = refresh_hides p before after difference (fits_refresh old p before after f c xb w xa)
hides_next Moved old p share before after difference f c xb w xa = move_hides old.shape.bound p before after difference (fits_move old p share before after f c xb w xa)

pub hides_at : (course : Course) (errors : ℕ → List (List Fp)) (difference : ℕ → Fp) → IsHistoryBy course errors → (k : ℕ) → k < course.phases →
    HidesIn (course.kind k) (course.play k) (exposed_before course k) (course.exposed k) difference
hides_at course errors difference is zero lt =
    let f = is.fits.phases_fit 0 lt in
    subst (λ kind. HidesIn kind (course.play 0) (course.exposed 0) (course.exposed 0) difference) (sym f.create)
    (create_hides (course.play 0) (course.exposed 0) (course.exposed 0) difference (fits_create (course.kind 0) (course.play 0) (course.exposed 0) f (is.exposed_fit 0 lt).own))
hides_at course errors difference is (suc k) lt =
    let lk : k < course.phases = omega (arith, lt) in
    let x = is.exposed_fit k lk in
    hides_next (course.kind (suc k)) (course.play k) (course.play (suc k)) (share_after_phase course errors k) (course.exposed k) (course.exposed (suc k)) difference (is.fits.phases_fit (suc k) lt)
    (committee_at course errors course.phases is.fits k lk) x.own (x.next lt) (is.exposed_fit (suc k) lt).own
