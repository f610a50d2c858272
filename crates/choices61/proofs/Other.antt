-- The other choices of a history, phase by phase.
use Rattle.std.proofs.Common.{◌≡◌, ℕ, zero, suc, ◌<◌, ◌≤◌, Bool, true, List, [], get_or, refl, sym, ap, ap₂, ◌∙◌, subst, arith}
use Rattle.algebra61.specs.Field.{Fp, Prime, fe, zeroₚ, ◌+ₚ◌, ◌-ₚ◌, ◌*ₚ◌}
use Rattle.algebra61.specs.Poly.{eval, add_list, scale_list}
use Rattle.algebra61.proofs.Ring.{mul_zero, mul_one, add_zero, dif-same, difs, by_dif2}
use Rattle.algebra61.proofs.PolyOps.{eval-add, eval-scale, length-add, length-scale}
use Rattle.sizes.specs.Committees.{IsCommittee}
use Rattle.talk.specs.Shape.{Shape, rounds, seats}
use Rattle.plays.specs.Play.{Play}
use Rattle.plays.specs.Law.{IsPlay, ProperPlay, HonestIn}
use Rattle.plays.specs.Heard.{ring_heard}
use Rattle.plays.proofs.Proper.{dealer_is}
use Rattle.plays.proofs.Steps.{flat_same}
use Rattle.histories61.specs.Phases.{Kind, Created, Refreshed, Moved, receivers_down, Within, IsExposure, FirstFits, RefreshFits, MoveFits, NextFits}
use Rattle.histories61.specs.Course.{Course, HasErrors, next_share, share_after_phase, PhaseFits, IsHistoryBy, IsPeriodPolynomial, IsKey}
use Rattle.histories61.proofs.Lists.{cond_same, map_same}
use Rattle.histories61.proofs.Fits.{honest_before, honest_old, committee_at}
use Rattle.choices61.specs.Sets.{vanisher_of}
use Rattle.choices61.specs.Views.{post_in_phase, posts_in_phase, rings_in_phase, ViewLists, IsViews}
use Rattle.choices61.specs.Translation.{translated_phase, rise_in}
use Rattle.choices61.specs.Phases.{RefreshHides, MoveHides, SameInPhase, TranslatedCreate}
use Rattle.choices61.specs.Other.{other_course}
use Rattle.choices61.specs.Laws.{ViewsFitEveryDifference, ViewsFitEveryKey}
use Rattle.choices61.proofs.Sets.{length-vanisher_of, vanisher_of_zero, vanisher_of_root}
use Rattle.choices61.proofs.Products.{deals_honest}
use Rattle.choices61.proofs.Phases.{create_translates, refresh_translates}
use Rattle.choices61.proofs.Move.{move_translates}
use Rattle.choices61.proofs.Fits.{fits_create, fits_refresh, fits_move}

-- ---- the lists of views stay where each message stays
posts_same : (p : Play) (g : ℕ → List (List Fp)) → SameInPhase p (record p { grid = g }) → posts_in_phase (record p { grid = g }) ≡ posts_in_phase p
unfolding posts_in_phase
posts_same p g v =
    flat_same _ _ (rounds p.shape) 1
    (λ round r1 rn. map_same (post_in_phase (record p { grid = g }) round) (post_in_phase p round) (seats p.shape) 1 (λ seat s1 sn. v.posts round seat (omega (arith, rn))))

rings_same : (p : Play) (g : ℕ → List (List Fp)) → SameInPhase p (record p { grid = g }) → rings_in_phase (record p { grid = g }) ≡ rings_in_phase p
unfolding rings_in_phase
rings_same p g v =
    flat_same _ _ (rounds p.shape) 1
    (λ round r1 rn. flat_same _ _ (seats p.shape) 1
    (λ to t1 tn. cond_same (p.down to) _ _ _ _ (λ e. map_same (λ seat. ring_heard (record p { grid = g }) round seat to) (λ seat. ring_heard p round seat to) (seats p.shape) 1 (λ seat s1 sn. v.rings round seat to e)) refl))

-- ---- a phase
created_moved : Created ≡ Moved → ⊥
created_moved e = cc

-- with other grids of the setting's degree a play is one still
play_again : (p : Play) (g : ℕ → List (List Fp)) → IsPlay p → ProperPlay (record p { grid = g }) → IsPlay (record p { grid = g })
play_again p g f proper = record {
  setting = f.setting;
  degrees = λ i lt e. deals_honest p.shape.degree _ (g i) (dealer_is (record p { grid = g }) i e) (proper i lt).deals;
  posts = f.posts;
  rings = f.rings;
}

abbrev Rises : (p : Play) (n : ℕ) (exposed : ℕ → Bool) (difference : ℕ → Fp) (shares new : ℕ → ℕ → Fp) → Type 0
Rises p n exposed difference shares new = (l j : ℕ) → l < 5 → HonestIn p j → new l j ≡ shares l j +ₚ rise_in n exposed (difference l) j

-- a phase after another, under other grids. old has other grids g as well
record StepIs (kind : Kind) (old : Play) (g : ℕ → List (List Fp)) (p : Play) (after : ℕ → Bool) (difference : ℕ → Fp) (shares new : ℕ → ℕ → Fp) (q : Play) : Type 0 where
  views : SameInPhase p q
  fits : NextFits kind (record old { grid = g }) q new
  errors : (es : List (List Fp)) → kind ≡ Moved → HasErrors p es → HasErrors q es
  rises : (l j : ℕ) (e : List Fp) → l < 5 → HonestIn p j → next_share kind q l e j (new l j) ≡ next_share kind p l e j (shares l j) +ₚ rise_in p.shape.receivers after (difference l) j

step_refresh : (old : Play) (g : ℕ → List (List Fp)) (p : Play) (before after : ℕ → Bool) (difference : ℕ → Fp) (shares new : ℕ → ℕ → Fp) →
    RefreshFits old p → RefreshHides p before after → Rises old old.shape.receivers before difference shares new →
    StepIs Refreshed old g p after difference shares new (translated_phase Refreshed p before after difference)
step_refresh old g p before after difference shares new f x rises =
    let got = refresh_translates p before after difference x in
    let deal : p.shape.dealers ≡ old.shape.receivers = ap (λ (s : Shape). s.dealers) f.setting in
    record {
      views = got.views;
      fits = record {
        setting = f.setting;
        play_is = play_again p (translated_phase Refreshed p before after difference).grid f.play_is got.views.proper;
        few = f.few;
        stays = f.stays;
      };
      errors = λ es e h. let differ : Refreshed ≡ Moved = e in cc;
      rises = λ l j e l5 s.
          got.shares l j (shares l j) (new l j) l5 s
          (rises l j l5 (honest_before old p f j s) ∙ ap (λ n. shares l j +ₚ rise_in n before (difference l) j) (sym deal));
    }

step_move : (old : Play) (g : ℕ → List (List Fp)) (p : Play) (before after : ℕ → Bool) (difference : ℕ → Fp) (shares new : ℕ → ℕ → Fp) →
    MoveFits old p shares → MoveHides old.shape.bound p before after → Rises old old.shape.receivers before difference shares new →
    StepIs Moved old g p after difference shares new (translated_phase Moved p before after difference)
step_move old g p before after difference shares new f x rises =
    let got = move_translates old.shape.bound p before after difference x in
    let deal : p.shape.dealers ≡ old.shape.receivers = ap (λ (s : Shape). s.dealers) f.setting in
    record {
      views = got.views;
      fits = record {
        committee = f.committee;
        setting = f.setting;
        play_is = play_again p (translated_phase Moved p before after difference).grid f.play_is got.views.proper;
        few_old = f.few_old;
        few = f.few;
        stays = f.stays;
        constants = λ i l a b l5 up.
            got.constants i l a b l5 up
            ∙ ap₂ (λ v n. v +ₚ rise_in n before (difference l) i) (f.constants i l a b l5 up) deal
            ∙ sym (rises l i l5 (honest_old old p shares f i a b up));
      };
      errors = λ es e h. got.errors es h;
      rises = λ l j e l5 s. got.shares l j e l5 s;
    }

step : (kind : Kind) (old : Play) (g : ℕ → List (List Fp)) (p : Play) (before after : ℕ → Bool) (difference : ℕ → Fp) (shares new : ℕ → ℕ → Fp) →
    NextFits kind old p shares → IsCommittee old.shape.receivers old.shape.bound →
    IsExposure old.shape.receivers old.shape.bound (receivers_down old) before → Within old.shape.receivers p.down before → IsExposure p.shape.receivers p.shape.bound (receivers_down p) after →
    Rises old old.shape.receivers before difference shares new →
    StepIs kind old g p after difference shares new (translated_phase kind p before after difference)
step Created old g p before after difference shares new f c xb w xa rises = absurd f
step Refreshed old g p before after difference shares new f c xb w xa rises =
    step_refresh old g p before after difference shares new f (fits_refresh old p before after f c xb w xa) rises
step Moved old g p before after difference shares new f c xb w xa rises =
    step_move old g p before after difference shares new f (fits_move old p shares before after f c xb w xa) rises

-- ---- phase by phase
record PhaseIs (course : Course) (errors : ℕ → List (List Fp)) (difference : ℕ → Fp) (k : ℕ) : Type 0 where
  views : SameInPhase (course.play k) ((other_course course difference).play k)
  fits : PhaseFits (other_course course difference) errors k
  keeps_errors : (es : List (List Fp)) → course.kind k ≡ Moved → HasErrors (course.play k) es → HasErrors ((other_course course difference).play k) es
  rises : Rises (course.play k) (course.play k).shape.receivers (course.exposed k) difference (share_after_phase course errors k) (share_after_phase (other_course course difference) errors k)

first_is : (kind : Kind) (p : Play) (before after : ℕ → Bool) (difference : ℕ → Fp) → kind ≡ Created → FirstFits kind p → IsExposure p.shape.receivers p.shape.bound (receivers_down p) after →
    TranslatedCreate p after difference (translated_phase kind p before after difference)
first_is Created p before after difference e f x = create_translates p before after difference (fits_create Created p after f x)
first_is Refreshed p before after difference e f x = let differ : Refreshed ≡ Created = e in cc
first_is Moved p before after difference e f x = let differ : Moved ≡ Created = e in cc

phase : (course : Course) (errors : ℕ → List (List Fp)) (difference : ℕ → Fp) → IsHistoryBy course errors → (k : ℕ) → k < course.phases → PhaseIs course errors difference k
phase course errors difference is zero lt =
    let f : FirstFits (course.kind 0) (course.play 0) = is.fits.phases_fit 0 lt in
    let got = first_is (course.kind 0) (course.play 0) (course.exposed 0) (course.exposed 0) difference f.create f (is.exposed_fit 0 lt).own in
    record {
      views = got.views;
      fits = record {
        create = f.create;
        committee = f.committee;
        setting = f.setting;
        play_is = play_again (course.play 0) ((other_course course difference).play 0).grid f.play_is got.views.proper;
        few = f.few;
      };
      keeps_errors = λ es e x. absurd (created_moved (sym f.create ∙ e));
      rises = got.shares;
    }
phase course errors difference is (suc k) lt =
    let lk : k < course.phases = omega (arith, lt) in
    let prior = phase course errors difference is k lk in
    let x = is.exposed_fit k lk in
    let got = step (course.kind (suc k)) (course.play k) ((other_course course difference).play k).grid (course.play (suc k)) (course.exposed k) (course.exposed (suc k)) difference
    (share_after_phase course errors k) (share_after_phase (other_course course difference) errors k) (is.fits.phases_fit (suc k) lt) (committee_at course errors course.phases is.fits k lk) x.own (x.next lt) (is.exposed_fit (suc k) lt).own prior.rises in
    record {
      views = got.views;
      fits = got.fits;
      keeps_errors = got.errors;
      rises = λ l j l5 s. got.rises l j (get_or (errors (suc k)) l []) l5 s;
    }

-- ---- the whole
module _ (course : Course) (errors : ℕ → List (List Fp)) (difference : ℕ → Fp) (is : IsHistoryBy course errors) where
  honest_back : (k j : ℕ) → HonestIn ((other_course course difference).play k) j → HonestIn (course.play k) j
  honest_back k j s = record { from = s.from; to = s.to; up = s.up }

  history_again : IsHistoryBy (other_course course difference) errors
  history_again = record {
    some_phase = is.some_phase;
    fits = record {
      phases_fit = λ k lt. (phase course errors difference is k lt).fits;
      have_errors = λ k lt e. (phase course errors difference is k lt).keeps_errors (errors k) e (is.fits.have_errors k lt e);
    };
    exposed_fit = λ k lt. record { own = (is.exposed_fit k lt).own; next = (is.exposed_fit k lt).next };
  }

  polynomial_again : (k l : ℕ) (q : List Fp) → k < course.phases → l < 5 → IsPeriodPolynomial course errors k l q →
      IsPeriodPolynomial (other_course course difference) errors k l (add_list q (scale_list (difference l) (vanisher_of (course.play k).shape.receivers (course.exposed k))))
  polynomial_again k l q lt l5 x =
      let z : List Fp = vanisher_of (course.play k).shape.receivers (course.exposed k) in
      record {
        short =
            omega (
              arith,
              length-add q (scale_list (difference l) z),
              length-scale (difference l) z,
              length-vanisher_of (course.play k).shape.receivers (course.exposed k),
              (is.exposed_fit k lt).own.few,
              x.short,
            );
        values = λ j s.
            (phase course errors difference is k lt).rises l j l5 (honest_back k j s)
            ∙ ap₂ (λ a b. a +ₚ b) (x.values j (honest_back k j s)) (sym (eval-scale (difference l) z (fe j)))
            ∙ sym (eval-add q (scale_list (difference l) z) (fe j));
      }

  -- the created shares of the first phase are its shares
  key_again : (l : ℕ) (c : Fp) → l < 5 → IsKey course l c → IsKey (other_course course difference) l (c +ₚ difference l)
  key_again l c l5 x =
      let z : List Fp = vanisher_of (course.play 0).shape.receivers (course.exposed 0) in
      let lt : 0 < course.phases = omega (arith, is.some_phase) in
      let got = polynomial_again 0 l x.0 lt l5 (record { short = x.1.short; values = x.1.values }) in (
        add_list x.0 (scale_list (difference l) z),
        record { short = got.short; values = got.values },
        ap₂ (λ a b. a +ₚ b) x.2 (sym (eval-scale (difference l) z zeroₚ ∙ ap (λ v. difference l *ₚ v) (vanisher_of_zero (course.play 0).shape.receivers (course.exposed 0)) ∙ mul_one (difference l)))
            ∙ sym (eval-add x.0 (scale_list (difference l) z) zeroₚ),
      )

  small : (k : ℕ) → k < course.phases → (course.play k).shape.receivers < Prime
  small k lt = omega (arith, (committee_at course errors course.phases is.fits k lt).most)

  -- at an exposed point the polynomial has the value it had
  exposed_same : (k l i : ℕ) (q : List Fp) → k < course.phases → 1 ≤ i → i ≤ (course.play k).shape.receivers → course.exposed k i ≡ true →
      eval (add_list q (scale_list (difference l) (vanisher_of (course.play k).shape.receivers (course.exposed k)))) (fe i) ≡ eval q (fe i)
  exposed_same k l i q lt a b e =
      let z : List Fp = vanisher_of (course.play k).shape.receivers (course.exposed k) in
      eval-add q (scale_list (difference l) z) (fe i)
      ∙ ap (λ v. eval q (fe i) +ₚ v)
      (eval-scale (difference l) z (fe i) ∙ ap (λ v. difference l *ₚ v) (vanisher_of_root (course.play k).shape.receivers (course.exposed k) (small k lt) i a b e) ∙ mul_zero (difference l))
      ∙ add_zero (eval q (fe i))

  views_again : (v : ViewLists) → IsViews course errors v → IsViews (other_course course difference) errors v
  views_again v x = record {
    posts_are =
        x.posts_are
        ∙ sym (flat_same _ _ course.phases 0 (λ k k0 kn. posts_same (course.play k) ((other_course course difference).play k).grid (phase course errors difference is k (omega (arith, kn))).views));
    rings_are =
        x.rings_are
        ∙ sym (flat_same _ _ course.phases 0 (λ k k0 kn. rings_same (course.play k) ((other_course course difference).play k).grid (phase course errors difference is k (omega (arith, kn))).views));
    polynomial = λ k l. add_list (x.polynomial k l) (scale_list (difference l) (vanisher_of (course.play k).shape.receivers (course.exposed k)));
    is_polynomial = λ k l lt l5. polynomial_again k l (x.polynomial k l) lt l5 (x.is_polynomial k l lt l5);
    shares_are =
        x.shares_are
        ∙ sym
        (flat_same _ _ course.phases 0
        (λ k k0 kn. flat_same _ _ (course.play k).shape.receivers 1
        (λ i i1 im. cond_same (course.exposed k i) _ _ _ _ (λ e. map_same _ _ 5 0 (λ l l0 l5. exposed_same k l i (x.polynomial k l) (omega (arith, kn)) i1 (omega (arith, im)) e)) refl)));
  }

pub views_fit_every_difference : ViewsFitEveryDifference
views_fit_every_difference course errors difference is = record {
  history = history_again course errors difference is;
  same = record { phases = refl; kind = refl; exposed = refl; play = λ k. refl };
  polynomials = polynomial_again course errors difference is;
  key = key_again course errors difference is;
  views = views_again course errors difference is;
}

wished_ring : (key wished : Fp) → key +ₚ (wished -ₚ key) ≡ wished
wished_ring = by_dif2 _ (λ m n. simp difs (dif-same _ _ _ _ (omega arith)))

pub views_fit_every_key : ViewsFitEveryKey
views_fit_every_key course errors key wished is keys l l5 =
    subst (IsKey (other_course course (λ i. wished i -ₚ key i)) l) (wished_ring (key l) (wished l)) (key_again course errors (λ i. wished i -ₚ key i) is l (key l) l5 (keys l l5))
