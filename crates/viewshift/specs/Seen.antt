-- The views of a history as the code gives them.
use Rattle.std.specs.Prelude.{◌≡◌, ℕ, ◌<◌, List, []}
use Rattle.std.specs.List.{flat_map}
use Rattle.algebra61.specs.Field.{Fp}
use Rattle.talk.specs.Sync.{has}
use Rattle.plays.specs.Said.{places, points_up_to}
use Rattle.histories61.specs.Course.{Course, FitsTo, IsHistoryBy, IsPeriodPolynomial}
use Rattle.choices61.specs.Views.{posts_in_phase, rings_in_phase, shares_at, ViewLists, IsViews}
use Rattle.playback.specs.declared.phase.Phase.{Phase}
use Rattle.playback.specs.Recorded.{play_of}
use Rattle.viewshift.specs.declared.views.Views.{Views}
use Rattle.viewshift.specs.Listed.{course_of, phase_at, mask_at}

-- the three lists
abbrev pub lists_of : Views → ViewLists
lists_of views = record { posts = views.posts; rings = views.rings; shares = views.shares }

-- these are the views of a history, under the error vectors that its moves have
abbrev pub HasViews : Course → Views → Type 0
HasViews course views = (errors : ℕ → List (List Fp)) × IsHistoryBy course errors × IsViews course errors (lists_of views)

-- ---- phase by phase
-- the values at the points of those whom a mask exposes of so many members, by member and lane
abbrev pub shares_seen : ℕ → ℕ → (ℕ → List Fp) → List Fp
shares_seen members mask polynomial = flat_map (shares_at polynomial (has mask)) (points_up_to members)

-- those of the period that a phase begins
abbrev pub seen_after : List Phase → List ℕ → (ℕ → ℕ → List Fp) → ℕ → List Fp
seen_after phases exposed polynomial k = shares_seen (phase_at phases k).setting.receivers (mask_at exposed k) (polynomial k)

-- what is seen of the first n phases. The polynomials go by phase and lane
pub record AreSeen (phases : List Phase) (exposed : List ℕ) (n : ℕ) (views : Views) : Type 0 where
  pub posts_are : views.posts ≡ flat_map (λ k. posts_in_phase (play_of (phase_at phases k))) (places n)
  pub rings_are : views.rings ≡ flat_map (λ k. rings_in_phase (play_of (phase_at phases k))) (places n)
  pub shares_are : (errors : ℕ → List (List Fp)) (polynomial : ℕ → ℕ → List Fp) → FitsTo (course_of phases []) errors n →
      ((k lane : ℕ) → k < n → lane < 5 → IsPeriodPolynomial (course_of phases []) errors k lane (polynomial k lane)) →
      views.shares ≡ flat_map (seen_after phases exposed polynomial) (places n)
