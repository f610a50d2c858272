-- Views fit every key: the laws of other choices.
use Rattle.std.specs.Prelude.{◌≡◌, ℕ, ◌<◌, false, List}
use Rattle.algebra61.specs.Field.{Fp, zeroₚ, ◌+ₚ◌, ◌-ₚ◌}
use Rattle.algebra61.specs.Poly.{add_list, scale_list}
use Rattle.bivar61.specs.Grids.{IsGrid}
use Rattle.sizes.specs.Instances.{dealer_of}
use Rattle.talk.specs.Shape.{instances}
use Rattle.histories61.specs.Course.{Course, IsHistoryBy, IsPeriodPolynomial, IsKey}
use Rattle.choices61.specs.Sets.{vanisher_of}
use Rattle.choices61.specs.Views.{ViewLists, IsViews}
use Rattle.choices61.specs.Other.{other_course}

-- ---- views
-- a history has views
abbrev pub ViewsAreThere : Type 0
ViewsAreThere = (course : Course) (errors : ℕ → List (List Fp)) → IsHistoryBy course errors → (views : ViewLists) × IsViews course errors views

-- and one list of them alone, whichever error vectors are named
abbrev pub OneView : Type 0
OneView =
    (course : Course) (errors more : ℕ → List (List Fp)) (views other : ViewLists) → IsHistoryBy course errors → IsHistoryBy course more →
    IsViews course errors views → IsViews course more other → views ≡ other

-- ---- other choices
-- the two differ in grids alone
pub record SameButGrids (course other : Course) : Type 0 where
  pub phases : other.phases ≡ course.phases
  pub kind : other.kind ≡ course.kind
  pub exposed : other.exposed ≡ course.exposed
  pub play : (phase : ℕ) → other.play phase ≡ record (course.play phase) { grid = (other.play phase).grid }

-- the other is a history with the same views and the same error vectors, and its key is the first one's plus the difference
pub record IsOtherChoice (course : Course) (errors : ℕ → List (List Fp)) (difference : ℕ → Fp) (other : Course) : Type 0 where
  pub history : IsHistoryBy other errors
  pub same : SameButGrids course other
  -- each period polynomial rises by the difference times the polynomial that is 1 at 0 and 0 on the exposed
  pub polynomials : (phase lane : ℕ) (polynomial : List Fp) → phase < course.phases → lane < 5 →
      IsPeriodPolynomial course errors phase lane polynomial →
      IsPeriodPolynomial other errors phase lane
      (add_list polynomial (scale_list (difference lane) (vanisher_of (course.play phase).shape.receivers (course.exposed phase))))
  pub key : (lane : ℕ) (key : Fp) → lane < 5 → IsKey course lane key → IsKey other lane (key +ₚ difference lane)
  pub views : (seen : ViewLists) → IsViews course errors seen → IsViews other errors seen

abbrev pub ViewsFitEveryDifference : Type 0
ViewsFitEveryDifference =
    (course : Course) (errors : ℕ → List (List Fp)) (difference : ℕ → Fp) → IsHistoryBy course errors →
    IsOtherChoice course errors difference (other_course course difference)

-- so every wished key is the key of one
abbrev pub ViewsFitEveryKey : Type 0
ViewsFitEveryKey =
    (course : Course) (errors : ℕ → List (List Fp)) (key wished : ℕ → Fp) → IsHistoryBy course errors →
    ((lane : ℕ) → lane < 5 → IsKey course lane (key lane)) →
    (lane : ℕ) → lane < 5 → IsKey (other_course course (λ l. wished l -ₚ key l)) lane (wished lane)

-- ---- back again
-- honest grids of the setting's form keep it
abbrev pub GridsKeepForm : Type 0
GridsKeepForm =
    (course : Course) (errors : ℕ → List (List Fp)) (difference : ℕ → Fp) → IsHistoryBy course errors →
    (phase i : ℕ) → phase < course.phases → i < instances (course.play phase).shape → (course.play phase).down (dealer_of i) ≡ false →
    IsGrid (course.play phase).shape.degree ((course.play phase).grid i) →
    IsGrid (course.play phase).shape.degree (((other_course course difference).play phase).grid i)

-- with the difference back, the other choices of the other choices have the first grids again
abbrev pub BackAgain : Type 0
BackAgain =
    (course : Course) (errors : ℕ → List (List Fp)) (difference back : ℕ → Fp) → IsHistoryBy course errors →
    ((lane : ℕ) → lane < 5 → difference lane +ₚ back lane ≡ zeroₚ) →
    (phase i : ℕ) → phase < course.phases → i < instances (course.play phase).shape →
    ((course.play phase).down (dealer_of i) ≡ false → IsGrid (course.play phase).shape.degree ((course.play phase).grid i)) →
    ((other_course (other_course course difference) back).play phase).grid i ≡ (course.play phase).grid i
