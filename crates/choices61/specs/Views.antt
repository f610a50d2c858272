-- What is seen of a history: every post of every phase as it is read, every ring message as it is read that a seat gets which
-- is down, its own entry too, and for each period the shares of the members that are exposed, also where a member lacks its own.
use Rattle.std.specs.Prelude.{◌≡◌, ℕ, ◌<◌, Bool, ◌&&◌, eqb, cond, List, [], map}
use Rattle.std.specs.List.{flat_map}
use Rattle.algebra61.specs.Field.{Fp, fe}
use Rattle.algebra61.specs.Poly.{eval}
use Rattle.talk.specs.declared.messages.Post.{Post}
use Rattle.talk.specs.declared.messages.Ring.{Ring}
use Rattle.talk.specs.Shape.{rounds, seats, receives}
use Rattle.plays.specs.Play.{Play}
use Rattle.plays.specs.Said.{places, points_up_to, unless_down}
use Rattle.plays.specs.Heard.{post_by, ring_heard}
use Rattle.plays.specs.Stage.{receiver_at}
use Rattle.periods.specs.Move.{syndromes_by}
use Rattle.histories61.specs.Course.{Course, IsPeriodPolynomial}

-- ---- a phase
-- what a seat that goes by the rules posts in a round, the sixth too
abbrev pub post_by_rules : Play → ℕ → ℕ → Post
post_by_rules play round seat =
    cond (eqb round 6 && receives play.shape seat) (syndromes_by play (receiver_at play.shape seat)) (post_by play round seat)

-- a seat's post as it is read
abbrev pub post_in_phase : Play → ℕ → ℕ → Post
post_in_phase play round seat = unless_down (play.down seat) (play.post round seat) (post_by_rules play round seat)

-- all posts, by round and seat
unfoldable pub posts_in_phase : Play → List Post
posts_in_phase play = flat_map (λ round. map (post_in_phase play round) (points_up_to (seats play.shape))) (points_up_to (rounds play.shape))

-- what a seat that is down gets in a round, by sender; nothing where it isn't down
abbrev pub rings_got : Play → ℕ → ℕ → List Ring
rings_got play round to = cond (play.down to) (map (λ seat. ring_heard play round seat to) (points_up_to (seats play.shape))) []

-- all that those who are down get, by round, receiver and sender
unfoldable pub rings_in_phase : Play → List Ring
rings_in_phase play = flat_map (λ round. flat_map (rings_got play round) (points_up_to (seats play.shape))) (points_up_to (rounds play.shape))

-- ---- a history
pub record ViewLists : Type 0 where
  pub posts : List Post
  pub rings : List Ring
  pub shares : List Fp

-- the values at a member's point of the polynomials, lane by lane, where it is exposed
abbrev pub shares_at : (ℕ → List Fp) → (ℕ → Bool) → ℕ → List Fp
shares_at polynomial exposed member = cond (exposed member) (map (λ lane. eval (polynomial lane) (fe member)) (places 5)) []

-- those of all periods, where the polynomials go by phase and lane
abbrev pub exposed_shares : Course → (ℕ → ℕ → List Fp) → List Fp
exposed_shares course polynomial =
    flat_map (λ phase. flat_map (shares_at (polynomial phase) (course.exposed phase)) (points_up_to (course.play phase).shape.receivers)) (places course.phases)

pub record IsViews (course : Course) (errors : ℕ → List (List Fp)) (views : ViewLists) : Type 0 where
  pub posts_are : views.posts ≡ flat_map (λ phase. posts_in_phase (course.play phase)) (places course.phases)
  pub rings_are : views.rings ≡ flat_map (λ phase. rings_in_phase (course.play phase)) (places course.phases)
  -- the period polynomials, by phase and lane
  pub polynomial : ℕ → ℕ → List Fp
  pub is_polynomial : (phase lane : ℕ) → phase < course.phases → lane < 5 → IsPeriodPolynomial course errors phase lane (polynomial phase lane)
  pub shares_are : views.shares ≡ exposed_shares course polynomial
