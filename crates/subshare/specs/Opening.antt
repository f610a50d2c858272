-- What opening a lane answers.
use Rattle.std.specs.Prelude.{◌≡◌, ℕ, ◌+◌, ◌<◌, ◌≤◌, List, [], length, Option, Result, Ok, Err}
use Rattle.algebra61.specs.Field.{Fp}
use Rattle.algebra61.specs.Polynomial.{Polynomial}
use Rattle.algebra61.specs.Nearest.{present, wrong, IsNearest}
use Rattle.talk.specs.declared.messages.Post.{Post}
use Rattle.talk.specs.Shape.{Shape}
use Rattle.plays.specs.Play.{seat_of}
use Rattle.plays.specs.Seat.{post_at}
use Rattle.periods.specs.Move.{posted_values, IsOpened, IsOpenedSyndrome}
use Rattle.subshare.specs.declared.OpenFault.{OpenFault}
use Rattle.subshare.specs.declared.OpenFault.TheVariants.{NotOpened, OutOfMemory}

-- what a receiver posted, from the posts by seats
abbrev pub post_of : Shape → List Post → ℕ → Post
post_of shape posts receiver = post_at posts (seat_of shape receiver)

-- all values that are there lie on this polynomial of degree at most d, and they are more than d
pub record Agree (d : ℕ) (values : List (Option Fp)) (polynomial : Polynomial) : Type 0 where
  pub short : length polynomial.coeffs ≤ d + 1
  pub right : wrong polynomial.coeffs 1 values ≡ []
  pub many : d < length (present 1 values)

-- no polynomial is nearest to what was posted for the place
pub record IsUnopened (shape : Shape) (post : ℕ → Post) (lane place : ℕ) : Type 0 where
  pub none : (polynomial : Polynomial) → IsNearest shape.degree (posted_values shape post lane place) polynomial → ⊥

-- the least place of the lane that isn't opened
pub record IsFirstUnopened (shape : Shape) (post : ℕ → Post) (lane place : ℕ) : Type 0 where
  pub within : place < shape.checks
  pub unopened : IsUnopened shape post lane place
  pub before : (other : ℕ) → other < place → (value : Fp) × IsOpened shape post lane other value

-- the opened syndrome, or the least place that isn't opened; want of memory is free
abbrev pub Opens : Shape → (ℕ → Post) → ℕ → Result (List Fp) OpenFault → Type 0
Opens shape post lane (Ok syndrome) = IsOpenedSyndrome shape post lane syndrome
Opens shape post lane (Err (NotOpened place)) = IsFirstUnopened shape post lane place
Opens shape post lane (Err OutOfMemory) = Unit {0}
