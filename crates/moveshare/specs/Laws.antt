-- What the minds of a move do in a run, and what their results are by its play.
use Rattle.std.specs.Prelude.{◌≡◌, ℕ, ◌≤◌, List, [], map, get_or}
use Rattle.algebra61.specs.Field.{Fp}
use Rattle.talk.specs.declared.messages.Post.{Post}
use Rattle.talk.specs.Part.{part_is}
use Rattle.machines.specs.Machines.{GoesLike}
use Rattle.plays.specs.Play.{Play, seat_of}
use Rattle.plays.specs.Said.{places}
use Rattle.plays.specs.Seat.{post_at}
use Rattle.plays.specs.Law.{HonestIn}
use Rattle.periods.specs.Move.{syndromes_heard, HaveErrors, MoveHasNoResult, moved_share, IsMove}
use Rattle.periods.specs.Mover.{Mover, mover_ways, mover_turn}
use Rattle.periods.specs.Runs.{mover_done}
use Rattle.moveshare.specs.declared.out.MoveOut.{MoveOut}
use Rattle.moveshare.specs.declared.out.MoveOut.TheVariants.{Shares, NotOpened, NoWord}
use Rattle.moveshare.specs.Result.{AreCorrected, AnswersMove}
use Rattle.moveshare.specs.declared.mind.MoveMind.{MoveMind}
use Rattle.moveshare.specs.Minds.{part_of, mind_ways}

-- the mind takes part, and stands where the mover stands
abbrev pub StandsFor : {N M : ℕ} → MoveMind N M → Mover → Type 0
StandsFor mind mover = part_is (λ (one other : Mover). one ≡ other) (part_of mind) mover

-- minds that take part go like movers
abbrev pub MindsGo : Type 0
MindsGo = (N M : ℕ) → GoesLike (mind_ways {N = N} {M = M}) mover_ways StandsFor mover_turn

-- what a play defines for a receiver: its moved shares under the error vectors of the lanes, with the mask of the dealers that
-- have errors; or that the move has no result. No play leaves a lane that isn't opened
abbrev pub DefinesOut : Play → ℕ → MoveOut → Type 0
DefinesOut play receiver (Shares shares mask) =
    (errors : List (List Fp)) × HaveErrors play.shape (syndromes_heard play) errors
    × (shares ≡ map (λ lane. moved_share play lane (get_or errors lane []) receiver) (places 5)) × AreCorrected play.shape.dealers errors mask
DefinesOut play receiver (NotOpened lane place) = ⊥
DefinesOut play receiver (NoWord lane syndrome) = MoveHasNoResult play.shape (syndromes_heard play) lane syndrome

-- these posts of the sixth round are what the play defines, of receivers that are down too
abbrev pub AreHeardIn : Play → List Post → Type 0
AreHeardIn play posts = (receiver : ℕ) → 1 ≤ receiver → receiver ≤ play.shape.receivers → post_at posts (seat_of play.shape receiver) ≡ syndromes_heard play receiver

-- a mover that ends as a play defines answers by the play
abbrev pub ComesToPlay : Type 0
ComesToPlay =
    (bound : ℕ) (play : Play) (own : ℕ → List (List (List Fp))) (posts : List Post) (receiver : ℕ) (out : MoveOut) →
    IsMove bound play → HonestIn play receiver → AreHeardIn play posts →
    AnswersMove (mover_done play own posts receiver) out → DefinesOut play receiver out
