-- What is said in a play, by seat: every post and every ring message of the five rounds of the sharing, as it is read.
use Rattle.std.specs.Prelude.{ℕ, ◌&&◌, not, eqb, cond, map}
use Rattle.talk.specs.declared.messages.Post.{Post}
use Rattle.talk.specs.declared.messages.Post.TheVariants.{Quiet}
use Rattle.talk.specs.declared.messages.Ring.{Ring}
use Rattle.talk.specs.declared.messages.Ring.TheVariants.{Nothing}
use Rattle.talk.specs.declared.messages.Heard.{Heard}
use Rattle.talk.specs.Shape.{seats, deals, receives}
use Rattle.plays.specs.Play.{Play}
use Rattle.plays.specs.Said.{points_up_to, dealt_by, crossed_by, complaints_by, reveals_by, votes_by, unless_down}
use Rattle.plays.specs.Stage.{receiver_at}

-- what a seat that goes by the rules posts in a round
abbrev pub post_by : Play → ℕ → ℕ → Post
post_by play round seat =
    cond (eqb round 3 && receives play.shape seat) (complaints_by play (receiver_at play.shape seat))
    (cond (eqb round 4 && deals play.shape seat) (reveals_by play seat)
    (cond (eqb round 5 && receives play.shape seat) (votes_by play (receiver_at play.shape seat)) Quiet))

-- what it sends to another seat
abbrev pub ring_by : Play → ℕ → ℕ → ℕ → Ring
ring_by play round seat to =
    cond (eqb round 1 && (deals play.shape seat && (receives play.shape to && not (eqb seat to)))) (dealt_by play seat (receiver_at play.shape to))
    (cond (eqb round 2 && (receives play.shape seat && (receives play.shape to && not (eqb seat to)))) (crossed_by play (receiver_at play.shape seat) (receiver_at play.shape to)) Nothing)

-- what is heard of a seat: its post, and its ring message to another
abbrev pub post_heard : Play → ℕ → ℕ → Post
post_heard play round seat = unless_down (play.down seat) (play.post round seat) (post_by play round seat)

abbrev pub ring_heard : Play → ℕ → ℕ → ℕ → Ring
ring_heard play round seat to = unless_down (play.down seat) (play.ring round seat to) (ring_by play round seat to)

-- what a seat hears of all
abbrev pub play_heard : Play → ℕ → ℕ → Heard
play_heard play round to =
    record {
      posts = map (post_heard play round) (points_up_to (seats play.shape));
      rings = map (λ seat. ring_heard play round seat to) (points_up_to (seats play.shape));
    }
