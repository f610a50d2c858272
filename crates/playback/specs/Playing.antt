-- The playing of a recorded phase, round by round: where each seat has come, and what is said.
use Rattle.std.specs.Prelude.{ℕ, zero, suc, List, [], cond, map, Option, Some, None}
use Rattle.algebra61.specs.Field.{Fp}
use Rattle.sizes.specs.Instances.{instance_at}
use Rattle.talk.specs.declared.messages.Post.{Post}
use Rattle.talk.specs.declared.messages.Say.{Say}
use Rattle.talk.specs.declared.messages.Say.TheVariants.{Speak}
use Rattle.talk.specs.Shape.{seats, deals}
use Rattle.plays.specs.Play.{Play}
use Rattle.plays.specs.Said.{places, points_up_to}
use Rattle.plays.specs.Heard.{ring_heard, play_heard}
use Rattle.plays.specs.Stage.{Stage, AtReady, stage_after, receiver_at}
use Rattle.members.specs.Member.{Member}
use Rattle.choices61.specs.Views.{post_in_phase}

-- the grids that a seat deals, lane by lane: none where no dealer sits there
abbrev pub dealt_by_seat : Play → ℕ → List (List (List Fp))
dealt_by_seat play seat = cond (deals play.shape seat) (map (λ lane. play.grid (instance_at seat lane)) (places 5)) []

-- how far a seat has come that hears so many rounds of the play
abbrev pub stage_on_seat : Play → ℕ → ℕ → Stage
stage_on_seat play seat zero = AtReady
stage_on_seat play seat (suc round) =
    stage_after play.shape (receiver_at play.shape seat) (dealt_by_seat play seat) (play_heard play (suc round) seat) (stage_on_seat play seat round)

abbrev pub member_on_seat : Play → ℕ → ℕ → Member
member_on_seat play round seat =
    record { shape = play.shape; seat = seat; grids = dealt_by_seat play seat; stage = stage_on_seat play seat round }

-- the member on a seat after so many rounds; none where the seat is down
abbrev pub seat_after : Play → ℕ → ℕ → Option Member
seat_after play round seat = cond (play.down seat) None (Some (member_on_seat play round seat))

-- all of them, by seat
abbrev pub seats_after : Play → ℕ → List (Option Member)
seats_after play round = map (seat_after play round) (points_up_to (seats play.shape))

-- what is read of a seat in a round, as a word
abbrev pub word_read : Play → ℕ → ℕ → Say
word_read play round seat = Speak (post_in_phase play round seat) (map (ring_heard play round seat) (points_up_to (seats play.shape)))

-- all of them, by seat
abbrev pub words_read : Play → ℕ → List Say
words_read play round = map (word_read play round) (points_up_to (seats play.shape))

-- the posts of all seats in a round
abbrev pub posts_read_in : Play → ℕ → List Post
posts_read_in play round = map (post_in_phase play round) (points_up_to (seats play.shape))
