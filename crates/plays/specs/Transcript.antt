-- A run of a phase over any minds, as the words that are said in it, and what is heard of them.
use Rattle.std.specs.Prelude.{◌≡◌, ℕ, ◌-◌, ◌≤◌, Bool, false, List, get_or}
use Rattle.talk.specs.declared.messages.Post.{Post}
use Rattle.talk.specs.declared.messages.Ring.{Ring}
use Rattle.talk.specs.declared.messages.Say.{Say}
use Rattle.talk.specs.declared.messages.Heard.{Heard}
use Rattle.talk.specs.Shape.{Shape, seats}
use Rattle.talk.specs.Sync.{Ways, words_in, heard_at, posts_heard, rings_heard}

-- the words of all seats, in order, and the mask, of each round
pub record Transcript : Type 0 where
  pub shape : Shape
  pub mask : ℕ → ℕ
  pub words : ℕ → List Say

-- the transcript of a run over minds, under the masks of its rounds
abbrev pub transcript_of : {M : Type 0} → Ways M → Shape → List ℕ → List M → Transcript
transcript_of ways shape masks ms = record { shape = shape; mask = λ round. get_or masks (round - 1) 0; words = words_in ways shape masks ms }

-- the posts that are heard in a round, and the ring messages that a seat hears
abbrev pub posts_in : Transcript → ℕ → List Post
posts_in transcript round = posts_heard transcript.shape round (transcript.mask round) 1 (transcript.words round)

abbrev pub rings_in : Transcript → ℕ → ℕ → List Ring
rings_in transcript round to = rings_heard transcript.shape round (transcript.mask round) to 1 (transcript.words round)

abbrev pub heard_in : Transcript → ℕ → ℕ → Heard
heard_in transcript round to = heard_at transcript.shape round (transcript.mask round) (transcript.words round) to

-- a seat of the setting that is not down
pub record HonestSeat (s : Shape) (down : ℕ → Bool) (seat : ℕ) : Type 0 where
  pub from : 1 ≤ seat
  pub to : seat ≤ seats s
  pub up : down seat ≡ false
