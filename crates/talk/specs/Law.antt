-- Laws of the run that callers may use.
use Rattle.std.specs.Prelude.{◌≡◌, ℕ, ◌+◌, ◌<◌, cond, List, length, get_or}
use Rattle.talk.specs.declared.messages.Post.{Post}
use Rattle.talk.specs.declared.messages.Post.TheVariants.{Quiet}
use Rattle.talk.specs.declared.messages.Ring.{Ring}
use Rattle.talk.specs.declared.messages.Ring.TheVariants.{Nothing}
use Rattle.talk.specs.declared.messages.Say.{Say}
use Rattle.talk.specs.declared.messages.Say.TheVariants.{Pass}
use Rattle.talk.specs.Shape.{Shape, seats}
use Rattle.talk.specs.Read.{as_read, ring_as_read, posts_read, rings_read}
use Rattle.talk.specs.Hears.{Fits}
use Rattle.talk.specs.Sync.{has, post_in, ring_in, posts_heard, rings_heard, heard_at}

-- the post that is heard of the seat at a place is that of its word as read, where the mask has it
abbrev pub PostHeard : Type 0
PostHeard =
    (setting : Shape) (round mask seat : ℕ) (words : List Say) (place : ℕ) → place < length words →
    get_or (posts_heard setting round mask seat words) place Quiet
    ≡ cond (has mask (seat + place)) (as_read setting round (seat + place) (post_in (get_or words place Pass))) Quiet

-- and so the ring message
abbrev pub RingHeard : Type 0
RingHeard =
    (setting : Shape) (round mask to seat : ℕ) (words : List Say) (place : ℕ) → place < length words →
    get_or (rings_heard setting round mask to seat words) place Nothing
    ≡ cond
    (has mask (seat + place))
    (ring_as_read setting round (seat + place) to (ring_in to (get_or words place Pass)))
    Nothing

-- what a run lets a seat hear may be told to a mind there
abbrev pub HeardFits : Type 0
HeardFits =
    (setting : Shape) (round mask to : ℕ) (words : List Say) → length words ≡ seats setting →
    Fits setting to round (heard_at setting round mask words to)

-- one message of each seat, read one by one, may be told to a mind
abbrev pub ReadFits : Type 0
ReadFits =
    (setting : Shape) (seat round : ℕ) (posts : List Post) (rings : List Ring) →
    length posts ≡ seats setting → length rings ≡ seats setting →
    Fits setting seat round
    (record { posts = posts_read setting round 1 posts; rings = rings_read setting round seat 1 rings })
