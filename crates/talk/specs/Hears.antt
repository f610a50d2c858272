-- What a mind may say and may be told.
use Rattle.std.specs.Prelude.{◌≡◌, ℕ, ◌+◌, ◌-◌, true, List, [], ◌∷◌, length, get_or}
use Rattle.talk.specs.declared.messages.Post.{Post}
use Rattle.talk.specs.declared.messages.Ring.{Ring}
use Rattle.talk.specs.declared.messages.Ring.TheVariants.{Nothing}
use Rattle.talk.specs.declared.messages.Say.{Say}
use Rattle.talk.specs.declared.messages.Say.TheVariants.{Speak, Pass, PassThenSpeak}
use Rattle.talk.specs.declared.messages.Heard.{Heard}
use Rattle.talk.specs.Shape.{Shape, seats}
use Rattle.talk.specs.Read.{post_ok, ring_ok}

-- the posts of the seats from `seat` on, each of its shape
abbrev pub PostsOk : Shape → ℕ → ℕ → List Post → Type 0
PostsOk setting round seat [] = Unit {0}
PostsOk setting round seat (post ∷ posts) =
    (post_ok setting round seat post ≡ true) × PostsOk setting round (seat + 1) posts

-- the ring messages to one seat from the seats from `seat` on, each of its shape
abbrev pub RingsOk : Shape → ℕ → ℕ → ℕ → List Ring → Type 0
RingsOk setting round to seat [] = Unit {0}
RingsOk setting round to seat (ring ∷ rings) =
    (ring_ok setting round seat to ring ≡ true) × RingsOk setting round to (seat + 1) rings

-- one message of each seat, each of its shape
pub record Fits (setting : Shape) (seat round : ℕ) (heard : Heard) : Type 0 where
  pub posts_all : length heard.posts ≡ seats setting
  pub rings_all : length heard.rings ≡ seats setting
  pub posts_ok : PostsOk setting round 1 heard.posts
  pub rings_ok : RingsOk setting round seat 1 heard.rings

-- it was read for a setting and a seat for which the mind is made
abbrev pub AsRead : (Shape → ℕ → Type 0) → ℕ → Heard → Type 0
AsRead made_for round heard =
    (setting : Shape) × (seat : ℕ) × made_for setting seat × Fits setting seat round heard

-- a mind is made for the same settings and seats as before
abbrev pub StaysMade : (Shape → ℕ → Type 0) → (Shape → ℕ → Type 0) → Type 0
StaysMade before now =
    (setting : Shape) (seat : ℕ) →
    (before setting seat → now setting seat) × (now setting seat → before setting seat)

-- one ring message for each seat, and none for the own
pub record OneEach (setting : Shape) (seat : ℕ) (rings : List Ring) : Type 0 where
  pub all : length rings ≡ seats setting
  pub own : get_or rings (seat - 1) Nothing ≡ Nothing

-- the word has a ring message for each seat
abbrev pub WordFits : Shape → ℕ → Say → Type 0
WordFits setting seat (Speak post rings) = OneEach setting seat rings
WordFits setting seat Pass = Unit {0}
WordFits setting seat (PassThenSpeak post rings) = OneEach setting seat rings

-- each mind may do something in the round
abbrev pub Hearing : {M : Type 0} → (M → ℕ → Type 0) → ℕ → List M → Type 0
Hearing may round [] = Unit {0}
Hearing may round (mind ∷ minds) = may mind round × Hearing may round minds

-- the minds are made for the setting and the seats from `seat` on
abbrev pub Seated : {M : Type 0} → (M → Shape → ℕ → Type 0) → Shape → ℕ → List M → Type 0
Seated made setting seat [] = Unit {0}
Seated made setting seat (mind ∷ minds) = made mind setting seat × Seated made setting (seat + 1) minds
