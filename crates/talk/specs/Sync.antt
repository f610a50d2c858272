-- The synchronous run of a phase over any minds.
use Rattle.std.specs.Prelude.{◌≡◌, ℕ, ◌+◌, ◌-◌, ◌^◌, ◌<◌, Bool, true, false, eqb, cond, List, [], ◌∷◌, take, get_or, map}
use Rattle.std.specs.Int.{bit_at}
use Rattle.talk.specs.declared.messages.Post.{Post}
use Rattle.talk.specs.declared.messages.Post.TheVariants.{Quiet}
use Rattle.talk.specs.declared.messages.Ring.{Ring}
use Rattle.talk.specs.declared.messages.Ring.TheVariants.{Nothing}
use Rattle.talk.specs.declared.messages.Say.{Say}
use Rattle.talk.specs.declared.messages.Say.TheVariants.{Speak, Pass, PassThenSpeak}
use Rattle.talk.specs.declared.messages.Heard.{Heard}
use Rattle.talk.specs.Shape.{Shape, seats}
use Rattle.talk.specs.Read.{as_read, ring_as_read}

-- the seat is in the mask: its bit, the lowest for seat 1
abbrev pub has : ℕ → ℕ → Bool
has mask seat = eqb (bit_at mask (seat - 1)) 1

-- what a word posts
abbrev pub post_in : Say → Post
post_in (Speak post rings) = post
post_in Pass = Quiet
post_in (PassThenSpeak post rings) = post

-- what a word sends to a seat
abbrev pub ring_in : ℕ → Say → Ring
ring_in to (Speak post rings) = get_or rings (to - 1) Nothing
ring_in to Pass = Nothing
ring_in to (PassThenSpeak post rings) = get_or rings (to - 1) Nothing

-- the posts that are heard, given the words of the seats from `seat` on
abbrev pub posts_heard : Shape → ℕ → ℕ → ℕ → List Say → List Post
posts_heard setting round mask seat [] = []
posts_heard setting round mask seat (word ∷ words) =
    cond (has mask seat) (as_read setting round seat (post_in word)) Quiet
    ∷ posts_heard setting round mask (seat + 1) words

-- the ring messages that are heard on the seat `to`
abbrev pub rings_heard : Shape → ℕ → ℕ → ℕ → ℕ → List Say → List Ring
rings_heard setting round mask to seat [] = []
rings_heard setting round mask to seat (word ∷ words) =
    cond (has mask seat) (ring_as_read setting round seat to (ring_in to word)) Nothing
    ∷ rings_heard setting round mask to (seat + 1) words

-- what the mind on the seat `to` hears of all words, under the round's mask
abbrev pub heard_at : Shape → ℕ → ℕ → List Say → ℕ → Heard
heard_at setting round mask words to = record {
  posts = posts_heard setting round mask 1 words;
  rings = rings_heard setting round mask to 1 words;
}

-- a mask is a number whose bits are seats of the setting
abbrev pub IsMask : Shape → ℕ → Type 0
IsMask setting mask = mask < 2 ^ seats setting

-- whether a seat may be in the mask now, given whether it was in the one before. A seat that was missing once is out:
-- its word counts as a pass. Who speaks is in the mask, who passes isn't, and who speaks late may be
abbrev pub MaySay : Bool → Bool → Say → Type 0
MaySay before now (Speak post rings) = now ≡ before
MaySay before now Pass = now ≡ false
MaySay before now (PassThenSpeak post rings) = now ≡ true → before ≡ true

-- the word of a seat that was cut counts as one said late
abbrev pub said_when : Bool → Say → Say
said_when true (Speak post rings) = PassThenSpeak post rings
said_when true Pass = Pass
said_when true (PassThenSpeak post rings) = PassThenSpeak post rings
said_when false word = word

-- nobody is cut in any round
abbrev pub nobody : ℕ → ℕ
nobody round = 0

-- the mask is one that the words of the seats from `seat` on allow after the mask before, where the seats of the mask
-- `cut` were cut
abbrev pub Allowed : ℕ → ℕ → ℕ → ℕ → List Say → Type 0
Allowed before mask cut seat [] = Unit {0}
Allowed before mask cut seat (word ∷ words) =
    MaySay (has before seat) (has mask seat) (said_when (has cut seat) word)
    × Allowed before mask cut (seat + 1) words

-- the word is said in time
abbrev pub speaks : Say → Bool
speaks (Speak post rings) = true
speaks Pass = false
speaks (PassThenSpeak post rings) = false

-- all seats of the setting
abbrev pub all_seats : Shape → ℕ
all_seats setting = 2 ^ seats setting - 1

-- the last mask, or the one before the first
abbrev pub last_mask : ℕ → List ℕ → ℕ
last_mask before [] = before
last_mask before (mask ∷ masks) = last_mask mask masks

-- how minds go: a mind's word in a round, what it is after saying it, and after hearing
pub record Ways (M : Type 0) : Type 0 where
  pub word : M → ℕ → Say
  pub after_say : M → ℕ → M
  pub after_hear : M → ℕ → Heard → M

module _ {M : Type 0} where
  abbrev pub ways : (M → ℕ → Say) → (M → ℕ → M) → (M → ℕ → Heard → M) → Ways M
  ways word said heard = record { word = word; after_say = said; after_hear = heard }

  -- the words of a round, by seat
  abbrev pub words_of : Ways M → ℕ → List M → List Say
  words_of how round minds = map (λ mind. how.word mind round) minds

  -- the minds after saying them
  abbrev pub after_words : Ways M → ℕ → List M → List M
  after_words how round minds = map (λ mind. how.after_say mind round) minds

  -- the minds after hearing, the first of which is on the seat `seat`
  abbrev pub after_hears : Ways M → Shape → ℕ → ℕ → List Say → ℕ → List M → List M
  after_hears how setting round mask words seat [] = []
  after_hears how setting round mask words seat (mind ∷ minds) =
      how.after_hear mind round (heard_at setting round mask words seat)
      ∷ after_hears how setting round mask words (seat + 1) minds

  -- the minds after a round
  abbrev pub after_round : Ways M → Shape → ℕ → ℕ → List M → List M
  after_round how setting round mask minds =
      after_hears how setting round mask (words_of how round minds) 1 (after_words how round minds)

  -- the minds after the rounds of the masks, the first of which is `round`
  abbrev pub sync : Ways M → Shape → ℕ → List ℕ → List M → List M
  sync how setting round [] minds = minds
  sync how setting round (mask ∷ masks) minds =
      sync how setting (round + 1) masks (after_round how setting round mask minds)

  -- the words that are said in a round, when the rounds before it went by their masks
  abbrev pub words_in : Ways M → Shape → List ℕ → List M → ℕ → List Say
  words_in how setting masks minds round = words_of how round (sync how setting 1 (take (round - 1) masks) minds)

  -- each mask is one that the words allow, where the seats of `cut round` were cut in that round
  abbrev pub AllAllowed : Ways M → Shape → ℕ → ℕ → (ℕ → ℕ) → List ℕ → List M → Type 0
  AllAllowed how setting round before cut [] minds = Unit {0}
  AllAllowed how setting round before cut (mask ∷ masks) minds =
      IsMask setting mask
      × Allowed before mask (cut round) 1 (words_of how round minds)
      × AllAllowed how setting (round + 1) mask cut masks (after_round how setting round mask minds)
