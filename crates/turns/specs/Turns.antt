-- What one member did in a phase, over plain lists, the newest round first.
use Rattle.std.specs.Prelude.{◌≡◌, ◌≢◌, ℕ, zero, suc, ◌+◌, ◌-◌, ◌*◌, ◌^◌, ◌<◌, ◌≤◌, Bool, true, false, ◌||◌, not, cond, List, [], ◌∷◌, ◌++◌, length, get_or, map, Option, Some}
use Rattle.talk.specs.declared.messages.Post.{Post}
use Rattle.talk.specs.declared.messages.Post.TheVariants.{Quiet}
use Rattle.talk.specs.declared.messages.Ring.{Ring}
use Rattle.talk.specs.declared.messages.Ring.TheVariants.{Nothing}
use Rattle.talk.specs.declared.messages.Say.{Say}
use Rattle.talk.specs.declared.messages.Say.TheVariants.{Speak, Pass, PassThenSpeak}
use Rattle.talk.specs.declared.messages.Heard.{Heard}
use Rattle.talk.specs.Shape.{Shape}
use Rattle.talk.specs.Read.{posts_read, rings_read}
use mathlib.Core.List.{IsPrefix}
use Rattle.talk.specs.Sync.{Ways, has, post_in, ring_in, after_round, words_of, IsMask, Allowed}

-- What a member took in in one round: the mask, and of each seat its post and its ring message as they came.
pub record Turn : Type 0 where
  pub mask : ℕ
  pub posts : List Post
  pub rings : List Ring

-- what the member on the seat `me` tells its mind of a turn: each message as read
abbrev pub heard_of : Shape → ℕ → ℕ → Turn → Heard
heard_of shape round me turn =
    record { posts = posts_read shape round 1 turn.posts; rings = rings_read shape round me 1 turn.rings }

-- a seat that was missing from a mask is out
abbrev pub out_of : ℕ → List Turn → Bool
out_of me [] = false
out_of me (turn ∷ older) = out_of me older || not (has turn.mask me)

-- the word that counts: who is out passes, whatever its mind says
abbrev pub counted : Bool → Say → Say
counted out word = cond out Pass word

-- what a word sends to a seat: one item, or nothing where it passes
abbrev pub sent_in : ℕ → Say → List Ring
sent_in to (Speak post rings) = get_or rings (to - 1) Nothing ∷ []
sent_in to Pass = []
sent_in to (PassThenSpeak post rings) = get_or rings (to - 1) Nothing ∷ []

-- what was received from a seat in a turn: one item where the mask has the seat
abbrev pub got_in : ℕ → Turn → List Ring
got_in from turn = cond (has turn.mask from) (get_or turn.rings (from - 1) Nothing ∷ []) []

-- all items that were received from a seat
abbrev pub got_items : ℕ → List Turn → List Ring
got_items from [] = []
got_items from (turn ∷ older) = got_items from older ++ got_in from turn

module _ {M : Type 0} where
  -- the mind after the turns
  abbrev pub mind_after : Ways M → Shape → ℕ → M → List Turn → M
  mind_after ways shape me first [] = first
  mind_after ways shape me first (turn ∷ older) =
      ways.after_hear (ways.after_say (mind_after ways shape me first older) (length older + 1)) (length older + 1)
      (heard_of shape (length older + 1) me turn)

  -- the word that counts in the round after the turns
  abbrev pub counted_after : Ways M → Shape → ℕ → M → List Turn → Say
  counted_after ways shape me first older =
      counted (out_of me older) (ways.word (mind_after ways shape me first older) (length older + 1))

  -- all items that were sent to a seat
  abbrev pub sent_items : Ways M → Shape → ℕ → ℕ → M → List Turn → List Ring
  sent_items ways shape to me first [] = []
  sent_items ways shape to me first (turn ∷ older) =
      sent_items ways shape to me first older ++ sent_in to (counted_after ways shape me first older)

-- ---- what must be known of all members together
-- who passes isn't present
abbrev pub AbsentIfPass : Bool → Say → Type 0
AbsentIfPass present (Speak post rings) = Unit {0}
AbsentIfPass present Pass = present ≡ false
AbsentIfPass present (PassThenSpeak post rings) = Unit {0}

-- who speaks and was not cut is present
abbrev pub PresentIfSpeak : Bool → Bool → Say → Type 0
PresentIfSpeak cut present (Speak post rings) = cut ≡ false → present ≡ true
PresentIfSpeak cut present Pass = Unit {0}
PresentIfSpeak cut present (PassThenSpeak post rings) = Unit {0}

-- the turn has a message of each of so many seats: nothing where the mask lacks the seat, and nothing from the own seat
pub record IsComplete (count me : ℕ) (turn : Turn) : Type 0 where
  pub posts_all : length turn.posts ≡ count
  pub rings_all : length turn.rings ≡ count
  pub no_post : (seat : ℕ) → 1 ≤ seat → seat ≤ count → has turn.mask seat ≡ false →
      get_or turn.posts (seat - 1) Quiet ≡ Quiet
  pub no_ring : (seat : ℕ) → 1 ≤ seat → seat ≤ count → has turn.mask seat ≡ false →
      get_or turn.rings (seat - 1) Nothing ≡ Nothing
  pub own_ring : get_or turn.rings (me - 1) Nothing ≡ Nothing

abbrev pub AllComplete : ℕ → ℕ → List Turn → Type 0
AllComplete count me [] = Unit {0}
AllComplete count me (turn ∷ older) = IsComplete count me turn × AllComplete count me older

-- the masks of the turns
abbrev pub masks_of : List Turn → List ℕ
masks_of [] = []
masks_of (turn ∷ older) = turn.mask ∷ masks_of older

module _ {M : Type 0} where
  -- in the rounds in which the seat passes it isn't in the mask
  abbrev pub AbsentWherePassed : Ways M → Shape → ℕ → M → List Turn → Type 0
  AbsentWherePassed ways shape me first [] = Unit {0}
  AbsentWherePassed ways shape me first (turn ∷ older) =
      AbsentIfPass (has turn.mask me) (counted_after ways shape me first older)
      × AbsentWherePassed ways shape me first older

  -- and in those in which it speaks and was not cut it is; `cut` is who was cut in each round, from 1
  abbrev pub PresentWhereSpoke : (ℕ → ℕ) → Ways M → Shape → ℕ → M → List Turn → Type 0
  PresentWhereSpoke cut ways shape me first [] = Unit {0}
  PresentWhereSpoke cut ways shape me first (turn ∷ older) =
      PresentIfSpeak (has (cut (length older + 1)) me) (has turn.mask me) (counted_after ways shape me first older)
      × PresentWhereSpoke cut ways shape me first older

  -- the posts of the seat `from` that one member took in are those that its word had
  abbrev pub Values : Ways M → Shape → ℕ → M → List Turn → List Turn → Type 0
  Values ways shape from first [] theirs = Unit {0}
  Values ways shape from first (turn ∷ older) [] = Unit {0}
  Values ways shape from first (turn ∷ older) (said ∷ theirs) =
      (has turn.mask from ≡ true →
      get_or turn.posts (from - 1) Quiet ≡ post_in (counted_after ways shape from first theirs))
      × Values ways shape from first older theirs

  -- All members of a phase went by the same masks, took in what the others posted, and received from each the first
  -- items that it sent
  pub record MembersAgree (ways : Ways M) (shape : Shape) (count : ℕ) (first : ℕ → M) (masks : List ℕ)
      (turns : ℕ → List Turn) : Type 0 where
    pub same_masks : (seat : ℕ) → 1 ≤ seat → seat ≤ count → masks_of (turns seat) ≡ masks
    pub complete : (seat : ℕ) → 1 ≤ seat → seat ≤ count → AllComplete count seat (turns seat)
    pub absent : (seat : ℕ) → 1 ≤ seat → seat ≤ count → AbsentWherePassed ways shape seat (first seat) (turns seat)
    pub values : (other seat : ℕ) → 1 ≤ other → other ≤ count → 1 ≤ seat → seat ≤ count →
        Values ways shape seat (first seat) (turns other) (turns seat)
    pub rings : (other seat : ℕ) → 1 ≤ other → other ≤ count → 1 ≤ seat → seat ≤ count → other ≢ seat →
        IsPrefix (got_items seat (turns other)) (sent_items ways shape other seat (first seat) (turns seat))

-- ---- the synchronous run, the newest mask first
-- the values at so many numbers, from `seat` on
abbrev pub tabulate : {A : Type 0} → ℕ → ℕ → (ℕ → A) → List A
tabulate seat zero value = []
tabulate seat (suc count) value = value seat ∷ tabulate (seat + 1) count value

-- each is a mask of the setting
abbrev pub AllMasks : Shape → List ℕ → Type 0
AllMasks shape [] = Unit {0}
AllMasks shape (mask ∷ older) = IsMask shape mask × AllMasks shape older

-- the newest mask, or that of everyone where there is none
abbrev pub mask_before : ℕ → List ℕ → ℕ
mask_before everyone [] = everyone
mask_before everyone (mask ∷ older) = mask

module _ {M : Type 0} where
  -- the synchronous run
  abbrev pub sync_back : Ways M → Shape → List ℕ → List M → List M
  sync_back ways shape [] minds = minds
  sync_back ways shape (mask ∷ older) minds =
      after_round ways shape (length older + 1) mask (sync_back ways shape older minds)

  -- each mask is one that the words allow
  abbrev pub AllowedBack : Ways M → Shape → ℕ → (ℕ → ℕ) → List ℕ → List M → Type 0
  AllowedBack ways shape everyone cut [] minds = Unit {0}
  AllowedBack ways shape everyone cut (mask ∷ older) minds =
      AllowedBack ways shape everyone cut older minds × IsMask shape mask
      × Allowed (mask_before everyone older) mask (cut (length older + 1)) 1
      (words_of ways (length older + 1) (sync_back ways shape older minds))

  -- what the seats of each mask posted is what their words had; `held` is the value of a round and a seat,
  -- both from 1
  abbrev pub PostsBack : Ways M → Shape → ℕ → (ℕ → ℕ → Option Post) → List ℕ → List M → Type 0
  PostsBack ways shape count held [] minds = Unit {0}
  PostsBack ways shape count held (mask ∷ older) minds =
      PostsBack ways shape count held older minds
      × ((seat : ℕ) → 1 ≤ seat → seat ≤ count → has mask seat ≡ true →
      held (length older + 1) seat
      ≡ Some (post_in
      (get_or (words_of ways (length older + 1) (sync_back ways shape older minds)) (seat - 1) Pass)))

  -- the seat's posts of the rounds whose mask has it are what it said
  abbrev pub HeldBy : Ways M → Shape → (ℕ → M) → (ℕ → ℕ → Option Post) → ℕ → List Turn → Type 0
  HeldBy ways shape first held seat [] = Unit {0}
  HeldBy ways shape first held seat (turn ∷ older) =
      (has turn.mask seat ≡ true →
      held (length older + 1) seat ≡ Some (post_in (counted_after ways shape seat (first seat) older)))
      × HeldBy ways shape first held seat older
