-- What is heard in a play of the seats that are down, as the items of a record.
use Rattle.std.specs.Prelude.{◌≡◌, ℕ, ◌≤◌, Bool, cond, List, [], ◌∷◌, ◌++◌}
use Rattle.std.specs.List.{flat_map}
use Rattle.talk.specs.declared.messages.Post.{Post}
use Rattle.talk.specs.declared.messages.Post.TheVariants.{Quiet}
use Rattle.talk.specs.declared.messages.Ring.{Ring}
use Rattle.talk.specs.declared.messages.Ring.TheVariants.{Nothing}
use Rattle.talk.specs.Shape.{Shape, seats, rounds}
use Rattle.talk.specs.Sync.{has}
use Rattle.plays.specs.Play.{Play}
use Rattle.plays.specs.Said.{points_up_to}
use Rattle.playback.specs.declared.phase.SaidItem.{SaidItem}
use Rattle.playback.specs.Kept.{is_quiet, is_nothing}

-- of the seats of the setting, the mask has those that are down
abbrev pub Marks : Shape → ℕ → (ℕ → Bool) → Type 0
Marks shape mask down = (seat : ℕ) → 1 ≤ seat → seat ≤ seats shape → has mask seat ≡ down seat

-- ---- one item
abbrev pub post_item : ℕ → ℕ → Post → SaidItem
post_item round seat post = record { round = round; seat = seat; to = 0; post = post; ring = Nothing }

abbrev pub ring_item : ℕ → ℕ → ℕ → Ring → SaidItem
ring_item round seat to ring = record { round = round; seat = seat; to = to; post = Quiet; ring = ring }

-- ---- and none where nothing is said
abbrev pub post_items : ℕ → ℕ → Post → List SaidItem
post_items round seat post = cond (is_quiet post) [] (post_item round seat post ∷ [])

abbrev pub ring_items : ℕ → ℕ → ℕ → Ring → List SaidItem
ring_items round seat to ring = cond (is_nothing ring) [] (ring_item round seat to ring ∷ [])

-- what a seat says in a round: its post, and then its ring messages in order of the seats that get them
abbrev pub seat_items : Shape → ℕ → ℕ → Post → (ℕ → Ring) → List SaidItem
seat_items shape round seat post ring =
    post_items round seat post ++ flat_map (λ to. ring_items round seat to (ring to)) (points_up_to (seats shape))

-- what is heard in a round of the seats that are down, in order of the seats
abbrev pub round_items : Shape → ℕ → (ℕ → Bool) → (ℕ → Post) → (ℕ → ℕ → Ring) → List SaidItem
round_items shape round down post ring =
    flat_map (λ seat. cond (down seat) (seat_items shape round seat (post seat) (ring seat)) [])
    (points_up_to (seats shape))

-- what is heard of them in the rounds of the play
abbrev pub said_in : Play → List SaidItem
said_in play =
    flat_map (λ round. round_items play.shape round play.down (play.post round) (play.ring round))
    (points_up_to (rounds play.shape))
