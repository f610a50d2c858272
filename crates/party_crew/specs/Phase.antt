-- What a finished phase says.
use Rattle.std.specs.Prelude.{◌≡◌, ℕ, ◌+◌, ◌-◌, ◌<◌, ◌≤◌, ◌⊎◌, true, List, length, take, get_or, Option, Some, None}
use Rattle.talk.specs.declared.messages.Post.{Post}
use Rattle.talk.specs.declared.messages.Say.TheVariants.{Pass}
use Rattle.talk.specs.Shape.{Shape}
use Rattle.talk.specs.Sync.{Ways, has, post_in, words_of, sync}
use Rattle.roundboard.specs.declared.finish.ClosedBoard.{ClosedBoard}
use Rattle.roundboard.specs.declared.finish.Reader.{Reader}
use Rattle.roundboard.specs.Closed.{mask_at, cut_at, shows_at, post_at, rounds_closed}
use Rattle.turns.specs.Turns.{tabulate}
use Rattle.counters.specs.Counts.{Rose}
use Rattle.roundboard.specs.Rule.{IsPart}

-- the mask, or 0 where there is none
abbrev pub shown : Option ℕ → ℕ
shown None = 0
shown (Some mask) = mask

module _ {S : ℕ} where
  -- the mask of a round, from 0
  abbrev pub round_mask : ClosedBoard Post S → ℕ → ℕ
  round_mask board round = shown (mask_at board round)

  -- the masks, the first round's first
  abbrev pub board_masks : ClosedBoard Post S → List ℕ
  board_masks board = tabulate 0 (rounds_closed board) (round_mask board)

  -- who was cut in a round, from 1
  abbrev pub board_cuts : ClosedBoard Post S → ℕ → ℕ
  board_cuts board round = cut_at board (round - 1)

  -- what the warden cut is a part of what the pace answered, the pace was asked at most as often as the warden
  -- looked who is missing, and nobody was cut where no answer named a seat
  pub record PhasePaced (cuts asked : ℕ → ℕ) (before after : ℕ) (board : ClosedBoard Post S) : Type 0 where
    pub part : (round : ℕ) → round < rounds_closed board → IsPart (cut_at board round) (cuts (round + 1))
    pub shown : (round : ℕ) → round < rounds_closed board → asked (round + 1) ≤ shows_at board round
    pub quiet : ((round : ℕ) → round < rounds_closed board → cut_at board round ≡ 0) ⊎ Rose before after

  -- the board has so many rounds, and each has a mask
  pub record HasAllMasks (rounds : ℕ) (board : ClosedBoard Post S) : Type 0 where
    pub count : rounds_closed board ≡ rounds
    pub each : (round : ℕ) → round < rounds → mask_at board round ≡ Some (round_mask board round)

  -- the post of each seat in each mask is that of its word in the run; rounds and places count from 0
  abbrev pub PostsAreWords : {M : Type 0} → Ways M → Shape → ClosedBoard Post S → Reader Post S → List M → Type 0
  PostsAreWords ways shape board reader minds =
      (round place : ℕ) → round < rounds_closed board → place < S → has (round_mask board round) (place + 1) ≡ true →
      post_at reader round place
      ≡ Some (post_in
      (get_or (words_of ways (round + 1) (sync ways shape 1 (take round (board_masks board)) minds)) place Pass))
