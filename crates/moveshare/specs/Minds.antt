-- The minds of a move, an old member's or a new member's: how they go.
use Rattle.std.specs.Prelude.{ℕ}
use Rattle.talk.specs.declared.messages.Say.{Say}
use Rattle.talk.specs.declared.messages.Heard.{Heard}
use Rattle.talk.specs.declared.part.Part.{Part}
use Rattle.talk.specs.declared.part.Part.TheVariants.{In}
use Rattle.talk.specs.Part.{part_made_for, part_may, part_word, part_after_say, part_after_hear}
use Rattle.talk.specs.Shape.{Shape}
use Rattle.talk.specs.Sync.{Ways, ways}
use Rattle.periods.specs.Mover.{Mover, mover_word, mover_after_say, mover_after_hear}
use Rattle.moveshare.specs.declared.mind.MoveMind.{MoveMind}
use Rattle.moveshare.specs.declared.mind.MoveMind.TheVariants.{Old, New}
use Rattle.moveshare.specs.Seat.{MadeForMove, may_move}

module _ {N M : ℕ} where
  -- the mover on the seat, or that the seat is away
  abbrev pub part_of : MoveMind N M → Part Mover
  part_of (Old part) = part
  part_of (New mover) = In mover

  abbrev pub mind_made_for : MoveMind N M → Shape → ℕ → Type 0
  mind_made_for mind shape seat = part_made_for MadeForMove (part_of mind) shape seat

  abbrev pub mind_may : MoveMind N M → ℕ → Type 0
  mind_may mind round = part_may may_move (part_of mind) round

  abbrev pub mind_word : MoveMind N M → ℕ → Say
  mind_word mind round = part_word mover_word (part_of mind) round

  abbrev pub mind_after_say : MoveMind N M → ℕ → MoveMind N M
  mind_after_say (Old part) round = Old (part_after_say mover_after_say part round)
  mind_after_say (New mover) round = New (mover_after_say mover round)

  abbrev pub mind_after_hear : MoveMind N M → ℕ → Heard → MoveMind N M
  mind_after_hear (Old part) round heard = Old (part_after_hear mover_after_hear part round heard)
  mind_after_hear (New mover) round heard = New (mover_after_hear mover round heard)

  abbrev pub mind_ways : Ways (MoveMind N M)
  mind_ways = ways mind_word mind_after_say mind_after_hear
