-- What the minds of a move owe as minds, an old member's or a new member's.
use Rattle.std.specs.Prelude.{ℕ, ◌+◌, ◌<◌}
use Rattle.talk.specs.declared.messages.Heard.{Heard}
use Rattle.talk.specs.Shape.{Shape, rounds}
use Rattle.talk.specs.Hears.{StaysMade}
use Rattle.moveshare.specs.declared.mind.MoveMind.{MoveMind}
use Rattle.moveshare.specs.declared.mind.MoveMind.TheVariants.{Old, New}
use Rattle.moveshare.specs.Minds.{mind_made_for, mind_may, mind_after_say, mind_after_hear}
use Rattle.moveshare.specs.Turns.{mover_says_next, part_say_keeps, part_hear_keeps, part_hears_next, part_says_next}

module _ {N M : ℕ} where
  pub mind_say_keeps : (mind : MoveMind N M) (round : ℕ) → mind_may mind round → StaysMade (mind_made_for mind) (mind_made_for (mind_after_say mind round))
  mind_say_keeps (Old part) round may shape seat = part_say_keeps part round may shape seat
  mind_say_keeps (New mover) round may shape seat = (λ made. made, λ made. made)

  pub mind_hear_keeps : (mind : MoveMind N M) (round : ℕ) (heard : Heard) → mind_may mind round → StaysMade (mind_made_for mind) (mind_made_for (mind_after_hear mind round heard))
  mind_hear_keeps (Old part) round heard may shape seat = part_hear_keeps part round heard may shape seat
  mind_hear_keeps (New mover) round heard may shape seat = (λ made. made, λ made. made)

  pub mind_hears_next : (mind : MoveMind N M) (round : ℕ) → mind_may mind round → mind_may (mind_after_say mind round) round
  mind_hears_next (Old part) round may = part_hears_next part round may
  mind_hears_next (New mover) round may = may

  pub mind_says_next : (mind : MoveMind N M) (round : ℕ) (heard : Heard) (shape : Shape) → mind_may mind round → round < rounds shape → mind_may (mind_after_hear mind round heard) (round + 1)
  mind_says_next (Old part) round heard shape may less = part_says_next part round heard shape may less
  mind_says_next (New mover) round heard shape may less = mover_says_next mover round heard shape may less
