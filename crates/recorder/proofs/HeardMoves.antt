-- What is heard in a move, of minds of one type that are seen as the old and the new members.
use Rattle.std.proofs.Common.{◌≡◌, ℕ, ◌-◌, Bool, List, map, take, get_or, ap, ◌∙◌}
use Rattle.algebra61.specs.Field.{Fp}
use Rattle.talk.specs.declared.messages.Say.{Say}
use Rattle.talk.specs.declared.part.Part.{Part}
use Rattle.talk.specs.Part.{part_ways}
use Rattle.talk.specs.Shape.{Shape}
use Rattle.talk.specs.Sync.{Ways, sync, words_in, words_of}
use Rattle.plays.specs.Run.{play_of, run_play}
use Rattle.periods.specs.Mover.{Mover, mover_ways}
use Rattle.moveshare.specs.Minds.{mind_ways, part_of}
use Rattle.moveshare.specs.declared.mind.MoveMind.{MoveMind}
use Rattle.drillbook.specs.Word.{DrilledMind, drilled_ways}
use Rattle.commands.specs.Late.{down_after}
use Rattle.commands.specs.Move.{down_moving, moving, moving_of, play_moved, seats_in}
use Rattle.commands.specs.MovePhase.{MayMove, minds_on}
use Rattle.commands.specs.Run.{drilled_all}
use Rattle.commands.specs.Standing.{Standing, held_on, holdings}
use Rattle.commands.proofs.Alike.{SeenAs, drilled_see, drilled_seen, sync_same, words_same}
use Rattle.commands.proofs.Movers.{can_move}
use Rattle.commands.proofs.MovingMinds.{drilled_same, seen}

-- ---- minds that are seen as others make the same play
module _ {A B : Type 0} (w : Ways A) (v : Ways B) (see : A → B) (alike : SeenAs w v see) (s : Shape) (masks : List ℕ) (ms : List A) where
  words_alike : (round : ℕ) → words_in w s masks ms round ≡ words_in v s masks (map see ms) round
  words_alike round =
      words_same w v see alike s round (sync w s 1 (take (round - 1) masks) ms)
      ∙ ap (words_of v round) (sync_same w v see alike s 1 (take (round - 1) masks) ms)

  pub play_alike : (down : ℕ → Bool) (own : ℕ → List (List (List Fp))) → run_play w s masks ms down own ≡ run_play v s masks (map see ms) down own
  play_alike down own =
      ap (λ (words : ℕ → List Say). play_of (record { shape = s; mask = λ round. get_or masks (round - 1) 0; words = words }) down own) (λ i round. words_alike round i)

-- ---- so do those of a move
pub move_alike : (N M : ℕ) (st : Standing) (m u : ℕ) → MayMove st m u → (seeds : List (List ℕ)) (masks : List ℕ) →
    run_play (drilled_ways (mind_ways {N = N} {M = M})) (moving_of st m u) masks (drilled_all (moving_of st m u) st.orders (minds_on {N = N} {M = M} (moving_of st m u) (holdings (moving st.orders u) 1 st.files seeds) m))
    (down_after (down_moving st) masks) (λ seat. (held_on (seats_in st m u seeds) seat).grids)
    ≡ play_moved st m u seeds masks
move_alike N M st m u may seeds masks =
    let s : Shape = moving_of st m u in
    let ms : List (DrilledMind (MoveMind N M)) = drilled_all s st.orders (minds_on {N = N} {M = M} s (holdings (moving st.orders u) 1 st.files seeds) m) in
    let own : ℕ → List (List (List Fp)) = λ seat. (held_on (seats_in st m u seeds) seat).grids in
    play_alike (drilled_ways (mind_ways {N = N} {M = M})) (drilled_ways (part_ways mover_ways)) (drilled_see part_of) (drilled_seen part_of (mind_ways {N = N} {M = M}) (part_ways mover_ways) (seen {N = N} {M = M})) s masks ms
    (down_after (down_moving st) masks) own
    ∙ ap (λ (xs : List (DrilledMind (Part Mover))). run_play (drilled_ways (part_ways mover_ways)) s masks xs (down_after (down_moving st) masks) own) (drilled_same N M st m u (can_move st m u may) seeds)
