-- The run of a phase over minds on their seats, some of which a drill changes, and the play that it is.
use Rattle.std.specs.Prelude.{◌≡◌, ℕ, ◌+◌, Bool, List, [], ◌∷◌, length}
use Rattle.algebra61.specs.Field.{Fp}
use Rattle.talk.specs.declared.messages.Say.TheVariants.{Pass}
use Rattle.talk.specs.Shape.{Shape, rounds}
use Rattle.talk.specs.Sync.{Ways, AllAllowed, all_seats}
use Rattle.plays.specs.Play.{Play}
use Rattle.plays.specs.Run.{play_of}
use Rattle.plays.specs.Transcript.{Transcript, transcript_of}
use Rattle.drillbook.specs.declared.order.Order.{Order}
use Rattle.drillbook.specs.Word.{DrilledMind, drilled_ways}

-- what a function makes of each item of a list and its number, the first of which is k
abbrev pub numbered : {A B : Type 0} → (ℕ → A → B) → ℕ → List A → List B
numbered f k [] = []
numbered f k (x ∷ xs) = f k x ∷ numbered f (k + 1) xs

module _ {M : Type 0} where
  -- a mind before the first round, drilled on its seat
  abbrev pub drilled_on : Shape → List Order → ℕ → M → DrilledMind M
  drilled_on s orders seat mind = record { shape = s; seat = seat; orders = orders; second = Pass; inner = mind }

  -- the minds of all seats, by seat, drilled
  abbrev pub drilled_all : Shape → List Order → List M → List (DrilledMind M)
  drilled_all s orders minds = numbered (drilled_on s orders) 1 minds

  -- the masks are ones that the words of the drilled minds allow, where the seats of `cuts round` were cut in that round
  abbrev pub AreMasks : Ways M → Shape → List Order → List M → (ℕ → ℕ) → List ℕ → Type 0
  AreMasks ways s orders minds cuts masks =
      (length masks ≡ rounds s) × AllAllowed (drilled_ways ways) s 1 (all_seats s) cuts masks (drilled_all s orders minds)

  -- their synchronous run under these masks
  abbrev pub phase_run : Ways M → Shape → List Order → List M → List ℕ → Transcript
  phase_run ways s orders minds masks = transcript_of (drilled_ways ways) s masks (drilled_all s orders minds)

  -- The play that it is, where `down` says who is down and `own` gives the grids that each other seat deals: who is down
  -- says what is heard of it in the run
  abbrev pub phase_play : Ways M → Shape → (ℕ → Bool) → (ℕ → List (List (List Fp))) → List Order → List M → List ℕ → Play
  phase_play ways s down own orders minds masks = play_of (phase_run ways s orders minds masks) down own
