-- What the calls of a board add to the log of a pen. Rounds and places count from 0.
use Rattle.std.specs.Int.{bit_at}
use Rattle.std.specs.Prelude.{◌≡◌, ℕ, ◌+◌, ◌≤◌, ◌⊎◌, ◌==◌, cond, List, [], ◌∷◌}
use Rattle.roundboard.specs.Rule.{In, event, control_round, IsFull}
use Rattle.roundboard.specs.declared.view.Event.{Event}
use Rattle.roundboard.specs.declared.view.Deed.{Deed}
use Rattle.roundboard.specs.declared.view.Deed.TheVariants.{Posted, Passed, Closed, Lost, Published, Looked, SawControl, Cut}

abbrev pub looks_in : Deed → ℕ
looks_in (Looked frozen) = 1
looks_in _ = 0

abbrev pub controls_in : Deed → ℕ
controls_in (SawControl control) = 1
controls_in _ = 0

-- how often the frozen word of the round was loaded
abbrev pub frozen_loads : ℕ → List Event → ℕ
frozen_loads round [] = 0
frozen_loads round (newest ∷ older) = cond (newest.round == round) (looks_in newest.deed) 0 + frozen_loads round older

-- how often the control word was loaded
abbrev pub control_loads : List Event → ℕ
control_loads [] = 0
control_loads (newest ∷ older) = controls_in newest.deed + control_loads older

-- a closing step: the first to close publishes the posted bits of the word that it found, and a later one finds the word closed
abbrev pub ClosesOrLoses : ℕ → List Event → List Event → Type 0
ClosesOrLoses round old new = (found : ℕ)
    × (((bit_at found 63 ≡ 0) × (new ≡ event round (Published found) ∷ (event round (Closed found) ∷ old)))
    ⊎ ((bit_at found 63 ≡ 1) × (new ≡ event round (Lost found) ∷ old)))

-- after an arrival that found one word and left another: where the word was not closed and all seats have arrived, a closing step follows, and else nothing does
abbrev pub ClosesWhereDue : ℕ → ℕ → ℕ → ℕ → List Event → List Event → Type 0
ClosesWhereDue seats round found left old new =
    ((bit_at found 63 ≡ 0) × IsFull seats left × ClosesOrLoses round old new)
    ⊎ (((bit_at found 63 ≡ 1) ⊎ (¬ (IsFull seats left))) × (new ≡ old))

-- the deed by which a seat arrived, which found one word and left another, and the closing step where it is due
abbrev pub Arrival : ℕ → ℕ → Deed → ℕ → ℕ → List Event → List Event → Type 0
Arrival seats round deed found left old new = ClosesWhereDue seats round found left (event round deed ∷ old) new

-- all posts in the log are those of the place, and so are all passes
abbrev pub OwnPosts : ℕ → List Event → Type 0
OwnPosts place events = (round other found : ℕ) → In (event round (Posted other found)) events → other ≡ place

abbrev pub OwnPasses : ℕ → List Event → Type 0
OwnPasses place events = (round other found : ℕ) → In (event round (Passed other found)) events → other ≡ place

-- nobody was cut
abbrev pub NoCuts : List Event → Type 0
NoCuts events = (round mask found : ℕ) → In (event round (Cut mask found)) events → ⊥

-- the log grew, and posts and passes that came are of the round
pub record Grew (round : ℕ) (old new : List Event) : Type 0 where
  pub keep : (step : Event) → In step old → In step new
  pub posts : (other place found : ℕ) → In (event other (Posted place found)) new →
      In (event other (Posted place found)) old ⊎ (other ≡ round)
  pub passes : (other place found : ℕ) → In (event other (Passed place found)) new →
      In (event other (Passed place found)) old ⊎ (other ≡ round)

-- no post and no pass came
pub record NoArrivals (old new : List Event) : Type 0 where
  pub posts : (round place found : ℕ) → In (event round (Posted place found)) new →
      In (event round (Posted place found)) old
  pub passes : (round place found : ℕ) → In (event round (Passed place found)) new →
      In (event round (Passed place found)) old

-- the step is a load of the frozen word of the round, or of the control word
abbrev pub IsLoad : ℕ → Event → Type 0
IsLoad round step = ((frozen : ℕ) × (step ≡ event round (Looked frozen)))
    ⊎ ((control : ℕ) × (step ≡ event control_round (SawControl control)))

-- the log grew by loads of looks at the round alone, and each of them counts
pub record OnlyLooks (round : ℕ) (old new : List Event) : Type 0 where
  pub keep : (step : Event) → In step old → In step new
  pub loads : (step : Event) → In step new → In step old ⊎ IsLoad round step
  pub frozen : frozen_loads round old ≤ frozen_loads round new
  pub control : control_loads old ≤ control_loads new
