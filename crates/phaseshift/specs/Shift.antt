-- The other phase of a recorded phase: in the grids of honest dealers alone the two differ, by the translation.
use Rattle.std.specs.Prelude.{◌≡◌, ℕ, ◌+◌, ◌≤◌, Bool, cond, List, [], map}
use Rattle.std.specs.List.{flat_map}
use Rattle.algebra61.specs.Field.{Fp}
use Rattle.sizes.specs.Instances.{instance_at}
use Rattle.sharing61.specs.Count.{how_many}
use Rattle.talk.specs.Shape.{Shape}
use Rattle.talk.specs.Sync.{has}
use Rattle.plays.specs.Play.{seat_of}
use Rattle.plays.specs.Said.{places, points_up_to}
use Rattle.histories61.specs.Phases.{Kind, Created, Refreshed, Moved}
use Rattle.choices61.specs.Translation.{translated_phase}
use Rattle.playback.specs.declared.phase.Phase.{Phase}
use Rattle.playback.specs.Recorded.{kind_of, play_of}

-- before: who is exposed in the period that the phase ends; a create reads nothing of it. after: who is exposed in the one
-- that it begins. difference: by how much the key changes, by lane

-- the grid of a dealer in a lane, in the translated play
abbrev pub other_grid : Phase → (ℕ → Bool) → (ℕ → Bool) → (ℕ → Fp) → ℕ → ℕ → List (List Fp)
other_grid phase before after difference dealer lane =
    (translated_phase (kind_of phase.kind) (play_of phase) before after difference).grid (instance_at dealer lane)

-- those of a dealer, by lane; none where it is down
abbrev pub grids_of_dealer : Phase → (ℕ → Bool) → (ℕ → Bool) → (ℕ → Fp) → ℕ → List (List (List Fp))
grids_of_dealer phase before after difference dealer =
    cond (has phase.down dealer) [] (map (other_grid phase before after difference dealer) (places 5))

-- those of all dealers
abbrev pub other_grids : Phase → (ℕ → Bool) → (ℕ → Bool) → (ℕ → Fp) → List (List (List Fp))
other_grids phase before after difference = flat_map (grids_of_dealer phase before after difference) (points_up_to phase.setting.dealers)

-- the phase with these grids
abbrev pub other_phase : Phase → (ℕ → Bool) → (ℕ → Bool) → (ℕ → Fp) → Phase
other_phase phase before after difference = record phase { grids = other_grids phase before after difference }

-- it is the translated play
abbrev pub OtherPhaseIsTranslated : Type 0
OtherPhaseIsTranslated =
    (phase : Phase) (before after : ℕ → Bool) (difference : ℕ → Fp) →
    play_of (other_phase phase before after difference) ≡ translated_phase (kind_of phase.kind) (play_of phase) before after difference

-- ---- when the products are of the grids' degree
-- how many receivers are down
abbrev pub down_among : Shape → (ℕ → Bool) → ℕ
down_among shape down = how_many shape.receivers (λ receiver. down (seat_of shape receiver))

-- no more are down or exposed than the grids have degrees. In a refresh one more may be exposed, since the factor in y is
-- divided by y, and it doesn't matter who is down, since no grid gets a product where too many are
abbrev pub HasRoom : Kind → Shape → (ℕ → Bool) → (ℕ → Bool) → (ℕ → Bool) → Type 0
HasRoom Created shape down before after = (down_among shape down ≤ shape.degree) × (how_many shape.receivers after ≤ shape.degree)
HasRoom Refreshed shape down before after = (how_many shape.dealers before ≤ shape.degree + 1) × (how_many shape.receivers after ≤ shape.degree + 1)
HasRoom Moved shape down before after = (down_among shape down ≤ shape.degree) × (how_many shape.receivers after ≤ shape.degree)
