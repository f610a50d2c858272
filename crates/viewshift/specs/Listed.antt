-- A history as it is kept: a list of phases, and a mask of indexes for each period.
use Rattle.std.specs.Prelude.{ℕ, List, [], length, get_or}
use Rattle.talk.specs.Sync.{has}
use Rattle.histories61.specs.Course.{Course}
use Rattle.playback.specs.declared.phase.PhaseKind.TheVariants.{Create}
use Rattle.playback.specs.declared.phase.Phase.{Phase}
use Rattle.playback.specs.Recorded.{kind_of, play_of}

-- what stands for a phase where there is none
abbrev pub no_phase : Phase
no_phase = record {
  kind = Create;
  setting = record { receivers = 0; bound = 0; degree = 0; dealers = 0; shift = 0; checks = 0 };
  down = 0;
  grids = [];
  said = [];
}

-- the phase at a place, counted from 0
abbrev pub phase_at : List Phase → ℕ → Phase
phase_at phases k = get_or phases k no_phase

-- the mask of the period that it begins; a missing one is empty
abbrev pub mask_at : List ℕ → ℕ → ℕ
mask_at exposed k = get_or exposed k 0

-- the history that these are
abbrev pub course_of : List Phase → List ℕ → Course
course_of phases exposed = record {
  phases = length phases;
  kind = λ k. kind_of (phase_at phases k).kind;
  play = λ k. play_of (phase_at phases k);
  exposed = λ k. has (mask_at exposed k);
}
