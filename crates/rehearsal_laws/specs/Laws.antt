-- Laws of the phases of a rehearsal.
use Rattle.std.specs.Prelude.{◌≡◌, ℕ, ◌+◌, true, List, length}
use Rattle.sizes.specs.Committees.{is_bound, is_size}
use Rattle.playback.specs.declared.phase.Phase.{Phase}
use Rattle.viewshift.specs.Fits.{AreHistory}
use Rattle.viewshift.specs.Kept.{HistoryValue}
use Rattle.rehearsal_laws.specs.Rehearsal.{ArePhases, IsRehearsal, exposed_in}

-- they are a history, with the masks of who is exposed
abbrev pub PhasesMakeHistory : Type 0
PhasesMakeHistory =
    (members bound periods number : ℕ) (phases : List Phase) → is_size members ≡ true → is_bound members bound ≡ true →
    length phases ≡ periods + 1 → ArePhases members bound number phases →
    AreHistory phases (exposed_in members bound number periods)

-- there is one list of so many phases
abbrev pub OnePhases : Type 0
OnePhases =
    (members bound number : ℕ) (phases others : List Phase) → is_size members ≡ true → is_bound members bound ≡ true →
    length phases ≡ length others → ArePhases members bound number phases → ArePhases members bound number others →
    phases ≡ others

-- so all rehearsals of the same words have the same history, and the same counts
abbrev pub OneRehearsal : Type 0
OneRehearsal =
    (members bound periods number : ℕ) (history other again another : HistoryValue) (accepted counted : List ℕ) →
    is_size members ≡ true → is_bound members bound ≡ true →
    IsRehearsal members bound periods number history other accepted →
    IsRehearsal members bound periods number again another counted →
    (again ≡ history) × (counted ≡ accepted)

-- and the same other choices
abbrev pub OneOthers : Type 0
OneOthers =
    (members bound periods number : ℕ) (history other again another : HistoryValue) (accepted counted : List ℕ) →
    is_size members ≡ true → is_bound members bound ≡ true →
    IsRehearsal members bound periods number history other accepted →
    IsRehearsal members bound periods number again another counted →
    another ≡ other
