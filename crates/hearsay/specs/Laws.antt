-- What holds of the record of a play.
use Rattle.talk.specs.Shape.{Lawful}
use Rattle.plays.specs.Play.{Play}
use Rattle.plays.specs.Law.{IsPlay, FewDown}
use Rattle.histories61.specs.Same.{EndAlike}
use Rattle.playback.specs.declared.phase.PhaseKind.{PhaseKind}
use Rattle.playback.specs.declared.phase.Phase.{Phase}
use Rattle.playback.specs.Recorded.{play_of}
use Rattle.playback.specs.Kept.{IsKept}
use Rattle.hearsay.specs.Record.{HasGrids, IsRecordOf}

-- it is kept as every phase has to be
abbrev pub RecordIsKept : Type 0
RecordIsKept =
    (kind : PhaseKind) (play : Play) (phase : Phase) → IsPlay play → HasGrids play → IsRecordOf kind play phase →
    IsKept phase

-- it ends as the play does
abbrev pub RecordEndsAlike : Type 0
RecordEndsAlike =
    (kind : PhaseKind) (play : Play) (phase : Phase) → Lawful play.shape → IsRecordOf kind play phase →
    EndAlike play (play_of phase)

-- it is a play of the setting
abbrev pub RecordIsPlay : Type 0
RecordIsPlay =
    (kind : PhaseKind) (play : Play) (phase : Phase) → IsPlay play → IsRecordOf kind play phase → IsPlay (play_of phase)

-- as few are down
abbrev pub RecordHasFewDown : Type 0
RecordHasFewDown =
    (kind : PhaseKind) (play : Play) (phase : Phase) → FewDown play → IsRecordOf kind play phase →
    FewDown (play_of phase)
