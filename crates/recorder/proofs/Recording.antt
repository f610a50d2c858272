-- What was read off a drawn phase makes the record of its play.
use Rattle.std.proofs.Common.{◌≡◌, ℕ, ◌^◌, ◌<◌, ◌≤◌, Bool, sym, ap, ◌∙◌, subst, arith}
use Rattle.talk.specs.Shape.{Shape, seats}
use Rattle.plays.specs.Play.{Play}
use Rattle.plays.specs.Law.{IsPlay}
use Rattle.plays.proofs.Proper.{dealers_seated}
use Rattle.members.specs.Shares.{accepted_count}
use Rattle.playback.specs.declared.phase.Phase.{Phase}
use Rattle.playback.specs.Recorded.{play_of}
use Rattle.hearsay.specs.Said.{Marks, said_in}
use Rattle.hearsay.specs.Record.{IsRecordOf}
use Rattle.scenes.specs.declared.scene.Scene.{Scene}
use Rattle.scenes.specs.Orders.{shape_of}
use Rattle.rehearsal_laws.specs.Played.{kind_in}
use Rattle.rehearsal_laws.specs.Down.{down_on}
use Rattle.recorder.specs.Dealt.{AreGridsOf}
use Rattle.recorder.proofs.Counting.{record_counted}

-- on the seats of the phase they are down who are down in it
abbrev pub AreDown : Scene → (ℕ → Bool) → Type 0
AreDown scene down = (seat : ℕ) → 1 ≤ seat → seat ≤ seats (shape_of scene) → down seat ≡ down_on scene seat

-- so a mask of the one marks the other
pub marks_down : (scene : Scene) (mask : ℕ) (down : ℕ → Bool) → Marks (shape_of scene) mask (down_on scene) → AreDown scene down → Marks (shape_of scene) mask down
marks_down scene mask down marks are seat from to = marks seat from to ∙ sym (are seat from to)

-- the parts of a phase that were read off its play
pub record IsReadOff (scene : Scene) (play : Play) (phase : Phase) : Type 0 where
  pub kind : phase.kind ≡ kind_in scene
  pub setting : phase.setting ≡ shape_of scene
  pub seated : phase.down < 2 ^ seats (shape_of scene)
  pub marks : Marks (shape_of scene) phase.down (down_on scene)
  pub grids : AreGridsOf scene play phase.grids
  pub said : phase.said ≡ said_in play

module _ (scene : Scene) (play : Play) (phase : Phase) (is : IsPlay play) (shape : play.shape ≡ shape_of scene) (are : AreDown scene play.down) (read : IsReadOff scene play phase) where
  pub record_made : IsRecordOf (kind_in scene) play phase
  record_made = record {
    kind_is = read.kind;
    setting_is = read.setting ∙ sym shape;
    seated = subst (λ (s : Shape). phase.down < 2 ^ seats s) (sym shape) read.seated;
    marks = subst (λ (s : Shape). Marks s phase.down play.down) (sym shape) (marks_down scene phase.down play.down read.marks are);
    grids_are = read.grids (λ dealer from to. are dealer from (omega (arith, to, dealers_seated play.shape is.setting, ap seats shape)));
    said_is = read.said;
  }

  pub as_many : accepted_count (play_of phase) ≡ accepted_count play
  as_many = record_counted (kind_in scene) play phase is.setting record_made
