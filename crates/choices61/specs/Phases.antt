-- What the translation of a phase keeps, and what it changes, for each kind of phase.
use Rattle.std.specs.Prelude.{◌≡◌, ℕ, ◌+◌, ◌<◌, ◌≤◌, Bool, true, false, List}
use Rattle.algebra61.specs.Field.{Fp, zeroₚ, ◌+ₚ◌}
use Rattle.algebra61.specs.Grid.{grid_at}
use Rattle.sizes.specs.Instances.{instance_at}
use Rattle.talk.specs.Shape.{Lawful, OneCommittee, TwoCommittees, rounds}
use Rattle.plays.specs.Play.{Play, created_share}
use Rattle.plays.specs.Law.{ProperPlay, HonestIn}
use Rattle.plays.specs.Heard.{ring_heard}
use Rattle.periods.specs.Refresh.{refreshed_share}
use Rattle.periods.specs.Move.{moved_share}
use Rattle.histories61.specs.Phases.{Created, Refreshed, Moved, receivers_down, IsExposure}
use Rattle.histories61.specs.Course.{HasErrors}
use Rattle.choices61.specs.Views.{post_in_phase}
use Rattle.choices61.specs.Translation.{translated_phase, rise_in}

-- ---- which phases have a translation
pub record CreateHides (play : Play) (after : ℕ → Bool) : Type 0 where
  pub proper : ProperPlay play
  pub setting : Lawful play.shape
  pub one : OneCommittee play.shape
  pub no_checks : play.shape.checks ≡ 0
  pub degree : play.shape.degree ≡ play.shape.bound
  pub seen_after : IsExposure play.shape.receivers play.shape.bound (receivers_down play) after

pub record RefreshHides (play : Play) (before after : ℕ → Bool) : Type 0 where
  pub proper : ProperPlay play
  pub setting : Lawful play.shape
  pub one : OneCommittee play.shape
  pub no_checks : play.shape.checks ≡ 0
  pub degree : play.shape.degree + 1 ≡ play.shape.bound
  pub seen_before : IsExposure play.shape.dealers play.shape.bound play.down before
  pub seen_after : IsExposure play.shape.receivers play.shape.bound (receivers_down play) after

-- a move from a committee with this bound
pub record MoveHides (bound : ℕ) (play : Play) (before after : ℕ → Bool) : Type 0 where
  pub proper : ProperPlay play
  pub setting : Lawful play.shape
  pub two : TwoCommittees play.shape bound
  pub degree : play.shape.degree ≡ play.shape.bound
  pub seen_before : IsExposure play.shape.dealers bound play.down before
  pub seen_after : IsExposure play.shape.receivers play.shape.bound (receivers_down play) after

-- ---- what stays and what changes
-- nothing that is posted changes, and nothing that those get who are down
pub record SameInPhase (play other : Play) : Type 0 where
  pub proper : ProperPlay other
  pub posts : (round seat : ℕ) → round ≤ rounds play.shape → post_in_phase other round seat ≡ post_in_phase play round seat
  pub rings : (round seat to : ℕ) → play.down to ≡ true → ring_heard other round seat to ≡ ring_heard play round seat to

pub record TranslatedCreate (play : Play) (after : ℕ → Bool) (difference : ℕ → Fp) (other : Play) : Type 0 where
  pub views : SameInPhase play other
  pub shares : (lane receiver : ℕ) → lane < 5 → HonestIn play receiver →
      created_share other lane receiver ≡ created_share play lane receiver +ₚ rise_in play.shape.receivers after (difference lane) receiver

-- where the shares before differ by what the exposed before allow, those after differ by what the exposed after allow
pub record TranslatedRefresh (play : Play) (before after : ℕ → Bool) (difference : ℕ → Fp) (other : Play) : Type 0 where
  pub views : SameInPhase play other
  pub shares : (lane receiver : ℕ) (old new : Fp) → lane < 5 → HonestIn play receiver →
      new ≡ old +ₚ rise_in play.shape.dealers before (difference lane) receiver →
      refreshed_share other lane receiver new ≡ refreshed_share play lane receiver old +ₚ rise_in play.shape.receivers after (difference lane) receiver

-- the error vectors stay, the honest dealers' constants rise, and so do the moved shares
pub record TranslatedMove (play : Play) (before after : ℕ → Bool) (difference : ℕ → Fp) (other : Play) : Type 0 where
  pub views : SameInPhase play other
  pub errors : (list : List (List Fp)) → HasErrors play list → HasErrors other list
  pub shares : (lane receiver : ℕ) (error : List Fp) → lane < 5 → HonestIn play receiver →
      moved_share other lane error receiver ≡ moved_share play lane error receiver +ₚ rise_in play.shape.receivers after (difference lane) receiver
  pub constants : (dealer lane : ℕ) → 1 ≤ dealer → dealer ≤ play.shape.dealers → lane < 5 → play.down dealer ≡ false →
      grid_at (other.grid (instance_at dealer lane)) zeroₚ zeroₚ
      ≡ grid_at (play.grid (instance_at dealer lane)) zeroₚ zeroₚ +ₚ rise_in play.shape.dealers before (difference lane) dealer

abbrev pub CreateTranslates : Type 0
CreateTranslates =
    (play : Play) (before after : ℕ → Bool) (difference : ℕ → Fp) → CreateHides play after →
    TranslatedCreate play after difference (translated_phase Created play before after difference)

abbrev pub RefreshTranslates : Type 0
RefreshTranslates =
    (play : Play) (before after : ℕ → Bool) (difference : ℕ → Fp) → RefreshHides play before after →
    TranslatedRefresh play before after difference (translated_phase Refreshed play before after difference)

abbrev pub MoveTranslates : Type 0
MoveTranslates =
    (bound : ℕ) (play : Play) (before after : ℕ → Bool) (difference : ℕ → Fp) → MoveHides bound play before after →
    TranslatedMove play before after difference (translated_phase Moved play before after difference)
