-- What a rehearsal of these words prints.
use Rattle.std.specs.Prelude.{◌≡◌, ℕ, ◌+◌, List, length}
use Rattle.algebra61.specs.Field.{Fp}
use Rattle.viewshift.specs.Key.{HasKey}
use Rattle.viewshift.specs.Kept.{HistoryValue}
use Rattle.viewshift.specs.Others.{meant}
use Rattle.rehearsal_laws.specs.Rehearsal.{IsRehearsal, scenes_to}
use Rattle.playbill.specs.Text.{rehearsal_text}

-- the key of a history, with a lane for each of the five
pub record IsKeyOf (history : HistoryValue) (key : List Fp) : Type 0 where
  pub lanes : length key ≡ 5
  pub has_key : HasKey (meant history) key

-- The text is that of a rehearsal from a number, which a committee of this size and bound begins, with so many periods after
-- the first phase: its drawn phases with how many instances are accepted in them, the key of its history, and the key of its
-- other choices
pub record IsTextOf (members bound periods number : ℕ) (text : List ℕ) : Type 0 where
  pub history : HistoryValue
  pub other : HistoryValue
  pub accepted : List ℕ
  pub rehearsal : IsRehearsal members bound periods number history other accepted
  pub key : List Fp
  pub is_key : IsKeyOf history key
  pub again : List Fp
  pub is_again : IsKeyOf other again
  pub text_is : text ≡ rehearsal_text (scenes_to members bound number (periods + 1)) accepted key again
