-- What a script says, and how a seat goes that is drilled or scripted.
use Rattle.std.specs.Prelude.{ℕ, ◌-◌, List, All, get_or}
use Rattle.talk.specs.declared.messages.Say.{Say}
use Rattle.talk.specs.declared.messages.Say.TheVariants.{Pass}
use Rattle.talk.specs.declared.messages.Heard.{Heard}
use Rattle.talk.specs.Shape.{Shape}
use Rattle.talk.specs.Hears.{WordFits}
use Rattle.drillbook.specs.Word.{DrilledMind}
use Rattle.players.specs.declared.player.Player.{Player}
use Rattle.players.specs.declared.player.Player.TheVariants.{Drilled, Scripted}

-- the item of the round, counted from 1, and Pass past the end
abbrev pub word_at : List Say → ℕ → Say
word_at says round = get_or says (round - 1) Pass

-- each item has one ring message for each seat of the setting, and none for the own
abbrev pub script_fits : List Say → Shape → ℕ → Type 0
script_fits says s seat = All (WordFits s seat) says

module _ {M : Type 0} where
  abbrev pub player_made_for : (DrilledMind M → Shape → ℕ → Type 0) → Player M → Shape → ℕ → Type 0
  player_made_for made_for (Drilled d) s seat = made_for d s seat
  player_made_for made_for (Scripted says) s seat = script_fits says s seat

  -- a script may be said and go on in every round
  abbrev pub player_may : (DrilledMind M → ℕ → Type 0) → Player M → ℕ → Type 0
  player_may may (Drilled d) round = may d round
  player_may may (Scripted says) round = Unit {0}

  abbrev pub player_word : (DrilledMind M → ℕ → Say) → Player M → ℕ → Say
  player_word word (Drilled d) round = word d round
  player_word word (Scripted says) round = word_at says round

  -- a script stays as it is
  abbrev pub player_after_say : (DrilledMind M → ℕ → DrilledMind M) → Player M → ℕ → Player M
  player_after_say after (Drilled d) round = Drilled (after d round)
  player_after_say after (Scripted says) round = Scripted says

  abbrev pub player_after_hear : (DrilledMind M → ℕ → Heard → DrilledMind M) → Player M → ℕ → Heard → Player M
  player_after_hear after (Drilled d) round h = Drilled (after d round h)
  player_after_hear after (Scripted says) round h = Scripted says
