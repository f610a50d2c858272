use Rattle.std.proofs.Common.{◌≡◌, ◌++◌, take, drop}
use Rattle.talk.specs.Hears.{Hearing}
use Rattle.talk.specs.Sync.{ways, words_of, after_words}
use Rattle.driver.proofs.rounds.say_all.Given as goal

abbrev pub invariant-loop-mind : goal.invariant-loop-mind
invariant-loop-mind g l =
    let m = g.M.Mind in
    record {
      told : l.words.items ++ words_of (ways m.word m.after_say m.after_hear) l.round (drop l.mind-index l.mind-items)
          ≡ words_of (ways m.word m.after_say m.after_hear) l.round l.fn.minds.items;
      changed : take l.mind-index l.mind-items ++ after_words (ways m.word m.after_say m.after_hear) l.round (drop l.mind-index l.mind-items)
          ≡ after_words (ways m.word m.after_say m.after_hear) l.round l.fn.minds.items;
      may : Hearing m.may_say l.round (drop l.mind-index l.mind-items);
    }
