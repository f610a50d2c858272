use Rattle.std.proofs.Common.{◌≡◌, ◌++◌, ◌+◌, take, drop, length}
use Rattle.talk.specs.Hears.{Hearing, Seated}
use Rattle.talk.specs.Sync.{ways, after_hears}
use Rattle.driver.proofs.rounds.hear_all.Given as goal

abbrev pub invariant-loop-mind : goal.invariant-loop-mind
invariant-loop-mind g l =
    let m = g.M.Mind in
    let w = ways m.word m.after_say m.after_hear in
    record {
      seat : l.seat ≡ l.mind-index + 1;
      many : length l.mind-items ≡ length l.fn.minds.items;
      changed : take l.mind-index l.mind-items ++ after_hears w l.setting l.round l.mask l.words l.seat (drop l.mind-index l.mind-items)
          ≡ after_hears w l.setting l.round l.mask l.words 1 l.fn.minds.items;
      may : Hearing m.may_hear l.round (drop l.mind-index l.mind-items);
      made : Seated m.made_for l.setting l.seat (drop l.mind-index l.mind-items);
    }
