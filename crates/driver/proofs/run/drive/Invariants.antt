use Rattle.std.proofs.Common.{◌≡◌, ◌+◌, ◌≤◌, length}
use Rattle.talk.specs.Shape.{seats, rounds}
use Rattle.talk.specs.Hears.{Hearing, Seated}
use Rattle.talk.specs.Sync.{ways, sync, all_seats, last_mask}
use Rattle.driver.specs.Spoken.{AllSpoken}
use Rattle.driver.proofs.run.drive.Given as goal

abbrev pub invariant-loop-round : goal.invariant-loop-round
invariant-loop-round g l =
    let m = g.M.Mind in
    let w = ways m.word m.after_say m.after_hear in
    record {
      all : length l.minds.items ≡ seats l.setting;
      count : length l.masks + 1 ≡ l.round;
      now : l.minds.items ≡ sync w l.setting 1 l.masks l.fn.minds.items;
      spoken : AllSpoken w l.setting 1 (all_seats l.setting) l.masks l.fn.minds.items;
      last : l.before ≡ last_mask (all_seats l.setting) l.masks;
      may : l.round ≤ rounds l.setting → Hearing m.may_say l.round l.minds.items;
      made : Seated m.made_for l.setting 1 l.minds.items;
    }
