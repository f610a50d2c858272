use Rattle.std.proofs.Common.{◌≡◌, ◌-◌, ◌≤◌, take, length}
use Rattle.std.specs.List.{flat_map}
use Rattle.talk.specs.Shape.{seats, rounds}
use Rattle.talk.specs.Hears.{Hearing, Seated}
use Rattle.talk.specs.Sync.{ways, sync}
use Rattle.plays.specs.Said.{points_up_to}
use Rattle.hearsay.proofs.Heard.{heard_round}
use Rattle.hearsay.proofs.said.said_of.Given as goal

abbrev pub invariant-loop-round : goal.invariant-loop-round
invariant-loop-round g l =
    let m = g.M.Mind in
    let w = ways m.word m.after_say m.after_hear in
    record {
      all : length l.minds.items ≡ seats l.setting;
      now : l.minds.items ≡ sync w l.setting 1 (take (l.round - 1) l.masks) l.fn.minds.items;
      heard : l.said ≡ flat_map (heard_round w l.setting l.masks l.fn.minds.items l.down) (points_up_to (l.round - 1));
      may : l.round ≤ rounds l.setting → Hearing m.may_say l.round l.minds.items;
      made : Seated m.made_for l.setting 1 l.minds.items;
    }
