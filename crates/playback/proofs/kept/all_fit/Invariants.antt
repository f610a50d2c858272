use Rattle.std.proofs.Common.{◌≡◌, drop}
use Rattle.std.specs.List.{list_all}
use Rattle.playback.specs.Kept.{item_ok}
use Rattle.playback.proofs.kept.all_fit.Given as goal

abbrev pub invariant-loop-item : goal.invariant-loop-item
invariant-loop-item l = list_all (item_ok l.setting l.down) l.said ≡ list_all (item_ok l.setting l.down) (drop l.item-index l.said)
