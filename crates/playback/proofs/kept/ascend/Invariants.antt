use Rattle.std.proofs.Common.{◌≡◌, ◌-◌, drop}
use Rattle.talk.specs.Read.{ascends}
use Rattle.playback.specs.Kept.{item_before}
use Rattle.playback.proofs.kept.ascend.Given as goal

abbrev pub invariant-loop-place : goal.invariant-loop-place
invariant-loop-place l = ascends item_before l.said ≡ ascends item_before (drop (l.place - 1) l.said)
