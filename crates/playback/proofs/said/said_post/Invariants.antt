use Rattle.std.proofs.Common.{◌≡◌, drop}
use Rattle.playback.specs.Recorded.{said_post}
use Rattle.playback.proofs.said.said_post.Given as goal

abbrev pub invariant-loop-item : goal.invariant-loop-item
invariant-loop-item l = said_post l.said l.round l.seat ≡ said_post (drop l.item-index l.said) l.round l.seat
