use Rattle.std.proofs.Common.{◌≡◌, drop}
use Rattle.plays.specs.Read.{reveal_at}
use Rattle.vss_core.proofs.posts.reveal_at.Given as goal

abbrev pub invariant-loop-reveal : goal.invariant-loop-reveal
invariant-loop-reveal l = reveal_at l.lane l.receiver (drop l.reveal-index l.reveal-items) ≡ reveal_at l.lane l.receiver l.list
