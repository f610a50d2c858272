use Rattle.std.proofs.Common.{◌≡◌, ◌+◌, map, get_or}
use Rattle.std.specs.Prelude.{None}
use Rattle.plays.specs.Said.{places}
use Rattle.playback.specs.Shares.{refreshed_of}
use Rattle.playback.proofs.shares.refreshed_shares.Given as goal

abbrev pub invariant-loop-place : goal.invariant-loop-place
invariant-loop-place l = l.list.items ≡ map (λ k. refreshed_of (k + 1) (get_or l.before k None) (get_or l.made k None)) (places l.place)
