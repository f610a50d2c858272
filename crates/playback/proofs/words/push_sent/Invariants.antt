use Rattle.std.proofs.Common.{◌≡◌, ◌++◌, map, take}
use Rattle.talk.specs.Sync.{ring_in}
use Rattle.playback.proofs.words.push_sent.Given as goal

abbrev pub invariant-loop-word : goal.invariant-loop-word
invariant-loop-word l = l.list ≡ l.fn.list ++ map (ring_in l.to) (take l.word-index l.words)
