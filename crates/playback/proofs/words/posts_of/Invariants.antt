use Rattle.std.proofs.Common.{◌≡◌, map, take}
use Rattle.talk.specs.Sync.{post_in}
use Rattle.playback.proofs.words.posts_of.Given as goal

abbrev pub invariant-loop-word : goal.invariant-loop-word
invariant-loop-word l = l.posts ≡ map post_in (take l.word-index l.words)
