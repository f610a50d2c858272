use Rattle.std.proofs.Common.{◌≡◌, ◌++◌, take}
use Rattle.playback.proofs.words.push_posts.Given as goal

abbrev pub invariant-loop-post : goal.invariant-loop-post
invariant-loop-post l = l.list ≡ l.fn.list ++ take l.post-index l.posts
