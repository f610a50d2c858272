use Rattle.std.proofs.Common.{◌≡◌, ◌+◌, ◌++◌, drop}
use Rattle.talk.specs.Sync.{posts_heard}
use Rattle.driver.proofs.rounds.posts_on.Given as goal

abbrev pub invariant-loop-word : goal.invariant-loop-word
invariant-loop-word l = record {
  seat : l.seat ≡ l.word-index + 1;
  heard : l.posts ++ posts_heard l.setting l.round l.mask l.seat (drop l.word-index l.words) ≡ posts_heard l.setting l.round l.mask 1 l.words;
}
