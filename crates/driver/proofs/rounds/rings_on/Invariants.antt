use Rattle.std.proofs.Common.{◌≡◌, ◌+◌, ◌++◌, drop}
use Rattle.talk.specs.Sync.{rings_heard}
use Rattle.driver.proofs.rounds.rings_on.Given as goal

abbrev pub invariant-loop-word : goal.invariant-loop-word
invariant-loop-word l = record {
  seat : l.seat ≡ l.word-index + 1;
  heard : l.rings ++ rings_heard l.setting l.round l.mask l.to l.seat (drop l.word-index l.words) ≡ rings_heard l.setting l.round l.mask l.to 1 l.words;
}
