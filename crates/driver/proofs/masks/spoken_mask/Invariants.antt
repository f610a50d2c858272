use Rattle.std.proofs.Common.{◌≡◌, ℕ, ◌+◌, ◌^◌, ◌<◌, ◌&&◌, get_or}
use Rattle.talk.specs.declared.messages.Say.TheVariants.{Pass}
use Rattle.talk.specs.Sync.{has, speaks}
use Rattle.driver.proofs.masks.spoken_mask.Given as goal

abbrev pub invariant-loop-word : goal.invariant-loop-word
invariant-loop-word l = record {
  seat : l.seat ≡ l.word-index + 1;
  lower : l.mask < 2 ^ l.word-index;
  told : (k : ℕ) → k < l.word-index → has l.mask (1 + k) ≡ (has l.before (1 + k) && speaks (get_or l.words k Pass));
}
