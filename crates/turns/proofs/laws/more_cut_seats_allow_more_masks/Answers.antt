use Rattle.std.proofs.Common.{ℕ, ◌≤◌, arith}
use Rattle.talk.specs.Sync.{ways, all_seats}
use Rattle.turns.proofs.Cuts.{all_more}
use Rattle.turns.proofs.laws.more_cut_seats_allow_more_masks.Goals as goal

pub returns : goal.returns
returns g c = λ s cut more part. all_more (ways g.M.Mind.word g.M.Mind.after_say g.M.Mind.after_hear) s cut more part 1 (all_seats s) (omega arith)
