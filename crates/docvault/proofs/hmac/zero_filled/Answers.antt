use Rattle.std.proofs.Common.{ℕ, length, List, ◌++◌, ap}
use Rattle.std.proofs.lemmas.List.{drop-replicate}
use Rattle.docvault.proofs.hmac.zero_filled.Goals as goal

pub returns : goal.returns
returns c = rw c.copy_from_slice.ensures.after (ap (λ (rest : List ℕ). c.args.bytes.now ++ rest) (drop-replicate (length c.args.bytes.now) 64 0))
