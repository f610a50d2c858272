use Rattle.std.proofs.Common.{◌≡◌, ℕ, [], get_or, length}
use Rattle.talk.specs.declared.messages.Post.TheVariants.{Quiet}
use Rattle.vss_core.specs.Complaints.{LaidOut}
use Rattle.vss_core.proofs.complaints.all_tables.Given as goal

abbrev pub invariant-loop-k : goal.invariant-loop-k
invariant-loop-k l = record {
  all : length l.tables.items ≡ l.k;
  each : (k : ℕ) → LaidOut (get_or l.tables.items k []) (get_or l.posts k Quiet);
}
