use Rattle.std.proofs.Common.{◌≡◌, drop}
use Rattle.plays.specs.Read.{complaint_at}
use Rattle.vss_core.proofs.posts.complaint_at.Given as goal

abbrev pub invariant-loop-complaint : goal.invariant-loop-complaint
invariant-loop-complaint l = complaint_at l.instance l.against (drop l.complaint-index l.complaint-items) ≡ complaint_at l.instance l.against l.list
