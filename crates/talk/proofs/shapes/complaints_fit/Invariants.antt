use Rattle.std.proofs.Common.{◌≡◌, drop}
use Rattle.talk.specs.Read.{complaints_ok}
use Rattle.talk.proofs.Ascending.{complaints_from}
use Rattle.talk.proofs.shapes.complaints_fit.Given as goal

abbrev pub invariant-loop-complaint : goal.invariant-loop-complaint
invariant-loop-complaint l = complaints_ok l.setting l.list ≡ complaints_from l.setting l.instance l.against (drop l.complaint-index l.list)
