use Rattle.std.proofs.Common.{◌≡◌, drop}
use Rattle.talk.specs.Read.{reveals_ok}
use Rattle.talk.proofs.Ascending.{reveals_from}
use Rattle.talk.proofs.shapes.reveals_fit.Given as goal

abbrev pub invariant-loop-reveal : goal.invariant-loop-reveal
invariant-loop-reveal l = reveals_ok l.setting l.list ≡ reveals_from l.setting l.lane l.receiver (drop l.reveal-index l.list)
