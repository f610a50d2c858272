use Rattle.std.proofs.Common.{subst, sym}
use Rattle.moveshare.specs.Result.{IsOver}
use Rattle.moveshare.proofs.Going.{over_is_done}
use Rattle.moveshare.proofs.seat.MoveSeat.accepted.Goals as goal

pub accepted-requires-clause-done : goal.accepted-requires-clause-done
accepted-requires-clause-done c =
    over_is_done c.self.inside.sharer.shape c.self.inside.sharer.stage c.self.inside.sixth c.self.invariant.kept (subst IsOver (sym c.self.view_is) c.requires.over)
