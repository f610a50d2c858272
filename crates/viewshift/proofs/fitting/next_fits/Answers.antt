use Rattle.std.proofs.Common.{false}
use Rattle.viewshift.proofs.Judging.{by_kind, no_create}
use Rattle.viewshift.proofs.fitting.next_fits.Goals as goal

pub returns-in-Create : goal.returns-in-Create
returns-in-Create c = λ share is. by_kind c.args.old.now c.args.phase.now share false _ c.in-Create.is (no_create c.args.old.now c.args.phase.now share)

pub returns-in-Refresh : goal.returns-in-Refresh
returns-in-Refresh c = λ share is. by_kind c.args.old.now c.args.phase.now share c.refresh_fits.result _ c.in-Refresh.is c.refresh_fits.ensures

pub returns-in-Move : goal.returns-in-Move
returns-in-Move c = λ share is. by_kind c.args.old.now c.args.phase.now share c.move_fits.result _ c.in-Move.is (c.move_fits.ensures share is)
