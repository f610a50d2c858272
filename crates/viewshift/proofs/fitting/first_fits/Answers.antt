use Rattle.std.proofs.Common.{false}
use Rattle.playback.specs.Recorded.{play_of}
use Rattle.viewshift.proofs.Judging.{refuse_by, first_by_kind, no_refresh_first, no_move_first}
use Rattle.viewshift.proofs.fitting.first_fits.Goals as goal

pub returns-in-Create : goal.returns-in-Create
returns-in-Create c = first_by_kind c.args.phase.now c.create_fits.result _ c.in-Create.is c.create_fits.ensures

pub returns-in-Refresh : goal.returns-in-Refresh
returns-in-Refresh c = first_by_kind c.args.phase.now false _ c.in-Refresh.is (refuse_by (no_refresh_first (play_of c.args.phase.now)))

pub returns-in-Move : goal.returns-in-Move
returns-in-Move c = first_by_kind c.args.phase.now false _ c.in-Move.is (refuse_by (no_move_first (play_of c.args.phase.now)))
