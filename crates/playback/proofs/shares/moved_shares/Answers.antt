use Rattle.std.proofs.Common.{◌≡◌, get_or, []}
use Rattle.talk.specs.Shape.{rounds}
use Rattle.periods.specs.Move.{moved_share}
use Rattle.playback.specs.Recorded.{play_of}
use Rattle.playback.specs.Shares.{AreMoved, shares_by}
use Rattle.playback.proofs.Ends.{length-last, errors_in_play, memory_wanting}
use Rattle.playback.proofs.Steps.{if_ok}
use Rattle.playback.proofs.shares.moved_shares.Goals as goal

pub lane_errors-requires-clause-moving : goal.lane_errors-requires-clause-moving
lane_errors-requires-clause-moving c = (c.requires.moving.0, c.requires.moving.1.two)

pub lane_errors-requires-clause-all : goal.lane_errors-requires-clause-all
lane_errors-requires-clause-all c = length-last (play_of c.args.phase.now) (rounds c.args.phase.now.setting) c.args.played.now.last c.requires.played.last_is

pub moved_with-requires-clause-errors : goal.moved_with-requires-clause-errors
moved_with-requires-clause-errors c = errors_in_play (play_of c.args.phase.now) c.requires.moving.0 c.args.played.now.last c.in-Ok.errors c.requires.moving.1 c.requires.played.last_is c.in-Ok.ensures

pub memory_alone-requires : goal.memory_alone-requires
memory_alone-requires c =
    memory_wanting (play_of c.args.phase.now) c.requires.moving.0 c.args.played.now.last c.requires.errors.0 c.in-Err.fault c.requires.moving.1 c.requires.played.last_is c.requires.errors.1 c.in-Err.ensures

pub returns-in-Ok : goal.returns-in-Ok
returns-in-Ok c =
    if_ok (λ v. v.items ≡ shares_by (play_of c.args.phase.now) (λ lane j. moved_share (play_of c.args.phase.now) lane (get_or c.in-Ok.errors lane []) j)) (λ v. AreMoved (play_of c.args.phase.now) v.items) c.moved_with.result
    (λ v e. (c.in-Ok.errors, errors_in_play (play_of c.args.phase.now) c.requires.moving.0 c.args.played.now.last c.in-Ok.errors c.requires.moving.1 c.requires.played.last_is c.in-Ok.ensures, e))
    c.moved_with.ensures
