use Rattle.std.proofs.Common.{◌∙◌}
use Rattle.plays.specs.Play.{created_share}
use Rattle.playback.specs.Recorded.{play_of}
use Rattle.playback.proofs.Formed.{all_deal}
use Rattle.playback.proofs.Ends.{EndsAs, ends_as, ends_down, some_shares, no_shares}
use Rattle.playback.proofs.shares.created_at.Goals as goal

well : (c : goal.In-Some) → EndsAs (play_of c.args.phase.now) c.args.receiver c.in-Some.sharer
well c =
    ends_as (play_of c.args.phase.now) c.requires.setting (all_deal c.args.phase.now c.requires.kept) c.args.receiver c.requires.receiver.0 c.requires.receiver.1 _ _ c.in-Some.sharer
    c.seat_of.ensures.is c.end_of-state.ensures c.in-Some.is

pub shares-requires-clause-receiver : goal.shares-requires-clause-receiver
shares-requires-clause-receiver c = (well c).receives

pub shares-requires-clause-done : goal.shares-requires-clause-done
shares-requires-clause-done c = (well c).done

pub returns-in-Some : goal.returns-in-Some
returns-in-Some c =
    let ends : EndsAs (play_of c.args.phase.now) c.args.receiver c.in-Some.sharer =
    ends_as (play_of c.args.phase.now) c.requires.setting (all_deal c.args.phase.now c.requires.kept) c.args.receiver c.requires.receiver.0 c.requires.receiver.1 _ _ c.in-Some.sharer
    c.seat_of.ensures.is c.end_of-state.ensures c.in-Some.is in
    some_shares (play_of c.args.phase.now) (created_share (play_of c.args.phase.now)) c.args.receiver c.shares.result ends.up (c.shares.ensures ∙ ends.created)

pub returns-in-None : goal.returns-in-None
returns-in-None c =
    no_shares (play_of c.args.phase.now) (created_share (play_of c.args.phase.now)) c.args.receiver
    (ends_down (play_of c.args.phase.now) c.args.receiver _ _ c.seat_of.ensures.is c.end_of-state.ensures c.in-None.is)
