use Rattle.std.proofs.Common.{◌≡◌, [], length, get_or, sym, ◌∙◌, subst}
use Rattle.talk.specs.Shape.{Shape}
use Rattle.periods.specs.Move.{moved_share, syndromes_heard}
use Rattle.moveshare.specs.Seat.{IsMoving}
use Rattle.moveshare.specs.Lanes.{EachLane}
use Rattle.moveshare.proofs.Answering.{errors_long}
use Rattle.playback.specs.Recorded.{play_of}
use Rattle.playback.proofs.Formed.{all_deal}
use Rattle.playback.proofs.Ends.{EndsAs, ends_as, ends_down, some_shares, no_shares}
use Rattle.playback.proofs.shares.moved_at.Goals as goal

well : (c : goal.In-Some) → EndsAs (play_of c.args.phase.now) c.args.receiver c.in-Some.sharer
well c =
    ends_as (play_of c.args.phase.now) c.requires.moving.1.setting (all_deal c.args.phase.now c.requires.kept) c.args.receiver c.requires.receiver.0 c.requires.receiver.1 _ _ c.in-Some.sharer
    c.seat_of.ensures.is c.end_of-state.ensures c.in-Some.is

pub shares_without-requires-clause-moving : goal.shares_without-requires-clause-moving
shares_without-requires-clause-moving c = subst IsMoving (sym (well c).shape) (c.requires.moving.0, c.requires.moving.1.two)

pub shares_without-requires-clause-receiver : goal.shares_without-requires-clause-receiver
shares_without-requires-clause-receiver c = (well c).receives

pub shares_without-requires-clause-done : goal.shares_without-requires-clause-done
shares_without-requires-clause-done c = (well c).done

pub shares_without-requires-clause-errors : goal.shares_without-requires-clause-errors
shares_without-requires-clause-errors c =
    subst (λ (s : Shape). EachLane 5 (λ lane error. length error ≡ s.dealers) c.args.errors.now) (sym (well c).shape)
    (errors_long c.args.phase.now.setting (syndromes_heard (play_of c.args.phase.now)) c.args.errors.now c.requires.errors)

pub returns-in_ok-shares_without-in-Some : goal.returns-in_ok-shares_without-in-Some
returns-in_ok-shares_without-in-Some c =
    let ends : EndsAs (play_of c.args.phase.now) c.args.receiver c.in-Some.sharer =
    ends_as (play_of c.args.phase.now) c.requires.moving.1.setting (all_deal c.args.phase.now c.requires.kept) c.args.receiver c.requires.receiver.0 c.requires.receiver.1 _ _ c.in-Some.sharer
    c.seat_of.ensures.is c.end_of-state.ensures c.in-Some.is in
    some_shares (play_of c.args.phase.now) (λ lane j. moved_share (play_of c.args.phase.now) lane (get_or c.args.errors.now lane []) j) c.args.receiver _ ends.up
    (c.in_ok-shares_without-in-Some.ensures ∙ ends.moved c.requires.moving.0 c.args.errors.now c.requires.moving.1)

pub returns-in-None : goal.returns-in-None
returns-in-None c =
    no_shares (play_of c.args.phase.now) (λ lane j. moved_share (play_of c.args.phase.now) lane (get_or c.args.errors.now lane []) j) c.args.receiver
    (ends_down (play_of c.args.phase.now) c.args.receiver _ _ c.seat_of.ensures.is c.end_of-state.ensures c.in-None.is)
