use Rattle.std.proofs.Common.{◌-◌, sym, ◌∙◌}
use Rattle.sharer.specs.Sharer.{round_of}
use Rattle.playback.specs.Recorded.{play_of}
use Rattle.playback.proofs.Formed.{formed}
use Rattle.playback.proofs.Steps.{hears, heard_on_seat, still_down, on_ok}
use Rattle.playback.proofs.seats.hear_one.Goals as goal

pub hear-requires : goal.hear-requires
hear-requires c =
    hears (play_of c.args.phase.now) (formed c.args.phase.now c.requires.kept c.requires.setting) c.args.round c.args.seat _ _ _ c.requires.round.0 c.requires.round.1 c.requires.state c.in-Some.is c.in_ok-heard-in-Some.ensures.is

pub returns-in_ok-heard-in-Some : goal.returns-in_ok-heard-in-Some
returns-in_ok-heard-in-Some c =
    on_ok c.hear.result
    (λ after. heard_on_seat (play_of c.args.phase.now) c.args.round c.args.seat (round_of c.in-Some.sharer.stage) _ c.in-Some.sharer _ c.in_ok-heard-in-Some.heard c.requires.round.0 c.requires.state c.in-Some.is c.in_ok-heard-in-Some.ensures.is after)
    c.hear.ensures.after

pub returns-in-None : goal.returns-in-None
returns-in-None c = c.in-None.is ∙ still_down (play_of c.args.phase.now) c.args.round (c.args.round - 1) c.args.seat (sym c.in-None.is ∙ c.requires.state)
