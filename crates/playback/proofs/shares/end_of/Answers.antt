use Rattle.std.proofs.Common.{◌≡◌, ◌+◌, ◌-◌, ap, ◌∙◌, arith}
use Rattle.playback.specs.Recorded.{play_of}
use Rattle.playback.specs.Playing.{seat_after}
use Rattle.playback.proofs.Steps.{seat_at_place, length-states}
use Rattle.playback.proofs.shares.end_of.Goals as goal

pub bounds-states-seat : goal.bounds-states-seat
bounds-states-seat c =
    omega (arith, c.requires.seat, length-states (play_of c.args.phase.now) 5 c.as_slice-states.result.now (c.as_slice-states.ensures.value ∙ c.requires.played.seats_are))

pub returns : goal.returns
returns c =
    let place : c.args.seat - 1 + 1 ≡ c.args.seat = omega (arith, c.requires.seat) in
    seat_at_place (play_of c.args.phase.now) 5 (c.args.seat - 1) c.index-states-seat.result c.as_slice-states.result.now
    (omega (arith, c.requires.seat, length-states (play_of c.args.phase.now) 5 c.as_slice-states.result.now (c.as_slice-states.ensures.value ∙ c.requires.played.seats_are)))
    (c.as_slice-states.ensures.value ∙ c.requires.played.seats_are) c.index-states-seat.is
    ∙ ap (seat_after (play_of c.args.phase.now) 5) place
