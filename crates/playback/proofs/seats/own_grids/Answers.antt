use Rattle.std.proofs.Common.{◌≡◌, ℕ, ◌∙◌, sym, ap, map, [], arith}
use Rattle.std.proofs.lemmas.Bool.{cond-true}
use Rattle.sizes.specs.Instances.{instance_at}
use Rattle.talk.specs.Shape.{deals}
use Rattle.plays.specs.Said.{places}
use Rattle.plays.proofs.Shapes.{within_from}
use Rattle.playback.specs.Recorded.{play_of}
use Rattle.playback.proofs.Places.{places_append}
use Rattle.playback.proofs.seats.own_grids.Goals as goal

pub loop-lane-preserved : goal.loop-lane-preserved
loop-lane-preserved c =
    places_append (λ lane. (play_of c.args.phase.now).grid (instance_at c.args.dealer lane)) c.loop-lane.lane c.loop-lane.list _ _ c.loop-lane.invariant c.in_ok-push.ensures (c.in_ok-copy.ensures ∙ c.grid.ensures)

pub returns : goal.returns
returns c =
    let all : c.loop-lane.lane ≡ 5 = omega (arith, c.loop-lane-test.false, c.loop-lane.auto) in
    c.loop-lane.invariant
    ∙ ap (λ (n : ℕ). map (λ lane. (play_of c.args.phase.now).grid (instance_at c.args.dealer lane)) (places n)) all
    ∙ sym (cond-true (deals c.args.phase.now.setting c.args.dealer) _ [] (within_from 1 c.args.dealer c.args.phase.now.setting.dealers c.requires.dealer.0 c.requires.dealer.1))
