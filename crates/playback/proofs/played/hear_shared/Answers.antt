use Rattle.std.proofs.Common.{◌≡◌, ℕ, ◌-◌, min, ap, ◌∙◌, subst, arith}
use Rattle.std.specs.Prelude.{OnOk}
use Rattle.playback.specs.Recorded.{play_of}
use Rattle.playback.specs.Playing.{seats_after}
use Rattle.playback.proofs.played.hear_shared.Goals as goal

pub hear_all-requires-clause-states : goal.hear_all-requires-clause-states
hear_all-requires-clause-states c = c.requires.states

pub returns-then-round-le-SHARED : goal.returns-then-round-le-SHARED
returns-then-round-le-SHARED c =
    let same : c.args.round ≡ min c.args.round 5 = omega (arith, c.if-round-le-SHARED.true) in
    subst (λ (k : ℕ). OnOk c.hear_all.result (c.hear_all.new.states.items ≡ seats_after (play_of c.args.phase.now) k)) same c.hear_all.ensures

pub returns : goal.returns
returns c =
    let same : c.args.round - 1 ≡ min c.args.round 5 = omega (arith, c.if-round-le-SHARED.false, c.requires.round) in
    c.requires.states ∙ ap (seats_after (play_of c.args.phase.now)) same
