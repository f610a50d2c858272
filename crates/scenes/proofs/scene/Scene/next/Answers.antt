use Rattle.std.proofs.Common.{◌≡◌, ℕ, ◌+◌}
use Rattle.scenes.specs.Numbers.{number_after}
use Rattle.scenes.specs.Scenes.{draws_before, new_side}
use Rattle.scenes.proofs.Draws.{coming_by, moves, refreshes, state_before, staying_by}
use Rattle.scenes.proofs.scene.Scene.next.Goals as goal

pub returns-then-phase-eq0 : goal.returns-then-phase-eq0
returns-then-phase-eq0 c = λ members bound number came.
    let taken : ℕ = draws_before c.args.phase in
    let before : c.args.numbers.now ≡ number_after number (draws_before c.args.phase) =
    state_before members bound number c.args.phase c.args.self.now c.args.numbers.now c.requires.phase came in
    let between : c.drawn-old.new.numbers ≡ number_after number (draws_before c.args.phase + 2) = c.drawn-old.ensures.step number taken before in
    moves members bound number c.args.phase c.args.self.now c.drawn-old.result c.drawn-new.result c.args.numbers.now c.drawn-new.new.numbers c.requires.phase c.if-phase-eq0.true came
    (staying_by number c.args.phase c.new_side-last.result (new_side c.args.self.now) c.down.result c.drawn-old.result c.new_side-last.ensures c.down.ensures
    (c.drawn-old.ensures.side number taken before))
    (coming_by number c.args.phase c.new_side-last.result (new_side c.args.self.now) c.committee_after.result.members c.committee_after.result.bound c.drawn-new.result c.new_side-last.ensures
    c.committee_after.ensures.size c.committee_after.ensures.bound
    (c.drawn-new.ensures.side number (taken + 2) between))
    (c.drawn-new.ensures.step number (taken + 2) between)

pub returns-else-phase-eq0 : goal.returns-else-phase-eq0
returns-else-phase-eq0 c = λ members bound number came.
    let taken : ℕ = draws_before c.args.phase in
    let before : c.args.numbers.now ≡ number_after number (draws_before c.args.phase) =
    state_before members bound number c.args.phase c.args.self.now c.args.numbers.now c.requires.phase came in
    refreshes members bound number c.args.phase c.args.self.now c.drawn-old.result c.args.numbers.now c.drawn-old.new.numbers c.requires.phase c.if-phase-eq0.false came
    (staying_by number c.args.phase c.new_side-last.result (new_side c.args.self.now) c.down.result c.drawn-old.result c.new_side-last.ensures c.down.ensures
    (c.drawn-old.ensures.side number taken before))
    (c.drawn-old.ensures.step number taken before)
