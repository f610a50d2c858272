use Rattle.std.proofs.Common.{ℕ, List, ◌∙◌, refl, arith}
use Rattle.commands.specs.Create.{dealt_by}
use Rattle.recorder.proofs.DealtGrids.{created}
use Rattle.recorder.proofs.Walks.{up_ones, walk_end}
use Rattle.recorder.proofs.grids.created_grids.Goals as goal

pub returns : goal.returns
returns c = λ masks down.
    let side = c.args.side.now in
    let seeds : List (List ℕ) = c.args.seeds.now in
    let member : ℕ = c.loop-seed.member in
    c.from_vec.ensures
    ∙ walk_end (λ (coming : List (List ℕ)). up_ones side.drilled member (dealt_by side.bound coming)) seeds c.loop-seed.seed-index c.loop-seed.grids.items _ refl (omega (arith, c.loop-seed-test.false)) c.loop-seed.invariant.so_far
    ∙ created side seeds masks c.requires.seeds down
