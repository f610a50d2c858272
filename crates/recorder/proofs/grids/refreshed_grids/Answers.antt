use Rattle.std.proofs.Common.{◌≡◌, ℕ, ◌-◌, ◌++◌, List, drop, length, Option, sym, ap, ◌∙◌, refl, arith}
use Rattle.std.specs.Prelude.{count_by}
use Rattle.std.specs.Option.{is_some}
use Rattle.algebra61.specs.Field.{Fp}
use Rattle.rehearsal_laws.specs.Standing.{now_before}
use Rattle.recorder.proofs.DealtGrids.{refreshed}
use Rattle.recorder.proofs.Walks.{dealt, fresh, files_count, up_ones, walk_end}
use Rattle.recorder.proofs.grids.refreshed_grids.Goals as goal

pub loop-share-init : goal.loop-share-init
loop-share-init c =
    let side = c.args.side.now in
    let count : count_by is_some c.args.shares.now ≡ length c.args.seeds.now = sym (files_count (now_before 0 side) 1 c.args.shares.now) ∙ sym (c.requires.seeds 0) in
    record {
      at = refl;
      count = omega (arith, count);
      so_far = ap (λ (grids : List (List (List Fp))). grids ++ up_ones side.drilled 1 (dealt (fresh (side.bound - 1)) 1 c.args.shares.now c.args.seeds.now)) c.new-grids.ensures.items;
    }

pub returns : goal.returns
returns c = λ place masks down.
    let side = c.args.side.now in
    let shares : List (Option (List Fp)) = c.args.shares.now in
    let seeds : List (List ℕ) = c.args.seeds.now in
    let here = c.loop-share in
    c.from_vec.ensures
    ∙ walk_end (λ (rest : List (Option (List Fp))). up_ones side.drilled here.member (dealt (fresh (side.bound - 1)) here.member rest (drop here.taken seeds))) shares here.share-index here.grids.items _ refl (omega (arith, c.loop-share-test.false)) here.invariant.so_far
    ∙ refreshed side place seeds masks shares c.requires.shares down
