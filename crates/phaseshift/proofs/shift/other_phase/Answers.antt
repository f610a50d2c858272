use Rattle.std.proofs.Common.{List, get_or, ap₂, ◌∙◌}
use Rattle.algebra61.specs.Field.{Fp, zeroₚ}
use Rattle.talk.specs.Sync.{has}
use Rattle.playback.specs.declared.phase.SaidItem.{SaidItem}
use Rattle.playback.specs.declared.phase.Phase.{Phase}
use Rattle.phaseshift.proofs.Multiples.{have_place}
use Rattle.phaseshift.proofs.Grids.{all_same}
use Rattle.phaseshift.proofs.shift.other_phase.Goals as goal

pub other_grids-requires-clause-place : goal.other_grids-requires-clause-place
other_grids-requires-clause-place c = have_place c.args.phase.now (has c.args.before) (has c.args.after) c.in_ok-factors.factors c.requires.room c.in_ok-factors.ensures

pub returns : goal.returns
returns c =
    ap₂
    (λ (grids : List (List (List Fp))) (said : List SaidItem).
    let p : Phase = record { kind = c.args.phase.now.kind; setting = c.args.phase.now.setting; down = c.args.phase.now.down; grids = grids; said = said } in p)
    (c.in_ok-grids.ensures
    ∙ all_same c.args.phase.now (has c.args.before) (has c.args.after) (λ lane. get_or c.args.difference.now lane zeroₚ) c.in_ok-factors.factors c.requires.kept c.requires.room c.in_ok-factors.ensures)
    c.in_ok-said.ensures
