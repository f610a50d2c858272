use Rattle.std.proofs.Common.{[], ◌+◌, ◌*◌, get_or, sym, ap, ◌∙◌, arith}
use Rattle.lists.proofs.Places.{at_or}
use Rattle.playback.proofs.Formed.{dealt_at, place_below}
use Rattle.playback.proofs.phase.Phase.grid.Goals as goal

pub at-requires : goal.at-requires
at-requires c =
    omega (arith, c.count_up.ensures.count, place_below c.args.self.now c.requires.kept c.args.dealer c.args.lane c.requires.dealer.0 c.requires.dealer.1 c.requires.lane c.requires.up)

pub returns : goal.returns
returns c =
    at_or c.args.self.now.grids (5 * c.count_up.result + c.args.lane) [] c.at.result.now c.at.ensures
    ∙ ap (λ k. get_or c.args.self.now.grids (5 * k + c.args.lane) []) c.count_up.ensures.count
    ∙ sym (dealt_at c.args.self.now c.args.dealer c.args.lane c.requires.dealer.0 c.requires.dealer.1 c.requires.lane c.requires.up)
