use Rattle.std.proofs.Common.{ap, ◌∙◌}
use Rattle.periods.specs.Mover.{Mover}
use Rattle.moveshare.proofs.Answering.{by_what_it_heard}
use Rattle.moveshare.proofs.new.MoveNew.result.Goals as goal

pub returns : goal.returns
returns g c =
    by_what_it_heard c.args.self.now c.sharer.result.now c.in-Some.posts.now c.result_of.result
    (c.sharer.ensures ∙ ap (λ (m : Mover). m.member) c.self.view_is) (c.in-Some.ensures.posts ∙ ap (λ (m : Mover). m.sixth) c.self.view_is) c.result_of.ensures
