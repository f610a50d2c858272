use Rattle.std.proofs.Common.{ap, ◌∙◌}
use Rattle.std.proofs.lemmas.List.Elements.{All-same}
use Rattle.talk.specs.Shape.{rounds}
use Rattle.members.specs.Member.{Member}
use Rattle.members.specs.Shares.{IsDone}
use Rattle.members.proofs.Done.{are_done}
use Rattle.jointkey.proofs.tests.created.Goals as goal

pub returns : goal.returns
returns c =
    All-same (λ (m : Member). IsDone m.stage) _ _ c.in_ok-driven.ensures.minds
    (are_done c.create.result c.in_ok-driven.driven.masks c.in_ok-minds.minds.items (c.in_ok-driven.ensures.rounds ∙ ap rounds c.create.ensures) c.in_ok-minds.ensures.ready)
