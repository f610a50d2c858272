use Rattle.std.proofs.Common.{sym, subst}
use Rattle.talk.specs.Part.{part_made_for}
use Rattle.talk.specs.Hears.{Seated}
use Rattle.talk.specs.Shape.{Shape}
use Rattle.sharer.specs.Sharer.{MadeFor}
use Rattle.jointkey.proofs.tests.created_by_three.Goals as goal

pub drive-requires-clause-made : goal.drive-requires-clause-made
drive-requires-clause-made g =
    subst (λ (s : Shape). Seated (part_made_for MadeFor) s 1 g.in_ok-minds.minds.items) (sym g.create-setting.ensures) g.in_ok-minds.ensures.made
