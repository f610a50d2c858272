use Rattle.scenes.proofs.Sides.{scenes_are}
use Rattle.scenes.proofs.laws.committees_can_be_made.Goals as goal

pub returns : goal.returns
returns c = scenes_are
