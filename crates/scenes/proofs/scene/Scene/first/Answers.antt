use Rattle.scenes.proofs.Draws.{creates}
use Rattle.scenes.proofs.scene.Scene.first.Goals as goal

pub returns : goal.returns
returns c = λ number e.
    creates c.args.committee.members c.args.committee.bound number c.drawn.new.numbers c.drawn.result (c.drawn.ensures.side number 0 e) (c.drawn.ensures.step number 0 e)
