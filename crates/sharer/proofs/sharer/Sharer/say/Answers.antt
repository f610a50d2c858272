use Rattle.std.proofs.Common.{ap, sym}
use Rattle.members.specs.Member.{Member}
use Rattle.sharer.specs.View.{grids_of, stage_of}
use Rattle.sharer.proofs.Words.{each_said}
use Rattle.sharer.proofs.sharer.Sharer.say.Goals as goal

pub returns-clause-rings : goal.returns-clause-rings
returns-clause-rings c =
    each_said c.args.self.now c.self.inside.place.setting c.self.inside.place.seat (grids_of c.self.inside.place.dealer) (stage_of c.self.inside.at) c.in_ok-rings.rings
    (sym (ap (λ (m : Member). m.shape) c.self.view_is)) (sym (ap (λ (m : Member). m.seat) c.self.view_is)) c.self.invariant.place.from c.self.invariant.place.to c.in_ok-rings.ensures
