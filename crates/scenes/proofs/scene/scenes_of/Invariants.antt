use Rattle.std.proofs.Common.{◌≡◌, ◌-◌, map}
use Rattle.talk.specs.Basics.{places}
use Rattle.scenes.specs.Scenes.{HasCome, scene_at}
use Rattle.scenes.proofs.scene.scenes_of.Given as goal

abbrev pub invariant-loop-phase : goal.invariant-loop-phase
invariant-loop-phase l = record {
  come : HasCome l.fn.committee.members l.fn.committee.bound l.number (l.phase - 1) l.scene l.numbers;
  all : l.scenes.items ≡ map (scene_at l.fn.committee.members l.fn.committee.bound l.number) (places l.phase);
}
