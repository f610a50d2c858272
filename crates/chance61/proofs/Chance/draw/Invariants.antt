use Rattle.std.proofs.Common.{◌≡◌, ◌-◌}
use Rattle.chance61.specs.Draws.{drawn_within, element_drawn}
use Rattle.chance61.proofs.Chance.draw.Given as goal

abbrev pub invariant-loop-try : goal.invariant-loop-try
invariant-loop-try l = (l.self.seed ≡ l.initial.self.seed) × (drawn_within (4 - l._try) l.self.seed l.self.taken ≡ element_drawn l.initial.self.seed l.initial.self.taken)
