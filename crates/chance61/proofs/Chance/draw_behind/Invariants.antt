use Rattle.std.proofs.Common.{◌≡◌, ◌-◌, ◌++◌}
use Rattle.chance61.specs.Draws.{element_drawn, elements_drawn}
use Rattle.chance61.proofs.DrawLemmas.{Turns}
use Rattle.chance61.proofs.Chance.draw_behind.Given as goal

abbrev pub invariant-loop-drawn : goal.invariant-loop-drawn
invariant-loop-drawn l =
    (l.self.seed ≡ l.initial.self.seed)
    × Turns (element_drawn l.initial.self.seed) (l.count - l._drawn) l.self.taken l.elements
    (l.fn.elements ++ (elements_drawn l.count l.initial.self.seed l.initial.self.taken).0, (elements_drawn l.count l.initial.self.seed l.initial.self.taken).1)
