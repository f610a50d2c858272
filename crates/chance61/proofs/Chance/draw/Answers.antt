use Rattle.std.proofs.Common.{◌≡◌, ◌-◌, ◌+◌, ◌≤◌, ℕ, ap, sym, ◌∙◌, refl, subst}
use Rattle.algebra61.specs.Field.{Fp, Prime, zeroₚ}
use Rattle.chance61.specs.Draws.{Source, candidate, two_after, drawn_within, element_drawn}
use Rattle.chance61.proofs.DrawLemmas.{draw_ends, draw_goes_on, draw_gives_up, source_same}
use Rattle.chance61.proofs.Chance.draw.Goals as goal

pub loop-try-init : goal.loop-try-init
unfolding element_drawn
loop-try-init c = (refl, refl)

ended : (c : goal.In-Some) → (c.in-Some.element, two_after c.loop-try.self.taken) ≡ element_drawn c.args.self.now.seed c.args.self.now.taken
ended c =
    draw_ends c.loop-try._try c.loop-try.self.seed c.loop-try.self.taken _ c.in-Some.element c.loop-try-test.true c.loop-try.invariant.1
    (c.in-Some.ensures ∙ c.candidate.ensures.value)

pub returns-in-Some-clause-value : goal.returns-in-Some-clause-value
returns-in-Some-clause-value c = ap (λ (p : Fp × ℕ). p.0) (ended c)

pub returns-in-Some-clause-after : goal.returns-in-Some-clause-after
returns-in-Some-clause-after c =
    c.candidate.ensures.after
    ∙ source_same _ _ _ c.loop-try.invariant.0 (ap (λ (p : Fp × ℕ). p.1) (ended c))

pub loop-try-preserved : goal.loop-try-preserved
loop-try-preserved c =
    let whole = element_drawn c.args.self.now.seed c.args.self.now.taken in
    let past : Prime ≤ candidate c.loop-try.self.seed c.loop-try.self.taken = subst (λ n. Prime ≤ n) c.candidate.ensures.value c.in_default.ensures in
    let on = draw_goes_on c.loop-try._try c.loop-try.self.seed c.loop-try.self.taken whole c.loop-try-test.true c.loop-try.invariant.1 past in
    subst (λ (s : Source). (s.seed ≡ c.args.self.now.seed) × (drawn_within (4 - (c.loop-try._try + 1)) s.seed s.taken ≡ whole)) (sym c.candidate.ensures.after) (c.loop-try.invariant.0, on)

given_up : (c : goal.After-loop-try) → (zeroₚ, c.loop-try.self.taken) ≡ element_drawn c.args.self.now.seed c.args.self.now.taken
given_up c = draw_gives_up c.loop-try._try c.loop-try.self.seed c.loop-try.self.taken (element_drawn c.args.self.now.seed c.args.self.now.taken) c.loop-try-test.false c.loop-try.invariant.1

pub returns-clause-value : goal.returns-clause-value
returns-clause-value c = ap (λ (p : Fp × ℕ). p.0) (given_up c)

pub returns-clause-after : goal.returns-clause-after
returns-clause-after c = source_same _ _ _ c.loop-try.invariant.0 (ap (λ (p : Fp × ℕ). p.1) (given_up c))
