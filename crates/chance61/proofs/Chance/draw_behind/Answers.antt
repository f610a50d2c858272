use Rattle.std.proofs.Common.{◌≡◌, ◌-◌, ◌+◌, ◌++◌, List, ℕ, ap, sym, ◌∙◌, refl, subst, arith}
use Rattle.algebra61.specs.Field.{Fp}
use Rattle.chance61.specs.Draws.{Source, drawn_in_turn, element_drawn, elements_drawn}
use Rattle.chance61.proofs.DrawLemmas.{Turns, turn_step, turn_end, source_same}
use Rattle.chance61.proofs.Chance.draw_behind.Goals as goal

-- the given elements, and those to be drawn
abbrev behind : List Fp → ℕ → List ℕ → ℕ → List Fp × ℕ
behind first count seed place = (first ++ (elements_drawn count seed place).0, (elements_drawn count seed place).1)

pub loop-drawn-init : goal.loop-drawn-init
unfolding elements_drawn
loop-drawn-init c =
    let all : c.args.count - 0 ≡ c.args.count = omega arith in (
      refl,
      record {
        items = ap (λ n. c.args.elements ++ (drawn_in_turn (element_drawn c.args.self.now.seed) n c.args.self.now.taken).0) all;
        after = ap (λ n. (drawn_in_turn (element_drawn c.args.self.now.seed) n c.args.self.now.taken).1) all;
      },
    )

pub loop-drawn-preserved : goal.loop-drawn-preserved
loop-drawn-preserved c =
    let seed = c.args.self.now.seed in
    let same = c.loop-drawn.invariant.0 in
    let step = turn_step (element_drawn seed) c.args.count c.loop-drawn._drawn c.loop-drawn.self.taken c.loop-drawn.elements
    (behind c.args.elements c.args.count seed c.args.self.now.taken) c.draw.result c.draw.new.self.taken c.loop-drawn-test.true c.loop-drawn.invariant.1
    (c.draw.ensures.value ∙ ap (λ s. (element_drawn s c.loop-drawn.self.taken).0) same)
    (ap (λ (s : Source). s.taken) c.draw.ensures.after ∙ ap (λ s. (element_drawn s c.loop-drawn.self.taken).1) same) in (
      ap (λ (s : Source). s.seed) c.draw.ensures.after ∙ same,
      subst (λ (l : List Fp). Turns (element_drawn seed) (c.args.count - (c.loop-drawn._drawn + 1)) c.draw.new.self.taken l (behind c.args.elements c.args.count seed c.args.self.now.taken)) (sym c.in_ok-push.ensures) step,
    )

whole : (c : goal.After-loop-drawn) → (c.loop-drawn.elements ≡ c.args.elements ++ (elements_drawn c.args.count c.args.self.now.seed c.args.self.now.taken).0) × (c.loop-drawn.self.taken ≡ (elements_drawn c.args.count c.args.self.now.seed c.args.self.now.taken).1)
whole c = turn_end _ c.args.count c.loop-drawn._drawn c.loop-drawn.self.taken c.loop-drawn.elements (behind c.args.elements c.args.count c.args.self.now.seed c.args.self.now.taken) c.loop-drawn-test.false c.loop-drawn.invariant.1

pub returns-clause-elements : goal.returns-clause-elements
returns-clause-elements c = (whole c).0

pub returns-clause-after : goal.returns-clause-after
returns-clause-after c = source_same _ _ _ c.loop-drawn.invariant.0 (whole c).1
