use Rattle.std.proofs.Common.{◌+◌, ◌*◌, ◌%◌, ap, ap₂, ◌∙◌, refl}
use Rattle.chance61.specs.Draws.{Source, candidate}
use Rattle.chance61.proofs.DrawLemmas.{candidate_is}
use Rattle.chance61.proofs.Chance.candidate.Goals as goal

pub returns-clause-value : goal.returns-clause-value
returns-clause-value c =
    ap (λ n. n % 2305843009213693952) (ap₂ (λ a b. a * 4294967296 % 18446744073709551616 + b) c.from-high.ensures c.from-low.ensures)
    ∙ candidate_is c.self.inside.seed c.self.inside.words.word_pos c.self.inside.words c.next_word.new.self c.next_word-2.new.self c.next_word.result c.next_word-2.result
    c.self.invariant.0 c.self.invariant.1 refl c.next_word.ensures c.next_word-2.ensures c.next_word-2.type_inv
    ∙ ap (λ (s : Source). candidate s.seed s.taken) c.self.view_is
