use Rattle.std.proofs.Common.{◌≡◌, ℕ, sym, ap, ◌∙◌, subst, arith}
use Rattle.talk.specs.Shape.{Shape, Lawful, rounds}
use Rattle.histories61.proofs.Fits.{lawful_create}
use Rattle.lives.proofs.played.shares_of.Goals as goal

pub play-requires-clause-setting : goal.play-requires-clause-setting
play-requires-clause-setting c = subst Lawful (sym c.requires) (lawful_create 4 1 (record { some_bad = omega arith; third = omega arith; most = omega arith }))

pub play-requires-clause-sixth : goal.play-requires-clause-sixth
play-requires-clause-sixth c = λ six. let five : 5 ≡ 6 = sym (ap rounds c.requires) ∙ six in absurd (omega (arith, five))

pub created_shares-requires-clause-setting : goal.created_shares-requires-clause-setting
created_shares-requires-clause-setting c = subst Lawful (sym c.requires) (lawful_create 4 1 (record { some_bad = omega arith; third = omega arith; most = omega arith }))
