use Rattle.std.proofs.Common.{◌≡◌, ◌-◌, ◌∙◌, ℕ, not, length, sym, ap, arith}
use Rattle.sharing61.specs.Count.{how_many}
use Rattle.drillbook.specs.Orders.{names}
use Rattle.keyroom.specs.Sound.{is_down}
use Rattle.keyroom.proofs.Counting.{count_most, sound_many}
use Rattle.keyroom.proofs.sound.sound_count.Goals as goal

pub overflow_add-count : goal.overflow_add-count
overflow_add-count c =
    omega (arith, c.requires.few, c.loop-index.invariant, c.loop-index-test.true, count_most (λ index. not (is_down (names c.args.drill.now) c.args.files.now index)) (c.loop-index.index - 1))

pub returns : goal.returns
returns c =
    let all : c.loop-index.index - 1 ≡ length c.args.files.now = omega arith in
    c.loop-index.invariant ∙ ap (λ (n : ℕ). how_many n (λ index. not (is_down (names c.args.drill.now) c.args.files.now index))) all ∙ sym (sound_many (names c.args.drill.now) c.args.files.now)
