use Rattle.std.proofs.Common.{◌≡◌, ◌-◌, not}
use Rattle.sharing61.specs.Count.{how_many}
use Rattle.drillbook.specs.Orders.{names}
use Rattle.keyroom.specs.Sound.{is_down}
use Rattle.keyroom.proofs.sound.sound_count.Given as goal

abbrev pub invariant-loop-index : goal.invariant-loop-index
invariant-loop-index l = l.count ≡ how_many (l.index - 1) (λ index. not (is_down (names l.drill) l.files index))
