use Rattle.std.proofs.Common.{ap, arith}
use Rattle.sharefile.specs.Files.{Now}
use Rattle.drillbook.specs.Orders.{names}
use Rattle.keyroom.proofs.Counting.{few_down}
use Rattle.keyroom.proofs.sound.check_sound.Goals as goal

pub returns-clause-few : goal.returns-clause-few
returns-clause-few c =
    few_down (names c.args.drill.now) c.args.files.now c.args.now.now.n c.args.now.now.t c.requires.count (omega (arith, c.if-sound-needed.false, c.sound_count-sound.ensures, ap (λ (f : Now). f.n) c.now.view_is, ap (λ (f : Now). f.t) c.now.view_is))
