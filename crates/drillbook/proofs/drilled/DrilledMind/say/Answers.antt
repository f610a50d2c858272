use Rattle.std.proofs.Common.{◌≡◌, ℕ, List}
use Rattle.talk.specs.declared.messages.Say.{Say}
use Rattle.talk.specs.Shape.{Shape}
use Rattle.talk.specs.Hears.{WordFits}
use Rattle.drillbook.specs.declared.order.Order.{Order}
use Rattle.drillbook.specs.Word.{drilled_word}
use Rattle.drillbook.proofs.Ordered.{drilled_fits}
use Rattle.drillbook.proofs.drilled.DrilledMind.say.Goals as goal

-- for the setting and the seat that it is made for
fits_there : (d s : Shape) (orders : List Order) (mine seat round : ℕ) (second w said : Say) → said ≡ drilled_word d orders mine round second w → d ≡ s → mine ≡ seat → WordFits s seat w → WordFits s seat said
fits_there d s orders mine seat round second w said e same sits h =
    let at : said ≡ drilled_word s orders seat round second w = rw (← same, ← sits) e in
    drilled_fits s orders seat round second w said at h

pub returns-clause-rings : goal.returns-clause-rings
returns-clause-rings g c =
    rw (← c.self.view_is)
    (λ s seat made. fits_there c.self.inside.setting s c.self.inside.drill c.self.inside.seat seat c.args.round c.self.inside.second c.in_ok-word.word c.in_ok-said.said
    c.in_ok-said.ensures made.0 made.1 (c.in_ok-word.ensures.rings s seat made.2))
