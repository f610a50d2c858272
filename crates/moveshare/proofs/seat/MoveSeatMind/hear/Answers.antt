use Rattle.std.proofs.Common.{◌≡◌, List, Option, sym, ap, ◌∙◌, subst, arith}
use Rattle.sharer.specs.Sharer.{round_of}
use Rattle.talk.specs.declared.messages.Post.{Post}
use Rattle.periods.specs.Mover.{Mover}
use Rattle.moveshare.specs.Seat.{IsMoving, IsKeptAt, may_move}
use Rattle.moveshare.specs.SeatView.{view_seat}
use Rattle.moveshare.proofs.Going.{HearsAsMember, hears_as_member, same_shape}
use Rattle.moveshare.proofs.seat.MoveSeatMind.hear.Goals as goal

pub invariant_of-self : goal.invariant_of-self
invariant_of-self c =
    let mover : Mover = view_seat c.self.inside in
    let read = c.requires.read in
    let turn : may_move mover c.args.round = subst (λ (m : Mover). may_move m c.args.round) (sym c.self.view_is) c.requires.may in
    let hears : HearsAsMember mover c.args.heard =
    hears_as_member mover c.args.round c.args.heard read.0 read.1 (omega (arith, c.if-round-le-SHARED.true, c.round.ensures)) turn
    (ap (λ (m : Mover). m.member.shape) c.self.view_is ∙ read.2.0) (ap (λ (m : Mover). m.member.seat) c.self.view_is ∙ read.2.1) read.3 in
    let same : c.hear.new.self.shape ≡ c.self.inside.sharer.shape = same_shape c.hear.result c.self.inside.sharer c.hear.new.self c.args.heard (round_of c.self.inside.sharer.stage) c.hear.ensures.after c.hear.ensures.kept in
    record {
      moving = subst IsMoving (sym same) c.self.invariant.moving;
      kept = subst (λ (sixth : Option (List Post)). IsKeptAt c.hear.new.self.shape c.hear.new.self.stage sixth) (sym hears.none) tt;
    }
