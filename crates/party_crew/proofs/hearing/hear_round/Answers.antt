use Rattle.std.proofs.Common.{◌≡◌, ℕ, ◌-◌, List, refl, sym, ap, ◌∙◌, subst}
use Rattle.talk.specs.declared.messages.Post.{Post as PostValue}
use Rattle.roundboard.specs.declared.view.Event.{Event}
use Rattle.roundboard.specs.declared.cells.Cells.{Cells}
use Rattle.roundboard.specs.Cells.{knows}
use Rattle.roundboard.specs.Pens.{events}
use Rattle.pairrings.specs.Ends.{got_from}
use Rattle.roundboard.specs.Pages.{Saw}
use Rattle.party_crew.proofs.Heard.{heard_round}
use Rattle.party_crew.proofs.hearing.hear_round.Goals as goal

pub returns-in_err-rings-clause-learns : goal.returns-in_err-rings-clause-learns
returns-in_err-rings-clause-learns g c = λ i x h. c.take_posts.ensures.learns i x (ap (λ (z : Cells PostValue). knows z i) c.await_mask.ensures.cells ∙ h)

pub returns-clause-learns : goal.returns-clause-learns
returns-clause-learns g c = λ i x h. c.take_posts.ensures.learns i x (ap (λ (z : Cells PostValue). knows z i) c.await_mask.ensures.cells ∙ h)

pub returns-clause-heard : goal.returns-clause-heard
returns-clause-heard g c =
    let p = c.in_ok-posts.ensures.taken in
    let r = c.in_ok-rings.ensures.taken in
    let same : events c.await_mask.new.pen ≡ events c.take_posts.new.pen = sym (ap (λ l. l.seat.me.0.events) c.take_posts.ensures.log) in (
      record { mask = c.in-Some.mask; posts = p.0; rings = r.0 },
      heard_round c.args.setting.now g.row.S c.args.me c.args.round c.in-Some.mask (events c.take_posts.new.pen) c.take_posts.new.pen.cells (got_from c.args.end.now) (got_from c.take_rings.new.end) p.0 r.0 c.in_ok-posts.posts c.in_ok-rings.rings c.requires.me.0 c.requires.me.1
          (subst (λ (es : List Event). Saw es (c.args.round - 1) c.in-Some.mask) same c.in-Some.ensures.saw) p.1 r.1,
    )
