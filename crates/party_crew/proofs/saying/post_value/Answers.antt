use Rattle.std.proofs.Common.{rules, ◌≡◌, ◌≢◌, ℕ, ◌+◌, ◌-◌, ◌*◌, ◌^◌, inl, inr, List, sym, ◌∙◌, subst, bit_or, arith}
use Rattle.std.specs.Int.{bit_at}
use Rattle.std.proofs.lemmas.Bool.{cases_eq}
use Rattle.std.proofs.lemmas.Nat.Bits.{bit_at-lt}
use Rattle.roundboard.specs.Rule.{In, event}
use Rattle.roundboard.specs.declared.view.Event.{Event}
use Rattle.roundboard.specs.declared.view.Deed.TheVariants.{Posted as Posting}
use Rattle.roundboard.specs.Pens.{events}
use Rattle.roundboard.specs.Answers.{word_of}
use Rattle.roundboard.specs.Pens.{cell_of}
use Rattle.roundboard.specs.Logs.{Grew}
use Rattle.party_crew.proofs.Growth.{unposted, arrival_here, post_no_passes, only_learns}
use Rattle.roundboard.proofs.Logs.{arrival_grew}
use Rattle.party_crew.proofs.saying.post_value.Goals as goal

pub post-requires : goal.post-requires
post-requires g c = (
  search rules,
  (
    search rules,
    (
      search rules,
      (
        search rules,
        unposted (c.args.round - 1) (events c.loop.pen) (λ k w h. c.requires.fresh k w (subst (λ (es : List Event). In (event (c.args.round - 1) (Posting k w)) es) c.loop.invariant.4 h)),
      ),
    ),
  ),
)

pub returns-in-Ok-clause-grew : goal.returns-in-Ok-clause-grew
returns-in-Ok-clause-grew g c =
    let w = word_of c.in-Ok.field-0 in
    subst (λ (es : List Event). Grew (c.args.round - 1) es (events c.post.new.pen)) c.loop.invariant.4
    (arrival_grew g.row.S (c.args.round - 1) (Posting c.loop.pen.log.place w) w (bit_or w (2 ^ c.loop.pen.log.place)) (events c.loop.pen) (events c.post.new.pen) c.in-Ok.ensures.told)

pub returns-in-Ok-clause-learns : goal.returns-in-Ok-clause-learns
returns-in-Ok-clause-learns g c = λ i x h.
    only_learns (cell_of g.row.S (c.args.round - 1) c.loop.pen.log.place) c.loop.pen.cells c.post.new.pen.cells c.post.ensures.cells i x (c.loop.invariant.5 i x h)

pub returns-in-Ok-clause-in_time : goal.returns-in-Ok-clause-in_time
returns-in-Ok-clause-in_time g c = λ none.
    let w = word_of c.in-Ok.field-0 in (
      (
        w,
        subst (λ (p : ℕ). In (event (c.args.round - 1) (Posting p w)) (events c.post.new.pen)) c.loop.invariant.3
            (arrival_here g.row.S (c.args.round - 1) (Posting c.loop.pen.log.place w) w (bit_or w (2 ^ c.loop.pen.log.place)) (events c.loop.pen) (events c.post.new.pen) c.in-Ok.ensures.told),
      ),
      λ v h. post_no_passes g.row.S (c.args.round - 1) c.loop.pen.log.place w (bit_or w (2 ^ c.loop.pen.log.place)) (events c.loop.pen) (events c.post.new.pen) c.in-Ok.ensures.told
          (λ k x t. none k x (subst (λ (es : List Event). In (event (c.args.round - 1) (Rattle.roundboard.specs.declared.view.Deed.TheVariants.Passed k x)) es) c.loop.invariant.4 t)) _ v h,
    )

pub returns-in-Ok-clause-posted : goal.returns-in-Ok-clause-posted
returns-in-Ok-clause-posted g c =
    let w = word_of c.in-Ok.field-0 in (
      w,
      subst (λ (p : ℕ). In (event (c.args.round - 1) (Posting p w)) (events c.post.new.pen)) c.loop.invariant.3
          (arrival_here g.row.S (c.args.round - 1) (Posting c.loop.pen.log.place w) w (bit_or w (2 ^ c.loop.pen.log.place)) (events c.loop.pen) (events c.post.new.pen) c.in-Ok.ensures.told),
    )
