use Rattle.std.proofs.Common.{◌≡◌, ◌^◌, ◌↔◌, true, ap, ◌∙◌, subst, arith}
use Rattle.sharing61.specs.Count.{how_many}
use Rattle.talk.specs.Sync.{has}
use Rattle.histories61.specs.Phases.{Within}
use Rattle.viewshift.specs.Members.{behind}
use Rattle.viewshift.proofs.Judging.{refuse_by}
use Rattle.viewshift.proofs.Naming.{named_few, few_named_by}
use Rattle.viewshift.proofs.masks.names_few.Goals as goal

pub returns-then-mask-end : goal.returns-then-mask-end
returns-then-mask-end c = refuse_by (λ is. absurd (omega (arith, is.own, ap (λ n. 2 ^ n) c.receivers-members.ensures.is, c.past_bits-end.ensures, c.if-mask-end.true)))

pub returns-then-count_in-bound : goal.returns-then-count_in-bound
returns-then-count_in-bound c =
    refuse_by
    (λ is. absurd (omega (
      arith,
      named_few c.args.phase.now c.args.mask c.count_in.result (c.count_in.ensures ∙ ap (λ n. how_many n (behind c.args.mask 0)) c.receivers-members.ensures.is) is,
      c.bound-bound.ensures.is,
      c.if-count_in-bound.true,
    )))

pub returns : goal.returns
returns c =
    few_named_by c.args.phase.now c.args.mask c.count_in.result c.is_within.result (omega (arith, ap (λ n. 2 ^ n) c.receivers-members.ensures.is, c.past_bits-end.ensures, c.if-mask-end.false))
    (c.count_in.ensures ∙ ap (λ n. how_many n (behind c.args.mask 0)) c.receivers-members.ensures.is) (omega (arith, c.bound-bound.ensures.is, c.if-count_in-bound.false))
    (subst (λ n. (c.is_within.result ≡ true) ↔ Within n (behind c.args.phase.now.down c.args.phase.now.setting.shift) (has c.args.mask)) c.receivers-members.ensures.is
    (subst (λ s. (c.is_within.result ≡ true) ↔ Within c.receivers-members.result (behind c.args.phase.now.down s) (has c.args.mask)) c.shift-shift.ensures.is c.is_within.ensures))
