use Rattle.std.proofs.Common.{◌≡◌, ℕ, ◌+◌, List, [], length, get_or, ap, ◌∙◌, sym, arith}
use Rattle.algebra61.specs.Field.{Fp}
use Rattle.checks61.specs.Checks.{corrected, entry}
use Rattle.talk.specs.Shape.{Shape}
use Rattle.members.specs.Shares.{kept_in}
use Rattle.lists.proofs.Places.{at_or}
use Rattle.periods.specs.Move.{old_bound}
use Rattle.periods.specs.Mover.{subshare_in}
use Rattle.moveshare.proofs.Answering.{OldCommittee, old_committee, length-shares, corrected_of_shares}
use Rattle.moveshare.proofs.corrected.share_of.Goals as goal

long : (c : goal.After-as_slice-2) → length c.as_slice.result.now ≡ c.args.sharer.now.shape.dealers
long c =
    length-shares c.args.sharer.now.shape.dealers (subshare_in (kept_in c.args.sharer.now.stage) c.args.lane) c.as_slice.result.now (c.as_slice.ensures ∙ c.in_ok-shares.ensures)

error_is : (c : goal.After-as_slice-2) → c.as_slice-2.result.now ≡ get_or c.args.errors.now c.args.lane []
error_is c = c.as_slice-2.ensures ∙ at_or c.args.errors.now c.args.lane [] c.at-error.result.now c.at-error.ensures

bound_is : (c : goal.After-as_slice-2) → c.old_bound-bound.result ≡ old_bound c.args.sharer.now.shape
bound_is c = c.old_bound-bound.ensures.is ∙ ap old_bound c.setting.ensures

pub correct-requires-clause-same : goal.correct-requires-clause-same
correct-requires-clause-same c = ap length (error_is c) ∙ c.requires.errors.1 c.args.lane c.requires.lane ∙ sym (long c)

pub correct-requires-clause-enough : goal.correct-requires-clause-enough
correct-requires-clause-enough c =
    let old : OldCommittee c.args.sharer.now.shape = old_committee c.args.sharer.now.shape c.requires.moving in
    omega (arith, long c, bound_is c, old.dealers)

pub returns : goal.returns
returns c =
    let s : Shape = c.args.sharer.now.shape in
    let old : OldCommittee s = old_committee s c.requires.moving in
    let shares = subshare_in (kept_in c.args.sharer.now.stage) c.args.lane in
    let bound : c.old_bound-bound.result ≡ old_bound s = c.old_bound-bound.ensures.is ∙ ap old_bound c.setting.ensures in
    c.in_ok-share.ensures
    ∙ ap (λ (k : ℕ). corrected (k + 1) (entry c.as_slice.result.now) (entry c.as_slice-2.result.now)) bound
    ∙ corrected_of_shares s.dealers (old_bound s + 1) shares c.as_slice.result.now c.as_slice-2.result.now (omega (arith, old.dealers)) (c.as_slice.ensures ∙ c.in_ok-shares.ensures)
    ∙ ap (λ (l : List Fp). corrected (old_bound s + 1) shares (entry l)) (c.as_slice-2.ensures ∙ at_or c.args.errors.now c.args.lane [] c.at-error.result.now c.at-error.ensures)
