use Rattle.std.proofs.Common.{ℕ, not, sym, ap, ◌∙◌, arith}
use Rattle.talk.specs.Sync.{has}
use Rattle.scenes.specs.Numbers.{seed_of}
use Rattle.recorder.proofs.Walks.{chosen_step, passed_step}
use Rattle.recorder.proofs.seeds.later_seeds.Goals as goal
use Rattle.recorder.proofs.seeds.later_seeds.Goals.{then-not-in_mask+in_ok-push, else-not-in_mask}

pub loop-member-preserved : goal.loop-member-preserved
loop-member-preserved c =
    let here = c.loop-member in
    let f = seed_of c.args.number c.args.place in
    elim c.if-not-in_mask.branch [
      | then-not-in_mask+in_ok-push w ↦ record {
        low = omega arith;
        so_far = rw w.seeds-is (chosen_step f (λ (member : ℕ). not (has c.args.side.now.shareless member)) here.seeds.items _ here.member w.seed_of.result here.invariant.low here.invariant.so_far (ap not (sym c.in_mask.ensures ∙ w.if-not-in_mask.true)) w.seed_of.ensures w.in_ok-push.ensures.items);
      }
      | else-not-in_mask w ↦ record {
        low = omega arith;
        so_far = rw w.seeds-is (passed_step f (λ (member : ℕ). not (has c.args.side.now.shareless member)) here.seeds.items here.member here.invariant.low here.invariant.so_far (ap not (sym c.in_mask.ensures ∙ w.if-not-in_mask.false)));
      }
    ]
