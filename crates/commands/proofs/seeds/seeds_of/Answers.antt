use Rattle.std.proofs.Common.{◌++◌, ◌∷◌, [], refl, arith}
use Rattle.std.proofs.lemmas.List.{length_push}
use Rattle.commands.proofs.Drawing.{drawn_none, drawn_more, drawn_has_more, drawn_some, drawn_still, some_refused}
use Rattle.commands.proofs.seeds.seeds_of.Goals as goal

pub loop-member-init : goal.loop-member-init
loop-member-init g c = rw c.new-seeds.ensures.items (record { drawn = drawn_none _; count = refl; later = omega arith; calm = λ is enough. is })

pub loop-member-preserved : goal.loop-member-preserved
loop-member-preserved g c = rw c.in_ok-push.ensures.items (record {
  drawn = drawn_more _ _ _ _ _ c.loop-member.invariant.drawn c.in_ok-seed.ensures.taken;
  count = omega (arith, length_push c.loop-member.seeds.items c.in_ok-seed.seed, c.loop-member.invariant.count);
  later = omega (arith, c.loop-member.invariant.later, c.in_ok-seed.ensures.later);
  calm = λ is enough. c.in_ok-seed.ensures.calm (c.loop-member.invariant.calm is enough) (drawn_has_more c.args.count _ _ _ (omega (arith, c.loop-member.invariant.count)) enough c.loop-member.invariant.drawn);
})

pub returns-in_err-seed-clause-some : goal.returns-in_err-seed-clause-some
returns-in_err-seed-clause-some g c =
    some_refused c.from_residual.result (drawn_some c.args.count c.loop-member.seeds.items _ _ (omega (arith, c.loop-member.invariant.count)) (drawn_still _ _ _ _ c.loop-member.invariant.drawn c.in_err-seed.ensures.kept))

pub returns-in_err-push-clause-some : goal.returns-in_err-push-clause-some
returns-in_err-push-clause-some g c =
    some_refused c.from_residual-in_err-push.result
    (drawn_some c.args.count (c.loop-member.seeds.items ++ c.in_ok-seed.seed ∷ []) _ _ (omega (arith, length_push c.loop-member.seeds.items c.in_ok-seed.seed, c.loop-member.invariant.count))
    (drawn_more _ _ _ _ _ c.loop-member.invariant.drawn c.in_ok-seed.ensures.taken))
