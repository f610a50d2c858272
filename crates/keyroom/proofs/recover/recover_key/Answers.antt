use Rattle.std.proofs.Common.{subst}
use Rattle.keyroom.specs.Outcome.{AnswersWith}
use Rattle.keyroom.specs.Recover.{MeansKeyOf}
use Rattle.keyroom.proofs.Honest.{honest_call}
use Rattle.keyroom.proofs.Refusals.{from_nothing}
use Rattle.keyroom.proofs.recover.recover_key.Goals as goal

pub returns-clause-honest : goal.returns-clause-honest
returns-clause-honest g c =
    honest_call _ _ c.args.name.now c.in_ok-now.now c.in_ok-files.files.items _ c.in_ok-now.ensures.reads.same c.in_ok-now.ensures.gives c.in_ok-files.ensures.found
    (subst (λ fs. AnswersWith (MeansKeyOf c.in_ok-now.now fs) c.recovered_from.result) c.deref.ensures.value c.recovered_from.ensures.means)

pub returns-clause-cause : goal.returns-clause-cause
returns-clause-cause g c = from_nothing _ _ c.recovered_from.result c.recovered_from.ensures.cause
