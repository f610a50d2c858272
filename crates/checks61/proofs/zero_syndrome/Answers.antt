use Rattle.checks61.proofs.Errors.{zero_only_of_values, zero_of_values}
use Rattle.checks61.proofs.zero_syndrome.Goals as goal

pub returns-clause-only : goal.returns-clause-only
returns-clause-only c = zero_only_of_values

pub returns-clause-always : goal.returns-clause-always
returns-clause-always c = zero_of_values
