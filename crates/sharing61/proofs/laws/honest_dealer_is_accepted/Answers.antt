use Rattle.sharing61.proofs.Own.{honest_dealer}
use Rattle.sharing61.proofs.laws.honest_dealer_is_accepted.Goals as goal

pub returns : goal.returns
returns c = honest_dealer
