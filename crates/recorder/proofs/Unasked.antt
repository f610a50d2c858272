-- A pace that never cuts answers nothing, so nobody is cut.
use Rattle.std.proofs.Common.{◌≡◌, ℕ, ap₂}
use Rattle.talk.specs.Sync.{nobody}
use Rattle.paces.specs.Tallies.{cuts_in}
use Rattle.paces.specs.declared.still_pace.StillPace.{StillPace}
use Rattle.commands.specs.Late.{cuts_since}

-- from one moment of it to another
pub unasked : (old new : StillPace) → cuts_since old.tally.answered new.tally.answered (cuts_in new.tally) ≡ nobody
unasked old new = ap₂ (λ (before now : ℕ). cuts_since before now (cuts_in new.tally)) old.none new.none
