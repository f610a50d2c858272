-- The shares with which a drawn phase can begin.
use Rattle.std.specs.Prelude.{◌≡◌, ℕ, ◌≤◌, List, Option}
use Rattle.algebra61.specs.Field.{Fp}
use Rattle.talk.specs.Sync.{has}
use Rattle.commands.specs.MovePhase.{MayMove}
use Rattle.commands.specs.Phase.{shares_given}
use Rattle.commands.specs.Standing.{Standing}
use Rattle.scenes.specs.declared.side.Side.{Side}
use Rattle.scenes.specs.declared.scene.Scene.{Scene}
use Rattle.scenes.specs.declared.scene.Scene.TheVariants.{Create, Refresh, Move}

-- each member of the committee has shares, but for those that the phase has without
abbrev pub HaveShares : Side → List (Option (List Fp)) → Type 0
HaveShares side shares = (lanes : ℕ → List Fp) × (shares ≡ shares_given (has side.shareless) lanes side.members)

-- a later phase, by its place in the rehearsal, begins with these shares; the first begins with none
abbrev pub IsBegun : ℕ → Scene → List (Option (List Fp)) → Type 0
IsBegun place (Create side) shares = Unit {0}
IsBegun place (Refresh side) shares = (1 ≤ place) × (place ≤ 64) × HaveShares side shares
IsBegun place (Move old new) shares = (1 ≤ place) × (place ≤ 64) × HaveShares old shares

-- a key that stands so may go on in the phase: to the new committee of a move
abbrev pub MayGoOn : Scene → Standing → Type 0
MayGoOn (Create side) standing = Unit {0}
MayGoOn (Refresh side) standing = Unit {0}
MayGoOn (Move old new) standing = MayMove standing new.members new.bound
