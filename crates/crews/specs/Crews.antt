-- What a crew says of its starts and of its members.
use Rattle.std.specs.Prelude.{◌≡◌, ◌↔◌, ℕ, List, length, slice_get, Bool, Option, Some, None, IsTrue}
use Rattle.shelf.specs.Causes.{Schedule, one_more, IsListed}

-- a start was asked for: it is refused exactly where it is listed. A crew that doesn't tell which starts are refused still doesn't
abbrev pub Asks : Option Schedule → Option Schedule → Bool → Type 0
Asks None new refused = new ≡ None
Asks (Some s) new refused = (new ≡ Some (one_more s)) × (IsTrue refused ↔ IsListed s)

-- each member may attend
abbrev pub AllReady : {M : Type 0} → (M → Type 0) → List M → Type 0
AllReady {M} ready members = (k : ℕ) (m : M) → slice_get members k ≡ Some m → ready m

-- each member of the second list is that of the first after it attended
abbrev pub EachAttended : {M : Type 0} → (M → M → Type 0) → List M → List M → Type 0
EachAttended {M} attends before after =
    (length after ≡ length before) × ((k : ℕ) (a b : M) → slice_get before k ≡ Some a → slice_get after k ≡ Some b → attends a b)
