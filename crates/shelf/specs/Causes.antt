-- Why a call of the outside fails, and what it leaves.
use Rattle.std.specs.Prelude.{◌≡◌, ◌≤◌, ◌⊎◌, ◌↔◌, ℕ, ◌+◌, ◌-◌, ◌^◌, ◌++◌, min, List, [], ◌∷◌, take, length, Option, Some, None, Result, Ok, Err, IsErr, IsErrOf, Contains}
use Rattle.std.specs.Option.{option_map}
use Rattle.counters.specs.Counts.{Rose}
use Rattle.shelf.specs.Held.{Held, Change, after_change}
use Rattle.shelf.specs.declared.fault.OutsideFault.{OutsideFault}
use Rattle.shelf.specs.declared.fault.OutsideFault.TheVariants.{Failed, OutOfMemory}

-- the count of faults never falls, and `Failed` comes only where it rose
pub record HasCause {T : Type 0} (before now : ℕ) (result : Result T OutsideFault) : Type 0 where
  pub later : before ≤ now
  pub failed : IsErrOf result Failed → Rose before now

-- A change is made whole or not at all: on Ok it is made, after `Failed` it may have been, and without memory it
-- isn't. A shelf that doesn't tell what it holds still doesn't.
abbrev pub Makes : Change → Option Held → Option Held → Result (Unit {0}) OutsideFault → Type 0
Makes change old new (Ok done) = new ≡ option_map (after_change change) old
Makes change old new (Err Failed) = (new ≡ old) ⊎ (new ≡ option_map (after_change change) old)
Makes change old new (Err OutOfMemory) = new ≡ old

-- The bytes of a sink: on Ok all are appended, after `Failed` a part of them from the front, and without memory none.
abbrev pub Appends : List ℕ → Option (List ℕ) → Option (List ℕ) → Result (Unit {0}) OutsideFault → Type 0
Appends bytes old new (Ok done) = new ≡ option_map (λ told. told ++ bytes) old
Appends bytes old new (Err Failed) = (n : ℕ) × (n ≤ length bytes) × (new ≡ option_map (λ told. told ++ take n bytes) old)
Appends bytes old new (Err OutOfMemory) = new ≡ old

-- some calls that only read: the shelf holds what it held, its count hasn't fallen, and it stays calm
pub record OnlyReads {S : Type 0} (held : S → Option Held) (fault_count : S → ℕ) (calm : S → Type 0) (old new : S) : Type 0 where
  pub same : held new ≡ held old
  pub later : fault_count old ≤ fault_count new
  pub stays_calm : calm old → calm new

-- the seed was taken from the front of those to come
abbrev pub Takes : List ℕ → Option (List (List ℕ)) → Option (List (List ℕ)) → Type 0
Takes seed None new = new ≡ None
Takes seed (Some []) new = ⊥
Takes seed (Some (first ∷ rest)) new = (seed ≡ first) × (new ≡ Some rest)

-- another seed is to come, where that is told
abbrev pub HasMore : Option (List (List ℕ)) → Type 0
HasMore None = Unit {0}
HasMore (Some []) = ⊥
HasMore (Some (first ∷ rest)) = Unit {0}

-- which calls of an object fail: their numbers, of which the first is 0, and how many calls were made
pub record Schedule : Type 0 where
  pub fails : List ℕ
  pub made : ℕ

-- one more call was made. At its last value the number of calls stands still
abbrev pub one_more : Schedule → Schedule
one_more s = record s { made = min (s.made + 1) (2 ^ 64 - 1) }

-- the next call is listed to fail
abbrev pub IsListed : Schedule → Type 0
IsListed s = Contains s.fails s.made

-- A call was counted: it failed exactly where it was listed. An object that doesn't tell which calls fail still doesn't.
abbrev pub Follows : {T : Type 0} → Option Schedule → Option Schedule → Result T OutsideFault → Type 0
Follows None new result = new ≡ None
Follows (Some s) new result = (new ≡ Some (one_more s)) × (IsErrOf result Failed ↔ IsListed s)

-- The same of a call for a seed, which also fails where none is to come.
abbrev pub Fills : {T E : Type 0} → Option Schedule → Option Schedule → Option (List (List ℕ)) → Result T E → Type 0
Fills None new coming result = new ≡ None
Fills (Some s) new coming result = (new ≡ Some (one_more s)) × (IsErr result ↔ (IsListed s ⊎ (coming ≡ Some [])))
