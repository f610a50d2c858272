-- What each answer of a call says. Rounds and places count from 0.
use Rattle.std.specs.Int.{bit_at}
use Rattle.std.specs.Prelude.{◌≡◌, ℕ, ◌+◌, ◌*◌, ◌^◌, List, ◌∷◌, bit_or, Some, None}
use Rattle.roundboard.specs.declared.board.Look.{Look}
use Rattle.roundboard.specs.declared.board.Look.TheVariants.{Frozen, NotYet, Aborted}
use Rattle.roundboard.specs.declared.board.Waited.{Waited}
use Rattle.roundboard.specs.declared.board.Waited.TheVariants.{Frozen as WaitedFrozen, Aborted as WaitedAborted}
use Rattle.roundboard.specs.declared.board.Read.{Read}
use Rattle.roundboard.specs.declared.board.Read.TheVariants.{Absent, Post as Got, NotYet as Unread}
use Rattle.roundboard.specs.declared.board.Posted.{Posted as Post}
use Rattle.roundboard.specs.declared.board.Posted.TheVariants.{InTime, Late}
use Rattle.roundboard.specs.declared.board.PostFault.{PostFault}
use Rattle.roundboard.specs.declared.board.PostFault.TheVariants.{OutOfMemory, Cell}
use Rattle.roundboard.specs.declared.view.Event.{Event}
use Rattle.roundboard.specs.declared.view.Deed.TheVariants.{Posted, Passed, Looked, SawControl, Cut}
use Rattle.roundboard.specs.Rule.{event, control_round}
use Rattle.roundboard.specs.Pages.{mask_in}
use Rattle.roundboard.specs.Logs.{Arrival}
use Rattle.roundboard.specs.Cells.{knows, missed}
use Rattle.counters.specs.Counts.{RoseByOne}
use Rattle.roundboard.specs.declared.cells.Cells.{Cells}

-- a look that found the frozen word unset, and then this control word
abbrev pub LooksUnset : ℕ → ℕ → List Event → List Event → Type 0
LooksUnset round control old new = (frozen : ℕ)
    × (new ≡ event control_round (SawControl control) ∷ (event round (Looked frozen) ∷ old)) × (mask_in frozen ≡ None)

-- a look at a round: the answer is read off the words that its own loads found
abbrev pub LookTells : ℕ → Look → List Event → List Event → Type 0
LookTells round (Frozen mask) old new =
    (frozen : ℕ) × (new ≡ event round (Looked frozen) ∷ old) × (mask_in frozen ≡ Some mask)
LookTells round NotYet old new = (control : ℕ) × LooksUnset round control old new × (bit_at control 0 ≡ 0)
LookTells round Aborted old new = (control : ℕ) × LooksUnset round control old new × (bit_at control 0 ≡ 1)

-- the look that ended a wait
abbrev pub last_look : Waited → Look
last_look (WaitedFrozen mask) = Frozen mask
last_look WaitedAborted = Aborted

-- the arrivals word that a post found
abbrev pub word_of : Post → ℕ
word_of (InTime word) = word
word_of (Late word) = word

-- in time exactly where the word was not closed
abbrev pub Timely : Post → Type 0
Timely (InTime word) = bit_at word 63 ≡ 0
Timely (Late word) = bit_at word 63 ≡ 1

-- a post that found the word closed found the passed bit of its place
abbrev pub LateBit : ℕ → Post → Type 0
LateBit place (InTime word) = Unit {0}
LateBit place (Late word) = bit_at word (30 + place) ≡ 1

-- a post of the place in the round, with the closing step where it is due
abbrev pub PostTells : ℕ → ℕ → ℕ → Post → List Event → List Event → Type 0
PostTells seats round place post old new =
    Arrival seats round (Posted place (word_of post)) (word_of post) (bit_or (word_of post) (2 ^ place)) old new

-- a pass of the place in the round, which found the word
abbrev pub PassTells : ℕ → ℕ → ℕ → ℕ → List Event → List Event → Type 0
PassTells seats round place word old new =
    Arrival seats round (Passed place word) word (bit_or word (2 ^ (30 + place))) old new

-- a cut of the seats of the mask in the round, which found the word
abbrev pub CutTells : ℕ → ℕ → ℕ → ℕ → List Event → List Event → Type 0
CutTells seats round mask word old new = Arrival seats round (Cut mask word) word (bit_or word (mask * 2 ^ 30)) old new

-- the value comes back, and the cell refused it where that is the answer; want of memory leaves the count of refusals
abbrev pub FaultTells : {T : Type 0} → T → ℕ → ℕ → PostFault T → Type 0
FaultTells value before now (OutOfMemory back) = (back ≡ value) × (now ≡ before)
FaultTells value before now (Cell back) = (back ≡ value) × RoseByOne before now

-- a read of the cell at the index, of a place that is in the mask where the bit is 1; the cell's count of misses rises where it showed no value, and else stands
abbrev pub ReadTells : {T : Type 0} → ℕ → ℕ → Cells T → Cells T → Read T → Type 0
ReadTells bit index old new Absent = (bit ≡ 0) × (missed new index ≡ missed old index)
ReadTells bit index old new (Got post) =
    (bit ≡ 1) × (knows new index ≡ Some post.now) × (missed new index ≡ missed old index)
ReadTells bit index old new Unread =
    (bit ≡ 1) × (knows old index ≡ None) × RoseByOne (missed old index) (missed new index)
