-- What the steps towards the lanes' error vectors answer.
use Rattle.std.specs.Prelude.{◌≡◌, ℕ, ◌<◌, List, [], length, get_or, Result, Ok, Err}
use Rattle.algebra61.specs.Field.{Fp}
use Rattle.checks61.specs.Checks.{IsErrorOf}
use Rattle.talk.specs.declared.messages.Post.{Post}
use Rattle.talk.specs.Shape.{Shape}
use Rattle.periods.specs.Move.{IsOpenedSyndrome, HaveErrors, MoveHasNoResult, old_bound}
use Rattle.subshare.specs.declared.OpenFault.{OpenFault}
use Rattle.subshare.specs.declared.OpenFault.TheVariants.{NotOpened as PlaceNotOpened, OutOfMemory as NoMemory}
use Rattle.moveshare.specs.declared.lanes.LaneFault.{LaneFault}
use Rattle.moveshare.specs.declared.lanes.LaneFault.TheVariants.{NotOpened, NoWord, OutOfMemory}
use Rattle.moveshare.specs.Result.{IsNotOpened}

-- what stands at each of the first lanes
abbrev pub EachLane : ℕ → (ℕ → List Fp → Type 0) → List (List Fp) → Type 0
EachLane lanes is lists = (length lists ≡ lanes) × ((lane : ℕ) → lane < lanes → is lane (get_or lists lane []))

-- the opened syndromes of the five lanes
abbrev pub AreOpened : Shape → (ℕ → Post) → List (List Fp) → Type 0
AreOpened shape post syndromes = EachLane 5 (IsOpenedSyndrome shape post) syndromes

-- a list is the error vector of a lane's syndrome
abbrev pub IsErrorAt : Shape → List (List Fp) → ℕ → List Fp → Type 0
IsErrorAt shape syndromes lane error = IsErrorOf shape.dealers (old_bound shape) (get_or syndromes lane []) error

-- the first lane whose syndrome, this one, has no error vector
pub record IsFirstWithout (shape : Shape) (syndromes : List (List Fp)) (lane : ℕ) (syndrome : List Fp) : Type 0 where
  pub within : lane < 5
  pub named : syndrome ≡ get_or syndromes lane []
  pub without : (error : List Fp) → IsErrorAt shape syndromes lane error → ⊥
  pub before : (other : ℕ) → other < lane → (error : List Fp) × IsErrorAt shape syndromes other error

-- what it means of a lane that opening it was refused
abbrev pub fault_at : ℕ → OpenFault → LaneFault
fault_at lane (PlaceNotOpened place) = NotOpened lane place
fault_at lane NoMemory = OutOfMemory

-- opening all lanes
abbrev pub OpensLanes : Shape → (ℕ → Post) → Result (List (List Fp)) LaneFault → Type 0
OpensLanes shape post (Ok syndromes) = AreOpened shape post syndromes
OpensLanes shape post (Err (NotOpened lane place)) = IsNotOpened shape post lane place
OpensLanes shape post (Err (NoWord lane syndrome)) = ⊥
OpensLanes shape post (Err OutOfMemory) = Unit {0}

-- the error vectors of opened syndromes
abbrev pub FindsErrors : Shape → List (List Fp) → Result (List (List Fp)) LaneFault → Type 0
FindsErrors shape syndromes (Ok errors) = EachLane 5 (IsErrorAt shape syndromes) errors
FindsErrors shape syndromes (Err (NotOpened lane place)) = ⊥
FindsErrors shape syndromes (Err (NoWord lane syndrome)) = IsFirstWithout shape syndromes lane syndrome
FindsErrors shape syndromes (Err OutOfMemory) = Unit {0}

-- both
abbrev pub AnswersLanes : Shape → (ℕ → Post) → Result (List (List Fp)) LaneFault → Type 0
AnswersLanes shape post (Ok errors) = HaveErrors shape post errors
AnswersLanes shape post (Err (NotOpened lane place)) = IsNotOpened shape post lane place
AnswersLanes shape post (Err (NoWord lane syndrome)) = MoveHasNoResult shape post lane syndrome
AnswersLanes shape post (Err OutOfMemory) = Unit {0}
