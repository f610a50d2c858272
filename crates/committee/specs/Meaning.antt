-- The meaning of a command: one equation for each.
use Rattle.std.specs.Prelude.{◌≡◌, ◌⊎◌, ℕ, List, [], get_or, Option, Ok}
use Rattle.shelf.specs.Held.{Held}
use Rattle.keyroom.specs.declared.status.Status.TheVariants.{Usage}
use Rattle.keyroom.specs.declared.document.Direction.TheVariants.{Sealing, Opening}
use Rattle.keyroom.specs.Words.{Command, Create, Refresh, Move, Recover, Check, Seal, Open, Rehearse, ReadsAs, IsUsage}
use Rattle.keyroom.specs.Outcome.{Outcome, refused}
use Rattle.keyroom.specs.Recover.{MeansRecover}
use Rattle.keyroom.specs.Check.{MeansCheck}
use Rattle.keyroom.specs.Document.{MeansDocument}
use Rattle.commands.specs.Planning.{HasEnoughSeeds}
use Rattle.commands.specs.Create.{CreateTakes, MeansCreate}
use Rattle.commands.specs.Standing.{Standing, HasSoundNow}
use Rattle.commands.specs.Refresh.{RefreshTakes, MeansRefresh}
use Rattle.commands.specs.Move.{move_asked, MoveTakes, MeansMove}
use Rattle.committee.specs.Rehearse.{MeansRehearse, RehearseTakes}

-- what a command is given: what the shelf holds, the seeds to come, where they are told, and who may have been cut in each
-- round of its phase
pub record Given : Type 0 where
  pub held : Held
  pub coming : Option (List (List ℕ))
  pub cuts : ℕ → ℕ

-- the masks of a phase's rounds, by the masks of all phases; the first has the number 0
abbrev pub of_phase : List (List ℕ) → ℕ → List ℕ
of_phase masks phase = get_or masks phase []

-- What a command means under the masks of the rounds of its phases; a command without a phase is the same under all masks,
-- and so is a rehearsal, in which nobody is cut and nobody speaks late.
abbrev pub MeansCommand : Command → Given → List (List ℕ) → Outcome → Type 0
MeansCommand (Create name n t drill) given masks = MeansCreate name n t drill given.held given.coming given.cuts (of_phase masks 0)
MeansCommand (Refresh name drill) given masks = MeansRefresh name drill given.held given.coming given.cuts (of_phase masks 0)
MeansCommand (Move name m u drill) given masks = MeansMove name m u drill given.held given.coming given.cuts (of_phase masks 0)
MeansCommand (Recover name) given masks = MeansRecover name given.held
MeansCommand (Check name) given masks = MeansCheck name given.held
MeansCommand (Seal name doc target) given masks = MeansDocument Sealing name doc target given.held
MeansCommand (Open name source target) given masks = MeansDocument Opening name source target given.held
MeansCommand (Rehearse members bound periods number) given masks = MeansRehearse members bound periods number

-- it means so under some masks
abbrev pub MeansSome : Command → Given → Outcome → Type 0
MeansSome command given outcome = (masks : List (List ℕ)) × MeansCommand command given masks outcome

-- what the words mean under masks: no command is Usage, and a command is what it means
abbrev pub MeansUnder : List (List ℕ) → List (List ℕ) → Given → Outcome → Type 0
MeansUnder masks words given outcome =
    (IsUsage words × (outcome ≡ refused Usage))
    ⊎ ((command : Command) × ReadsAs words command × MeansCommand command given masks outcome)

-- what the words mean: there are masks under which they mean it. The text of a phase prints them, where it is put out
abbrev pub Means : List (List ℕ) → Given → Outcome → Type 0
Means words given outcome = (masks : List (List ℕ)) × MeansUnder masks words given outcome

-- A command comes to the step that takes seeds, and takes so many there.
abbrev pub TakesSeeds : Command → Held → ℕ → Type 0
TakesSeeds (Create name n t drill) held count = CreateTakes name n t drill held count
TakesSeeds (Refresh name drill) held count = RefreshTakes name drill held count
TakesSeeds (Move name m u drill) held count = MoveTakes name m u drill held count
TakesSeeds (Recover name) held count = ⊥
TakesSeeds (Check name) held count = ⊥
TakesSeeds (Seal name doc target) held count = ⊥
TakesSeeds (Open name source target) held count = ⊥
TakesSeeds (Rehearse members bound periods number) held count = RehearseTakes count

-- the words are such a command
abbrev pub AskForSeeds : List (List ℕ) → Held → ℕ → Type 0
AskForSeeds words held count = (command : Command) × ReadsAs words command × TakesSeeds command held count

-- how many seeds a command may take at most, whatever the shelf holds; no committee has more than 13 members
abbrev pub most_seeds : Command → ℕ
most_seeds (Create name n t drill) = n
most_seeds (Refresh name drill) = 13
most_seeds (Move name m u drill) = 13
most_seeds (Recover name) = 0
most_seeds (Check name) = 0
most_seeds (Seal name doc target) = 0
most_seeds (Open name source target) = 0
most_seeds (Rehearse members bound periods number) = 0

-- The seeds to come, where they are told, are enough for a command: for what it comes to take over what the shelf holds,
-- or for whatever it may take, where the shelf doesn't tell.
abbrev pub AreEnoughFor : Command → Option Held → Option (List (List ℕ)) → Type 0
AreEnoughFor command held coming = HasEnoughSeeds (most_seeds command) (TakesSeeds command) held coming

-- they are enough for the command that the words are
abbrev pub AreEnough : List (List ℕ) → Option Held → Option (List (List ℕ)) → Type 0
AreEnough words held coming = (command : Command) → ReadsAs words command → AreEnoughFor command held coming

-- the words are a command that comes to its phase: its steps before it refuse nothing
abbrev pub ComeToPhase : List (List ℕ) → Held → Type 0
ComeToPhase words held = (count : ℕ) × AskForSeeds words held count

-- they are a move that does
abbrev pub ComeToMove : List (List ℕ) → Held → Type 0
ComeToMove words held =
    (name : List ℕ) × (m : ℕ) × (u : ℕ) × (drill : Option (List ℕ)) × ReadsAs words (Move name m u drill)
    × ((st : Standing) × (move_asked name m u drill held ≡ Ok st))

-- what a shelf that was read tells of the now file of a refresh or a move
abbrev pub ReadsNow : Command → Held → Type 0
ReadsNow (Refresh name drill) held = HasSoundNow name held
ReadsNow (Move name m u drill) held = HasSoundNow name held
ReadsNow (Create name n t drill) held = Unit {0}
ReadsNow (Recover name) held = Unit {0}
ReadsNow (Check name) held = Unit {0}
ReadsNow (Seal name doc target) held = Unit {0}
ReadsNow (Open name source target) held = Unit {0}
ReadsNow (Rehearse members bound periods number) held = Unit {0}
