-- Sealing a document into a box, and opening a box into a document: one command in two directions.
use Rattle.std.specs.Prelude.{◌≡◌, ℕ, List, Result, Ok, Err, codes}
use Rattle.algebra61.specs.Field.{Fp}
use Rattle.shelf.specs.Held.{Held}
use Rattle.keyroom.specs.declared.status.Status.{Status}
use Rattle.keyroom.specs.declared.status.What.{What}
use Rattle.keyroom.specs.declared.status.What.TheVariants.{Document, Box}
use Rattle.keyroom.specs.declared.steps.Found.{Found}
use Rattle.keyroom.specs.declared.recover.Recovered.{Recovered}
use Rattle.keyroom.specs.declared.document.Direction.{Direction}
use Rattle.keyroom.specs.declared.document.Direction.TheVariants.{Sealing, Opening}
use Rattle.keyroom.specs.Outcome.{Outcome, refused, done, Then}
use Rattle.keyroom.specs.Steps.{Asked, asked_of, sealable, files_of}
use Rattle.keyroom.specs.Recover.{MeansKeyOf}
use Rattle.keyroom.specs.Work.{Work, Keys}
use Rattle.keyroom.specs.Seal.{SealsUnder}
use Rattle.keyroom.specs.Open.{OpensUnder}
use Rattle.keyroom.specs.Texts.{document_text}

-- what is asked for
abbrev pub source_of : Direction → What
source_of Sealing = Document
source_of Opening = Box

-- step: what is asked for must allow it; every box may be opened
abbrev pub fits : Direction → Asked → Result (Unit {0}) Status
fits Sealing asked = sealable asked
fits Opening asked = Ok tt

-- what comes of it under the key's lanes
abbrev pub WorksUnder : Direction → List ℕ → List ℕ → Asked → List Fp → Result Work Status → Type 0
WorksUnder Sealing name target asked lanes end = SealsUnder name target asked lanes end
WorksUnder Opening name target asked lanes end = OpensUnder name target asked lanes end

-- with the share files known: the key that comes of them, and the work
abbrev pub WorksFrom : Direction → Keys → List ℕ → List ℕ → Asked → List Found → Result Work Status → Type 0
WorksFrom direction keys name target asked files end =
    (key : Result Recovered Status) × keys asked.now files key × Then key (λ r. WorksUnder direction name target asked r.lanes) end

-- the now file, the target and the source; then what they must allow; then the rest
abbrev pub WorksBy : Direction → Keys → List ℕ → List ℕ → List ℕ → Held → Result Work Status → Type 0
WorksBy direction keys name source target held =
    Then (asked_of name target (source_of direction) source held)
    (λ asked. Then (fits direction asked) (λ fit. WorksFrom direction keys name target asked (files_of asked.now held)))

-- sealing or opening under the key that recovery gives
abbrev pub MeansWork : Direction → List ℕ → List ℕ → List ℕ → Held → Result Work Status → Type 0
MeansWork direction name source target held = WorksBy direction MeansKeyOf name source target held

-- the command's word
abbrev pub verb : Direction → List ℕ
verb Sealing = codes "seal"
verb Opening = codes "open"

abbrev pub document_outcome : Direction → List ℕ → Result Work Status → Outcome
document_outcome direction name (Ok work) = done work.changes (document_text (verb direction) name work.number work.bytes)
document_outcome direction name (Err status) = refused status

-- `seal NAME DOC BOX` puts the raised now file and the box, `open NAME BOX DOC` puts the document, and each prints the
-- document's number and length
abbrev pub DocumentCommandBy : Direction → Keys → List ℕ → List ℕ → List ℕ → Held → Outcome → Type 0
DocumentCommandBy direction keys name source target held outcome =
    (end : Result Work Status) × WorksBy direction keys name source target held end × (outcome ≡ document_outcome direction name end)

-- it does so under the key that recovery gives
abbrev pub MeansDocument : Direction → List ℕ → List ℕ → List ℕ → Held → Outcome → Type 0
MeansDocument direction name source target held outcome = DocumentCommandBy direction MeansKeyOf name source target held outcome
