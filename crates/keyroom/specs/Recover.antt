-- What recovery of a key comes to, and the command `recover NAME`.
use Rattle.std.specs.Prelude.{◌≡◌, ◌⊎◌, ℕ, List, [], Result, Ok, Err}
use Rattle.algebra61.specs.Polynomial.{Polynomial}
use Rattle.shelf.specs.Held.{Held}
use Rattle.sharefile.specs.Files.{Now}
use Rattle.keyroom.specs.declared.status.Status.{Status}
use Rattle.keyroom.specs.declared.status.Status.TheVariants.{NoKey}
use Rattle.keyroom.specs.declared.steps.Found.{Found}
use Rattle.keyroom.specs.declared.recover.Recovered.{Recovered}
use Rattle.keyroom.specs.Outcome.{Outcome, refused, done, Then}
use Rattle.keyroom.specs.Steps.{now_of, files_of}
use Rattle.keyroom.specs.Decoding.{AreNearest, IsFirstWithout, key_of, states_of}
use Rattle.keyroom.specs.Texts.{recover_text}

-- the key and the members' states by the decoded polynomials
abbrev pub recovered_by : Now → List Found → List Polynomial → Recovered
recovered_by now files polys = record { file = now; lanes = key_of polys; members = states_of polys 1 files }

-- with the committee and its files known: every lane has its nearest polynomial, or the least lane without one refuses
abbrev pub MeansKeyOf : Now → List Found → Result Recovered Status → Type 0
MeansKeyOf now files end =
    ((polys : List Polynomial) × AreNearest now.t files polys × (end ≡ Ok (recovered_by now files polys)))
    ⊎ ((lane : ℕ) × IsFirstWithout now.t files lane × (end ≡ Err (NoKey lane)))

-- the now file, then the share files and the decoding
abbrev pub MeansKey : List ℕ → Held → Result Recovered Status → Type 0
MeansKey name held = Then (now_of name held) (λ now. MeansKeyOf now (files_of now held))

abbrev pub recover_outcome : Result Recovered Status → Outcome
recover_outcome (Ok r) = done [] (recover_text r)
recover_outcome (Err status) = refused status

-- `recover NAME` prints what was recovered
abbrev pub MeansRecover : List ℕ → Held → Outcome → Type 0
MeansRecover name held outcome = (end : Result Recovered Status) × MeansKey name held end × (outcome ≡ recover_outcome end)
