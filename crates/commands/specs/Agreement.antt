-- Agreement of a create: the share files that it puts lie on one polynomial in each lane.
use Rattle.std.specs.Prelude.{◌≡◌, ◌<◌, ◌≤◌, ◌⊎◌, ℕ, ◌+◌, List, [], ◌∷◌, length, get_or, Option}
use Rattle.algebra61.specs.Field.{Fp, fe, zeroₚ}
use Rattle.algebra61.specs.Poly.{eval}
use Rattle.shelf.specs.Held.{Held, Change, Put}
use Rattle.sharefile.specs.declared.link.Link.{Link}
use Rattle.sharefile.specs.Files.{Now, Share}
use Rattle.keyroom.specs.declared.status.Status.TheVariants as status
use Rattle.keyroom.specs.Causes.{Done}
use Rattle.keyroom.specs.Names.{share_name}
use Rattle.keyroom.specs.Words.{Create, IsInRange}
use Rattle.keyroom.specs.Outcome.{Outcome}
use Rattle.keyroom.specs.Steps.{IsShareOf, HasShare}
use Rattle.commands.specs.Links.{first_now}
use Rattle.commands.specs.Create.{MeansCreate}

-- x is one of the items
abbrev pub Among : {A : Type 0} → A → List A → Type 0
Among x [] = ⊥
Among x (y ∷ ys) = (y ≡ x) ⊎ Among x ys

-- a change puts these bytes, which are a member's valid share file of a key
pub record PutsShare (now : Now) (changes : List Change) (member : ℕ) (file : Share) : Type 0 where
  pub bytes : List ℕ
  pub among : Among (Put (share_name now.name now.period member) bytes) changes
  pub valid : IsShareOf now member bytes file

-- in each lane the valid share files of a key that changes put lie on one polynomial of degree at most the bound
abbrev pub PutsOnOneLine : Now → List Change → Type 0
PutsOnOneLine now changes =
    (lane : ℕ) → lane < 5 →
    (f : List Fp) × (length f ≤ now.t + 1)
    × ((j : ℕ) (file : Share) → 1 ≤ j → j ≤ now.n → PutsShare now changes j file → get_or file.lanes lane zeroₚ ≡ eval f (fe j))

-- so it is of a create that is done, whatever the drilled members said, and with whatever link files are looked at
abbrev pub CreatesOnOneLine : Type 0
CreatesOnOneLine =
    (name : List ℕ) (n t : ℕ) (drill : Option (List ℕ)) (held : Held) (coming : Option (List (List ℕ))) (cuts : ℕ → ℕ) (masks : List ℕ) (outcome : Outcome) →
    IsInRange (Create name n t drill) → MeansCreate name n t drill held coming cuts masks outcome → outcome.status ≡ status.Done →
    (link : Option Link) → PutsOnOneLine (first_now name n t link) outcome.changes

-- in each lane the valid share files of a key that a shelf holds lie on one polynomial of degree at most the bound
abbrev pub HeldOnOneLine : Now → Held → Type 0
HeldOnOneLine now held =
    (lane : ℕ) → lane < 5 →
    (f : List Fp) × (length f ≤ now.t + 1)
    × ((j : ℕ) (file : Share) → 1 ≤ j → j ≤ now.n → HasShare now held j file → get_or file.lanes lane zeroₚ ≡ eval f (fe j))

-- the same of those that it doesn't hold as before
abbrev pub NewOnOneLine : Now → Held → Held → Type 0
NewOnOneLine now old held =
    (lane : ℕ) → lane < 5 →
    (f : List Fp) × (length f ≤ now.t + 1)
    × ((j : ℕ) (file : Share) → 1 ≤ j → j ≤ now.n → HasShare now held j file → HasShare now old j file ⊎ (get_or file.lanes lane zeroₚ ≡ eval f (fe j)))
