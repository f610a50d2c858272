-- Elements and grids drawn from the words of ChaCha with 20 rounds (RFC 8439, 2.3), the seed as its key, stream 0.
-- A place is the number of a word. Each draw says what was drawn and the place after the last word that was used.
use Rattle.std.specs.Prelude.{ℕ, zero, suc, ◌+◌, ◌-◌, ◌*◌, ◌%◌, ◌^◌, ◌==◌, Bool, true, false, List, [], ◌∷◌}
use Rattle.rand_chacha.specs.ChaCha.{word_at, key_of}
use Rattle.algebra61.specs.Field.{Fp, fe, Prime, zeroₚ}
use Rattle.bivar61.specs.Grids.{grid_of}

-- a source of words: its seed, and how many words were taken, modulo 2^68
pub record Source : Type 0 where
  pub seed : List ℕ
  pub taken : ℕ

-- the place after a place; after 2^68 words the stream begins anew
abbrev pub place_after : ℕ → ℕ
place_after place = (place + 1) % 2 ^ 68

-- the word at a place, after 10 double rounds
unfoldable pub word_of : List ℕ → ℕ → ℕ
word_of seed place = word_at 10 (key_of seed) 0 place

-- the candidate at a place: the low 61 bits of two words, of which the first is the low half
unfoldable pub candidate : List ℕ → ℕ → ℕ
candidate seed place = (word_of seed place + word_of seed (place_after place) * 2 ^ 32) % 2 ^ 61

-- the place after a candidate
abbrev pub two_after : ℕ → ℕ
two_after place = place_after (place_after place)

-- what is drawn where a candidate is P, and where it isn't
abbrev pub passed_over : Bool → Fp × ℕ → Fp × ℕ → Fp × ℕ
passed_over true rest first = rest
passed_over false rest first = first

-- the first of the next candidates that isn't P, with the place after it; 0 where each is P
abbrev pub drawn_within : ℕ → List ℕ → ℕ → Fp × ℕ
drawn_within zero seed place = (zeroₚ, place)
drawn_within (suc tries) seed place =
    passed_over (candidate seed place == Prime) (drawn_within tries seed (two_after place)) (fe (candidate seed place), two_after place)

-- the element drawn at a place: at most four candidates are looked at
unfoldable pub element_drawn : List ℕ → ℕ → Fp × ℕ
element_drawn seed place = drawn_within 4 seed place

module _ {A : Type 0} where
  -- n draws, one after another; a draw is given the place at which it begins
  abbrev pub drawn_in_turn : (ℕ → A × ℕ) → ℕ → ℕ → List A × ℕ
  drawn_in_turn draw zero place = ([], place)
  drawn_in_turn draw (suc n) place =
      let first = draw place in
      let rest = drawn_in_turn draw n first.1 in
      (first.0 ∷ rest.0, rest.1)

module _ {A B : Type 0} where
  -- a draw for each of the items, one after another; a draw is given its item and the place at which it begins
  abbrev pub drawn_for : (B → ℕ → A × ℕ) → List B → ℕ → List A × ℕ
  drawn_for draw [] place = ([], place)
  drawn_for draw (item ∷ items) place =
      let first = draw item place in
      let rest = drawn_for draw items first.1 in
      (first.0 ∷ rest.0, rest.1)

-- n elements
unfoldable pub elements_drawn : ℕ → List ℕ → ℕ → List Fp × ℕ
elements_drawn n seed place = drawn_in_turn (element_drawn seed) n place

-- a grid of degree d: its elements in the order of the list of a grid
unfoldable pub grid_drawn : ℕ → List ℕ → ℕ → List (List Fp) × ℕ
grid_drawn d seed place =
    let all = elements_drawn ((d + 1) * (d + 1)) seed place in
    (grid_of d all.0, all.1)

-- five grids of degree d, one for each lane
unfoldable pub five_grids_drawn : ℕ → List ℕ → ℕ → List (List (List Fp)) × ℕ
five_grids_drawn d seed place = drawn_in_turn (grid_drawn d seed) 5 place

-- the five grids of a member, lane by lane, from a fresh seed
abbrev pub grids_drawn : ℕ → List ℕ → List (List (List Fp))
grids_drawn d seed = (five_grids_drawn d seed 0).0

-- a grid of degree d with a given constant: the other elements alone are drawn, in the order of the list of a grid
unfoldable pub grid_drawn_with : ℕ → List ℕ → Fp → ℕ → List (List Fp) × ℕ
grid_drawn_with d seed constant place =
    let others = elements_drawn ((d + 1) * (d + 1) - 1) seed place in
    (grid_of d (constant ∷ others.0), others.1)

-- grids of degree d with given constants, one for each lane
unfoldable pub five_grids_drawn_with : ℕ → List Fp → List ℕ → ℕ → List (List (List Fp)) × ℕ
five_grids_drawn_with d constants seed place = drawn_for (grid_drawn_with d seed) constants place

-- those of a member, lane by lane, from a fresh seed
abbrev pub grids_drawn_with : ℕ → List Fp → List ℕ → List (List (List Fp))
grids_drawn_with d constants seed = (five_grids_drawn_with d constants seed 0).0
