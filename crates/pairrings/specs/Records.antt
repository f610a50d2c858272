-- All ends of one laying, in order of seats.
use Rattle.std.specs.Prelude.{◌≡◌, ℕ, ◌<◌, List, [], length, map, get_or}
use Rattle.pairrings.specs.declared.ends.End.{End}
use mathlib.Core.List.{IsPrefix}
use Rattle.pairrings.specs.Ends.{sent_to, got_from, IsRing, SameRings}

module _ {M : Type 0} {S : ℕ} where
  -- the items that the seat at place i sent to the one at place j
  abbrev pub sent_between : List (End M S) → ℕ → ℕ → List M
  sent_between ends i j = get_or (map (λ (e : End M S). sent_to e j) ends) i []

  -- the items that the seat at place j received from the one at place i
  abbrev pub got_between : List (End M S) → ℕ → ℕ → List M
  got_between ends i j = get_or (map (λ (e : End M S). got_from e i) ends) j []

  -- the halves of each two seats are of one ring
  abbrev pub AreRings : List (End M S) → Type 0
  AreRings ends = (i j : ℕ) (a b : End M S) → i < S → j < S → IsRing (get_or ends i a) (get_or ends j b) i j

  -- between each two seats the same was sent and received, and each half belongs to the ring that it belonged to
  pub record SameEnds (olds news : List (End M S)) : Type 0 where
    pub count : length news ≡ length olds
    pub sent : (i j : ℕ) → sent_between news i j ≡ sent_between olds i j
    pub got : (i j : ℕ) → got_between news i j ≡ got_between olds i j
    pub rings : (k : ℕ) (d : End M S) → SameRings (get_or olds k d) (get_or news k d)

  -- what was received is a prefix of what was sent, from the seat at place i to the one at place j
  abbrev pub IsInOrder : List (End M S) → ℕ → ℕ → Type 0
  IsInOrder ends i j = IsPrefix (got_between ends i j) (sent_between ends i j)
