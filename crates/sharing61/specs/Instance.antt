-- One instance of a sharing, for all receivers at once. A receiver that is down is faulty and sends, complains and votes as
-- it likes; the others go by the rules.
use Rattle.std.specs.Prelude.{ℕ, Bool, cond, List, Option, Some}
use Rattle.algebra61.specs.Field.{Fp, zeroₚ}
use Rattle.algebra61.specs.Poly.{eval}
use Rattle.sharing61.specs.Rules.{Pair, at_point, pair_on, complaint_of, reveal_of, votes_yes, enough, kept_of}
use Rattle.sharing61.specs.declared.Crossing.{Crossing}

-- an honest dealer has a grid; a faulty one deals any pair to each receiver, and reveals any pairs. What is proved of it
-- asks that their polynomials have the degree of the sharing: messages with more coefficients are not read
pub data Dealer : Type 0 where
  Honest : List (List Fp) → Dealer
  Faulty : (ℕ → Pair) → (ℕ → Option Pair) → Dealer

-- crossed k j: what k, which is down, sends to j as its crossing pair
-- listed j k: what j, which is down, complains of k
-- voted j: how j, which is down, votes
pub record Instance : Type 0 where
  pub receivers : ℕ
  pub bound : ℕ
  pub down : ℕ → Bool
  pub dealer : Dealer
  pub crossed : ℕ → ℕ → Option Crossing
  pub listed : ℕ → ℕ → Option Crossing
  pub voted : ℕ → Bool

abbrev pub held_from : Dealer → ℕ → Pair
held_from (Honest grid) receiver = pair_on grid receiver
held_from (Faulty dealt shown) receiver = dealt receiver

-- the pair that receiver j holds after the dealing
unfoldable pub held : Instance → ℕ → Pair
held instance receiver = held_from instance.dealer receiver

-- the crossing pair from k to j
unfoldable pub crossing_pair : Instance → ℕ → ℕ → Option Crossing
crossing_pair instance sender receiver = cond (instance.down sender) (instance.crossed sender receiver) (Some (at_point (held instance sender) receiver))

-- what j complains of k
unfoldable pub complaint : Instance → ℕ → ℕ → Option Crossing
complaint instance receiver against = cond (instance.down receiver) (instance.listed receiver against) (complaint_of (at_point (held instance receiver) against) (crossing_pair instance against receiver))

abbrev pub shown_from : Instance → Dealer → ℕ → Option Pair
shown_from instance (Honest grid) receiver = reveal_of instance.receivers grid (complaint instance receiver) receiver
shown_from instance (Faulty dealt shown) receiver = shown receiver

-- the revealed pair of j
unfoldable pub shown : Instance → ℕ → Option Pair
shown instance receiver = shown_from instance instance.dealer receiver

-- whether j votes yes
unfoldable pub vote : Instance → ℕ → Bool
vote instance receiver = cond (instance.down receiver) (instance.voted receiver) (votes_yes instance.receivers (complaint instance) (shown instance) receiver (held instance receiver))

-- whether the instance is accepted
unfoldable pub accepted : Instance → Bool
accepted instance = enough instance.receivers instance.bound (vote instance)

-- the pair of j in the end
unfoldable pub kept : Instance → ℕ → Pair
kept instance receiver = kept_of (accepted instance) (shown instance receiver) (held instance receiver)

-- the share of j: its row's value at 0
abbrev pub share : Instance → ℕ → Fp
share instance receiver = eval (kept instance receiver).row.coeffs zeroₚ
