-- What holds of every play with at most `bound` receivers down.
use Rattle.std.specs.Prelude.{◌≡◌, ℕ, ◌+◌, ◌<◌, ◌≤◌, true, false, List, length}
use Rattle.algebra61.specs.Field.{Fp, fe}
use Rattle.algebra61.specs.Poly.{eval}
use Rattle.algebra61.specs.Grid.{Degree}
use Rattle.sharing61.specs.Count.{how_many}
use Rattle.sharing61.specs.Instance.{accepted}
use Rattle.sharing61.specs.Agreement.{Proper, OnOne, HonestEnd}
use Rattle.talk.specs.Shape.{Lawful, instances, seats}
use Rattle.sizes.specs.Instances.{dealer_of}
use Rattle.talk.specs.Read.{post_ok, ring_ok}
use Rattle.plays.specs.Play.{Play, instance_of, seat_of, created_share}

-- a play of a lawful setting: the honest grids are of its degree, and what the seats that are down say has its shape
pub record IsPlay (play : Play) : Type 0 where
  pub setting : Lawful play.shape
  pub degrees : (instance : ℕ) → instance < instances play.shape → play.down (dealer_of instance) ≡ false →
      Degree play.shape.degree (play.grid instance)
  pub posts : (round seat : ℕ) → 1 ≤ seat → seat ≤ seats play.shape → play.down seat ≡ true →
      post_ok play.shape round seat (play.post round seat) ≡ true
  pub rings : (round seat to : ℕ) → 1 ≤ seat → seat ≤ seats play.shape → play.down seat ≡ true →
      ring_ok play.shape round seat to (play.ring round seat to) ≡ true

-- at most the setting's bound of receivers is down
abbrev pub FewDown : Play → Type 0
FewDown play = how_many play.shape.receivers (λ receiver. play.down (seat_of play.shape receiver)) ≤ play.shape.bound

-- each instance is as agreement asks
abbrev pub ProperPlay : Play → Type 0
ProperPlay play = (instance : ℕ) → instance < instances play.shape → Proper play.shape.degree (instance_of play instance)

-- every such play is
abbrev pub PlaysAreProper : Type 0
PlaysAreProper = (play : Play) → IsPlay play → FewDown play → ProperPlay play

-- a receiver whose seat is not down
pub record HonestIn (play : Play) (receiver : ℕ) : Type 0 where
  pub from : 1 ≤ receiver
  pub to : receiver ≤ play.shape.receivers
  pub up : play.down (seat_of play.shape receiver) ≡ false

-- the pairs of the honest receivers in an accepted instance lie on one grid of the setting's degree
abbrev pub PlaysAgree : Type 0
PlaysAgree =
    (play : Play) (instance : ℕ) → ProperPlay play → instance < instances play.shape →
    accepted (instance_of play instance) ≡ true →
    (grid : List (List Fp)) × Degree play.shape.degree grid × OnOne (instance_of play instance) grid

-- an honest dealer's instance is accepted and ends with its own grid
abbrev pub HonestDealersInPlays : Type 0
HonestDealersInPlays =
    (play : Play) (instance : ℕ) → ProperPlay play → instance < instances play.shape →
    play.down (dealer_of instance) ≡ false →
    HonestEnd (instance_of play instance) (play.grid instance)

-- the created shares of the honest receivers lie on one polynomial of degree at most the setting's, in each lane
abbrev pub CreatedLine : Type 0
CreatedLine =
    (play : Play) (lane : ℕ) → ProperPlay play → lane < 5 →
    (line : List Fp) × (length line ≤ play.shape.degree + 1)
    × ((receiver : ℕ) → HonestIn play receiver → created_share play lane receiver ≡ eval line (fe receiver))
