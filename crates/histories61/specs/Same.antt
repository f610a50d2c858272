-- Two plays that agree where it matters: in the grids of the honest dealers, and in what those who are down say.
use Rattle.std.specs.Prelude.{◌≡◌, ℕ, ◌<◌, ◌≤◌, true, false}
use Rattle.sizes.specs.Instances.{dealer_of}
use Rattle.sharing61.specs.Instance.{accepted, share}
use Rattle.talk.specs.Shape.{Lawful, instances, seats, rounds}
use Rattle.plays.specs.Play.{Play, instance_of}
use Rattle.periods.specs.Move.{syndromes_heard}

-- the other play has the same setting and, among its seats, the same ones down
pub record Agree (play other : Play) : Type 0 where
  pub setting : other.shape ≡ play.shape
  pub down : (seat : ℕ) → 1 ≤ seat → seat ≤ seats play.shape → other.down seat ≡ play.down seat
  pub grids : (instance : ℕ) → instance < instances play.shape → play.down (dealer_of instance) ≡ false →
      other.grid instance ≡ play.grid instance
  pub posts : (round seat : ℕ) → 1 ≤ round → round ≤ rounds play.shape → 1 ≤ seat → seat ≤ seats play.shape →
      play.down seat ≡ true →
      other.post round seat ≡ play.post round seat
  pub rings : (round seat to : ℕ) → 1 ≤ round → round ≤ rounds play.shape → 1 ≤ seat → seat ≤ seats play.shape →
      1 ≤ to → to ≤ seats play.shape → play.down seat ≡ true →
      other.ring round seat to ≡ play.ring round seat to

-- the same instances are accepted, every receiver has the same shares, and the same is heard in a sixth round
pub record EndAlike (play other : Play) : Type 0 where
  pub accepts : (instance : ℕ) → instance < instances play.shape →
      accepted (instance_of other instance) ≡ accepted (instance_of play instance)
  pub shares : (instance receiver : ℕ) → instance < instances play.shape → 1 ≤ receiver → receiver ≤ play.shape.receivers →
      share (instance_of other instance) receiver ≡ share (instance_of play instance) receiver
  pub sixth : rounds play.shape ≡ 6 → (receiver : ℕ) → 1 ≤ receiver → receiver ≤ play.shape.receivers →
      syndromes_heard other receiver ≡ syndromes_heard play receiver

abbrev pub AgreeEndAlike : Type 0
AgreeEndAlike = (play other : Play) → Lawful play.shape → Agree play other → EndAlike play other
