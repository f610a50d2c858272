-- Which plays may follow each other on one key: a create, then refreshes and moves, each from the committee that the phase
-- before left.
use Rattle.std.specs.Prelude.{◌≡◌, ℕ, ◌≤◌, ◌<◌, Bool, true, false}
use Rattle.algebra61.specs.Field.{Fp, zeroₚ}
use Rattle.algebra61.specs.Grid.{grid_at}
use Rattle.sizes.specs.Committees.{IsCommittee}
use Rattle.sizes.specs.Instances.{instance_at}
use Rattle.sharing61.specs.Count.{how_many}
use Rattle.talk.specs.Shape.{create_shape, refresh_shape, move_shape}
use Rattle.plays.specs.Play.{Play, seat_of}
use Rattle.plays.specs.Law.{IsPlay, FewDown}

pub data Kind : Type 0 where
  Created : Kind
  Refreshed : Kind
  Moved : Kind

-- whether a receiver is down
abbrev pub receivers_down : Play → ℕ → Bool
receivers_down play receiver = play.down (seat_of play.shape receiver)

-- whom the first test names of 1 to n, the second names too
abbrev pub Within : ℕ → (ℕ → Bool) → (ℕ → Bool) → Type 0
Within count some all = (k : ℕ) → 1 ≤ k → k ≤ count → some k ≡ true → all k ≡ true

-- who is exposed of a committee of this size and bound
pub record IsExposure (size bound : ℕ) (down exposed : ℕ → Bool) : Type 0 where
  -- at most the bound is exposed
  pub few : how_many size exposed ≤ bound
  -- all who are down are
  pub seen : Within size down exposed

-- the first phase of a history
pub record FirstFits (kind : Kind) (play : Play) : Type 0 where
  pub create : kind ≡ Created
  pub committee : IsCommittee play.shape.receivers play.shape.bound
  -- all members deal and receive, by the setting of a create
  pub setting : play.shape ≡ create_shape play.shape.receivers play.shape.bound
  -- the honest grids are of the setting's degree, and each message has its shape
  pub play_is : IsPlay play
  -- at most the committee's bound is down
  pub few : FewDown play

-- a refresh after the phase old
pub record RefreshFits (old play : Play) : Type 0 where
  -- the members are those that received before
  pub setting : play.shape ≡ refresh_shape old.shape.receivers old.shape.bound
  pub play_is : IsPlay play
  -- at most the committee's bound is down
  pub few : FewDown play
  -- who was down before stays down
  pub stays : Within old.shape.receivers (receivers_down old) play.down

-- a move after the phase old, which left the shares, by lane and member
pub record MoveFits (old play : Play) (share : ℕ → ℕ → Fp) : Type 0 where
  -- the new committee
  pub committee : IsCommittee play.shape.receivers play.shape.bound
  -- those who received before deal now, from the seats 1 on
  pub setting : play.shape ≡ move_shape old.shape.receivers old.shape.bound play.shape.receivers play.shape.bound
  pub play_is : IsPlay play
  -- at most the old committee's bound of it is down
  pub few_old : how_many play.shape.dealers play.down ≤ old.shape.bound
  -- at most the new committee's bound of it is down
  pub few : FewDown play
  -- who was down before stays down
  pub stays : Within old.shape.receivers (receivers_down old) play.down
  -- each honest old member deals a sharing of its share
  pub constants : (dealer lane : ℕ) → 1 ≤ dealer → dealer ≤ play.shape.dealers → lane < 5 → play.down dealer ≡ false →
      grid_at (play.grid (instance_at dealer lane)) zeroₚ zeroₚ ≡ share lane dealer

-- a phase after the phase old: no later phase is a create
abbrev pub NextFits : Kind → Play → Play → (ℕ → ℕ → Fp) → Type 0
NextFits Created old play share = ⊥
NextFits Refreshed old play share = RefreshFits old play
NextFits Moved old play share = MoveFits old play share
