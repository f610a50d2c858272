-- The conductor before and after it attended.
use Rattle.std.specs.Prelude.{◌≡◌, ℕ, ◌≤◌}
use Rattle.roundboard.specs.Pens.{rounds_of}
use Rattle.roundboard.specs.Wardens.{IsWarden, watched}
use Rattle.paces.specs.Conducts.{Paced}
use Rattle.paces.specs.declared.conductor.Conductor.{Conductor}

module _ {T Q : Type 0} {S : ℕ} where
  -- it has the warden of its board, and conducts rounds of it
  pub record ConductorReady (c : Conductor T Q S) : Type 0 where
    pub few : S ≤ 30
    pub warden : IsWarden c.board.now c.warden
    pub rounds : (c.rounds ≤ rounds_of c.board.now) × (c.rounds ≤ 8)

  -- it still has its board, its warden and its pace, and what held of the warden's log and the pace holds
  pub record Conducted (cuts asked : Q → ℕ → ℕ) (answered : Q → ℕ) (a b : Conductor T Q S) : Type 0 where
    pub board : b.board.now ≡ a.board.now
    pub warden : IsWarden a.board.now b.warden
    pub same_pace : b.pace.ghost_name ≡ a.pace.ghost_name
    pub paced : (first : ℕ) → Paced (cuts a.pace.now) (asked a.pace.now) (answered a.pace.now) first (watched a.warden) → Paced (cuts b.pace.now) (asked b.pace.now) (answered b.pace.now) first (watched b.warden)
