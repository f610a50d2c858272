-- A recorded phase that is one of the drawn phases may stand where it stands.
use Rattle.std.proofs.Common.{◌≡◌, ℕ, ◌+◌, ◌<◌, ◌≤◌, true, false, refl, sym, ap, ◌∙◌, subst, arith}
use Rattle.algebra61.specs.Field.{Fp, zeroₚ}
use Rattle.algebra61.specs.Grid.{grid_at}
use Rattle.sizes.specs.Committees.{IsCommittee}
use Rattle.sizes.specs.Instances.{instance_at}
use Rattle.sharing61.specs.Count.{how_many}
use Rattle.sharing61.proofs.Count.{how_many_same}
use Rattle.talk.specs.Shape.{Shape, create_shape, refresh_shape, move_shape, seats}
use Rattle.talk.specs.Sync.{has}
use Rattle.plays.specs.Law.{IsPlay, FewDown}
use Rattle.histories61.specs.Phases.{receivers_down, Within, FirstFits, RefreshFits, MoveFits, NextFits}
use Rattle.playback.specs.declared.phase.Phase.{Phase}
use Rattle.playback.specs.declared.phase.PhaseKind.{PhaseKind}
use Rattle.playback.specs.Recorded.{kind_of, play_of}
use Rattle.playback.specs.Kept.{IsKept}
use Rattle.scenes.specs.declared.side.Side.{Side}
use Rattle.scenes.specs.declared.scene.Scene.{Scene}
use Rattle.scenes.specs.declared.scene.Scene.TheVariants.{Create, Refresh, Move}
use Rattle.scenes.specs.Law.{AreSides, IsSide, Follows}
use Rattle.scenes.specs.Orders.{shape_of}
use Rattle.scenes.specs.Scenes.{is_down_on, new_side, old_side}
use Rattle.commands.proofs.Committees.{committee_of}
use Rattle.rehearsal_laws.specs.Played.{IsLater, kind_in}
use Rattle.rehearsal_laws.specs.Down.{down_on}
use Rattle.rehearsal_laws.proofs.Downs.{receivers_are, bound_is, old_seats, receiver_down, beginner_down, few_receivers, few_beginners}

-- the record is one of the drawn phase, in which they are down who have no shares or are drilled
pub record IsOf (scene : Scene) (phase : Phase) : Type 0 where
  pub kind_is : phase.kind ≡ kind_in scene
  pub setting_is : phase.setting ≡ shape_of scene
  pub kept : IsKept phase
  pub is_play : IsPlay (play_of phase)
  pub down_is : (seat : ℕ) → 1 ≤ seat → seat ≤ seats (shape_of scene) → has phase.down seat ≡ down_on scene seat

-- the old members of a move that aren't down deal sharings of these shares, which go by lane and member
abbrev pub HasConstants : Scene → Phase → (ℕ → ℕ → Fp) → Type 0
HasConstants (Create side) phase share = Unit {0}
HasConstants (Refresh side) phase share = Unit {0}
HasConstants (Move old new) phase share =
    (dealer lane : ℕ) → 1 ≤ dealer → dealer ≤ old.members → lane < 5 → has phase.down dealer ≡ false →
    grid_at ((play_of phase).grid (instance_at dealer lane)) zeroₚ zeroₚ ≡ share lane dealer

pub side_committee : (side : Side) → IsSide side → IsCommittee side.members side.bound
side_committee side is = committee_of side.members side.bound is.size is.bound

module _ (scene : Scene) (phase : Phase) (is : IsOf scene phase) where
  -- the committee that holds the key after it
  pub holders_are : phase.setting.receivers ≡ (new_side scene).members
  holders_are = ap (λ (s : Shape). s.receivers) is.setting_is ∙ receivers_are scene

  pub holders_bound : phase.setting.bound ≡ (new_side scene).bound
  holders_bound = ap (λ (s : Shape). s.bound) is.setting_is ∙ bound_is scene

  down_there : (k : ℕ) → 1 ≤ k → k ≤ phase.setting.receivers → receivers_down (play_of phase) k ≡ down_on scene ((shape_of scene).shift + k)
  down_there k from to =
      ap (λ (s : Shape). has phase.down (s.shift + k)) is.setting_is
      ∙ is.down_is ((shape_of scene).shift + k) (omega (arith, from)) (omega (arith, to, ap (λ (s : Shape). s.receivers) is.setting_is))

  -- who is down of it is down on that side
  pub holder_down : (k : ℕ) → 1 ≤ k → k ≤ phase.setting.receivers → receivers_down (play_of phase) k ≡ true → is_down_on (new_side scene) k ≡ true
  holder_down k from to e = receiver_down scene k from (sym (down_there k from to) ∙ e)

  pub few_down : AreSides scene → FewDown (play_of phase)
  few_down sides =
      omega (
        arith,
        how_many_same phase.setting.receivers (receivers_down (play_of phase)) (λ k. down_on scene ((shape_of scene).shift + k)) down_there,
        ap (λ (n : ℕ). how_many n (λ k. down_on scene ((shape_of scene).shift + k))) holders_are,
        few_receivers scene sides,
        holders_bound,
      )

pub first_fits : (side : Side) (phase : Phase) → AreSides (Create side) → IsOf (Create side) phase → FirstFits (kind_of phase.kind) (play_of phase)
first_fits side phase sides is = record {
  create = ap kind_of is.kind_is;
  committee = subst (λ (s : Shape). IsCommittee s.receivers s.bound) (sym is.setting_is) (side_committee side sides.0);
  setting = subst (λ (s : Shape). s ≡ create_shape s.receivers s.bound) (sym is.setting_is) refl;
  play_is = is.is_play;
  few = few_down (Create side) phase is sides;
}

-- ---- a phase and the next
module _ (scene after : Scene) (phase next : Phase) (later : IsLater after) (follows : Follows scene after) (before : IsOf scene phase) (is : IsOf after next) (sides : AreSides after) where
  pub members_stay : (old_side after).members ≡ phase.setting.receivers
  members_stay = follows.members ∙ sym (holders_are scene phase before)

  pub bound_stays : (old_side after).bound ≡ phase.setting.bound
  bound_stays = follows.bound ∙ sym (holders_bound scene phase before)

  -- who is down among the first seats
  pub down_first : (k : ℕ) → 1 ≤ k → k ≤ phase.setting.receivers → has next.down k ≡ is_down_on (old_side after) k
  down_first k from to =
      is.down_is k from (omega (arith, to, members_stay, old_seats after)) ∙ beginner_down after k later (omega (arith, to, members_stay))

  pub stays : Within phase.setting.receivers (receivers_down (play_of phase)) (has next.down)
  stays k from to e =
      down_first k from to ∙ follows.stays k from (omega (arith, to, holders_are scene phase before)) (holder_down scene phase before k from to e)

  pub few_first : how_many (old_side after).members (has next.down) ≤ phase.setting.bound
  few_first =
      omega (
        arith,
        how_many_same (old_side after).members (has next.down) (down_on after) (λ k from to. is.down_is k from (omega (arith, to, old_seats after))),
        few_beginners after later sides,
        bound_stays,
      )

  pub refresh_fits : next.setting ≡ refresh_shape (old_side after).members (old_side after).bound → RefreshFits (play_of phase) (play_of next)
  refresh_fits setting = record {
    setting = setting ∙ ap (λ (z : ℕ × ℕ). refresh_shape z.0 z.1) (λ i. (members_stay i, bound_stays i));
    play_is = is.is_play;
    few = few_down after next is sides;
    stays = stays;
  }

  pub move_fits : (n u : ℕ) (share : ℕ → ℕ → Fp) → IsCommittee n u → next.setting ≡ move_shape (old_side after).members (old_side after).bound n u →
      ((dealer lane : ℕ) → 1 ≤ dealer → dealer ≤ (old_side after).members → lane < 5 → has next.down dealer ≡ false → grid_at ((play_of next).grid (instance_at dealer lane)) zeroₚ zeroₚ ≡ share lane dealer) →
      MoveFits (play_of phase) (play_of next) share
  move_fits n u share committee setting constants =
      let dealers : next.setting.dealers ≡ (old_side after).members = ap (λ (s : Shape). s.dealers) setting in
      record {
        committee = subst (λ (s : Shape). IsCommittee s.receivers s.bound) (sym setting) committee;
        setting = subst (λ (s : Shape). s ≡ move_shape phase.setting.receivers phase.setting.bound s.receivers s.bound) (sym setting)
            (ap (λ (z : ℕ × ℕ). move_shape z.0 z.1 n u) (λ i. (members_stay i, bound_stays i)));
        play_is = is.is_play;
        few_old = omega (arith, ap (λ (k : ℕ). how_many k (has next.down)) dealers, few_first);
        few = few_down after next is sides;
        stays = stays;
        constants = λ dealer lane from to lt up. constants dealer lane from (omega (arith, to, dealers)) lt up;
      }

pub next_fits : (scene after : Scene) (phase next : Phase) (share : ℕ → ℕ → Fp) → IsLater after → Follows scene after → IsOf scene phase → IsOf after next → AreSides after → HasConstants after next share →
    NextFits (kind_of next.kind) (play_of phase) (play_of next) share
next_fits scene (Create side) phase next share later follows before is sides constants = absurd later
next_fits scene (Refresh side) phase next share later follows before is sides constants =
    subst (λ (kind : PhaseKind). NextFits (kind_of kind) (play_of phase) (play_of next) share) (sym is.kind_is)
    (refresh_fits scene (Refresh side) phase next later follows before is sides is.setting_is)
next_fits scene (Move old new) phase next share later follows before is sides constants =
    subst (λ (kind : PhaseKind). NextFits (kind_of kind) (play_of phase) (play_of next) share) (sym is.kind_is)
    (move_fits scene (Move old new) phase next later follows before is sides new.members new.bound share (side_committee new sides.1) is.setting_is constants)
