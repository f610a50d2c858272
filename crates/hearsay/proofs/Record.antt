-- The record of a play is kept as every phase has to be, and ends as the play does.
use Rattle.std.proofs.Common.{◌≡◌, ℕ, ◌^◌, ◌<◌, List, sym, ap, ap₂, ◌∙◌, subst, refl, arith}
use Rattle.algebra61.specs.Field.{Fp}
use Rattle.algebra61.specs.Grid.{Degree}
use Rattle.sharing61.proofs.Count.{how_many_same}
use Rattle.sizes.specs.Instances.{dealer_of}
use Rattle.talk.specs.Shape.{Shape, Lawful, seats}
use Rattle.talk.specs.Sync.{has}
use Rattle.plays.specs.Play.{Play, seat_of}
use Rattle.plays.specs.Law.{IsPlay, FewDown}
use Rattle.plays.proofs.Proper.{dealers_seated}
use Rattle.histories61.specs.Same.{Agree, EndAlike}
use Rattle.histories61.proofs.Same.{agree_end_alike}
use Rattle.playback.specs.declared.phase.PhaseKind.{PhaseKind}
use Rattle.playback.specs.declared.phase.SaidItem.{SaidItem}
use Rattle.playback.specs.declared.phase.Phase.{Phase}
use Rattle.playback.specs.Recorded.{play_of}
use Rattle.playback.specs.Kept.{IsKept}
use Rattle.playback.proofs.Formed.{dealer_most, posts_ok, rings_ok}
use Rattle.hearsay.specs.Said.{Marks, said_in}
use Rattle.hearsay.specs.Record.{grids_in, HasGrids, IsRecordOf}
use Rattle.hearsay.specs.Laws.{RecordIsKept, RecordEndsAlike, RecordIsPlay, RecordHasFewDown}
use Rattle.hearsay.proofs.Items.{said_post_is, said_ring_is, said_ascends, items_fit}
use Rattle.hearsay.proofs.Grids.{length_grids, grid_is, all_grids}

-- the record with this mask
abbrev pub recorded : PhaseKind → Play → ℕ → Phase
recorded kind play mask = record { kind = kind; setting = play.shape; down = mask; grids = grids_in play; said = said_in play }

pub recorded_is : (kind : PhaseKind) (play : Play) (phase : Phase) → IsRecordOf kind play phase → phase ≡ recorded phase.kind play phase.down
recorded_is kind play phase is =
    ap₂ (λ (s : Shape) (g : List (List (List Fp))). let p : Phase = record { kind = phase.kind; setting = s; down = phase.down; grids = g; said = phase.said } in p) is.setting_is is.grids_are
    ∙ ap (λ (said : List SaidItem). let p : Phase = record { kind = phase.kind; setting = play.shape; down = phase.down; grids = grids_in play; said = said } in p) is.said_is

module _ (kind : PhaseKind) (play : Play) (mask : ℕ) (marks : Marks play.shape mask play.down) where
  agree : Lawful play.shape → Agree play (play_of (recorded kind play mask))
  agree lawful = record {
    setting = refl;
    down = marks;
    grids = grid_is play mask lawful marks;
    posts = λ round seat r1 rn s1 sn down. said_post_is play round seat r1 rn s1 sn down;
    rings = λ round seat to r1 rn s1 sn t1 tn down. said_ring_is play round seat r1 rn s1 sn down to t1 tn;
  }

  kept : IsPlay play → HasGrids play → mask < 2 ^ seats play.shape → IsKept (recorded kind play mask)
  kept is whole seated = record {
    seated = seated;
    number = length_grids play mask is.setting marks;
    degrees = all_grids play whole;
    ascending = said_ascends play;
    items = items_fit play mask marks is;
  }

  is_play : IsPlay play → IsPlay (play_of (recorded kind play mask))
  is_play is = record {
    setting = is.setting;
    degrees = λ i lt up.
        let seated : play.down (dealer_of i) ≡ has mask (dealer_of i) = sym (marks (dealer_of i) (omega arith) (omega (arith, dealer_most play.shape i lt, dealers_seated play.shape is.setting))) in
        subst (Degree play.shape.degree) (sym (grid_is play mask is.setting marks i lt (seated ∙ up))) (is.degrees i lt (seated ∙ up));
    posts = λ round seat s1 sn down. posts_ok play.shape mask round seat (said_in play) (items_fit play mask marks is);
    rings = λ round seat to s1 sn down. rings_ok play.shape mask round seat to (said_in play) (items_fit play mask marks is);
  }

  few_down : FewDown play → FewDown (play_of (recorded kind play mask))
  few_down few =
      omega (
        arith,
        few,
        how_many_same play.shape.receivers (λ j. has mask (seat_of play.shape j)) (λ j. play.down (seat_of play.shape j))
            (λ j a b. marks (seat_of play.shape j) (omega (arith, a)) (omega (arith, b))),
      )

pub record_is_kept : RecordIsKept
record_is_kept kind play phase is whole recorded_of =
    subst IsKept (sym (recorded_is kind play phase recorded_of)) (kept phase.kind play phase.down recorded_of.marks is whole recorded_of.seated)

pub record_ends_alike : RecordEndsAlike
record_ends_alike kind play phase lawful recorded_of =
    subst (λ (p : Phase). EndAlike play (play_of p)) (sym (recorded_is kind play phase recorded_of))
    (agree_end_alike play (play_of (recorded phase.kind play phase.down)) lawful (agree phase.kind play phase.down recorded_of.marks lawful))

pub record_is_play : RecordIsPlay
record_is_play kind play phase is recorded_of =
    subst (λ (p : Phase). IsPlay (play_of p)) (sym (recorded_is kind play phase recorded_of)) (is_play phase.kind play phase.down recorded_of.marks is)

pub record_has_few_down : RecordHasFewDown
record_has_few_down kind play phase few recorded_of =
    subst (λ (p : Phase). FewDown (play_of p)) (sym (recorded_is kind play phase recorded_of)) (few_down phase.kind play phase.down recorded_of.marks few)
