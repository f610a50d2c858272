-- There is one rehearsal: its phases tell its history, and its key what the other choices are.
use Rattle.std.proofs.Common.{◌≡◌, ℕ, ◌-◌, ◌<◌, Bool, true, cond, List, [], length, map, get_or, sym, ap, ap₂, ◌∙◌, subst, arith}
use Rattle.std.specs.List.{flat_map}
use Rattle.std.proofs.lemmas.List.FromFn.{get_or-map-range_with_len}
use Rattle.algebra61.specs.Field.{Fp, zeroₚ, oneₚ, ◌+ₚ◌, ◌-ₚ◌}
use Rattle.sizes.specs.Committees.{is_bound, is_size}
use Rattle.sizes.specs.Instances.{dealer_of, lane_of, instance_at}
use Rattle.talk.specs.Basics.{places}
use Rattle.talk.specs.Sync.{has}
use Rattle.plays.specs.Said.{points_up_to}
use Rattle.plays.proofs.Ends.{lane_below}
use Rattle.histories61.proofs.Polynomials.{one_key}
use Rattle.choices61.specs.Products.{with_products}
use Rattle.choices61.specs.Translation.{factor_in_x, factor_in_y, is_translated}
use Rattle.playback.specs.declared.phase.Phase.{Phase}
use Rattle.playback.specs.Recorded.{kind_of, play_of}
use Rattle.phaseshift.specs.Shift.{other_grid, other_phase}
use Rattle.viewshift.specs.Key.{HasKey}
use Rattle.viewshift.specs.Kept.{HistoryValue}
use Rattle.viewshift.specs.Listed.{mask_at, phase_at}
use Rattle.viewshift.specs.Others.{meant, other_history}
use Rattle.rehearsal_laws.specs.Laws.{OneRehearsal, OneOthers}
use Rattle.rehearsal_laws.specs.Rehearsal.{IsRehearsal, accepted_in, raised}
use Rattle.rehearsal_laws.proofs.History.{fit_together}
use Rattle.rehearsal_laws.proofs.One.{same_phases}

-- ---- translations by differences that agree in the five lanes
module _ (one other : ℕ → Fp) (same : (lane : ℕ) → lane < 5 → one lane ≡ other lane) where
  grid_same : (phase : Phase) (before after : ℕ → Bool) (dealer lane : ℕ) → other_grid phase before after one dealer lane ≡ other_grid phase before after other dealer lane
  grid_same phase before after dealer lane =
      let play = play_of phase in
      ap (λ (by : ℕ → Fp). (with_products play (λ i. is_translated (kind_of phase.kind) play.shape play.down (dealer_of i)) (factor_in_x play.shape play.down)
      (λ i. factor_in_y (kind_of phase.kind) play.shape before after (by i) (dealer_of i))).grid (instance_at dealer lane))
      (λ i instance. same (lane_of instance) (lane_below instance) i)

  phase_same : (phase : Phase) (before after : ℕ → Bool) → other_phase phase before after one ≡ other_phase phase before after other
  phase_same phase before after =
      ap (λ (grid : ℕ → ℕ → List (List Fp)). let p : Phase = record phase { grids = flat_map (λ dealer. cond (has phase.down dealer) [] (map (grid dealer) (places 5))) (points_up_to phase.setting.dealers) } in p)
      (λ i dealer lane. grid_same phase before after dealer lane i)

  pub others_same : (history : HistoryValue) → other_history history one ≡ other_history history other
  others_same history =
      ap (λ (at : ℕ → Phase). let h : HistoryValue = record { phases = map at (places (length history.phases)); exposed = history.exposed } in h)
      (λ i place. phase_same (phase_at history.phases place) (has (mask_at history.exposed (place - 1))) (has (mask_at history.exposed place)) i)

-- a lane of the wished key
pub raised_at : (key : List Fp) (lane : ℕ) → lane < 5 → get_or (raised key) lane zeroₚ ≡ get_or key lane zeroₚ +ₚ oneₚ
raised_at key lane lt = get_or-map-range_with_len (λ k. get_or key k zeroₚ +ₚ oneₚ) 0 5 lane lane zeroₚ lt (omega arith)

module _ (members bound periods number : ℕ) (history other again another : HistoryValue) (accepted counted : List ℕ) (size : is_size members ≡ true) (bounded : is_bound members bound ≡ true)
    (is : IsRehearsal members bound periods number history other accepted) (also : IsRehearsal members bound periods number again another counted) where
  phases_same : again.phases ≡ history.phases
  phases_same = same_phases members bound number again.phases history.phases size bounded (also.count ∙ sym is.count) also.phases is.phases

  pub history_same : again ≡ history
  history_same = ap₂ (λ (phases : List Phase) (exposed : List ℕ). let h : HistoryValue = record { phases = phases; exposed = exposed } in h) phases_same (also.exposed ∙ sym is.exposed)

  pub counts_same : counted ≡ accepted
  counts_same = also.accepted_is ∙ ap accepted_in phases_same ∙ sym is.accepted_is

  -- its keys agree
  pub keys_same : (key wished : List Fp) → HasKey (meant history) key → HasKey (meant history) wished → (lane : ℕ) → lane < 5 → get_or key lane zeroₚ ≡ get_or wished lane zeroₚ
  keys_same key wished has_one has_other lane lt =
      one_key (meant history) lane (get_or key lane zeroₚ) (get_or wished lane zeroₚ)
      ((fit_together members bound number history.phases size bounded is.phases 1 (omega (arith, is.count))).phases_fit 0 (omega arith)) (has_one.first lane lt) (has_other.first lane lt)

  here : (key : List Fp) → HasKey (meant again) key → HasKey (meant history) key
  here key = subst (λ (h : HistoryValue). HasKey (meant h) key) history_same

  differences_same : (lane : ℕ) → lane < 5 → also.other_is.difference lane ≡ is.other_is.difference lane
  differences_same lane lt =
      also.other_is.is_difference lane lt
      ∙ ap₂ (λ (x : Fp) (y : Fp). x -ₚ y)
      (raised_at also.key lane lt ∙ ap (λ (x : Fp). x +ₚ oneₚ) (keys_same also.key is.key (here also.key also.is_key) is.is_key lane lt) ∙ sym (raised_at is.key lane lt))
      (keys_same also.other_is.key is.other_is.key (here also.other_is.key also.other_is.is_key) is.other_is.is_key lane lt)
      ∙ sym (is.other_is.is_difference lane lt)

  pub another_same : another ≡ other
  another_same =
      also.other_is.is_translated
      ∙ ap (λ (h : HistoryValue). other_history h also.other_is.difference) history_same
      ∙ others_same also.other_is.difference is.other_is.difference differences_same history
      ∙ sym is.other_is.is_translated

pub one_rehearsal : OneRehearsal
one_rehearsal members bound periods number history other again another accepted counted size bounded is also =
    (history_same members bound periods number history other again another accepted counted size bounded is also, counts_same members bound periods number history other again another accepted counted size bounded is also)

pub one_others : OneOthers
one_others members bound periods number history other again another accepted counted size bounded is also =
    another_same members bound periods number history other again another accepted counted size bounded is also
