-- There is one text: the words of a rehearsal tell all that is printed.
use Rattle.std.proofs.Common.{◌≡◌, ℕ, ◌+◌, ◌<◌, true, List, sym, ap, ap₂, ◌∙◌, subst, arith}
use Rattle.std.proofs.lemmas.List.{ext_get_or}
use Rattle.algebra61.specs.Field.{Fp, zeroₚ}
use Rattle.sizes.specs.Committees.{is_bound, is_size}
use Rattle.scenes.specs.declared.scene.Scene.{Scene}
use Rattle.viewshift.specs.Fits.{AreHistory}
use Rattle.viewshift.specs.Kept.{HistoryValue}
use Rattle.viewshift.proofs.Others.{others_are_history}
use Rattle.viewshift.proofs.Standing.{lists_are_history}
use Rattle.rehearsal_laws.specs.Rehearsal.{IsRehearsal, scenes_to}
use Rattle.rehearsal_laws.proofs.History.{phases_make_history}
use Rattle.rehearsal_laws.proofs.Rehearsals.{one_others, one_rehearsal}
use Rattle.playbill.specs.Law.{OneText}
use Rattle.playbill.specs.Printed.{IsKeyOf, IsTextOf}
use Rattle.playbill.specs.Text.{rehearsal_text}

-- ---- a key
abbrev IsOne : HistoryValue → Type 0
IsOne history = AreHistory history.phases history.exposed

-- two keys of one history agree in each lane, and have no others
one_key : (history : HistoryValue) (key again : List Fp) → IsOne history → IsKeyOf history key → IsKeyOf history again → again ≡ key
one_key history key again are is also =
    let by = lists_are_history history.phases history.exposed are in
    ext_get_or zeroₚ again key (also.lanes ∙ sym is.lanes)
    (λ lane lt.
    let l5 : lane < 5 = omega (arith, lt, also.lanes) in
    let lies = is.has_key.lie by.0 by.1 0 lane by.1.some_phase l5 in
    sym (also.has_key.stays by.0 by.1 0 lane by.1.some_phase l5 lies.0 lies.1) ∙ lies.2)

-- ---- the history and its other choices
module _ (members bound periods number : ℕ) (history other : HistoryValue) (accepted : List ℕ) (size : is_size members ≡ true) (bounded : is_bound members bound ≡ true)
    (is : IsRehearsal members bound periods number history other accepted) where
  first_is : IsOne history
  first_is =
      subst (AreHistory history.phases) (sym is.exposed)
      (phases_make_history members bound periods number history.phases size bounded is.count is.phases)

  other_is : IsOne other
  other_is =
      subst IsOne (sym is.other_is.is_translated)
      (others_are_history history.phases history.exposed is.other_is.difference first_is)

-- ---- the text
module _ (members bound periods number : ℕ) (text printed : List ℕ) (size : is_size members ≡ true) (bounded : is_bound members bound ≡ true)
    (is : IsTextOf members bound periods number text) (also : IsTextOf members bound periods number printed) where
  same : (also.history ≡ is.history) × (also.accepted ≡ is.accepted)
  same = one_rehearsal members bound periods number is.history is.other also.history also.other is.accepted also.accepted size bounded is.rehearsal also.rehearsal

  others_same : also.other ≡ is.other
  others_same = one_others members bound periods number is.history is.other also.history also.other is.accepted also.accepted size bounded is.rehearsal also.rehearsal

  key_same : also.key ≡ is.key
  key_same =
      one_key is.history is.key also.key (first_is members bound periods number is.history is.other is.accepted size bounded is.rehearsal) is.is_key
      (subst (λ (h : HistoryValue). IsKeyOf h also.key) same.0 also.is_key)

  again_same : also.again ≡ is.again
  again_same =
      one_key is.other is.again also.again (other_is members bound periods number is.history is.other is.accepted size bounded is.rehearsal) is.is_again
      (subst (λ (h : HistoryValue). IsKeyOf h also.again) others_same also.is_again)

  text_same : printed ≡ text
  text_same =
      let scenes : List Scene = scenes_to members bound number (periods + 1) in
      also.text_is
      ∙ ap (λ (counts : List ℕ). rehearsal_text scenes counts also.key also.again) same.1
      ∙ ap₂ (λ (key again : List Fp). rehearsal_text scenes is.accepted key again) key_same again_same
      ∙ sym is.text_is

pub one_text : OneText
one_text members bound periods number text again size bounded is also = text_same members bound periods number text again size bounded is also
