-- The laws on a refresh.
use Rattle.std.proofs.Common.{◌≡◌, inl, inr, ℕ, zero, suc, List, [], take, Option, Result, Ok, refl, sym, ap, ◌∙◌, subst}
use Rattle.algebra61.specs.Polynomial.{Polynomial}
use Rattle.talk.specs.Shape.{Shape, refresh_shape}
use Rattle.drillbook.specs.declared.order.Order.{Order}
use Rattle.drillbook.specs.Orders.{names}
use Rattle.shelf.specs.Held.{Held, Change, after}
use Rattle.sharefile.specs.Files.{Now, IsNow}
use Rattle.keyroom.specs.declared.status.Status.{Status}
use Rattle.keyroom.specs.Decoding.{EnoughLieOn}
use Rattle.keyroom.specs.Outcome.{Outcome}
use Rattle.keyroom.specs.Steps.{now_of, files_of}
use Rattle.commands.specs.Drill.{drill_of}
use Rattle.commands.specs.Late.{down_after}
use Rattle.commands.specs.Kept.{IsRefreshed, files_without, SoundFiles, KeyStays, RefreshesByOne, RefreshesKeepTheKey}
use Rattle.commands.specs.Refresh.{refresh_changes, play_refreshed}
use Rattle.commands.proofs.GoingOn.{Stands, asked_stands}
use Rattle.commands.proofs.Keeping.{refresh_setting, WasRefreshed, was_refreshed, refresh_ends, is_refreshed, refresh_stays}
use Rattle.commands.proofs.Staying.{honest_before, as_before}

-- ---- the laws
pub same_now : (name : List ℕ) (held : Held) (a b : Now) → now_of name held ≡ Ok a → now_of name held ≡ Ok b → a ≡ b
same_now name held a b e f = let g = sym e ∙ f in cc

pub same_orders : (r : Result (List Order) Status) (a b : List Order) → r ≡ Ok a → r ≡ Ok b → a ≡ b
same_orders r a b e f = let g = sym e ∙ f in cc

module _ (name : List ℕ) (drill : Option (List ℕ)) (held : Held) (cuts : ℕ → ℕ) (masks : List ℕ) (outcome : Outcome) (before : Now) (was : WasRefreshed name drill held cuts masks outcome) (is : IsNow before) where
  stands : Stands refresh_setting name drill held was.st
  stands = asked_stands refresh_setting name drill held was.st was.asked

  changed : outcome.changes ≡ refresh_changes was.st was.seeds (play_refreshed was.st was.seeds masks)
  changed = ap (λ (o : Outcome). o.changes) was.is

  module _ (same : before ≡ was.st.now) where
    now_ok : IsNow was.st.now
    now_ok = subst IsNow same is

    pub one_added : IsRefreshed name before held (after outcome.changes held)
    one_added =
        subst (λ (cs : List Change). IsRefreshed name before held (after cs held)) (sym changed)
        (subst (λ (now : Now). IsRefreshed name now held (after (refresh_changes was.st was.seeds (play_refreshed was.st was.seeds masks)) held)) (sym same)
        (is_refreshed name drill held was.st stands now_ok was.seeds masks was.allowed.0 was.few))

    pub key_kept : (count : ℕ) (polys : List Polynomial) → SoundFiles name (refresh_shape before.n before.t) drill masks before held polys → KeyStays name before polys held (after (take count outcome.changes) held)
    key_kept count polys sound =
        let read = subst (λ (now : Now). drill_of (refresh_shape now.n now.t) drill held ≡ Ok sound.orders) same sound.read in
        let orders : sound.orders ≡ was.st.orders = same_orders (drill_of (refresh_shape was.st.now.n was.st.now.t) drill held) sound.orders was.st.orders read stands.read in
        let enough : EnoughLieOn was.st.now.n was.st.now.t (files_without (down_after (names was.st.orders) masks) 1 (files_of was.st.now held)) polys =
        subst (λ (os : List Order). EnoughLieOn was.st.now.n was.st.now.t (files_without (down_after (names os) masks) 1 (files_of was.st.now held)) polys) orders
        (subst (λ (now : Now). EnoughLieOn now.n now.t (files_without (down_after (names sound.orders) masks) 1 (files_of now held)) polys) same sound.enough) in
        subst (λ (cs : List Change). KeyStays name before polys held (after (take count cs) held)) (sym changed)
        (subst (λ (now : Now). KeyStays name now polys held (after (take count (refresh_changes was.st was.seeds (play_refreshed was.st was.seeds masks))) held)) (sym same)
        (refresh_stays name drill held was.st stands now_ok was.seeds masks was.allowed.0 was.few polys enough count))

pub refreshes_by_one : RefreshesByOne
refreshes_by_one name drill held coming cuts masks outcome before means done now_is is =
    let was = was_refreshed name drill held coming cuts masks outcome means done in
    one_added name drill held cuts masks outcome before was is (same_now name held before was.st.now now_is (asked_stands refresh_setting name drill held was.st was.asked).now_is)

-- where nothing changes the key is as it was
pub sound_stays : (name : List ℕ) (setting : Shape) (drill : Option (List ℕ)) (masks : List ℕ) (before : Now) (held : Held) (polys : List Polynomial) → SoundFiles name setting drill masks before held polys → KeyStays name before polys held held
sound_stays name setting drill masks before held polys sound = as_before name before held polys (honest_before name before held (down_after (names sound.orders) masks) polys sound.now_is sound.enough)

pub part_of_none : (count : ℕ) (held : Held) → after (take count []) held ≡ held
part_of_none zero held = refl
part_of_none (suc count) held = refl

pub refreshes_keep_the_key : RefreshesKeepTheKey
refreshes_keep_the_key name drill held coming cuts masks outcome before polys count means is sound =
    elim (refresh_ends name drill held coming cuts masks outcome means) [
      | inl was ↦
          key_kept name drill held cuts masks outcome before was is
          (same_now name held before was.st.now sound.now_is (asked_stands refresh_setting name drill held was.st was.asked).now_is) count polys sound
      | inr none ↦
          subst (λ (cs : List Change). KeyStays name before polys held (after (take count cs) held)) (sym none)
          (subst (KeyStays name before polys held) (sym (part_of_none count held)) (sound_stays name (refresh_shape before.n before.t) drill masks before held polys sound))
    ]
