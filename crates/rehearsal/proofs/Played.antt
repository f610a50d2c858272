-- A life from its beginning, phase by phase, and the rehearsal that it is.
use Rattle.std.proofs.Common.{◌≡◌, ℕ, ◌+◌, ◌-◌, ◌^◌, ◌<◌, true, min, List, [], length, get_or, sym, ap, ◌∙◌, subst, arith}
use Rattle.std.proofs.lemmas.List.FromFn.{sum_by-map-range_with_len_more}
use Rattle.algebra61.specs.Field.{Fp}
use Rattle.sizes.specs.Committees.{is_bound, is_size}
use Rattle.talk.specs.Shape.{seats}
use Rattle.playback.specs.declared.phase.Phase.{Phase}
use Rattle.viewshift.specs.Fits.{AreHistory}
use Rattle.viewshift.specs.Key.{HasKey}
use Rattle.viewshift.specs.Kept.{HistoryValue}
use Rattle.viewshift.specs.Others.{IsTranslation, meant}
use Rattle.viewshift.specs.Walk.{IsAt}
use Rattle.scenes.specs.declared.scene.Scene.{Scene}
use Rattle.scenes.specs.Orders.{shape_of}
use Rattle.scenes.specs.Scenes.{scene_at}
use Rattle.scenes.proofs.Filling.{scene_there}
use Rattle.rehearsal_laws.specs.Rehearsal.{ArePhases, IsRehearsal, accepted_in, exposed_in, raised, scenes_to}
use Rattle.rehearsal_laws.proofs.History.{phases_make_history}
use Rattle.rehearsal.specs.Lived.{IsLived, seats_in}
use Rattle.rehearsal.specs.declared.life.Life.{Life}

-- ---- before the first phase
no_phases : (members bound number : ℕ) → ArePhases members bound number []
no_phases members bound number = record { errors = λ place. []; have_errors = λ place lt move. absurd (omega (arith, lt)); played = λ place lt. absurd (omega (arith, lt)) }

pub nothing_lived : (members bound number : ℕ) (life : Life) → life.phases ≡ [] → life.accepted ≡ [] → life.shares.items ≡ [] → IsLived members bound number life
nothing_lived members bound number life phases accepted shares = record {
  phases = subst (ArePhases members bound number) (sym phases) (no_phases members bound number);
  accepted = accepted ∙ ap accepted_in (sym phases);
  shares = subst (λ (list : List Phase). IsAt list (length list) life.shares.items) (sym phases) (record { each = λ k lt. absurd (omega (arith, lt)); left = tt });
  few = omega (arith, ap length shares);
}

-- ---- the next phase
pub next_scene : (members bound number place : ℕ) (scenes : List Scene) (default : Scene) (phases : List Phase) → scenes ≡ scenes_to members bound number (length scenes) → place < length scenes → length phases ≡ place →
    get_or scenes place default ≡ scene_at members bound number (length phases)
next_scene members bound number place scenes default phases e lt count =
    scene_there members bound number (length scenes) place scenes default e lt ∙ ap (scene_at members bound number) (sym count)

pub seats_more : (members bound number place : ℕ) → seats_in (scenes_to members bound number (place + 1)) ≡ seats_in (scenes_to members bound number place) + seats (shape_of (scene_at members bound number place))
seats_more members bound number place = sum_by-map-range_with_len_more (λ (scene : Scene). seats (shape_of scene)) (scene_at members bound number) 0 place place (omega arith)

pub attended_more : (before mid after here more all : ℕ) → mid ≡ min (before + here) (2 ^ 64 - 1) → after ≡ min (mid + more) (2 ^ 64 - 1) → all ≡ here + more → after ≡ min (before + all) (2 ^ 64 - 1)
attended_more before mid after here more all e f g = omega (arith, e, f, g)

-- ---- all of them
pub lived_history : (members bound periods number : ℕ) (life : Life) (exposed : List ℕ) → is_size members ≡ true → is_bound members bound ≡ true → IsLived members bound number life → length life.phases ≡ periods + 1 →
    exposed ≡ exposed_in members bound number periods → AreHistory life.phases exposed
lived_history members bound periods number life exposed size bounded lived count is =
    subst (AreHistory life.phases) (sym is) (phases_make_history members bound periods number life.phases size bounded count lived.phases)

-- it is a rehearsal, with other choices for the key that is one greater
pub rehearsal_made : (members bound periods number : ℕ) (life : Life) (history other : HistoryValue) (exposed : List ℕ) (key wished : List Fp) → IsLived members bound number life → length life.phases ≡ periods + 1 →
    exposed ≡ exposed_in members bound number periods → history ≡ record { phases = life.phases; exposed = exposed } → HasKey (meant history) key → wished ≡ raised key → IsTranslation history wished other →
    IsRehearsal members bound periods number history other life.accepted
rehearsal_made members bound periods number life history other exposed key wished lived count masks is is_key raised_is translated =
    let same : history.phases ≡ life.phases = ap (λ (h : HistoryValue). h.phases) is in
    record {
      count = ap length same ∙ count;
      phases = subst (ArePhases members bound number) (sym same) lived.phases;
      exposed = ap (λ (h : HistoryValue). h.exposed) is ∙ masks;
      accepted_is = lived.accepted ∙ ap accepted_in (sym same);
      key = key;
      is_key = is_key;
      other_is = subst (λ (lanes : List Fp). IsTranslation history lanes other) raised_is translated;
    }
