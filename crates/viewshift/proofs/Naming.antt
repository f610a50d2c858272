-- Which masks fit.
use Rattle.std.proofs.Common.{◌≡◌, ℕ, suc, ◌+◌, ◌^◌, ◌<◌, ◌≤◌, ◌↔◌, Bool, true, List, length, sym, ap, ◌∙◌, subst, arith, add-one}
use Rattle.sharing61.specs.Count.{how_many}
use Rattle.sharing61.proofs.Count.{how_many_same}
use Rattle.talk.specs.Sync.{has}
use Rattle.histories61.specs.Phases.{Within}
use Rattle.playback.specs.declared.phase.Phase.{Phase}
use Rattle.viewshift.specs.Listed.{phase_at, mask_at}
use Rattle.viewshift.specs.Members.{behind}
use Rattle.viewshift.specs.Fits.{MaskFits, HasNext, IsMaskAfter}

-- ---- from the first bit on
front : (mask k : ℕ) → behind mask 0 k ≡ has mask k
front mask k = let e : 0 + k ≡ k = omega arith in ap (has mask) e

pub count_front : (n mask : ℕ) → how_many n (behind mask 0) ≡ how_many n (has mask)
count_front n mask = how_many_same n (behind mask 0) (has mask) (λ k a b. front mask k)

pub within_front : (n mask : ℕ) (all : ℕ → Bool) → Within n (behind mask 0) all ↔ Within n (has mask) all
within_front n mask all = (
  λ w k a b e. w k a b (front mask k ∙ e),
  λ w k a b e. w k a b (sym (front mask k) ∙ e),
)

-- ---- the masks
-- a mask that names no stranger and few enough is one exactly where it has all who are down
pub few_named_by : (p : Phase) (mask count : ℕ) (b : Bool) → mask < 2 ^ p.setting.receivers → count ≡ how_many p.setting.receivers (behind mask 0) → count ≤ p.setting.bound →
    ((b ≡ true) ↔ Within p.setting.receivers (behind p.down p.setting.shift) (has mask)) → (b ≡ true) ↔ IsMaskAfter p mask
few_named_by p mask count b own e few seen = (
  λ t. record {
    own = own;
    exposure = record { few = omega (arith, few, e, count_front p.setting.receivers mask); seen = seen.0 t };
  },
  λ is. seen.1 is.exposure.seen,
)

pub named_few : (p : Phase) (mask count : ℕ) → count ≡ how_many p.setting.receivers (behind mask 0) → IsMaskAfter p mask → count ≤ p.setting.bound
named_few p mask count e is = omega (arith, is.exposure.few, e, count_front p.setting.receivers mask)

pub named_at : (phases : List Phase) (exposed : List ℕ) (place : ℕ) (p : Phase) (mask : ℕ) (b : Bool) → p ≡ phase_at phases place → mask ≡ mask_at exposed place → ((b ≡ true) ↔ IsMaskAfter p mask) →
    (b ≡ true) ↔ IsMaskAfter (phase_at phases place) (mask_at exposed place)
named_at phases exposed place p mask b ep em is =
    subst (λ m. (b ≡ true) ↔ IsMaskAfter (phase_at phases place) m) em (subst (λ (q : Phase). (b ≡ true) ↔ IsMaskAfter q mask) ep is)

pub mask_by : (phases : List Phase) (exposed : List ℕ) (place mask : ℕ) (b : Bool) → mask ≡ mask_at exposed place → IsMaskAfter (phase_at phases place) (mask_at exposed place) → ((b ≡ true) ↔ HasNext phases place mask) →
    (b ≡ true) ↔ MaskFits phases exposed place
mask_by phases exposed place mask b em few next =
    let is = subst (λ m. (b ≡ true) ↔ HasNext phases place m) em next in (
      λ e. record { names_few = few; has_next = is.0 e },
      λ f. is.1 f.has_next,
    )

-- the next phase at its place
pub next_named : (phases : List Phase) (place : ℕ) (p next : Phase) (mask : ℕ) (b : Bool) → p ≡ phase_at phases place → next ≡ phase_at phases (place + 1) → place + 1 < length phases →
    ((b ≡ true) ↔ Within p.setting.receivers (behind next.down 0) (has mask)) → (b ≡ true) ↔ HasNext phases place mask
next_named phases place p next mask b ep en lt is =
    let one : place + 1 ≡ suc place = add-one place in
    let at : next ≡ phase_at phases (suc place) = en ∙ ap (phase_at phases) one in
    let w = subst (λ (q : Phase). (b ≡ true) ↔ Within q.setting.receivers (behind (phase_at phases (suc place)).down 0) (has mask)) ep
    (subst (λ (q : Phase). (b ≡ true) ↔ Within p.setting.receivers (behind q.down 0) (has mask)) at is) in
    let f = within_front (phase_at phases place).setting.receivers (phase_at phases (suc place)).down (has mask) in (
      λ e l. f.0 (w.0 e),
      λ h. w.1 (f.1 (h (omega (arith, lt, one)))),
    )
