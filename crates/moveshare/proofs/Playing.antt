-- What a mover that ends as its play defines comes to.
use Rattle.std.proofs.Common.{◌≡◌, ℕ, ◌+◌, ◌*◌, ◌<◌, ◌≤◌, List, [], map, get_or, Option, None, refl, sym, ap, ◌∙◌, subst, arith}
use Rattle.std.proofs.lemmas.List.{ext_get_or}
use Rattle.std.proofs.lemmas.List.FromFn.{get_or-map-range_with_len}
use Rattle.algebra61.specs.Field.{Fp, zeroₚ, ◌-ₚ◌, ◌*ₚ◌}
use Rattle.algebra61.specs.Nearest.{IsNearest}
use Rattle.checks61.specs.Checks.{entry, corrected, weight_at_zero}
use Rattle.checks61.proofs.Sums.{sum_same}
use Rattle.talk.specs.declared.messages.Post.{Post}
use Rattle.talk.specs.Shape.{Shape}
use Rattle.plays.specs.Play.{Play}
use Rattle.plays.specs.Said.{places}
use Rattle.members.specs.Shares.{kept_in}
use Rattle.periods.specs.Move.{subshare, syndromes_heard, syndrome_in, posted_values, IsOpened, IsOpenedSyndrome, IsLaneError, HaveErrors, MoveHasNoResult, old_bound, moved_share, IsMove}
use Rattle.periods.specs.Mover.{subshare_in}
use Rattle.periods.specs.Runs.{mover_done}
use Rattle.periods.proofs.Polynomials.{Constants, constants_of}
use Rattle.periods.proofs.Opening.{opened_is, length-values}
use Rattle.periods.proofs.Sixth.{subshare_is}
use Rattle.subshare.specs.Opening.{IsUnopened}
use Rattle.moveshare.specs.declared.out.MoveOut.TheVariants.{Shares, NotOpened, NoWord}
use Rattle.moveshare.specs.Result.{sixth_of, share_without}
use Rattle.moveshare.specs.Laws.{ComesToPlay}

-- ---- posts that are the same of each receiver
module _ (shape : Shape) (post other : ℕ → Post) (same : (receiver : ℕ) → 1 ≤ receiver → receiver ≤ shape.receivers → post receiver ≡ other receiver) where
  pub same_values : (lane place : ℕ) → posted_values shape post lane place ≡ posted_values shape other lane place
  same_values lane place =
      let k : ℕ = lane * shape.checks + place in
      ext_get_or None (posted_values shape post lane place) (posted_values shape other lane place) (length-values shape post lane place ∙ sym (length-values shape other lane place))
      (λ i lt.
      let less : i < shape.receivers = omega (arith, lt, length-values shape post lane place) in
      get_or-map-range_with_len (λ receiver. syndrome_in k (post receiver)) 1 shape.receivers i (1 + i) None less refl
      ∙ ap (syndrome_in k) (same (1 + i) (omega arith) (omega (arith, less)))
      ∙ sym (get_or-map-range_with_len (λ receiver. syndrome_in k (other receiver)) 1 shape.receivers i (1 + i) None less refl))

  opened_too : (lane place : ℕ) (value : Fp) → IsOpened shape post lane place value → IsOpened shape other lane place value
  opened_too lane place value h = (h.0, subst (λ (vs : List (Option Fp)). IsNearest shape.degree vs h.0) (same_values lane place) h.1, h.2)

  syndrome_too : (lane : ℕ) (list : List Fp) → IsOpenedSyndrome shape post lane list → IsOpenedSyndrome shape other lane list
  syndrome_too lane list h = record { long = h.long; each = λ place lt. opened_too lane place (get_or list place zeroₚ) (h.each place lt) }

  error_too : (lane : ℕ) (error : List Fp) → IsLaneError shape post lane error → IsLaneError shape other lane error
  error_too lane error h = record { syndrome = h.syndrome; opened = syndrome_too lane h.syndrome h.opened; is = h.is }

  pub errors_too : (errors : List (List Fp)) → HaveErrors shape post errors → HaveErrors shape other errors
  errors_too errors h = record { five = h.five; each = λ lane lt. error_too lane (get_or errors lane []) (h.each lane lt) }

  pub none_too : (lane : ℕ) (syndrome : List Fp) → MoveHasNoResult shape post lane syndrome → MoveHasNoResult shape other lane syndrome
  none_too lane syndrome h = record {
    within = h.within;
    opened = λ one lt. let got = h.opened one lt in (got.0, syndrome_too one got.0 got.1);
    named = syndrome_too lane syndrome h.named;
    without = h.without;
    before = λ one less. let got = h.before one less in (got.0, error_too one got.0 got.1);
  }

-- ---- the shares
pub same_corrected : (k : ℕ) (f g : ℕ → Fp) (error : List Fp) → ((i : ℕ) → 1 ≤ i → i ≤ k → f i ≡ g i) → corrected k f (entry error) ≡ corrected k g (entry error)
same_corrected k f g error h =
    sum_same k (λ i. weight_at_zero k i *ₚ (f i -ₚ entry error i)) (λ i. weight_at_zero k i *ₚ (g i -ₚ entry error i))
    (λ i from to. ap (λ x. weight_at_zero k i *ₚ (x -ₚ entry error i)) (h i from to))

moved_is : (t : ℕ) (p : Play) (own : ℕ → List (List (List Fp))) (posts : List Post) (receiver lane : ℕ) (errors : List (List Fp)) → IsMove t p → lane < 5 →
    share_without (mover_done p own posts receiver).member errors lane ≡ moved_share p lane (get_or errors lane []) receiver
moved_is t p own posts receiver lane errors h l5 =
    same_corrected (old_bound p.shape + 1) (subshare_in (kept_in (mover_done p own posts receiver).member.stage) lane) (λ dealer. subshare p lane dealer receiver) (get_or errors lane [])
    (λ dealer from to. subshare_is p receiver lane dealer l5 from (omega (arith, to, h.two.checks)))

pub moved_shares : (t : ℕ) (p : Play) (own : ℕ → List (List (List Fp))) (posts : List Post) (receiver : ℕ) (errors : List (List Fp)) → IsMove t p →
    map (share_without (mover_done p own posts receiver).member errors) (places 5) ≡ map (λ lane. moved_share p lane (get_or errors lane []) receiver) (places 5)
moved_shares t p own posts receiver errors h =
    let f : ℕ → Fp = share_without (mover_done p own posts receiver).member errors in
    let g : ℕ → Fp = λ lane. moved_share p lane (get_or errors lane []) receiver in
    ext_get_or zeroₚ (map f (places 5)) (map g (places 5)) refl
    (λ lane lt.
    let here : 0 + lane ≡ lane = omega arith in
    get_or-map-range_with_len f 0 5 lane lane zeroₚ lt here ∙ moved_is t p own posts receiver lane errors h lt ∙ sym (get_or-map-range_with_len g 0 5 lane lane zeroₚ lt here))

-- ---- no lane stays unopened
pub always_opened : (t : ℕ) (p : Play) (lane place : ℕ) → IsMove t p → lane < 5 → place < p.shape.checks → IsUnopened p.shape (syndromes_heard p) lane place → ⊥
always_opened t p lane place h l5 lt un =
    let cs : Constants p lane = constants_of p lane h.proper l5 in
    let got = opened_is t p lane place cs.value h l5 lt cs.are in
    un.none got.0 got.1

-- ---- the law
pub comes_to_play : ComesToPlay
comes_to_play t p own posts receiver (Shares shares mask) h honest heard (errors, have, is, corrected) = (
  errors,
  errors_too p.shape (sixth_of (mover_done p own posts receiver)) (syndromes_heard p) heard errors have,
  is ∙ moved_shares t p own posts receiver errors h,
  corrected,
)
comes_to_play t p own posts receiver (NoWord lane syndrome) h honest heard none =
    none_too p.shape (sixth_of (mover_done p own posts receiver)) (syndromes_heard p) heard lane syndrome none
comes_to_play t p own posts receiver (NotOpened lane place) h honest heard none =
    let values = same_values p.shape (sixth_of (mover_done p own posts receiver)) (syndromes_heard p) heard lane place in
    always_opened t p lane place h none.within none.first.within
    (record { none = λ q near. none.first.unopened.none q (subst (λ (vs : List (Option Fp)). IsNearest p.shape.degree vs q) (sym values) near) })
