-- A finished phase is the synchronous run with the masks of the closed board.
use Rattle.std.proofs.Common.{◌≡◌, ◌≢◌, ℕ, zero, suc, ◌+◌, ◌-◌, ◌^◌, ◌<◌, ◌≤◌, true, List, [], ◌∷◌, length, get_or, reverse, take, Option, Some, refl, sym, ap, ◌∙◌, subst, arith}
use Rattle.talk.specs.declared.messages.Post.{Post}
use Rattle.talk.specs.declared.messages.Ring.{Ring}
use mathlib.Core.List.{IsPrefix}
use Rattle.talk.specs.Shape.{Shape, seats}
use Rattle.talk.specs.Sync.{Ways, has, post_in, words_of, sync, all_seats, AllAllowed}
use Rattle.roundboard.specs.declared.view.Event.{Event}
use Rattle.turns.specs.Turns.{Turn, mind_after, MembersAgree, AllMasks, PostsBack, tabulate}
use Rattle.turns.specs.Account.{Account, Closed, masks_back}
use Rattle.turns.specs.Finished.{Finished}
use Rattle.turns.proofs.Hearing.{tabulate_same}
use Rattle.turns.proofs.Rounds.{same_back, allowed_back}
use Rattle.turns.proofs.Everyone.{in_everyone}
use Rattle.turns.proofs.Forward.{sync_forward, allowed_forward, tabulate_of, masks_forward}
use Rattle.turns.proofs.Gather.{members_agree, held_by, present_where_spoke}
use Rattle.turns.proofs.Posts.{posts_back, posts_forward, get_tabulate}
use Rattle.roundboard.specs.Pens.{cell_of}
use Rattle.talk.specs.declared.messages.Say.TheVariants.{Pass}

module _ {M : Type 0} (w : Ways M) (s : Shape) (n rounds everyone : ℕ) (mask cut : ℕ → ℕ) (held : ℕ → Option Post) (events : ℕ → List Event) (known : ℕ → ℕ → Option Post) (c : Closed n rounds mask cut held events known)
    (sent got : ℕ → ℕ → List Ring) (turns : ℕ → List Turn) (before after : List M) (d : M)
    (sized : seats s ≡ n) (in_everyone : (k : ℕ) → 1 ≤ k → k ≤ n → has everyone k ≡ true)
    (all_before : length before ≡ n) (all_after : length after ≡ n)
    (accounts : (k : ℕ) → 1 ≤ k → k ≤ n → Account w s n k (get_or before (k - 1) d) (get_or after (k - 1) d) (events k) (known k) (sent k) (got k) (turns k))
    (long : (k : ℕ) → 1 ≤ k → k ≤ n → length (turns k) ≡ rounds)
    (prefixes : (a k : ℕ) → 1 ≤ a → a ≤ n → 1 ≤ k → k ≤ n → a ≢ k → IsPrefix (got a (k - 1)) (sent k (a - 1))) where
  masks_long : (r : ℕ) → length (masks_back mask r) ≡ r
  masks_long zero = refl
  masks_long (suc r) = ap suc (masks_long r)

  abbrev first : ℕ → M
  first k = get_or before (k - 1) d

  abbrev now : ℕ → M
  now k = get_or after (k - 1) d

  all_agree : MembersAgree w s n first (masks_back mask rounds) turns
  all_agree = members_agree w s n rounds mask cut held events known c first now sent got turns accounts long prefixes

  all_masks : (r : ℕ) → r ≤ rounds → AllMasks s (masks_back mask r)
  all_masks zero le = tt
  all_masks (suc r) le = (subst (λ (x : ℕ). mask r < 2 ^ x) (sym sized) (c.few r (omega (arith, le))), all_masks r (omega (arith, le)))

  run_same : after ≡ sync w s 1 (reverse (masks_back mask rounds)) before
  run_same =
      tabulate_of d n after all_after
      ∙ tabulate_same 1 n now (λ k. mind_after w s k (first k) (turns k)) (λ k lo hi. (accounts k lo (omega (arith, hi))).mind)
      ∙ same_back w s n first (masks_back mask rounds) turns all_agree
      ∙ sync_forward w s (masks_back mask rounds) (tabulate 1 n first)
      ∙ ap (sync w s 1 (reverse (masks_back mask rounds))) (sym (tabulate_of d n before all_before))

  run_allowed : AllAllowed w s 1 everyone cut (reverse (masks_back mask rounds)) before
  run_allowed =
      subst (λ (xs : List M). AllAllowed w s 1 everyone cut (reverse (masks_back mask rounds)) xs) (sym (tabulate_of d n before all_before))
      (allowed_forward w s everyone cut (masks_back mask rounds) (tabulate 1 n first)
      (allowed_back w s n first everyone in_everyone cut (masks_back mask rounds) turns (all_masks rounds (omega arith)) all_agree
      (λ k lo hi. present_where_spoke w s n rounds mask cut held events known c k lo hi (first k) (turns k) (omega (arith, long k lo hi)) (accounts k lo hi).logged)))

  run_posts : (r k : ℕ) → r < rounds → 1 ≤ k → k ≤ n → has (get_or (reverse (masks_back mask rounds)) r 0) k ≡ true →
      held (cell_of n r (k - 1)) ≡ Some (post_in (get_or (words_of w (r + 1) (sync w s 1 (take r (reverse (masks_back mask rounds))) before)) (k - 1) Pass))
  run_posts r k lt lo hi here =
      let row : r ≡ (r + 1) - 1 = omega arith in
      let back : PostsBack w s n (λ q j. held (cell_of n (q - 1) (j - 1))) (masks_back mask rounds) (tabulate 1 n first) =
      posts_back w s n first (λ q j. held (cell_of n (q - 1) (j - 1))) (masks_back mask rounds) turns all_agree
      (λ j jl jh. held_by w s n rounds mask cut held events known c j jl jh first (turns j) (omega (arith, long j jl jh)) (accounts j jl jh).logged) in
      ap (λ q. held (cell_of n q (k - 1))) row
      ∙ posts_forward w s n (λ q j. held (cell_of n (q - 1) (j - 1))) (tabulate 1 n first) (masks_back mask rounds) back r k (omega (arith, lt, masks_long rounds)) lo hi here
      ∙ ap (λ (xs : List M). Some (post_in (get_or (words_of w (r + 1) (sync w s 1 (take r (reverse (masks_back mask rounds))) xs)) (k - 1) Pass))) (sym (tabulate_of d n before all_before))

module _ {M : Type 0} (w : Ways M) (s : Shape) (n rounds : ℕ) (mask cut : ℕ → ℕ) (held : ℕ → Option Post) (before after : List M) (f : Finished w s n rounds mask cut held before after) where
  everyone_in : (k : ℕ) → 1 ≤ k → k ≤ n → has (all_seats s) k ≡ true
  everyone_in k lo hi = in_everyone (seats s) k lo (let e = f.sized in omega (arith, hi, e))

  pub finished_same : after ≡ sync w s 1 (tabulate 0 rounds mask) before
  finished_same =
      run_same w s n rounds (all_seats s) mask cut held f.events f.known f.closed f.sent f.got f.turns before after f.other f.sized everyone_in f.all_before f.all_after f.accounts f.long f.prefixes
      ∙ ap (λ xs. sync w s 1 xs before) (masks_forward mask rounds)

  pub finished_allowed : AllAllowed w s 1 (all_seats s) cut (tabulate 0 rounds mask) before
  finished_allowed =
      subst (λ (xs : List ℕ). AllAllowed w s 1 (all_seats s) cut xs before) (masks_forward mask rounds)
      (run_allowed w s n rounds (all_seats s) mask cut held f.events f.known f.closed f.sent f.got f.turns before after f.other f.sized everyone_in f.all_before f.all_after f.accounts f.long f.prefixes)

  pub finished_posts : (r k : ℕ) → r < rounds → 1 ≤ k → k ≤ n → has (mask r) k ≡ true →
      held (cell_of n r (k - 1)) ≡ Some (post_in (get_or (words_of w (r + 1) (sync w s 1 (take r (tabulate 0 rounds mask)) before)) (k - 1) Pass))
  finished_posts r k lt lo hi here =
      let z : 0 + r ≡ r = omega arith in
      let at : get_or (reverse (masks_back mask rounds)) r 0 ≡ mask r = ap (λ xs. get_or xs r 0) (masks_forward mask rounds) ∙ get_tabulate 0 0 rounds mask r lt ∙ ap mask z in
      run_posts w s n rounds (all_seats s) mask cut held f.events f.known f.closed f.sent f.got f.turns before after f.other f.sized everyone_in f.all_before f.all_after f.accounts f.long f.prefixes
      r k lt lo hi (ap (λ x. has x k) at ∙ here)
      ∙ ap (λ xs. Some (post_in (get_or (words_of w (r + 1) (sync w s 1 (take r xs) before)) (k - 1) Pass))) (masks_forward mask rounds)
