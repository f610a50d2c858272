-- What a yes of a honest receiver says of all receivers.
use Rattle.std.proofs.Common.{◌≡◌, ℕ, ◌≤◌, Bool, true, false, Option, Some, None, refl, sym, ap, ap₂, ◌∙◌, is_none}
use Rattle.std.proofs.lemmas.Bool.{and_parts, cond-false}
use Rattle.sharing61.specs.Count.{everyone}
use Rattle.sharing61.specs.Rules.{Pair, at_point, swapped, same_crossing, unless_same, complaint_of, told_same, settled, fits, votes_yes}
use Rattle.sharing61.specs.declared.Crossing.{Crossing}
use Rattle.sharing61.specs.Instance.{Instance, held, crossing_pair, complaint, shown, vote}
use Rattle.sharing61.specs.Agreement.{HonestReceiver}
use Rattle.sharing61.proofs.Count.{everyone_at, same_crossing-true}

-- ---- what one vote says
pub vote_is : (i : Instance) (j : ℕ) → i.down j ≡ false → vote i j ≡ votes_yes i.receivers (complaint i) (shown i) j (held i j)
unfolding vote
vote_is i j up = cond-false (i.down j) _ _ up

is_none-true : {A : Type 0} (o : Option A) → is_none o ≡ true → o ≡ None
is_none-true None e = refl
is_none-true (Some a) e = cc

pub record Yes (i : Instance) (y : ℕ) : Type 0 where
  pub hidden : shown i y ≡ None
  pub fit : (k : ℕ) → 1 ≤ k → k ≤ i.receivers → fits y (held i y) k (shown i k) ≡ true
  pub settle : (k l : ℕ) → 1 ≤ k → k ≤ i.receivers → 1 ≤ l → l ≤ i.receivers → settled (shown i k) (shown i l) (complaint i k l) (complaint i l k) ≡ true

pub yes_says : (i : Instance) (y : ℕ) → HonestReceiver i y → vote i y ≡ true → Yes i y
yes_says i y s v =
    let n : ℕ = i.receivers in
    let a = and_parts (is_none (shown i y)) _ (sym (vote_is i y s.up) ∙ v) in
    let b = and_parts (everyone n (λ k. fits y (held i y) k (shown i k))) _ a.1 in
    record {
      hidden = is_none-true (shown i y) a.0;
      fit = everyone_at n (λ k. fits y (held i y) k (shown i k)) b.0;
      settle = λ k l k1 kn l1 ln.
          everyone_at n (λ m. settled (shown i k) (shown i m) (complaint i k m) (complaint i m k))
          (everyone_at n (λ o. everyone n (λ m. settled (shown i o) (shown i m) (complaint i o m) (complaint i m o))) b.1 k k1 kn) l l1 ln;
    }

-- ---- two receivers that are not revealed agree
pub complaint_is : (i : Instance) (j k : ℕ) → i.down j ≡ false → i.down k ≡ false →
    complaint i j k ≡ unless_same (same_crossing (at_point (held i k) j) (swapped (at_point (held i j) k))) (at_point (held i j) k)
unfolding complaint crossing_pair
complaint_is i j k uj uk = cond-false (i.down j) _ _ uj ∙ ap (complaint_of (at_point (held i j) k)) (cond-false (i.down k) _ _ uk)

agree_cases : (b c : Bool) (s t : Crossing) → same_crossing t (swapped s) ≡ b → same_crossing s (swapped t) ≡ c → told_same (unless_same b s) (unless_same c t) ≡ true → s ≡ swapped t
agree_cases true c s t eb ec h = sym (ap swapped (same_crossing-true t (swapped s) eb))
agree_cases false true s t eb ec h = same_crossing-true s (swapped t) ec
agree_cases false false s t eb ec h = same_crossing-true s (swapped t) h

pub agree_open : (i : Instance) (y : ℕ) → Yes i y → (j k : ℕ) → HonestReceiver i j → HonestReceiver i k → shown i j ≡ None → shown i k ≡ None →
    at_point (held i j) k ≡ swapped (at_point (held i k) j)
agree_open i y w j k sj sk nj nk =
    let at = w.settle j k sj.from sj.to sk.from sk.to in
    let told : told_same (complaint i j k) (complaint i k j) ≡ true = rw (nj, nk) at at in
    agree_cases _ _ (at_point (held i j) k) (at_point (held i k) j) refl refl
    (ap₂ told_same (sym (complaint_is i j k sj.up sk.up)) (sym (complaint_is i k j sk.up sj.up)) ∙ told)

-- a revealed pair agrees with each that votes yes
pub agree_shown : (i : Instance) (y : ℕ) → Yes i y → (k : ℕ) (p : Pair) → HonestReceiver i k → shown i k ≡ Some p → at_point p y ≡ swapped (at_point (held i y) k)
agree_shown i y w k p s e =
    let at = w.fit k s.from s.to in
    same_crossing-true (at_point p y) (swapped (at_point (held i y) k)) (rw e at at)
