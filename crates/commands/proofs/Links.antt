-- The holders of a committee are members, and all but t of them at least; the now files of a period are now files.
use Rattle.std.proofs.Common.{◌≡◌, ℕ, zero, suc, ◌+◌, ◌*◌, ◌^◌, ◌<◌, ◌≤◌, Bool, true, false, cond, IsTrue, IfSome, Option, Some, None, List, length, refl, ap, ap₂, ◌∙◌, arith, count_ones}
use Rattle.std.specs.Prelude.{nat_lt, nat_le}
use Rattle.std.proofs.lemmas.Bool.{lt-ltb, le-leb}
use Rattle.std.proofs.Math.Pow.{pow_mono}
use Rattle.std.specs.Int.Count.{ones_cat}
use Rattle.sharing61.specs.Count.{how_many}
use Rattle.sharefile.specs.declared.link.Link.{Link}
use Rattle.sharefile.specs.Names.{is_key_name}
use Rattle.sharefile.specs.Files.{Now, IsNow, IsLink, are_holders}
use Rattle.sharefile.proofs.NowLaws.{length-committee_digest}
use Rattle.sizes.specs.Committees.{is_size, is_bound}
use Rattle.commands.specs.Links.{holders_of, no_digest, digest_in, link_of, first_link, first_now, following_now, next_now}
use Rattle.commands.proofs.Committees.{small_size}

below_step : (b : Bool) (k holders : ℕ) → holders < 2 ^ k → holders + cond b 0 (2 ^ k) < 2 ^ suc k
below_step true k holders lt = omega (arith, lt)
below_step false k holders lt = omega (arith, lt)

pub holders_below : (down : ℕ → Bool) (k : ℕ) → holders_of down k < 2 ^ k
holders_below down zero = omega arith
holders_below down (suc k) = below_step (down (suc k)) k (holders_of down k) (holders_below down k)

count_step : (b : Bool) (k holders : ℕ) → holders < 2 ^ k → count_ones (holders + cond b 0 (2 ^ k)) + cond b 1 0 ≡ count_ones holders + 1
unfolding lib.Count.ones
count_step true k holders lt = ap (λ (n : ℕ). count_ones n + 1) {y = holders} (omega arith)
count_step false k holders lt =
    let apart : count_ones (1 * 2 ^ k + holders) ≡ count_ones 1 + count_ones holders = ones_cat k 1 holders lt in
    let one : count_ones 1 ≡ 1 = refl in
    let same : holders + 2 ^ k ≡ 1 * 2 ^ k + holders = omega arith in
    omega (arith, ap count_ones same, apart, one)

-- every member is one of them or down
pub holders_count : (down : ℕ → Bool) (k : ℕ) → count_ones (holders_of down k) + how_many k down ≡ k
unfolding lib.Count.ones
holders_count down zero = refl
holders_count down (suc k) = omega (arith, count_step (down (suc k)) k (holders_of down k) (holders_below down k), holders_count down k)

pub holders_fit : (down : ℕ → Bool) (n t : ℕ) → how_many n down ≤ t → IsTrue (are_holders n t (holders_of down n))
holders_fit down n t few =
    let below : nat_lt (holders_of down n) (2 ^ n) ≡ true = lt-ltb _ _ (holders_below down n) in
    let enough : nat_le n (t + count_ones (holders_of down n)) ≡ true = le-leb _ _ (omega (arith, few, holders_count down n)) in
    rw (below, enough) refl

-- marks that agree give the same holders
pub holders_same : (f g : ℕ → Bool) (n : ℕ) → ((j : ℕ) → 1 ≤ j → j ≤ n → f j ≡ g j) → holders_of f n ≡ holders_of g n
holders_same f g zero agree = refl
holders_same f g (suc n) agree = ap₂ (λ (k : ℕ) (b : Bool). k + cond b 0 (2 ^ n)) (holders_same f g n (λ j from to. agree j from (omega (arith, to)))) (agree (suc n) (omega arith) (omega arith))

-- and the same now files
pub first_same : (name : List ℕ) (n t : ℕ) (f g : ℕ → Bool) → ((j : ℕ) → 1 ≤ j → j ≤ n → f j ≡ g j) → first_now name n t (first_link name n t f) ≡ first_now name n t (first_link name n t g)
first_same name n t f g agree = ap (λ (k : ℕ). first_now name n t (Some (link_of name n t 1 k no_digest))) (holders_same f g n agree)

abbrev following_with_holders : Now → ℕ → ℕ → ℕ → Now
following_with_holders before n t k = record {
  name = before.name;
  n = n;
  t = t;
  period = before.period + 1;
  next_number = before.next_number;
  link = Some (link_of before.name n t (before.period + 1) k (digest_in before.link));
}

pub following_same : (before : Now) (n t : ℕ) (f g : ℕ → Bool) → ((j : ℕ) → 1 ≤ j → j ≤ n → f j ≡ g j) → following_now before n t f ≡ following_now before n t g
following_same before n t f g agree = ap (following_with_holders before n t) (holders_same f g n agree)

pub next_same : (before : Now) (f g : ℕ → Bool) → ((j : ℕ) → 1 ≤ j → j ≤ before.n → f j ≡ g j) → next_now before f ≡ next_now before g
next_same before f g agree = following_same before before.n before.t f g agree

-- ---- they are now files
pub holders_small : (down : ℕ → Bool) (n : ℕ) → is_size n ≡ true → holders_of down n < 2 ^ 32
holders_small down n size =
    let small : 2 ^ n ≤ 2 ^ 15 = pow_mono (small_size n size) in
    omega (arith, holders_below down n, small)

pub first_is_now : (name : List ℕ) (n t : ℕ) (down : ℕ → Bool) → IsTrue (is_key_name name) → is_size n ≡ true → is_bound n t ≡ true → how_many n down ≤ t → IsNow (first_now name n t (first_link name n t down))
first_is_now name n t down named size bound few = record {
  name = named;
  size = size;
  bound = bound;
  period = omega arith;
  period_fits = omega arith;
  number_fits = omega arith;
  link = record { holders = holders_fit down n t few; holders_fit = holders_small down n size; committee = refl; previous = refl };
}

digest_length : (name : List ℕ) (n t period : ℕ) (link : Option Link) → IfSome link (IsLink name n t period) → length (digest_in link) ≡ 32
digest_length name n t period None is = refl
digest_length name n t period (Some link) is = ap length is.committee ∙ length-committee_digest name n t period link.holders link.previous

pub following_is_now : (before : Now) (n t : ℕ) (down : ℕ → Bool) → IsNow before → before.period < 4294967295 → is_size n ≡ true → is_bound n t ≡ true → how_many n down ≤ t → IsNow (following_now before n t down)
following_is_now before n t down is next size bound few = record {
  name = is.name;
  size = size;
  bound = bound;
  period = omega arith;
  period_fits = omega (arith, next);
  number_fits = is.number_fits;
  link = record {
    holders = holders_fit down n t few;
    holders_fit = holders_small down n size;
    committee = refl;
    previous = digest_length before.name before.n before.t before.period before.link is.link;
  };
}

pub next_is_now : (before : Now) (down : ℕ → Bool) → IsNow before → before.period < 4294967295 → how_many before.n down ≤ before.t → IsNow (next_now before down)
next_is_now before down is next few = following_is_now before before.n before.t down is next is.size is.bound few
