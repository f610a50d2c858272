-- Who is down after a phase, and what is left where enough members aren't.
use Rattle.std.proofs.Common.{◌≡◌, inl, inr, ◌⊎◌, ℕ, zero, suc, ◌+◌, ◌-◌, ◌<◌, ◌≤◌, Bool, true, false, ◌||◌, not, cond, List, [], ◌∷◌, length, get_or, Ok, Err, refl, sym, ap, ◌∙◌, arith}
use Rattle.std.specs.Prelude.{nat_lt, eqb, min, ◌^◌}
use Rattle.std.proofs.lemmas.Bool.{lt-ltb, le-ltb, lt-leb, cases_lt, and_parts}
use Rattle.std.proofs.lemmas.Nat.Bits.{bit_at-zero}
use Rattle.counters.specs.Counts.{Rose}
use Rattle.sharing61.specs.Count.{how_many}
use Rattle.talk.specs.Sync.{has}
use Rattle.keyroom.specs.declared.status.Status.TheVariants.{Done, TooFewSound}
use Rattle.keyroom.specs.Outcome.{Outcome}
use Rattle.commands.specs.Late.{in_each, down_after, IsLate, WasCut, cuts_since, enough_after, ended}

-- ---- who is in each mask
pub each_has : (masks : List ℕ) (k seat : ℕ) → k < length masks → in_each masks seat ≡ true → has (get_or masks k 0) seat ≡ true
each_has [] k seat lt e = absurd (omega (arith, lt))
each_has (mask ∷ masks) zero seat lt e = (and_parts (has mask seat) (in_each masks seat) e).0
each_has (mask ∷ masks) (suc k) seat lt e = each_has masks k seat (omega (arith, lt)) (and_parts (has mask seat) (in_each masks seat) e).1

pub has_each : (masks : List ℕ) (seat : ℕ) → ((k : ℕ) → k < length masks → has (get_or masks k 0) seat ≡ true) → in_each masks seat ≡ true
has_each [] seat h = refl
has_each (mask ∷ masks) seat h = rw (h 0 (omega arith), has_each masks seat (λ k lt. h (suc k) (omega (arith, lt)))) refl

-- ---- who is down
pub up_cases : (b e : Bool) → (b || not e) ≡ false → (b ≡ false) × (e ≡ true)
up_cases true e h = absurd cc
up_cases false true h = (refl, refl)
up_cases false false h = absurd cc

-- who isn't down after the phase wasn't before, and is in each mask
pub after_up : (before : ℕ → Bool) (masks : List ℕ) (seat : ℕ) → down_after before masks seat ≡ false → (before seat ≡ false) × (in_each masks seat ≡ true)
after_up before masks seat h = up_cases (before seat) (in_each masks seat) h

-- and the other way round
pub up_after : (before : ℕ → Bool) (masks : List ℕ) (seat : ℕ) → before seat ≡ false → in_each masks seat ≡ true → down_after before masks seat ≡ false
up_after before masks seat up each = rw (up, each) refl

either : (b : Bool) → (b ≡ true) ⊎ (b ≡ false)
either true = inl refl
either false = inr refl

-- a seat that isn't down before the phase is late or isn't down after it
pub late_or_up : (before : ℕ → Bool) (masks : List ℕ) (seat : ℕ) → before seat ≡ false → IsLate before masks seat ⊎ (down_after before masks seat ≡ false)
late_or_up before masks seat up =
    elim (either (in_each masks seat)) [
      | inl each ↦ inr (up_after before masks seat up each)
      | inr none ↦ inl (up, none)
    ]

-- ---- who was cut
-- it was in no round
abbrev pub WasNotCut : (ℕ → ℕ) → ℕ → ℕ → Type 0
WasNotCut cuts rounds seat = (round : ℕ) → 1 ≤ round → round ≤ rounds → has (cuts round) seat ≡ false

cut_more : (cuts : ℕ → ℕ) (n seat : ℕ) → WasCut cuts n seat ⊎ WasNotCut cuts n seat → (has (cuts (suc n)) seat ≡ true) ⊎ (has (cuts (suc n)) seat ≡ false) → WasCut cuts (suc n) seat ⊎ WasNotCut cuts (suc n) seat
cut_more cuts n seat before (inl was) = inl (suc n, omega arith, omega arith, was)
cut_more cuts n seat (inl (round, from, to, was)) (inr never) = inl (round, from, omega (arith, to), was)
cut_more cuts n seat (inr none) (inr never) =
    inr (λ round from to. elim (cases_lt n round) [
      | inl gt ↦ let e : suc n ≡ round = omega (arith, gt, to) in ap (λ (r : ℕ). has (cuts r) seat) (sym e) ∙ never
      | inr le ↦ none round from le
    ])

pub cut_or_not : (cuts : ℕ → ℕ) (rounds seat : ℕ) → WasCut cuts rounds seat ⊎ WasNotCut cuts rounds seat
cut_or_not cuts zero seat = inr (λ round from to. absurd (omega (arith, from, to)))
cut_or_not cuts (suc n) seat = cut_more cuts n seat (cut_or_not cuts n seat) (either (has (cuts (suc n)) seat))

-- nobody was, where the cuts are nobody's
pub uncut_not : (cuts : ℕ → ℕ) (rounds seat : ℕ) → ((round : ℕ) → cuts round ≡ 0) → WasCut cuts rounds seat → ⊥
uncut_not cuts rounds seat uncut (round, from, to, was) =
    let never : has (cuts round) seat ≡ false = ap (λ (cut : ℕ). has cut seat) (uncut round) ∙ ap (λ (b : ℕ). eqb b 1) (bit_at-zero (seat - 1)) in
    absurd (let e = sym was ∙ never in cc)

-- so who is late only where it was cut is in each mask then
pub each_uncut : (before : ℕ → Bool) (masks : List ℕ) (seat : ℕ) → before seat ≡ false → (cuts : ℕ → ℕ) → ((round : ℕ) → cuts round ≡ 0) → (rounds : ℕ) → (IsLate before masks seat → WasCut cuts rounds seat) → in_each masks seat ≡ true
each_uncut before masks seat up cuts uncut rounds was =
    elim (either (in_each masks seat)) [
      | inl each ↦ each
      | inr none ↦ absurd (uncut_not cuts rounds seat uncut (was (up, none)))
    ]

-- where the pace's number of answers didn't rise the cuts are nobody's
pub cuts_uncut : (before now : ℕ) (cuts : ℕ → ℕ) → (Rose before now → ⊥) → (round : ℕ) → cuts_since before now cuts round ≡ 0
cuts_uncut before now cuts still round =
    elim (cases_lt now (min (before + 1) (2 ^ 64 - 1))) [
      | inl lt ↦ ap (λ (b : Bool). cond b (cuts round) 0) (lt-leb (min (before + 1) (2 ^ 64 - 1)) now lt)
      | inr rose ↦ absurd (still rose)
    ]

-- ---- enough are left
pub few_left : (n t d : ℕ) → t < n → n - t ≤ n - d → d ≤ t
few_left n t d lt le = omega (arith, lt, le)

pub not_less : (a b : ℕ) → b ≤ a → nat_lt a b ≡ false
not_less a b le = le-ltb a b le

-- what a command comes to whose phase leaves enough
pub record IsEnough (taken n t : ℕ) (down : ℕ → Bool) (outcome : Outcome) : Type 0 where
  pub few : how_many n down ≤ t
  pub is : ended taken (enough_after n t down) outcome ≡ outcome

enough_cases : (taken sound needed : ℕ) (outcome : Outcome) → (sound < needed) ⊎ (needed ≤ sound) → (ended taken (cond (nat_lt sound needed) (Err (TooFewSound sound needed)) (Ok sound)) outcome).status ≡ Done →
    (needed ≤ sound) × (ended taken (cond (nat_lt sound needed) (Err (TooFewSound sound needed)) (Ok sound)) outcome ≡ outcome)
enough_cases taken sound needed outcome (inl lt) done =
    absurd (let f = sym (ap (λ (b : Bool). (ended taken (cond b (Err (TooFewSound sound needed)) (Ok sound)) outcome).status) (lt-ltb sound needed lt)) ∙ done in cc)
enough_cases taken sound needed outcome (inr le) done =
    let no : nat_lt sound needed ≡ false = not_less sound needed le in
    (le, ap (λ (b : Bool). ended taken (cond b (Err (TooFewSound sound needed)) (Ok sound)) outcome) no)

-- where it is done
pub done_enough : (taken n t : ℕ) (down : ℕ → Bool) (outcome : Outcome) → t < n → (ended taken (enough_after n t down) outcome).status ≡ Done → IsEnough taken n t down outcome
done_enough taken n t down outcome lt done =
    let r = enough_cases taken (n - how_many n down) (n - t) outcome (cases_lt (n - how_many n down) (n - t)) done in
    record { few = few_left n t (how_many n down) lt r.0; is = r.1 }

-- where few are down
pub few_enough : (taken n t : ℕ) (down : ℕ → Bool) (outcome : Outcome) → how_many n down ≤ t → ended taken (enough_after n t down) outcome ≡ outcome
few_enough taken n t down outcome few =
    let no : nat_lt (n - how_many n down) (n - t) ≡ false = not_less (n - how_many n down) (n - t) (omega (arith, few)) in
    ap (λ (b : Bool). ended taken (cond b (Err (TooFewSound (n - how_many n down) (n - t))) (Ok (n - how_many n down))) outcome) no

-- or it changes nothing
pub enough_or_nothing : (taken n t : ℕ) (down : ℕ → Bool) (outcome : Outcome) → t < n → IsEnough taken n t down outcome ⊎ ((ended taken (enough_after n t down) outcome).changes ≡ [])
enough_or_nothing taken n t down outcome lt =
    elim (cases_lt (n - how_many n down) (n - t)) [
      | inl few ↦ inr (ap (λ (b : Bool). (ended taken (cond b (Err (TooFewSound (n - how_many n down) (n - t))) (Ok (n - how_many n down))) outcome).changes) (lt-ltb (n - how_many n down) (n - t) few))
      | inr le ↦ let d : how_many n down ≤ t = few_left n t (how_many n down) lt le in inl (record { few = d; is = few_enough taken n t down outcome d })
    ]
