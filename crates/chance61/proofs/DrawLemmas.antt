-- One candidate, one element and one grid more.
use Rattle.std.proofs.Common.{◌≡◌, ℕ, zero, suc, ◌+◌, ◌-◌, ◌*◌, ◌%◌, ◌^◌, ◌<◌, ◌≤◌, true, false, List, [], ◌∷◌, ◌++◌, length, take, drop, get_or, All, refl, sym, ap, ap₂, ◌∙◌, subst, arith, lit<, append_assoc, append-nil, add-one, drop_of_length-le}
use Rattle.std.proofs.Math.Nat.{mod-lt}
use Rattle.std.specs.Prelude.{◌==◌}
use Rattle.algebra61.specs.Field.{Fp, fe, fe-num, Prime, zeroₚ}
use Rattle.algebra61.specs.Poly.{eval}
use Rattle.algebra61.specs.Grid.{row, grid_at}
use Rattle.algebra61.proofs.Ring.{zero_mul, add_zero}
use Rattle.bivar61.specs.Grids.{IsGrid, rows_of, grid_of}
use Rattle.bivar61.proofs.GridLemmas.{grid_of_is}
use Rattle.chance61.specs.Draws.{Source, word_of, candidate, place_after, two_after, passed_over, drawn_within, element_drawn, drawn_in_turn, elements_drawn, drawn_for, grid_drawn_with, five_grids_drawn_with}
use Rattle.rand_chacha.specs.ChaCha.{ChaCha, word_at, next_word, key_of}

candidate_below : (seed : List ℕ) (place : ℕ) → candidate seed place < 2 ^ 61
unfolding candidate
candidate_below seed place = mod-lt _ {m = 2 ^ 61} (lit< tt)

is_not : (c : ℕ) → c < Prime → (c == Prime) ≡ false
is_not c h = grind arith

is_prime : (c : ℕ) → c ≡ Prime → (c == Prime) ≡ true
is_prime c h = grind arith

-- the candidate is an element: it is drawn
pub drawn_here : (n : ℕ) (seed : List ℕ) (place : ℕ) (x : Fp) → x.num ≡ candidate seed place → drawn_within (suc n) seed place ≡ (x, two_after place)
drawn_here n seed place x e =
    ap (λ b. passed_over b (drawn_within n seed (two_after place)) (fe (candidate seed place), two_after place))
    (is_not (candidate seed place) (subst (λ k. k < Prime) e x.below))
    ∙ ap (λ (y : Fp). (y, two_after place)) (ap fe (sym e) ∙ fe-num x)

-- it is no element: the next candidate is looked at
pub drawn_past : (n : ℕ) (seed : List ℕ) (place : ℕ) → Prime ≤ candidate seed place → drawn_within (suc n) seed place ≡ drawn_within n seed (two_after place)
drawn_past n seed place h =
    ap (λ b. passed_over b (drawn_within n seed (two_after place)) (fe (candidate seed place), two_after place))
    (is_prime (candidate seed place) (omega (arith, candidate_below seed place)))

-- two words make the candidate
word_same : (j k : List ℕ) (s t p q : ℕ) → j ≡ k → s ≡ t → p ≡ q → word_at 10 j s p ≡ word_at 10 k t q
word_same j k s t p q e f g = cc

pub candidate_is : (seed : List ℕ) (place : ℕ) (w w1 w2 : ChaCha) (low high : ℕ) → w.key ≡ key_of seed → w.stream ≡ 0 → w.word_pos ≡ place →
    (low, w1) ≡ next_word 10 w → (high, w2) ≡ next_word 10 w1 → high < 2 ^ 32 →
    (high * 4294967296 % 18446744073709551616 + low) % 2305843009213693952 ≡ candidate seed place
unfolding candidate word_of
candidate_is seed place w w1 w2 low high k s p e1 e2 small =
    let first : low ≡ word_at 10 (key_of seed) 0 place = ap (λ (x : ℕ × ChaCha). x.0) e1 ∙ word_same w.key (key_of seed) w.stream 0 w.word_pos place k s p in
    let next : w1 ≡ record { key = w.key; stream = w.stream; word_pos = (w.word_pos + 1) % 2 ^ 68 } = ap (λ (x : ℕ × ChaCha). x.1) e1 in
    let second : high ≡ word_at 10 (key_of seed) 0 (place_after place) =
    ap (λ (x : ℕ × ChaCha). x.0) e2
    ∙ word_same w1.key (key_of seed) w1.stream 0 w1.word_pos (place_after place)
    (ap (λ (x : ChaCha). x.key) next ∙ k) (ap (λ (x : ChaCha). x.stream) next ∙ s) (ap (λ (x : ChaCha). x.word_pos) next ∙ ap (λ n. (n + 1) % 2 ^ 68) p) in
    let sum : high * 4294967296 % 18446744073709551616 + low ≡ low + high * 2 ^ 32 = omega arith in
    ap (λ n. n % 2 ^ 61) (sum ∙ ap₂ (λ a b. a + b * 2 ^ 32) first second)

-- ---- the loop of a draw
fewer : (k : ℕ) → k < 4 → 4 - k ≡ suc (4 - (k + 1))
fewer k h = omega arith

pub draw_ends : (k : ℕ) (seed : List ℕ) (place : ℕ) (whole : Fp × ℕ) (x : Fp) → k < 4 → drawn_within (4 - k) seed place ≡ whole → x.num ≡ candidate seed place → (x, two_after place) ≡ whole
draw_ends k seed place whole x lt e h = sym (drawn_here (4 - (k + 1)) seed place x h) ∙ ap (λ n. drawn_within n seed place) (sym (fewer k lt)) ∙ e

pub draw_goes_on : (k : ℕ) (seed : List ℕ) (place : ℕ) (whole : Fp × ℕ) → k < 4 → drawn_within (4 - k) seed place ≡ whole → Prime ≤ candidate seed place →
    drawn_within (4 - (k + 1)) seed (two_after place) ≡ whole
draw_goes_on k seed place whole lt e h = sym (drawn_past (4 - (k + 1)) seed place h) ∙ ap (λ n. drawn_within n seed place) (sym (fewer k lt)) ∙ e

pub draw_gives_up : (k : ℕ) (seed : List ℕ) (place : ℕ) (whole : Fp × ℕ) → 4 ≤ k → drawn_within (4 - k) seed place ≡ whole → (zeroₚ, place) ≡ whole
draw_gives_up k seed place whole le e = let n : 0 ≡ 4 - k = omega arith in ap (λ j. drawn_within j seed place) n ∙ e

-- ---- draws one after another
module _ {A : Type 0} where
  -- what is drawn so far, then the rest, is the whole
  pub record Turns (draw : ℕ → A × ℕ) (left place : ℕ) (done : List A) (whole : List A × ℕ) : Type 0 where
    pub items : done ++ (drawn_in_turn draw left place).0 ≡ whole.0
    pub after : (drawn_in_turn draw left place).1 ≡ whole.1

  pub turn_step : (draw : ℕ → A × ℕ) (n k place : ℕ) (done : List A) (whole : List A × ℕ) (x : A) (next : ℕ) → k < n → Turns draw (n - k) place done whole →
      x ≡ (draw place).0 → next ≡ (draw place).1 → Turns draw (n - (k + 1)) next (done ++ x ∷ []) whole
  turn_step draw n k place done whole x next lt h e f =
      let more : n - k ≡ suc (n - (k + 1)) = omega arith in
      record {
        items = append_assoc done (x ∷ []) _
            ∙ ap₂ (λ (y : A) (p : ℕ). done ++ y ∷ (drawn_in_turn draw (n - (k + 1)) p).0) e f
            ∙ ap (λ j. done ++ (drawn_in_turn draw j place).0) (sym more) ∙ h.items;
        after = ap (λ p. (drawn_in_turn draw (n - (k + 1)) p).1) f ∙ ap (λ j. (drawn_in_turn draw j place).1) (sym more) ∙ h.after;
      }

  pub turn_end : (draw : ℕ → A × ℕ) (n k place : ℕ) (done : List A) (whole : List A × ℕ) → n ≤ k → Turns draw (n - k) place done whole → (done ≡ whole.0) × (place ≡ whole.1)
  turn_end draw n k place done whole le h =
      let none_left : 0 ≡ n - k = omega arith in (
        sym (append-nil done) ∙ ap (λ j. done ++ (drawn_in_turn draw j place).0) none_left ∙ h.items,
        ap (λ j. (drawn_in_turn draw j place).1) none_left ∙ h.after,
      )

pub source_same : (a : Source) (seed : List ℕ) (taken : ℕ) → a.seed ≡ seed → a.taken ≡ taken → a ≡ record { seed = seed; taken = taken }
source_same a seed taken e f = ap₂ (λ s t. let r : Source = record { seed = s; taken = t } in r) e f

pub all_more : (d : ℕ) (gs : List (List (List Fp))) (g : List (List Fp)) → All (IsGrid d) gs → IsGrid d g → All (IsGrid d) (gs ++ g ∷ [])
all_more d [] g h e zero z lt = e
all_more d [] g h e (suc k) z lt = absurd (omega arith)
all_more d (x ∷ gs) g h e zero z lt = h 0 z (omega arith)
all_more d (x ∷ gs) g h e (suc k) z lt = all_more d gs g (λ j y l. h (suc j) y (omega arith)) e k z (omega arith)

length-in_turn : {A : Type 0} (draw : ℕ → A × ℕ) (n place : ℕ) → length (drawn_in_turn draw n place).0 ≡ n
length-in_turn draw zero place = refl
length-in_turn draw (suc n) place = ap suc (length-in_turn draw n (draw place).1)

pub length-elements_drawn : (n : ℕ) (seed : List ℕ) (place : ℕ) → length (elements_drawn n seed place).0 ≡ n
unfolding elements_drawn
length-elements_drawn n seed place = length-in_turn (element_drawn seed) n place

-- nothing stands before what is drawn
pub after_none : (first drawn all : List Fp) → first ≡ [] → all ≡ first ++ drawn → all ≡ drawn
after_none first drawn all none e = e ∙ ap (λ (l : List Fp). l ++ drawn) none

-- ---- grids with given constants
-- the constant stands before what is drawn
pub after_constant : (none first drawn all : List Fp) (constant : Fp) → none ≡ [] → first ≡ none ++ constant ∷ [] → all ≡ first ++ drawn → all ≡ constant ∷ drawn
after_constant none first drawn all constant en ef e = e ∙ ap (λ (l : List Fp). l ++ drawn) (ef ∙ ap (λ (l : List Fp). l ++ constant ∷ []) en)

module _ {A B : Type 0} where
  -- what is drawn so far, then what is drawn for the items that are left, is the whole
  pub record TurnsFor (draw : B → ℕ → A × ℕ) (left : List B) (place : ℕ) (done : List A) (whole : List A × ℕ) : Type 0 where
    pub items : done ++ (drawn_for draw left place).0 ≡ whole.0
    pub after : (drawn_for draw left place).1 ≡ whole.1

  pub for_step : (draw : B → ℕ → A × ℕ) (items : List B) (k place : ℕ) (done : List A) (whole : List A × ℕ) (item : B) (x : A) (next : ℕ) → drop k items ≡ item ∷ drop (k + 1) items →
      TurnsFor draw (drop k items) place done whole → x ≡ (draw item place).0 → next ≡ (draw item place).1 → TurnsFor draw (drop (k + 1) items) next (done ++ x ∷ []) whole
  for_step draw items k place done whole item x next more h e f = record {
    items = append_assoc done (x ∷ []) _
        ∙ ap₂ (λ (y : A) (p : ℕ). done ++ y ∷ (drawn_for draw (drop (k + 1) items) p).0) e f
        ∙ ap (λ (l : List B). done ++ (drawn_for draw l place).0) (sym more) ∙ h.items;
    after = ap (λ p. (drawn_for draw (drop (k + 1) items) p).1) f ∙ ap (λ (l : List B). (drawn_for draw l place).1) (sym more) ∙ h.after;
  }

  pub for_end : (draw : B → ℕ → A × ℕ) (items : List B) (k place : ℕ) (done : List A) (whole : List A × ℕ) → length items ≤ k → TurnsFor draw (drop k items) place done whole →
      (done ≡ whole.0) × (place ≡ whole.1)
  for_end draw items k place done whole le h =
      let none_left : [] ≡ drop k items = sym (drop_of_length-le items le) in (
        sym (append-nil done) ∙ ap (λ (l : List B). done ++ (drawn_for draw l place).0) none_left ∙ h.items,
        ap (λ (l : List B). (drawn_for draw l place).1) none_left ∙ h.after,
      )

-- how many elements of a grid are drawn beside its constant
beside : (d : ℕ) → suc ((d + 1) * (d + 1) - 1) ≡ (d + 1) * (d + 1)
beside d = omega arith

pub with_constant : (d : ℕ) (constant : Fp) (seed : List ℕ) (place : ℕ) → length (constant ∷ (elements_drawn ((d + 1) * (d + 1) - 1) seed place).0) ≡ (d + 1) * (d + 1)
with_constant d constant seed place = ap suc (length-elements_drawn ((d + 1) * (d + 1) - 1) seed place) ∙ beside d

first_at_zero : (c : Fp) (cs : List Fp) → eval (c ∷ cs) zeroₚ ≡ c
first_at_zero c cs = simp (zero_mul, add_zero)

-- the first element of a grid is its constant
pub constant_of : (d : ℕ) (c : Fp) (others : List Fp) → grid_at (grid_of d (c ∷ others)) zeroₚ zeroₚ ≡ c
constant_of d c others =
    ap (λ n. grid_at (rows_of n n (c ∷ others)) zeroₚ zeroₚ) (add-one d)
    ∙ first_at_zero (eval (c ∷ take d others) zeroₚ) (row (rows_of (suc d) d (drop d others)) zeroₚ)
    ∙ first_at_zero c (take d others)

-- what is drawn for constants are grids with these constants
one_with : (d : ℕ) (seed : List ℕ) (constant : Fp) (place : ℕ) → d ≤ 14 → IsGrid d (grid_drawn_with d seed constant place).0
unfolding grid_drawn_with
one_with d seed constant place small = grid_of_is d (constant ∷ (elements_drawn ((d + 1) * (d + 1) - 1) seed place).0) small (with_constant d constant seed place)

all_with : (d : ℕ) (seed : List ℕ) (constants : List Fp) (place : ℕ) → d ≤ 14 → All (IsGrid d) (drawn_for (grid_drawn_with d seed) constants place).0
all_with d seed [] place small k g lt = absurd (omega (arith, lt))
all_with d seed (c ∷ cs) place small zero g lt = one_with d seed c place small
all_with d seed (c ∷ cs) place small (suc k) g lt = all_with d seed cs (grid_drawn_with d seed c place).1 small k g (omega (arith, lt))

length-drawn_for : {A B : Type 0} (draw : B → ℕ → A × ℕ) (items : List B) (place : ℕ) → length (drawn_for draw items place).0 ≡ length items
length-drawn_for draw [] place = refl
length-drawn_for draw (item ∷ items) place = ap suc (length-drawn_for draw items (draw item place).1)

pub drawn_with_grids : (d : ℕ) (constants : List Fp) (seed : List ℕ) (place : ℕ) → d ≤ 14 → All (IsGrid d) (five_grids_drawn_with d constants seed place).0
unfolding five_grids_drawn_with
drawn_with_grids d constants seed place small = all_with d seed constants place small

one_constant : (d : ℕ) (seed : List ℕ) (constant : Fp) (place : ℕ) → grid_at (grid_drawn_with d seed constant place).0 zeroₚ zeroₚ ≡ constant
unfolding grid_drawn_with
one_constant d seed constant place = constant_of d constant (elements_drawn ((d + 1) * (d + 1) - 1) seed place).0

each_constant : (d : ℕ) (seed : List ℕ) (constants : List Fp) (place lane : ℕ) → lane < length constants →
    grid_at (get_or (drawn_for (grid_drawn_with d seed) constants place).0 lane []) zeroₚ zeroₚ ≡ get_or constants lane zeroₚ
each_constant d seed [] place lane lt = absurd (omega (arith, lt))
each_constant d seed (c ∷ cs) place zero lt = one_constant d seed c place
each_constant d seed (c ∷ cs) place (suc lane) lt = each_constant d seed cs (grid_drawn_with d seed c place).1 lane (omega (arith, lt))

pub drawn_with_constants : (d : ℕ) (constants : List Fp) (seed : List ℕ) (place lane : ℕ) → lane < length constants →
    grid_at (get_or (five_grids_drawn_with d constants seed place).0 lane []) zeroₚ zeroₚ ≡ get_or constants lane zeroₚ
unfolding five_grids_drawn_with
drawn_with_constants d constants seed place lane lt = each_constant d seed constants place lane lt

pub length-drawn_with : (d : ℕ) (constants : List Fp) (seed : List ℕ) (place : ℕ) → length (five_grids_drawn_with d constants seed place).0 ≡ length constants
unfolding five_grids_drawn_with
length-drawn_with d constants seed place = length-drawn_for (grid_drawn_with d seed) constants place
