-- Sound members, counted.
use Rattle.std.proofs.Common.{◌≡◌, ℕ, zero, suc, ◌+◌, ◌-◌, ◌<◌, ◌≤◌, Bool, true, false, cond, not, List, [], ◌∷◌, ◌++◌, length, refl, sym, ap, ◌∙◌, arith, length-append}
use Rattle.std.specs.List.{filter, range_with_len}
use Rattle.std.proofs.lemmas.Bool.{le-leb}
use Rattle.std.proofs.lemmas.Bool.Decides.{nat_tests}
use Rattle.std.proofs.lemmas.List.{map-id}
use Rattle.std.proofs.lemmas.List.FromFn.{filter_of_map_range_with_len_more}
use Rattle.sharing61.specs.Count.{how_many}
use Rattle.sharing61.proofs.Count.{how_many_not, how_many_same}
use Rattle.keyroom.specs.declared.steps.Found.{Found}
use Rattle.keyroom.specs.Sound.{is_down, is_down_in_move, sound_among}

one_item : (b : Bool) (k : ℕ) → length (cond b (k ∷ []) []) ≡ cond b 1 0
one_item true k = refl
one_item false k = refl

-- a test on one more number
filter_more : (f : ℕ → Bool) (n : ℕ) → filter f (range_with_len 1 (n + 1)) ≡ filter f (range_with_len 1 n) ++ cond (f (suc n)) (suc n ∷ []) []
filter_more f n =
    ap (filter f) (sym (map-id (range_with_len 1 (n + 1)))) ∙ filter_of_map_range_with_len_more f (λ k. k) 1 n (suc n) (omega arith)
    ∙ ap (λ (ks : List ℕ). filter f ks ++ cond (f (suc n)) (suc n ∷ []) []) (map-id (range_with_len 1 n))

-- the numbers from 1 to n of which a test holds are as many as it holds of
filtered_count : (f : ℕ → Bool) (n : ℕ) → length (filter f (range_with_len 1 n)) ≡ how_many n f
filtered_count f zero = refl
filtered_count f (suc n) =
    let next : suc n ≡ n + 1 = omega arith in
    ap (λ (k : ℕ). length (filter f (range_with_len 1 k))) next ∙ ap length (filter_more f n) ∙ length-append (filter f (range_with_len 1 n)) (cond (f (suc n)) (suc n ∷ []) [])
    ∙ omega (arith, filtered_count f n, one_item (f (suc n)) (suc n))

pub sound_many : (named : ℕ → Bool) (files : List Found) → length (sound_among named files) ≡ how_many (length files) (λ index. not (is_down named files index))
sound_many named files = filtered_count (λ index. not (is_down named files index)) (length files)

-- where enough are sound, few are down
pub few_down : (named : ℕ → Bool) (files : List Found) (n t : ℕ) → length files ≡ n → n - t ≤ length (sound_among named files) → how_many n (is_down named files) ≤ t
few_down named files n t count enough =
    let sound : length (sound_among named files) ≡ how_many n (λ index. not (is_down named files index)) = sound_many named files ∙ ap (λ m. how_many m (λ index. not (is_down named files index))) count in
    omega (arith, enough, sound, how_many_not n (is_down named files))

one_at_most : (b : Bool) → cond b 1 0 ≤ 1
one_at_most true = omega arith
one_at_most false = omega arith

pub count_most : (f : ℕ → Bool) (n : ℕ) → how_many n f ≤ n
count_most f zero = omega arith
count_most f (suc n) = omega (arith, count_most f n, one_at_most (f (suc n)))

-- ---- the seats of a move

module _ (named : ℕ → Bool) (files : List Found) where
  pub old_seat : (seat : ℕ) → seat ≤ length files → is_down_in_move named files seat ≡ is_down named files seat
  old_seat seat le = ap (λ b. cond b (is_down named files seat) (named seat)) (le-leb seat (length files) le)

  pub new_seat : (seat : ℕ) → length files < seat → is_down_in_move named files seat ≡ named seat
  new_seat seat lt = grind (arith, nat_tests)

  -- as many old members are down as are in a refresh
  pub old_down : (n : ℕ) → length files ≡ n → how_many n (is_down_in_move named files) ≡ how_many n (is_down named files)
  old_down n count = how_many_same n (is_down_in_move named files) (is_down named files) (λ k a b. old_seat k (omega (arith, b, count)))

  -- and of the m new members behind them as many as a drill names
  pub new_down : (n m : ℕ) → length files ≡ n → how_many m (λ j. is_down_in_move named files (n + j)) ≡ how_many m (λ j. named (n + j))
  new_down n m count = how_many_same m (λ j. is_down_in_move named files (n + j)) (λ j. named (n + j)) (λ k a b. new_seat (n + k) (omega (arith, a, count)))
