-- Words that are numbers.
use Rattle.std.proofs.Common.{◌≡◌, ◌≢◌, ℕ, ◌+◌, ◌-◌, ◌*◌, ◌^◌, ◌<◌, ◌≤◌, ◌⊎◌, inl, inr, Bool, true, false, ◌&&◌, cond, List, [], ◌∷◌, length, get_or, refl, sym, ap, ap₂, zero, suc, drop-cons, lit<, subst, drop, ◌∙◌, arith, rules, ltb}
use Rattle.std.specs.Prelude.{Option, Some, None, IfSome, IfNone, decimal}
use Rattle.std.specs.Str.{all_ascii_digits, bytes_eq}
use Rattle.std.proofs.lemmas.Str.Parse.{IsNumeralModel, numerals_by_fold}
use Rattle.std.proofs.lemmas.Fmt.{decimal_nonempty, first_decimal, digits_decimal, decimal-digits_value, digits_value-decimal, decimal_digit}
use Rattle.std.proofs.lemmas.Bool.{lt-ltb, ltb-true}
use Rattle.std.proofs.lemmas.Slice.Eq.{bytes_eq-Decides}
use Rattle.decimals.specs.Decimals.{number_on, number_of, number_below, number_in, small_number_in}

-- the digits of a word and its number, in the library's words
pub own : IsNumeralModel (λ ds. all_ascii_digits ds ≡ true) number_of
own = numerals_by_fold _ (search rules) number_on (search rules)

-- a further digit never makes the number smaller
pub number_grows : (n : ℕ) (ds : List ℕ) → n ≤ number_on n ds
number_grows n [] = omega arith
number_grows n (c ∷ cs) = let h = number_grows (10 * n + (c - 48)) cs in omega (arith, h)

test_holds : {A : Type 0} (a b : Bool) (v : A) → a ≡ true → b ≡ true → cond (a && b) (Some v) None ≡ Some v
test_holds a b v ea eb = ap₂ (λ (x y : Bool). cond (x && y) (Some v) None) ea eb

test_fails : {A : Type 0} (a b : Bool) (v : A) → (a ≡ true → b ≡ true → ⊥) → cond (a && b) (Some v) None ≡ None
test_fails true true v h = absurd (h refl refl)
test_fails true false v h = refl
test_fails false b v h = refl

tests_held : {A : Type 0} (a b : Bool) (v w : A) → cond (a && b) (Some v) None ≡ Some w → (a ≡ true) × (b ≡ true) × (v ≡ w)
tests_held true true v w e = (refl, refl, cc e)
tests_held true false v w e = absurd (cc e)
tests_held false b v w e = absurd (cc e)

-- the number so far has grown too great
pub too_great : (word : List ℕ) (i n : ℕ) → i < length word → number_of word ≡ number_on n (drop i word) → 2 ^ 64 ≤ 10 * n + (get_or word i 0 - 48) → 2 ^ 64 ≤ number_of word
too_great word i n lt e great =
    let step : number_of word ≡ number_on (10 * n + (get_or word i 0 - 48)) (drop (suc i) word) = e ∙ ap (number_on n) (drop-cons word i 0 lt) in
    let grows = number_grows (10 * n + (get_or word i 0 - 48)) (drop (suc i) word) in
    omega (arith, step, grows, great)

-- a word that is the decimal of its number
spelled_below : (limit : ℕ) (word : List ℕ) → word ≡ decimal (number_of word) → number_of word < limit → number_below limit word ≡ Some (number_of word)
spelled_below limit word e lt =
    test_holds (bytes_eq word (decimal (number_of word))) (ltb (number_of word) limit) (number_of word) ((bytes_eq-Decides _ _).1 e) (lt-ltb _ _ lt)

-- and one that is not
unspelled_below : (limit : ℕ) (word : List ℕ) → (word ≡ decimal (number_of word) → number_of word < limit → ⊥) → number_below limit word ≡ None
unspelled_below limit word h =
    test_fails (bytes_eq word (decimal (number_of word))) (ltb (number_of word) limit) (number_of word) (λ e lt. h ((bytes_eq-Decides _ _).0 e) (ltb-true _ _ lt))

pub spelled : (word : List ℕ) → word ≡ decimal (number_of word) → number_of word < 2 ^ 64 → number_in word ≡ Some (number_of word)
spelled word e lt = spelled_below (2 ^ 64) word e lt

unspelled : (word : List ℕ) → (word ≡ decimal (number_of word) → number_of word < 2 ^ 64 → ⊥) → number_in word ≡ None
unspelled word h = unspelled_below (2 ^ 64) word h

-- the number that is found is spelled by the word, and below the limit
pub found_below : (limit : ℕ) (word : List ℕ) (n : ℕ) → number_below limit word ≡ Some n → (word ≡ decimal n) × (n < limit)
found_below limit word n e =
    let h = tests_held (bytes_eq word (decimal (number_of word))) (ltb (number_of word) limit) (number_of word) n e in
    ((bytes_eq-Decides _ _).0 h.0 ∙ ap decimal h.2, subst (λ (k : ℕ). k < limit) h.2 (ltb-true _ _ h.1))

-- the decimal of a number is read as the number
pub read_below : (limit n : ℕ) → n < limit → n < 2 ^ 64 → number_below limit (decimal n) ≡ Some n
read_below limit n lt fits =
    let e : number_of (decimal n) ≡ n = digits_value-decimal own n fits in
    spelled_below limit (decimal n) (ap decimal (sym e)) (subst (λ (k : ℕ). k < limit) (sym e) lt) ∙ ap (λ (k : ℕ). Some k) e

-- a word of digits without a leading zero is the decimal of its number
pub is_number : (word : List ℕ) (n : ℕ) → all_ascii_digits word ≡ true → number_of word ≡ n → n < 2 ^ 64 → 0 < length word → (get_or word 0 0 ≡ 48 → length word ≡ 1) → number_in word ≡ Some n
is_number word n d e lt long one =
    let small : number_of word < 2 ^ 64 = omega (arith, e, lt) in
    spelled word (sym (decimal-digits_value own word d long one small)) small ∙ ap (λ (k : ℕ). Some k) e

pub is_no_number : (word : List ℕ) → (all_ascii_digits word ≡ false) ⊎ (2 ^ 64 ≤ number_of word) → number_in word ≡ None
is_no_number word (inl d) = unspelled word (λ e lt. absurd (let all = subst (λ (t : List ℕ). all_ascii_digits t ≡ true) (sym e) (digits_decimal own (number_of word) lt) in cc (d, all)))
is_no_number word (inr great) = unspelled word (λ e lt. omega (arith, great, lt))

pub is_empty_word : (word : List ℕ) → length word ≡ 0 → number_in word ≡ None
is_empty_word word e = unspelled word (λ is lt. let long = decimal_nonempty (number_of word) lt in let same = ap length is in omega (arith, e, long, same))

zero_word : (word : List ℕ) (n : ℕ) → word ≡ decimal n → n < 2 ^ 64 → get_or word 0 0 ≡ 48 → 1 < length word → ⊥
zero_word word zero is lt e long =
    let one : length word ≡ 1 = ap length (is ∙ decimal_digit 0 (lit< tt)) in
    omega (arith, one, long)
zero_word word (suc n) is lt e long =
    let first = first_decimal (suc n) (omega arith) lt in
    let same : get_or word 0 0 ≡ get_or (decimal (suc n)) 0 0 = ap (λ (t : List ℕ). get_or t 0 0) is in
    omega (arith, first, same, e)

pub starts_with_zero : (word : List ℕ) → get_or word 0 0 ≡ 48 → 1 < length word → number_in word ≡ None
starts_with_zero word e long = unspelled word (λ is lt. zero_word word (number_of word) is lt e long)

-- ---- what the clauses say of an answer
pub found_as : (limit : ℕ) (word : List ℕ) (o : Option ℕ) → o ≡ number_below limit word → IfSome o (λ n. word ≡ decimal n)
found_as limit word (Some n) e = (found_below limit word n (sym e)).0
found_as limit word None e = tt

pub none_as : (limit : ℕ) (word : List ℕ) (o : Option ℕ) → limit ≤ 2 ^ 64 → o ≡ number_below limit word → IfNone o ((n : ℕ) → n < limit → word ≢ decimal n)
none_as limit word (Some n) le e = tt
none_as limit word None le e = λ n lt is.
    let read : number_below limit (decimal n) ≡ Some n = read_below limit n lt (omega (arith, lt, le)) in
    let same : None ≡ Some n = e ∙ ap (number_below limit) is ∙ read in
    cc same

none_of : (o : Option ℕ) → ((n : ℕ) → o ≡ Some n → ⊥) → o ≡ None
none_of (Some n) h = absurd (h n refl)
none_of None h = refl

-- ---- a number of 32 bits is one of 64 that is small
widened : (word : List ℕ) (n : ℕ) → small_number_in word ≡ Some n → number_in word ≡ Some n
widened word n e =
    let h = found_below (2 ^ 32) word n e in
    let fits : n < 2 ^ 64 = omega (arith, h.1) in
    ap number_in h.0 ∙ read_below (2 ^ 64) n fits fits

pub narrowed : (word : List ℕ) (n : ℕ) → number_in word ≡ Some n → n < 2 ^ 32 → small_number_in word ≡ Some n
narrowed word n e lt =
    ap small_number_in (found_below (2 ^ 64) word n e).0 ∙ read_below (2 ^ 32) n lt (omega (arith, lt))

same_some : (n m : ℕ) → Some n ≡ Some m → n ≡ m
same_some n m e = cc e

pub too_wide : (word : List ℕ) (n : ℕ) → number_in word ≡ Some n → 2 ^ 32 ≤ n → small_number_in word ≡ None
too_wide word n e great =
    none_of (small_number_in word) (λ m h. let same = same_some n m (sym e ∙ widened word m h) in let small = (found_below (2 ^ 32) word m h).1 in omega (arith, same, small, great))

pub not_any : (word : List ℕ) → number_in word ≡ None → small_number_in word ≡ None
not_any word e = none_of (small_number_in word) (λ m h. let wide : None ≡ Some m = sym e ∙ widened word m h in cc wide)
