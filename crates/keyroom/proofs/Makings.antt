-- Words that tell a command which makes a committee nothing.
use Rattle.std.proofs.Common.{◌≡◌, ◌≢◌, ℕ, ◌^◌, ◌<◌, true, false, ◌&&◌, List, [], ◌∷◌, length, get_or, Option, Some, None, IfNone, refl, sym, ap, ◌∙◌, arith}
use Rattle.std.specs.Prelude.{decimal}
use Rattle.std.proofs.lemmas.Fmt.{decimal_injective}
use Rattle.sizes.specs.Committees.{is_size, is_bound}
use Rattle.keyroom.specs.Words.{is_file_name, MakesNothing}
use Rattle.keyroom.proofs.Spelling.{small_size, small_bound}

module _ (name members bound : List ℕ) (rest : List (List ℕ)) (none : (n t : ℕ) → is_size n ≡ true → is_bound n t ≡ true → members ≡ decimal n → bound ≢ decimal t) where
  -- the words tell a command that makes a committee nothing
  pub no_committee : MakesNothing (name ∷ members ∷ bound ∷ rest)
  no_committee key n t drill reads =
      none n t reads.in_range.1 reads.in_range.2 (ap (λ (ws : List (List ℕ)). get_or ws 1 []) reads.words_are) (ap (λ (ws : List (List ℕ)). get_or ws 2 []) reads.words_are)

-- neither three words, nor four of which the last names a file
pub no_making : (words : List (List ℕ)) → length words ≢ 3 → (length words ≡ 4 → is_file_name (get_or words 3 []) ≡ false) → MakesNothing words
no_making words few last name n t None reads = few (ap length reads.words_are)
no_making words few last name n t (Some file) reads =
    let is : is_file_name file ≡ true = reads.in_range.3 in
    let other : is_file_name (get_or words 3 []) ≡ false = last (ap length reads.words_are) in
    let e : true ≡ false = sym is ∙ sym (ap (λ (ws : List (List ℕ)). is_file_name (get_or ws 3 [])) reads.words_are) ∙ other in
    cc

pub same_number : (word : List ℕ) (n k : ℕ) → n < 2 ^ 32 → k < 2 ^ 32 → word ≡ decimal n → word ≡ decimal k → n ≡ k
same_number word n k small fits is other = decimal_injective n k (omega (arith, small)) (omega (arith, fits)) (sym is ∙ other)

-- two words that spell numbers of which no command can make a committee spell none that it can
pub spells_none : (members bound : List ℕ) (n t : ℕ) → n < 2 ^ 32 → t < 2 ^ 32 → members ≡ decimal n → bound ≡ decimal t → (is_size n && is_bound n t) ≡ false →
    (m u : ℕ) → is_size m ≡ true → is_bound m u ≡ true → members ≡ decimal m → bound ≢ decimal u
spells_none members bound n t fits small is bounds fails m u size low other again =
    let same : n ≡ m = same_number members n m fits (small_size m size) is other in
    let equal : t ≡ u = same_number bound t u small (small_bound m u size low) bounds again in
    let holds : (is_size n && is_bound n t) ≡ true = rw (same, equal, size, low) refl in
    let e : true ≡ false = sym holds ∙ fails in
    cc

pub if_none : {A : Type 0} {P : Type 0} (o : Option A) → P → IfNone o P
if_none None p = p
if_none (Some x) p = tt
