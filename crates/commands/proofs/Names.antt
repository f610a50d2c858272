-- The names of a key's files differ where their periods or indexes do.
use Rattle.std.proofs.Common.{◌≡◌, ℕ, ◌+◌, ◌^◌, ◌<◌, ◌≤◌, true, false, cond, eqb, List, [], ◌∷◌, ◌++◌, length, length-append, append_assoc, drop, refl, sym, ap, ◌∙◌, arith, codes, decimal}
use Rattle.std.proofs.lemmas.List.{drop_at}
use Rattle.std.specs.Str.{all_ascii_digits}
use Rattle.std.proofs.lemmas.Fmt.{decimal_injective, digits_decimal}
use Rattle.std.proofs.lemmas.Str.Parse.{tells_all_ascii_digits}
use Rattle.decimals.proofs.Numbers.{own}
use Rattle.keyroom.specs.Names.{share_name}

-- no byte is a dot
abbrev NoDots : List ℕ → Type 0
NoDots [] = Unit {0}
NoDots (c ∷ cs) = (eqb c 46 ≡ false) × NoDots cs

-- what stands before the first dot
abbrev before_dot : List ℕ → List ℕ
before_dot [] = []
before_dot (c ∷ cs) = cond (eqb c 46) [] (c ∷ before_dot cs)

to_dot : (a x : List ℕ) → NoDots a → before_dot (a ++ 46 ∷ x) ≡ a
to_dot [] x h = refl
to_dot (c ∷ cs) x h = rw h.0 (ap (λ (ys : List ℕ). c ∷ ys) (to_dot cs x h.1))

not_dot : (c : ℕ) → 48 ≤ c → eqb c 46 ≡ false
not_dot c le = grind (arith)

no_dots : (ds : List ℕ) → all_ascii_digits ds ≡ true → NoDots ds
no_dots [] e = tt
no_dots (d ∷ ds) e = let p = tells_all_ascii_digits.parts d ds e in (not_dot d p.0.0, no_dots ds p.1)

decimal_no_dots : (n : ℕ) → n < 2 ^ 64 → NoDots (decimal n)
decimal_no_dots n lt = no_dots (decimal n) (digits_decimal own n lt)

-- a number before a dot
one_number : (m n : ℕ) (x y : List ℕ) → m < 2 ^ 64 → n < 2 ^ 64 → decimal m ++ 46 ∷ x ≡ decimal n ++ 46 ∷ y → m ≡ n
one_number m n x y small low e =
    decimal_injective m n small low (sym (to_dot (decimal m) x (decimal_no_dots m small)) ∙ ap before_dot e ∙ to_dot (decimal n) y (decimal_no_dots n low))

-- what stands behind the key's name and a dot
behind_name : (name : List ℕ) (period index : ℕ) → drop (length name + 1) (share_name name period index) ≡ decimal period ++ 46 ∷ (decimal index ++ codes ".share")
behind_name name period index =
    let e : length (name ++ 46 ∷ []) ≡ length name + 1 = length-append name (46 ∷ []) in
    ap (drop (length name + 1)) (sym (append_assoc name (46 ∷ []) (decimal period ++ 46 ∷ (decimal index ++ codes ".share"))))
    ∙ drop_at (name ++ 46 ∷ []) (decimal period ++ 46 ∷ (decimal index ++ codes ".share")) (length name + 1) e

pub one_period : (name : List ℕ) (period other index j : ℕ) → period < 2 ^ 64 → other < 2 ^ 64 → share_name name period index ≡ share_name name other j → period ≡ other
one_period name period other index j small low e =
    one_number period other _ _ small low (sym (behind_name name period index) ∙ ap (drop (length name + 1)) e ∙ behind_name name other j)

behind_period : (name : List ℕ) (period index : ℕ) → drop (length (decimal period) + 1) (drop (length name + 1) (share_name name period index)) ≡ decimal index ++ codes ".share"
behind_period name period index =
    let e : length (decimal period ++ 46 ∷ []) ≡ length (decimal period) + 1 = length-append (decimal period) (46 ∷ []) in
    ap (drop (length (decimal period) + 1)) (behind_name name period index ∙ sym (append_assoc (decimal period) (46 ∷ []) (decimal index ++ codes ".share")))
    ∙ drop_at (decimal period ++ 46 ∷ []) (decimal index ++ codes ".share") (length (decimal period) + 1) e

pub one_index : (name : List ℕ) (period index j : ℕ) → index < 2 ^ 64 → j < 2 ^ 64 → share_name name period index ≡ share_name name period j → index ≡ j
one_index name period index j small low e =
    one_number index j (codes "share") (codes "share") small low
    (sym (behind_period name period index) ∙ ap (λ (q : List ℕ). drop (length (decimal period) + 1) (drop (length name + 1) q)) e ∙ behind_period name period j)
