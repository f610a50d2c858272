-- Zeros at a list's end.
use Rattle.std.specs.Prelude.{◌≡◌, List, [], ◌∷◌, Bool, true, false, eqb}
use Rattle.std.proofs.Common.{refl, ap}
use Rattle.algebra61.specs.Field.{Fp}

abbrev pub unless_zero : Bool → Fp → List Fp
unless_zero true c = []
unless_zero false c = c ∷ []

abbrev pub put_front : Fp → List Fp → List Fp
put_front c [] = unless_zero (eqb c.num 0) c
put_front c (d ∷ ds) = c ∷ d ∷ ds

-- the list without the zeros at its end
abbrev pub trim : List Fp → List Fp
trim [] = []
trim (c ∷ cs) = put_front c (trim cs)

unless_trim : (b : Bool) (c : Fp) → eqb c.num 0 ≡ b → trim (unless_zero b c) ≡ unless_zero b c
unless_trim true c e = refl
unless_trim false c e = ap (λ b. unless_zero b c) e

front_trim : (c : Fp) (ds : List Fp) → trim ds ≡ ds → trim (put_front c ds) ≡ put_front c ds
front_trim c [] e = unless_trim (eqb c.num 0) c refl
front_trim c (d ∷ ds) e = ap (put_front c) e

pub trim-trim : (p : List Fp) → trim (trim p) ≡ trim p
trim-trim [] = refl
trim-trim (c ∷ cs) = front_trim c (trim cs) (trim-trim cs)
