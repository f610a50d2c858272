-- Recovery from the files of N - T honest members, and that recovery has one end.
use Rattle.std.proofs.Common.{◌≡◌, inl, inr, ℕ, zero, suc, ◌+◌, ◌*◌, ◌<◌, ◌≤◌, List, [], ◌∷◌, length, map, Bool, true, false, cond, Result, Ok, Err, refl, sym, ap, ◌∙◌, subst, arith, Option, Some, None, IfSome}
use Rattle.std.specs.Prelude.{◌&&◌, count_by}
use Rattle.std.specs.List.{range_with_len}
use Rattle.std.proofs.lemmas.Bool.Decides.{nat_tests}
use Rattle.std.proofs.lemmas.List.{length-map}
use Rattle.std.proofs.lemmas.List.Sums.{sum_by-cons}
use Rattle.shelf.specs.Held.{Held}
use Rattle.keyroom.specs.Outcome.{AnswersWith, Then}
use Rattle.keyroom.specs.Steps.{now_of, share_of, files_of}
use Rattle.keyroom.proofs.Refusals.{answers_weaker}
use Rattle.std.proofs.lemmas.List.FromFn.{fill_by_all, length-map-range_with_len}
use Rattle.algebra61.specs.Field.{Prime}
use Rattle.algebra61.specs.Polynomial.{Polynomial, poly}
use Rattle.algebra61.specs.Nearest.{wrong, wrong_one, missing}
use Rattle.algebra61.proofs.NearestLemmas.{nearest_once, nearest_by_faults}
use Rattle.sharefile.specs.Files.{Now, Share, IsChecked}
use Rattle.sizes.specs.Committees.{is_size, is_bound}
use Rattle.keyroom.specs.declared.status.Status.{Status}
use Rattle.keyroom.specs.declared.status.Status.TheVariants.{NoKey}
use Rattle.keyroom.specs.declared.steps.Found.{Found}
use Rattle.keyroom.specs.declared.steps.Found.TheVariants.{Absent, Invalid, Valid}
use Rattle.keyroom.specs.declared.state.MemberState.TheVariants.{Wrong, Fine}
use Rattle.keyroom.specs.declared.recover.Recovered.{Recovered}
use Rattle.keyroom.specs.Decoding.{value_in, values_in, lane_of, AreNearest, IsFirstWithout, EnoughLieOn, HonestFiles, agrees, agrees_in, states_of, is_fine}
use Rattle.keyroom.specs.Recover.{recovered_by, MeansKeyOf, MeansKey}
use Rattle.keyroom.proofs.Reading.{now_checked}

lane_cases : (P : ℕ → Type 0) → P 0 → P 1 → P 2 → P 3 → P 4 → (lane : ℕ) → lane < 5 → P lane
lane_cases P a b c d e zero lt = a
lane_cases P a b c d e (suc zero) lt = b
lane_cases P a b c d e (suc (suc zero)) lt = c
lane_cases P a b c d e (suc (suc (suc zero))) lt = d
lane_cases P a b c d e (suc (suc (suc (suc zero)))) lt = e
lane_cases P a b c d e (suc (suc (suc (suc (suc n))))) lt = absurd (omega arith)

both : (a b : Bool) → (a && b) ≡ true → (a ≡ true) × (b ≡ true)
both true b e = (refl, e)
both false b e = absurd cc

agrees_lane : (polys : List Polynomial) (k : ℕ) (f : Share) → agrees polys k f ≡ true → (lane : ℕ) → lane < 5 → agrees_in polys k f lane ≡ true
agrees_lane polys k f is =
    let a : ℕ → Bool = agrees_in polys k f in
    let e = both (a 0 && a 1 && a 2 && a 3) (a 4) is in
    let d = both (a 0 && a 1 && a 2) (a 3) e.0 in
    let c = both (a 0 && a 1) (a 2) d.0 in
    let b = both (a 0) (a 1) c.0 in
    lane_cases (λ lane. agrees_in polys k f lane ≡ true) b.0 b.1 c.1 d.1 e.1

abbrev one_if : Bool → ℕ
one_if b = cond b 1 0

-- a valid file counts once: wrong in the lane, or not fine, or neither
one_file : (all here : Bool) (k : ℕ) (ws : List ℕ) → (all ≡ true → here ≡ true) → length (wrong_one here k ws) + one_if all ≤ length ws + 1
one_file true here k ws h = rw (h refl) (omega arith)
one_file false true k ws h = omega arith
one_file false false k ws h = omega arith

fine_if : (b : Bool) → one_if (is_fine (cond b Fine Wrong)) ≡ one_if b
fine_if true = refl
fine_if false = refl

counted : (polys : List Polynomial) (lane : ℕ) → lane < 5 → (k : ℕ) (files : List Found) →
    length (wrong (lane_of polys lane).coeffs k (values_in lane files)) + length (missing k (values_in lane files)) + count_by is_fine (states_of polys k files) ≤ length files
counted polys lane lt k [] = omega arith
counted polys lane lt k (Absent ∷ files) = omega (arith, counted polys lane lt (suc k) files)
counted polys lane lt k (Invalid ∷ files) = omega (arith, counted polys lane lt (suc k) files)
counted polys lane lt k (Valid f ∷ files) =
    let p = (lane_of polys lane).coeffs in
    let rest = wrong p (suc k) (values_in lane files) in
    let fine = is_fine (cond (agrees polys k f) Fine Wrong) in
    let ws : length (wrong p k (values_in lane (Valid f ∷ files))) ≡ length (wrong_one (agrees_in polys k f lane) k rest) = refl in
    let ms : length (missing k (values_in lane (Valid f ∷ files))) ≡ length (missing (suc k) (values_in lane files)) = refl in
    let ns : count_by is_fine (states_of polys k (Valid f ∷ files)) ≡ one_if fine + count_by is_fine (states_of polys (suc k) files) = sum_by-cons (λ s. cond (is_fine s) 1 0) (cond (agrees polys k f) Fine Wrong) (states_of polys (suc k) files) in
    let one = one_file (agrees polys k f) (agrees_in polys k f lane) k rest (λ is. agrees_lane polys k f is lane lt) in
    rw (ws, ms, ns) (omega (arith, one, fine_if (agrees polys k f), counted polys lane lt (suc k) files))

pub enough_are_nearest : (n t : ℕ) (files : List Found) (polys : List Polynomial) → 3 * t < n → length files ≡ n → EnoughLieOn n t files polys → AreNearest t files polys
enough_are_nearest n t files polys bound count h = record {
  count = h.count;
  nearest = λ lane lt. nearest_by_faults t (values_in lane files) (lane_of polys lane) (omega (arith, bound, count, length-map files (value_in lane))) (h.short lane lt)
      (omega (arith, counted polys lane lt 1 files, h.enough, count));
}

as_lanes : (polys : List Polynomial) → length polys ≡ 5 → polys ≡ map (lane_of polys) (range_with_len 0 5)
as_lanes polys count = fill_by_all (lane_of polys) polys 5 (poly []) count (λ k lt. refl)

-- the lanes' polynomials are fixed by the files
pub decoded_once : (t : ℕ) (files : List Found) (p q : List Polynomial) → length files < Prime → AreNearest t files p → AreNearest t files q → p ≡ q
decoded_once t files p q few h k =
    as_lanes p h.count
    ∙ sym (fill_by_all (lane_of p) q 5 (poly []) k.count (λ lane lt. nearest_once t (values_in lane files) (lane_of q lane) (lane_of p lane) (omega (arith, few, length-map files (value_in lane))) (k.nearest lane lt) (h.nearest lane lt)))

first_once : (t : ℕ) (files : List Found) (a b : ℕ) → IsFirstWithout t files a → IsFirstWithout t files b → a < b → ⊥
first_once t files a b h k lt = let below = k.before a lt in h.without below.0 below.1

same_first : (t : ℕ) (files : List Found) (a b : ℕ) → IsFirstWithout t files a → IsFirstWithout t files b → a ≡ b
same_first t files a b h k =
    let no : a < b → ⊥ = first_once t files a b h k in
    let on : b < a → ⊥ = first_once t files b a k h in
    omega (arith, no, on)

never_both : (t : ℕ) (files : List Found) (polys : List Polynomial) (lane : ℕ) → AreNearest t files polys → IsFirstWithout t files lane → ⊥
never_both t files polys lane h k = k.without (lane_of polys lane) (h.nearest lane k.within)

pub key_once : (now : Now) (files : List Found) (a b : Result Recovered Status) → length files < Prime → MeansKeyOf now files a → MeansKeyOf now files b → a ≡ b
key_once now files a b few (inl (p, h, e)) (inl (q, k, f)) = e ∙ ap (λ ps. Ok (recovered_by now files ps)) (decoded_once now.t files p q few h k) ∙ sym f
key_once now files a b few (inl (p, h, e)) (inr (lane, k, f)) = absurd (never_both now.t files p lane h k)
key_once now files a b few (inr (lane, h, e)) (inl (q, k, f)) = absurd (never_both now.t files q lane k h)
key_once now files a b few (inr (l, h, e)) (inr (m, k, f)) = e ∙ ap (λ n. Err (NoKey n)) (same_first now.t files l m h k) ∙ sym f

size_fits : (n : ℕ) → is_size n ≡ true → n ≤ 13
size_fits n is = grind (arith, nat_tests)

bound_fits : (n t : ℕ) → is_bound n t ≡ true → 3 * t < n
bound_fits n t is = grind (arith, nat_tests)

few_files : (now : Now) (files : List Found) → IsChecked now → length files ≡ now.n → length files < Prime
few_files now files is count = omega (arith, count, size_fits now.n is.size)

honest_key : (now : Now) (files : List Found) (polys : List Polynomial) (end : Result Recovered Status) → IsChecked now → length files ≡ now.n → EnoughLieOn now.n now.t files polys → MeansKeyOf now files end → end ≡ Ok (recovered_by now files polys)
honest_key now files polys end is count h means =
    key_once now files end (Ok (recovered_by now files polys)) (few_files now files is count) means (inl (polys, enough_are_nearest now.n now.t files polys (bound_fits now.n now.t is.bound) count h, refl))

files_count : (now : Now) (held : Held) → length (files_of now held) ≡ now.n
files_count now held = length-map-range_with_len (share_of now held) 1 now.n

-- what follows of the now file that was read
key_then : (name : List ℕ) (held : Held) (r : Result Now Status) (a b : Result Recovered Status) → now_of name held ≡ r →
    Then r (λ now. MeansKeyOf now (files_of now held)) a → Then r (λ now. MeansKeyOf now (files_of now held)) b → a ≡ b
key_then name held (Ok now) a b read p q = key_once now (files_of now held) a b (few_files now (files_of now held) (now_checked name held now read) (files_count now held)) p q
key_then name held (Err status) a b read p q = p ∙ sym q

pub one_key : (name : List ℕ) (held : Held) (a b : Result Recovered Status) → MeansKey name held a → MeansKey name held b → a ≡ b
one_key name held a b p q = key_then name held (now_of name held) a b refl p q

honest_then : (name : List ℕ) (held : Held) (now : Now) (polys : List Polynomial) (r : Result Now Status) (end : Result Recovered Status) → r ≡ Ok now → IsChecked now →
    EnoughLieOn now.n now.t (files_of now held) polys → Then r (λ now. MeansKeyOf now (files_of now held)) end → end ≡ Ok (recovered_by now (files_of now held) polys)
honest_then name held now polys (Ok f) end e is h means =
    let same : f ≡ now = cc in
    honest_key now (files_of now held) polys end is (files_count now held) h (subst (λ g. MeansKeyOf g (files_of g held) end) same means)
honest_then name held now polys (Err status) end e is h means = absurd cc

pub honest_end : (name : List ℕ) (held : Held) (now : Now) (polys : List Polynomial) (end : Result Recovered Status) → HonestFiles name now held polys → MeansKey name held end → end ≡ Ok (recovered_by now (files_of now held) polys)
honest_end name held now polys end h means = honest_then name held now polys (now_of name held) end h.now_is (now_checked name held now h.now_is) h.enough means

-- recovery then ends with them
pub honest_is_meant : (name : List ℕ) (held : Held) (now : Now) (polys : List Polynomial) → HonestFiles name now held polys → MeansKey name held (Ok (recovered_by now (files_of now held) polys))
honest_is_meant name held now polys h =
    subst (λ r. Then r (λ f. MeansKeyOf f (files_of f held)) (Ok (recovered_by now (files_of now held) polys))) (sym h.now_is)
    (inl (polys, enough_are_nearest now.n now.t (files_of now held) polys (bound_fits now.n now.t (now_checked name held now h.now_is).bound) (files_count now held) h.enough, refl))

-- the same of a call that answered what is meant
honest_answer : (held : Option Held) (name : List ℕ) (result : Result Recovered Status) → IfSome held (λ m. AnswersWith (MeansKey name m) result) →
    IfSome held (λ m. (now : Now) (polys : List Polynomial) → HonestFiles name now m polys → AnswersWith (λ end. end ≡ Ok (recovered_by now (files_of now m) polys)) result)
honest_answer None name result means = tt
honest_answer (Some m) name result means = λ now polys h.
    answers_weaker (λ x. x) (MeansKey name m) (λ end. end ≡ Ok (recovered_by now (files_of now m) polys)) result (λ end k. honest_end name m now polys end h k) means

-- a call that got the now file and the files from the shelf, which holds what it held
call_means : (old mid : Option Held) (name : List ℕ) (now : Now) (files : List Found) (result : Result Recovered Status) → mid ≡ old →
    IfSome old (λ m. now_of name m ≡ Ok now) → IfSome mid (λ m. files ≡ files_of now m) → AnswersWith (MeansKeyOf now files) result → IfSome old (λ m. AnswersWith (MeansKey name m) result)
call_means None mid name now files result same read found means = tt
call_means (Some m) mid name now files result same read found means =
    let here : files ≡ files_of now m = subst (λ o. IfSome o (λ m. files ≡ files_of now m)) same found in
    let on : (r : Result Now Status) → r ≡ Ok now → (end : Result Recovered Status) → MeansKeyOf now files end → Then r (λ f. MeansKeyOf f (files_of f m)) end =
    λ r e end k. subst (λ q. Then q (λ f. MeansKeyOf f (files_of f m)) end) (sym e) (subst (λ fs. MeansKeyOf now fs end) here k) in
    answers_weaker (λ x. x) (MeansKeyOf now files) (MeansKey name m) result (on (now_of name m) read) means

pub honest_call : (old mid : Option Held) (name : List ℕ) (now : Now) (files : List Found) (result : Result Recovered Status) → mid ≡ old →
    IfSome old (λ m. now_of name m ≡ Ok now) → IfSome mid (λ m. files ≡ files_of now m) → AnswersWith (MeansKeyOf now files) result →
    IfSome old (λ m. (named : Now) (polys : List Polynomial) → HonestFiles name named m polys → AnswersWith (λ end. end ≡ Ok (recovered_by named (files_of named m) polys)) result)
honest_call old mid name now files result same read found means = honest_answer old name result (call_means old mid name now files result same read found means)
