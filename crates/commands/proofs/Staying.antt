-- The key stays where what stood is left, and where a next period has begun with enough shares on polynomials that have the
-- same values at 0.
use Rattle.std.proofs.Common.{◌≡◌, inl, inr, ℕ, zero, suc, ◌+◌, ◌<◌, ◌≤◌, Bool, true, false, cond, ◌&&◌, List, [], ◌∷◌, length, map, get_or, take, Ok, refl, sym, ap, ◌∙◌, subst, arith}
use Rattle.std.specs.Prelude.{count_by}
use Rattle.std.specs.List.{range_with_len}
use Rattle.std.proofs.lemmas.Bool.{and_parts, cases_lt, eq-eqb}
use Rattle.std.proofs.lemmas.List.{ext_get_or, get_or-map, length-map}
use Rattle.std.proofs.lemmas.List.Sums.{sum_by-cons}
use Rattle.algebra61.specs.Field.{Fp, fe, zeroₚ}
use Rattle.algebra61.specs.Poly.{eval}
use Rattle.algebra61.specs.Polynomial.{Polynomial, poly}
use Rattle.algebra61.proofs.Near.{same_by_test}
use Rattle.algebra61.proofs.Trim.{eval-trim, length-trim}
use Rattle.sharing61.specs.Count.{how_many}
use Rattle.sharing61.proofs.Count.{how_many_same, how_many_more}
use Rattle.shelf.specs.Held.{Held, Change, after}
use Rattle.sharefile.specs.Files.{Now, IsNow, Share}
use Rattle.keyroom.specs.declared.steps.Found.{Found}
use Rattle.keyroom.specs.declared.steps.Found.TheVariants.{Absent, Invalid, Valid}
use Rattle.keyroom.specs.declared.state.MemberState.TheVariants.{Wrong, Fine}
use Rattle.keyroom.specs.Decoding.{lane_of, agrees, agrees_in, state_of, states_of, is_fine, EnoughLieOn, HonestFiles, key_of}
use Rattle.keyroom.specs.Steps.{now_step, now_of, share_step, share_of, files_of}
use Rattle.commands.specs.Begins.{IsLeft, HasBegun, GoesOn}
use Rattle.commands.specs.Kept.{files_without, KeyStays}
use Rattle.commands.specs.Period.{share_with}
use Rattle.commands.proofs.Beginning.{begun_now, begun_share}
use Rattle.commands.proofs.Phases.{range_same}

-- ---- fine members
pub lane_cases : (P : ℕ → Type 0) → P 0 → P 1 → P 2 → P 3 → P 4 → (lane : ℕ) → lane < 5 → P lane
lane_cases P a b c d e zero lt = a
lane_cases P a b c d e (suc zero) lt = b
lane_cases P a b c d e (suc (suc zero)) lt = c
lane_cases P a b c d e (suc (suc (suc zero))) lt = d
lane_cases P a b c d e (suc (suc (suc (suc zero)))) lt = e
lane_cases P a b c d e (suc (suc (suc (suc (suc n))))) lt = absurd (omega arith)

-- a valid file has the values of the polynomials
abbrev pub LiesOn : List Polynomial → ℕ → Share → Type 0
LiesOn polys j f = (lane : ℕ) → lane < 5 → eval (lane_of polys lane).coeffs (fe j) ≡ get_or f.lanes lane zeroₚ

agree_lies : (polys : List Polynomial) (j : ℕ) (f : Share) → agrees polys j f ≡ true → LiesOn polys j f
agree_lies polys j f is =
    let a : ℕ → Bool = agrees_in polys j f in
    let e = and_parts (a 0 && a 1 && a 2 && a 3) (a 4) is in
    let d = and_parts (a 0 && a 1 && a 2) (a 3) e.0 in
    let c = and_parts (a 0 && a 1) (a 2) d.0 in
    let b = and_parts (a 0) (a 1) c.0 in
    lane_cases (λ lane. eval (lane_of polys lane).coeffs (fe j) ≡ get_or f.lanes lane zeroₚ)
    (same_by_test _ _ b.0) (same_by_test _ _ b.1) (same_by_test _ _ c.1) (same_by_test _ _ d.1) (same_by_test _ _ e.1)

lies_agree : (polys : List Polynomial) (j : ℕ) (f : Share) → LiesOn polys j f → agrees polys j f ≡ true
lies_agree polys j f on =
    let at : (lane : ℕ) → lane < 5 → agrees_in polys j f lane ≡ true = λ lane lt. eq-eqb _ _ (ap (λ (x : Fp). x.num) (on lane lt)) in
    rw (at 0 (omega arith), at 1 (omega arith), at 2 (omega arith), at 3 (omega arith), at 4 (omega arith)) refl

-- a member that counts: it isn't left out, and its valid file lies on the polynomials
pub record Counts (polys : List Polynomial) (j : ℕ) (out : Bool) (o : Found) : Type 0 where
  pub kept : out ≡ false
  pub file : Share
  pub is : o ≡ Valid file
  pub on : LiesOn polys j file

fine_cases : (polys : List Polynomial) (j : ℕ) (f : Share) (b : Bool) → agrees polys j f ≡ b → is_fine (cond b Fine Wrong) ≡ true → Counts polys j false (Valid f)
fine_cases polys j f true is e = record { kept = refl; file = f; is = refl; on = agree_lies polys j f is }
fine_cases polys j f false is e = absurd cc

pub fine_counts : (polys : List Polynomial) (j : ℕ) (out : Bool) (o : Found) → is_fine (state_of polys j (cond out Absent o)) ≡ true → Counts polys j out o
fine_counts polys j true o e = absurd cc
fine_counts polys j false Absent e = absurd cc
fine_counts polys j false Invalid e = absurd cc
fine_counts polys j false (Valid f) e = fine_cases polys j f (agrees polys j f) refl e

counts_fine : (polys : List Polynomial) (j : ℕ) (o : Found) (f : Share) → o ≡ Valid f → LiesOn polys j f → is_fine (state_of polys j o) ≡ true
counts_fine polys j o f is on =
    ap (λ (x : Found). is_fine (state_of polys j x)) is ∙ ap (λ (b : Bool). is_fine (cond b Fine Wrong)) (lies_agree polys j f on)

-- ---- counted
-- a test on 1, and on the numbers behind it
count_front : (n : ℕ) (g : ℕ → Bool) → how_many (suc n) g ≡ cond (g 1) 1 0 + how_many n (λ i. g (suc i))
count_front zero g = omega arith
count_front (suc n) g = omega (arith, count_front n g)

-- a member of whose file this test holds is fine
abbrev fine_at : List Polynomial → (ℕ → Found) → ℕ → Bool
fine_at polys file j = is_fine (state_of polys j (file j))

fine_behind : (polys : List Polynomial) (file : ℕ → Found) (n k : ℕ) →
    count_by is_fine (states_of polys (suc k) (map file (range_with_len (suc k) n))) ≡ how_many n (λ i. fine_at polys file (k + i))
fine_behind polys file zero k = refl
fine_behind polys file (suc n) k =
    let next : suc (suc k) ≡ suc k + 1 = omega arith in
    let rest = subst (λ (i : ℕ). count_by is_fine (states_of polys (suc (suc k)) (map file (range_with_len i n))) ≡ how_many n (λ i. fine_at polys file (suc k + i))) next (fine_behind polys file n (suc k)) in
    let all = sum_by-cons (λ s. cond (is_fine s) 1 0) (state_of polys (suc k) (file (suc k))) (states_of polys (suc (suc k)) (map file (range_with_len (suc k + 1) n))) in
    let shift = how_many_same n (λ i. fine_at polys file (suc k + i)) (λ i. fine_at polys file (k + suc i)) (λ i from to. let e : suc k + i ≡ k + suc i = omega arith in ap (fine_at polys file) e) in
    let first : k + 1 ≡ suc k = omega arith in
    omega (arith, all, rest, shift, count_front n (λ i. fine_at polys file (k + i)), ap (λ (j : ℕ). let one : ℕ = cond (fine_at polys file j) 1 0 in one) first)

-- as many members are fine as the test holds of
fine_many : (polys : List Polynomial) (file : ℕ → Found) (n : ℕ) → count_by is_fine (states_of polys 1 (map file (range_with_len 1 n))) ≡ how_many n (fine_at polys file)
fine_many polys file n = fine_behind polys file n 0 ∙ how_many_same n (λ i. fine_at polys file (0 + i)) (fine_at polys file) (λ i from to. let e : 0 + i ≡ i = omega arith in ap (fine_at polys file) e)

without_map : (out : ℕ → Bool) (file : ℕ → Found) (n k : ℕ) → files_without out k (map file (range_with_len k n)) ≡ map (λ j. cond (out j) Absent (file j)) (range_with_len k n)
without_map out file zero k = refl
without_map out file (suc n) k =
    let next : k + 1 ≡ suc k = omega arith in
    ap (λ (rest : List Found). cond (out k) Absent (file k) ∷ rest)
    (subst (λ (i : ℕ). files_without out i (map file (range_with_len (k + 1) n)) ≡ map (λ j. cond (out j) Absent (file j)) (range_with_len (k + 1) n)) next (without_map out file n (k + 1)))

-- a member that isn't left out, and whose valid file lies on the polynomials
abbrev pub is_sound_on : List Polynomial → (ℕ → Bool) → (ℕ → Found) → ℕ → Bool
is_sound_on polys out file j = fine_at polys (λ i. cond (out i) Absent (file i)) j

pub sound_many : (now : Now) (held : Held) (out : ℕ → Bool) (polys : List Polynomial) → EnoughLieOn now.n now.t (files_without out 1 (files_of now held)) polys → now.n ≤ now.t + how_many now.n (is_sound_on polys out (share_of now held))
sound_many now held out polys enough =
    omega (
      arith,
      enough.enough,
      ap (λ (fs : List Found). count_by is_fine (states_of polys 1 fs)) (without_map out (share_of now held) now.n 1),
      fine_many polys (λ i. cond (out i) Absent (share_of now held i)) now.n,
    )

-- the files of sound members are honest files
fine_now : (polys : List Polynomial) (out : Bool) (j : ℕ) (o : Found) → is_fine (state_of polys j (cond out Absent o)) ≡ true → is_fine (state_of polys j o) ≡ true
fine_now polys out j o e =
    let c = fine_counts polys j out o e in
    counts_fine polys j o c.file c.is c.on

pub honest_before : (name : List ℕ) (now : Now) (held : Held) (out : ℕ → Bool) (polys : List Polynomial) → now_of name held ≡ Ok now → EnoughLieOn now.n now.t (files_without out 1 (files_of now held)) polys → HonestFiles name now held polys
honest_before name now held out polys now_is enough = record {
  now_is = now_is;
  enough = record {
    count = enough.count;
    short = enough.short;
    enough =
        omega (
          arith,
          sound_many now held out polys enough,
          fine_many polys (share_of now held) now.n,
          how_many_more now.n (is_sound_on polys out (share_of now held)) (fine_at polys (share_of now held)) (λ j from to e. fine_now polys (out j) j (share_of now held j) e),
        );
  };
}

-- ---- where what stood is left
pub as_before : (name : List ℕ) (now : Now) (held : Held) (polys : List Polynomial) → HonestFiles name now held polys → KeyStays name now polys held held
as_before name now held polys honest = record { was = honest; now = now; others = polys; is = honest; same = refl }

pub left_stays : (name : List ℕ) (before : Now) (old new : Held) (polys : List Polynomial) → before.name ≡ name → HonestFiles name before old polys → IsLeft before old new → KeyStays name before polys old new
left_stays name before old new polys named honest left =
    let files : files_of before new ≡ files_of before old = range_same (share_of before new) (share_of before old) 1 before.n (λ j from to. ap (share_step before j) (left.share_files j)) in
    record {
      was = honest;
      now = before;
      others = polys;
      is = record {
        now_is = subst (λ (k : List ℕ). now_of k new ≡ now_of k old) named (ap (now_step before.name) left.now_file) ∙ honest.now_is;
        enough = subst (λ fs. EnoughLieOn before.n before.t fs polys) (sym files) honest.enough;
      };
      same = refl;
    }

-- ---- where the next period has begun
-- a polynomial of the next period, with the value at 0 of one before, on which the new shares of these members lie in a lane
pub record IsCarried (now : Now) (lanes : ℕ → List Fp) (good : ℕ → Bool) (lane : ℕ) (before : Polynomial) (f : List Fp) : Type 0 where
  pub short : length f ≤ now.t + 1
  pub at_zero : eval f zeroₚ ≡ eval before.coeffs zeroₚ
  pub values : (j : ℕ) → 1 ≤ j → j ≤ now.n → good j ≡ true → eval f (fe j) ≡ get_or (lanes j) lane zeroₚ

-- zeros at its end are taken off
trimmed : (now : Now) (lanes : ℕ → List Fp) (good : ℕ → Bool) (lane : ℕ) (before : Polynomial) (f : List Fp) → IsCarried now lanes good lane before f → IsCarried now lanes good lane before (poly f).coeffs
unfolding poly
trimmed now lanes good lane before f is = record {
  short = omega (arith, length-trim f, is.short);
  at_zero = eval-trim f zeroₚ ∙ is.at_zero;
  values = λ j from to on. eval-trim f (fe j) ∙ is.values j from to on;
}

-- N - T members that aren't down have shares on such polynomials
pub record CarriesOn (now : Now) (down : ℕ → Bool) (lanes : ℕ → List Fp) (polys : List Polynomial) : Type 0 where
  pub good : ℕ → Bool
  pub up : (j : ℕ) → 1 ≤ j → j ≤ now.n → good j ≡ true → down j ≡ false
  pub many : now.n ≤ now.t + how_many now.n good
  pub carry : (lane : ℕ) → lane < 5 → (f : List Fp) × IsCarried now lanes good lane (lane_of polys lane) f

-- the lanes are below five
lane0 : 0 < 5
lane0 = omega arith

lane1 : 1 < 5
lane1 = omega arith

lane2 : 2 < 5
lane2 = omega arith

lane3 : 3 < 5
lane3 = omega arith

lane4 : 4 < 5
lane4 = omega arith

module _ (name : List ℕ) (before now : Now) (down : ℕ → Bool) (lanes : ℕ → List Fp) (old : Held) (polys : List Polynomial) (named : now.name ≡ name) (is : IsNow now) (five : (j : ℕ) → length (lanes j) ≡ 5)
    (honest : HonestFiles name before old polys) (c : CarriesOn now down lanes polys) where
  abbrev others : List Polynomial
  others = poly (c.carry 0 lane0).0 ∷ poly (c.carry 1 lane1).0 ∷ poly (c.carry 2 lane2).0 ∷ poly (c.carry 3 lane3).0 ∷ poly (c.carry 4 lane4).0 ∷ []

  new_carried : (lane : ℕ) (lt : lane < 5) → IsCarried now lanes c.good lane (lane_of polys lane) (poly (c.carry lane lt).0).coeffs
  new_carried lane lt = trimmed now lanes c.good lane (lane_of polys lane) (c.carry lane lt).0 (c.carry lane lt).1

  carried : (lane : ℕ) → lane < 5 → IsCarried now lanes c.good lane (lane_of polys lane) (lane_of others lane).coeffs
  carried lane lt =
      lane_cases (λ l. IsCarried now lanes c.good l (lane_of polys l) (lane_of others l).coeffs) (new_carried 0 lane0) (new_carried 1 lane1) (new_carried 2 lane2) (new_carried 3 lane3) (new_carried 4 lane4) lane lt

  same_key : key_of others ≡ key_of polys
  same_key =
      let all : length (key_of polys) ≡ 5 = length-map polys (λ p. eval p.coeffs zeroₚ) ∙ honest.enough.count in
      ext_get_or zeroₚ (key_of others) (key_of polys) (sym all)
      (λ i lt.
      get_or-map (λ (p : Polynomial). eval p.coeffs zeroₚ) others i (poly []) zeroₚ lt ∙ (carried i lt).at_zero
      ∙ sym (get_or-map (λ (p : Polynomial). eval p.coeffs zeroₚ) polys i (poly []) zeroₚ (omega (arith, lt, honest.enough.count))))

  module _ (new : Held) (begun : HasBegun now down lanes new) where
    fine_later : (j : ℕ) → 1 ≤ j → j ≤ now.n → c.good j ≡ true → fine_at others (share_of now new) j ≡ true
    fine_later j from to is_good =
        counts_fine others j (share_of now new j) (share_with now j (lanes j)) (begun_share now down lanes new is begun j from to (five j) (c.up j from to is_good))
        (λ lane lt. (carried lane lt).values j from to is_good)

    pub begun_stays : KeyStays name before polys old new
    begun_stays = record {
      was = honest;
      now = now;
      others = others;
      is = record {
        now_is = begun_now now down lanes new is begun name named;
        enough = record {
          count = refl;
          short = λ lane lt. (carried lane lt).short;
          enough = omega (arith, c.many, fine_many others (share_of now new) now.n, how_many_more now.n c.good (fine_at others (share_of now new)) fine_later);
        };
      };
      same = same_key;
    }

  -- ---- after any part of the changes
  pub part_stays : (changes : List Change) (count : ℕ) → before.name ≡ name → GoesOn before now down lanes changes old → KeyStays name before polys old (after (take count changes) old)
  part_stays changes count was goes =
      elim (cases_lt goes.place count) [
        | inl lt ↦ begun_stays (after (take count changes) old) (goes.late count lt)
        | inr le ↦ left_stays name before old (after (take count changes) old) polys was honest (goes.early count le)
      ]
