-- What the members take part with, by their share files, and how many seeds are taken for it.
use Rattle.std.proofs.Common.{◌≡◌, ℕ, zero, suc, ◌+◌, ◌-◌, ◌≤◌, Bool, true, false, cond, not, ◌||◌, List, [], ◌∷◌, length, get_or, drop, Option, Some, None, refl, ap, arith}
use Rattle.std.specs.Prelude.{count_by}
use Rattle.std.proofs.lemmas.List.Sums.{sum_by-cons}
use Rattle.algebra61.specs.Field.{Fp}
use Rattle.drillbook.specs.Orders.{names}
use Rattle.sharefile.specs.Files.{Share}
use Rattle.keyroom.specs.declared.steps.Found.{Found}
use Rattle.keyroom.specs.declared.steps.Found.TheVariants.{Absent, Invalid, Valid}
use Rattle.keyroom.specs.Sound.{is_valid}
use Rattle.commands.specs.Standing.{Standing, down_in, seeds_for, Holding, holdings, holding_or_none}
use Rattle.commands.specs.Phase.{IsReady}
use Rattle.commands.proofs.Committees.{largest}

module _ (take : ℕ → List Fp → List ℕ → Holding) where
  pub length-holdings : (index : ℕ) (files : List Found) (seeds : List (List ℕ)) → length (holdings take index files seeds) ≡ length files
  length-holdings index [] seeds = refl
  length-holdings index (Absent ∷ files) seeds = ap suc (length-holdings (index + 1) files seeds)
  length-holdings index (Invalid ∷ files) seeds = ap suc (length-holdings (index + 1) files seeds)
  length-holdings index (Valid file ∷ files) seeds = ap suc (length-holdings (index + 1) files (drop 1 seeds))

  -- what holds of nothing and of each member's part holds on each place
  pub each_holding : (P : Holding → Type 0) → P (holding_or_none None) → ((index : ℕ) (lanes : List Fp) (seed : List ℕ) → P (take index lanes seed)) →
      (index : ℕ) (files : List Found) (seeds : List (List ℕ)) (place : ℕ) → P (holding_or_none (get_or (holdings take index files seeds) place None))
  each_holding P none each index [] seeds place = none
  each_holding P none each index (Absent ∷ files) seeds zero = none
  each_holding P none each index (Absent ∷ files) seeds (suc place) = each_holding P none each (index + 1) files seeds place
  each_holding P none each index (Invalid ∷ files) seeds zero = none
  each_holding P none each index (Invalid ∷ files) seeds (suc place) = each_holding P none each (index + 1) files seeds place
  each_holding P none each index (Valid file ∷ files) seeds zero = each index file.lanes (get_or seeds 0 [])
  each_holding P none each index (Valid file ∷ files) seeds (suc place) = each_holding P none each (index + 1) files (drop 1 seeds) place

  -- with a valid share file a member takes part, with what is made of its index, its shares and a seed
  pub record Takes (member : ℕ) (file : Found) (holding : Option Holding) : Type 0 where
    pub share : Share
    pub file_is : file ≡ Valid share
    pub seed : List ℕ
    pub is : holding ≡ Some (take member share.lanes seed)

  first_takes : (index member : ℕ) (file : Share) (seed : List ℕ) → index ≡ member → Takes member (Valid file) (Some (take index file.lanes seed))
  first_takes index member file seed same =
      record { share = file; file_is = refl; seed = seed; is = ap (λ (k : ℕ). let h : Option Holding = Some (take k file.lanes seed) in h) same }

  pub takes_part : (index : ℕ) (files : List Found) (seeds : List (List ℕ)) (place member : ℕ) → member ≡ index + place → is_valid (get_or files place Absent) ≡ true →
      Takes member (get_or files place Absent) (get_or (holdings take index files seeds) place None)
  takes_part index [] seeds place member at valid = absurd cc
  takes_part index (Absent ∷ files) seeds zero member at valid = absurd cc
  takes_part index (Absent ∷ files) seeds (suc place) member at valid = takes_part (index + 1) files seeds place member (omega (arith, at)) valid
  takes_part index (Invalid ∷ files) seeds zero member at valid = absurd cc
  takes_part index (Invalid ∷ files) seeds (suc place) member at valid = takes_part (index + 1) files seeds place member (omega (arith, at)) valid
  takes_part index (Valid file ∷ files) seeds zero member at valid = first_takes index member file (get_or seeds 0 []) (omega (arith, at))
  takes_part index (Valid file ∷ files) seeds (suc place) member at valid = takes_part (index + 1) files (drop 1 seeds) place member (omega (arith, at)) valid

-- ---- who isn't down
valid_up : (named valid : Bool) → (named || not valid) ≡ false → (named ≡ false) × (valid ≡ true)
valid_up true valid e = absurd cc
valid_up false true e = (refl, refl)
valid_up false false e = absurd cc

-- it is named by no order, and has a valid share file
pub up_is : (st : Standing) (seat : ℕ) → down_in st seat ≡ false → (names st.orders seat ≡ false) × (is_valid (get_or st.files (seat - 1) Absent) ≡ true)
up_is st seat up = valid_up (names st.orders seat) (is_valid (get_or st.files (seat - 1) Absent)) up

-- ---- seeds
one_at_most : (b : Bool) → cond b 1 0 ≤ 1
one_at_most true = omega arith
one_at_most false = omega arith

count_at_most : (files : List Found) → count_by is_valid files ≤ length files
count_at_most [] = omega arith
count_at_most (file ∷ files) = omega (arith, sum_by-cons (λ f. cond (is_valid f) 1 0) file files, one_at_most (is_valid file), count_at_most files)

-- no more are taken than a committee has members
pub few_seeds : (st : Standing) → IsReady st → seeds_for st ≤ 13
few_seeds st ready = omega (arith, count_at_most st.files, ready.all, largest st.now.n ready.is_now.size)
