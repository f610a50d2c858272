-- The walks over the members of a drawn phase: the seeds that are listed, and the grids that are dealt.
use Rattle.std.proofs.Common.{◌≡◌, ℕ, ◌+◌, ◌-◌, ◌≤◌, Bool, true, false, cond, List, [], ◌∷◌, ◌++◌, length, map, drop, get_or, Option, Some, None, refl, sym, ap, ap₂, ◌∙◌, arith, append-nil}
use Rattle.std.specs.Prelude.{count_by}
use Rattle.std.specs.Option.{is_some}
use Rattle.std.specs.List.{filter, range_with_len}
use Rattle.std.proofs.lemmas.List.{map-append, drop_all}
use Rattle.std.proofs.lemmas.List.Sums.{sum_by-cons}
use Rattle.algebra61.specs.Field.{Fp}
use Rattle.chance61.specs.Draws.{grids_drawn, grids_drawn_with}
use Rattle.drillbook.specs.declared.order.Order.{Order}
use Rattle.sharefile.specs.Files.{Now}
use Rattle.keyroom.specs.declared.steps.Found.{Found}
use Rattle.keyroom.specs.Sound.{is_valid}
use Rattle.commands.specs.Move.{dealt_shares}
use Rattle.commands.proofs.Outs.{in_more, out_more}
use Rattle.scenes.specs.Scenes.{is_drilled}
use Rattle.rehearsal_laws.specs.Standing.{file_with, files_with}

-- ---- a list of what is made of some numbers
-- one number more that is chosen
pub chosen_step : {A : Type 0} (f : ℕ → A) (p : ℕ → Bool) (old new : List A) (k : ℕ) (x : A) → 1 ≤ k → old ≡ map f (filter p (range_with_len 1 (k - 1))) → p k ≡ true → x ≡ f k → new ≡ old ++ x ∷ [] →
    new ≡ map f (filter p (range_with_len 1 (k + 1 - 1)))
chosen_step {A} f p old new k x from so_far chosen is pushed =
    pushed ∙ ap₂ (λ (xs : List A) (y : A). xs ++ y ∷ []) so_far is
    ∙ sym (map-append f (filter p (range_with_len 1 (k - 1))) (k ∷ []))
    ∙ ap (map f) (in_more p (filter p (range_with_len 1 (k - 1))) (filter p (range_with_len 1 (k - 1)) ++ k ∷ []) k from refl chosen refl)

-- and one that isn't
pub passed_step : {A : Type 0} (f : ℕ → A) (p : ℕ → Bool) (old : List A) (k : ℕ) → 1 ≤ k → old ≡ map f (filter p (range_with_len 1 (k - 1))) → p k ≡ false → old ≡ map f (filter p (range_with_len 1 (k + 1 - 1)))
passed_step f p old k from so_far passed = so_far ∙ ap (map f) (out_more p (filter p (range_with_len 1 (k - 1))) k from refl passed)

-- ---- what the members deal
-- five grids of a degree, drawn from the seed
abbrev pub fresh : ℕ → ℕ → List Fp → List ℕ → List (List (List Fp))
fresh degree member lanes seed = grids_drawn degree seed

-- those of shares that are handed on, as the orders have them
abbrev pub handed : List Order → ℕ → ℕ → List Fp → List ℕ → List (List (List Fp))
handed orders degree member lanes seed = grids_drawn_with degree (dealt_shares orders member lanes) seed

module _ {A : Type 0} where
  -- what the members from one on deal, by index, but for the drilled one
  abbrev pub up_ones : Option ℕ → ℕ → List (List A) → List A
  up_ones drilled member [] = []
  up_ones drilled member (own ∷ rest) = cond (is_drilled drilled member) [] own ++ up_ones drilled (member + 1) rest

  -- what each of them deals: with shares what `take` makes of its index, its shares and the next seed, and nothing without
  abbrev pub dealt : (ℕ → List Fp → List ℕ → List A) → ℕ → List (Option (List Fp)) → List (List ℕ) → List (List A)
  dealt take member [] seeds = []
  dealt take member (None ∷ shares) seeds = [] ∷ dealt take (member + 1) shares seeds
  dealt take member (Some lanes ∷ shares) seeds = take member lanes (get_or seeds 0 []) ∷ dealt take (member + 1) shares (drop 1 seeds)

  -- a walk that has come to the end of a list, where `left` is what is left to deal
  pub walk_end : {X : Type 0} (left : List X → List A) (xs : List X) (place : ℕ) (old whole : List A) → left [] ≡ [] → length xs ≤ place → old ++ left (drop place xs) ≡ whole → old ≡ whole
  walk_end left xs place old whole none le so_far =
      sym (append-nil old)
      ∙ ap (λ (rest : List A). old ++ rest) (sym none ∙ ap left (sym (drop_all place xs le)))
      ∙ so_far

-- ---- the seeds that are taken
-- one for each member with shares, as for each valid share file
one_more : (now : Now) (member : ℕ) (share : Option (List Fp)) → is_valid (file_with now member share) ≡ is_some share
one_more now member None = refl
one_more now member (Some lanes) = refl

abbrev one : Bool → ℕ
one b = cond b 1 0

pub files_count : (now : Now) (member : ℕ) (shares : List (Option (List Fp))) → count_by is_valid (files_with now member shares) ≡ count_by is_some shares
files_count now member [] = refl
files_count now member (share ∷ shares) =
    omega (
      arith,
      sum_by-cons (λ (f : Found). one (is_valid f)) (file_with now member share) (files_with now (member + 1) shares),
      sum_by-cons (λ (s : Option (List Fp)). one (is_some s)) share shares,
      ap one (one_more now member share),
      files_count now (member + 1) shares,
    )
