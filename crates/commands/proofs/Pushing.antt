-- One more change, or one more grid, in a loop over the indexes from 1.
use Rattle.std.proofs.Common.{◌≡◌, ℕ, ◌+◌, ◌-◌, ◌≤◌, List, [], ◌∷◌, ◌++◌, map, refl, sym, ap, ◌∙◌, arith, append_assoc, subst, Option}
use Rattle.std.specs.List.{range_with_len}
use Rattle.std.proofs.lemmas.List.FromFn.{map-range_with_len_more}
use Rattle.std.proofs.lemmas.List.{map-append}
use Rattle.algebra61.specs.Field.{Fp}
use Rattle.shelf.specs.Held as shelf
use Rattle.sharefile.specs.Files.{Now, now_bytes}
use Rattle.keyroom.specs.Names.{now_name}
use Rattle.commands.specs.Period.{removals}
use Rattle.commands.specs.Phase.{puts_of, period_with}
use Rattle.keyroom.specs.declared.plan.Change.{Change}
use Rattle.keyroom.specs.Changes.{change_of, changes_of}
use Rattle.keyroom.specs.Outcome.{done_with}

module _ {X : Type 0} (f : ℕ → X) where
  pub pushed_more : (first old new : List X) (index : ℕ) → 1 ≤ index → old ≡ first ++ map f (range_with_len 1 (index - 1)) → new ≡ old ++ f index ∷ [] → new ≡ first ++ map f (range_with_len 1 (index + 1 - 1))
  pushed_more first old new index low so_far pushed =
      let more : index + 1 - 1 ≡ index - 1 + 1 = omega (arith, low) in
      pushed ∙ ap (λ (xs : List X). xs ++ f index ∷ []) so_far ∙ append_assoc first (map f (range_with_len 1 (index - 1))) (f index ∷ [])
      ∙ ap (λ (xs : List X). first ++ xs) (sym (map-range_with_len_more f 1 (index - 1) index (omega (arith, low))) ∙ ap (λ n. map f (range_with_len 1 n)) (sym more))

  pub pushed_all : (first new : List X) (index n : ℕ) → index ≡ n + 1 → new ≡ first ++ map f (range_with_len 1 (index - 1)) → new ≡ first ++ map f (range_with_len 1 n)
  pushed_all first new index n e so_far = let at : index - 1 ≡ n = omega (arith, e) in subst (λ k. new ≡ first ++ map f (range_with_len 1 k)) at so_far

-- one more change in a list of changes
pub pushed_one : (changes new : List Change) (change : Change) (c : shelf.Change) → new ≡ changes ++ change ∷ [] → change_of change ≡ c → changes_of new ≡ changes_of changes ++ c ∷ []
pushed_one changes new change c pushed is = ap changes_of pushed ∙ map-append change_of changes (change ∷ []) ∙ ap (λ (x : shelf.Change). changes_of changes ++ x ∷ []) is

pub put_same : (n m b d : List ℕ) → n ≡ m → b ≡ d → shelf.Put n b ≡ shelf.Put m d
put_same n m b d e f = rw (e, f) refl

pub done_same : (n : ℕ) (a b : List shelf.Change) (t s : List ℕ) → a ≡ b → t ≡ s → done_with n a t ≡ done_with n b s
done_same n a b t s e f = rw (e, f) refl

-- three lists of changes, one behind the other
pub pushed_three : {X : Type 0} (old a b new x y z : List X) → a ≡ old ++ x → b ≡ a ++ y → new ≡ b ++ z → new ≡ old ++ (x ++ (y ++ z))
pushed_three {X} old a b new x y z e f g =
    g ∙ ap (λ (xs : List X). xs ++ z) (f ∙ ap (λ (xs : List X). xs ++ y) e ∙ append_assoc old x y) ∙ append_assoc old (x ++ y) z ∙ ap (λ (xs : List X). old ++ xs) (append_assoc x y z)

-- what makes a period, where the removals name an equal now file
pub pushed_period : (old a b new : List shelf.Change) (inside now : Now) (shares : List (Option (List Fp))) → inside ≡ now →
    a ≡ old ++ removals inside.name inside.period → b ≡ a ++ puts_of now 1 shares → new ≡ b ++ shelf.Put (now_name now.name) (now_bytes now) ∷ [] → new ≡ old ++ period_with now shares
pushed_period old a b new inside now shares is e f g =
    pushed_three old a b new (removals now.name now.period) (puts_of now 1 shares) (shelf.Put (now_name now.name) (now_bytes now) ∷ []) (subst (λ (x : Now). a ≡ old ++ removals x.name x.period) is e) f g
