-- Changes made one after the other.
use Rattle.std.proofs.Common.{◌≡◌, ℕ, ◌+◌, ◌<◌, ◌≤◌, List, [], ◌∷◌, ◌++◌, length, get_or, take, map, Option, Some, None, Err, refl, sym, ap, ◌∙◌, arith, inl, inr}
use Rattle.std.specs.Option.{option_map}
use Rattle.std.proofs.lemmas.Grind.{take_at_read}
use Rattle.std.proofs.lemmas.List.{map-append, length-map, take-map}
use Rattle.shelf.specs.Held.{Held, Change, after, after_change}
use Rattle.shelf.specs.Causes.{Makes}
use Rattle.shelf.specs.declared.fault.OutsideFault.{OutsideFault}
use Rattle.shelf.specs.declared.fault.OutsideFault.TheVariants.{Failed, OutOfMemory}
use Rattle.keyroom.specs.Answer.{IsPartWay}

after_push : (changes : List Change) (change : Change) (held : Held) → after (changes ++ change ∷ []) held ≡ after_change change (after changes held)
after_push [] change held = refl
after_push (c ∷ changes) change held = after_push changes change (after_change c held)

made_after : (changes : List Change) (change : Change) (old : Option Held) → option_map (after_change change) (option_map (after changes) old) ≡ option_map (after (changes ++ change ∷ [])) old
made_after changes change None = refl
made_after changes change (Some held) = ap Some (sym (after_push changes change held))

module _ {X : Type 0} (f : X → Change) (xs : List X) (i : ℕ) (x : X) (lt : i < length xs) (is : x ≡ get_or xs i x) where
  -- one more change
  one_more : map f (take (i + 1) xs) ≡ map f (take i xs) ++ f x ∷ []
  one_more = ap (map f) ((take_at_read xs i x lt).1 ∙ ap (λ (y : X). take i xs ++ y ∷ []) (sym is)) ∙ map-append f (take i xs) (x ∷ [])

  pub made_more : (old mid new : Option Held) → mid ≡ option_map (after (map f (take i xs))) old → new ≡ option_map (after_change (f x)) mid → new ≡ option_map (after (map f (take (i + 1) xs))) old
  made_more old mid new so_far made = made ∙ ap (option_map (after_change (f x))) so_far ∙ made_after (map f (take i xs)) (f x) old ∙ ap (λ (cs : List Change). option_map (after cs) old) (sym one_more)

  part : (k : ℕ) → k ≤ length xs → (old new : Option Held) → new ≡ option_map (after (map f (take k xs))) old → IsPartWay (map f xs) old new
  part k le old new e = (k, omega (arith, length-map xs f), e ∙ ap (λ (cs : List Change). option_map (after cs) old) (sym (take-map f k xs)))

  -- the change that failed was made or not
  pub part_way : (e : OutsideFault) (old mid new : Option Held) → mid ≡ option_map (after (map f (take i xs))) old → Makes (f x) mid new (Err e) → IsPartWay (map f xs) old new
  part_way Failed old mid new so_far (inl same) = part i (omega arith) old new (same ∙ so_far)
  part_way Failed old mid new so_far (inr made) = part (i + 1) (omega arith) old new (made_more old mid new so_far made)
  part_way OutOfMemory old mid new so_far same = part i (omega arith) old new (same ∙ so_far)
