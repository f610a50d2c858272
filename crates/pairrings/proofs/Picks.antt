-- What is read of one element of a list, before and after it was set.
use Rattle.std.proofs.Common.{◌≡◌, ◌≢◌, ℕ, zero, suc, ◌<◌, List, [], ◌∷◌, ◌++◌, ◌+◌, length, length-append, get_or, set, map, sym, refl, ap, arith, ◌∙◌, subst, take, drop, drop_of_length-le, append-nil, ◌≤◌}
use Rattle.std.proofs.lemmas.List.{get_or-map, take_all}
use Rattle.std.proofs.Math.Seq.{map-set_same}

pub pick_here : {A T : Type 0} (f : A → T) (d : T) (xs : List A) (k : ℕ) (x : A) → k < length xs → x ≡ get_or xs k x → get_or (map f xs) k d ≡ f x
pick_here f d xs k x h e = get_or-map f xs k x d h ∙ ap f (sym e)

pub pick_set : {A T : Type 0} (f : A → T) (d : T) (xs : List A) (k : ℕ) (x : A) → k < length xs → get_or (map f (set xs k x)) k d ≡ f x
pick_set f d [] k x h = absurd (omega arith)
pick_set f d (y ∷ ys) zero x h = refl
pick_set f d (y ∷ ys) (suc k) x h = pick_set f d ys k x (omega arith)

pub pick_other : {A T : Type 0} (f : A → T) (d : T) (xs : List A) (k j : ℕ) (x : A) → j ≢ k → get_or (map f (set xs k x)) j d ≡ get_or (map f xs) j d
pick_other f d [] k j x n = refl
pick_other f d (y ∷ ys) zero zero x n = absurd (n refl)
pick_other f d (y ∷ ys) zero (suc j) x n = refl
pick_other f d (y ∷ ys) (suc k) zero x n = refl
pick_other f d (y ∷ ys) (suc k) (suc j) x n = pick_other f d ys k j x (λ e. n (ap suc e))

-- f can't tell the new element from the old one
pub pick_same : {A T : Type 0} (f : A → T) (d : T) (xs : List A) (k j : ℕ) (x new : A) → x ≡ get_or xs k x → f new ≡ f x → get_or (map f (set xs k new)) j d ≡ get_or (map f xs) j d
pick_same f d xs k j x new is e = ap (λ ys. get_or ys j d) (map-set_same f xs k new x (e ∙ ap f is))

-- a relation that holds of the changed element, and of each element and itself, holds place by place
pub set_each : {A : Type 0} (R : A → A → Type 0) → ((x : A) → R x x) → (xs : List A) (k : ℕ) (x new : A) → x ≡ get_or xs k x → R x new →
    (j : ℕ) (d : A) → R (get_or xs j d) (get_or (set xs k new) j d)
set_each R r [] k x new is h j d = r d
set_each R r (y ∷ ys) zero x new is h zero d = subst (λ z. R z new) is h
set_each R r (y ∷ ys) zero x new is h (suc j) d = r (get_or ys j d)
set_each R r (y ∷ ys) (suc k) x new is h zero d = r y
set_each R r (y ∷ ys) (suc k) x new is h (suc j) d = set_each R r ys k x new is h j d

pub length_more : {A : Type 0} (xs : List A) (x : A) → length (xs ++ x ∷ []) ≡ length xs + 1
length_more xs x = omega (arith, length-append xs (x ∷ []))

-- what a slice of a whole list was changed to, written back
pub written_back : {A : Type 0} (n : ℕ) (new old : List A) → n ≡ length old → length new ≡ length old → take n (new ++ drop (length new) old) ≡ new
written_back n new old e f =
    ap (λ l. take n (new ++ l)) (drop_of_length-le old (omega (arith, f))) ∙ ap (take n) (append-nil new) ∙ take_all n new (omega (arith, e, f))
