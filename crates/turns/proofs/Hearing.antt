-- Lists of messages that are read alike.
use Rattle.std.proofs.Common.{◌≡◌, ◌≢◌, ◌⊎◌, inl, inr, ℕ, zero, suc, ◌+◌, ◌*◌, ◌-◌, ◌<◌, ◌≤◌, Bool, true, false, not, ◌&&◌, cond, eqb, List, [], ◌∷◌, ◌++◌, length, get_or, map, refl, sym, ap, ap₂, ◌∙◌, subst, arith}
use Rattle.std.proofs.lemmas.Bool.{eq-eqb}
use Rattle.algebra61.specs.Field.{Fp}
use Rattle.talk.specs.declared.messages.Post.{Post}
use Rattle.talk.specs.declared.messages.Post.TheVariants.{Quiet}
use Rattle.talk.specs.declared.messages.Ring.{Ring}
use Rattle.talk.specs.declared.messages.Ring.TheVariants.{Nothing, Dealt, Cross}
use Rattle.talk.specs.declared.messages.Say.{Say}
use Rattle.talk.specs.declared.messages.Say.TheVariants.{Speak, Pass, PassThenSpeak}
use Rattle.talk.specs.Shape.{Shape, instances, deals, receives}
use Rattle.talk.specs.Read.{as_read, ring_as_read, ring_ok, posts_read, rings_read}
use Rattle.talk.specs.Sync.{Ways, has, post_in, ring_in, posts_heard, rings_heard, heard_at, after_hears, MaySay, said_when, Allowed}
use Rattle.turns.specs.Turns.{tabulate, counted, AbsentIfPass, PresentIfSpeak}

read_cond : (s : Shape) (r k : ℕ) (b : Bool) (p : Post) → as_read s r k (cond b p Quiet) ≡ cond b (as_read s r k p) Quiet
read_cond s r k true p = refl
read_cond s r k false p = refl

pub posts_same : (s : Shape) (r m seat n : ℕ) (ps : List Post) (ws : ℕ → Say) → length ps ≡ n →
    ((i : ℕ) → i < n → get_or ps i Quiet ≡ cond (has m (seat + i)) (post_in (ws (seat + i))) Quiet) →
    posts_read s r seat ps ≡ posts_heard s r m seat (tabulate seat n ws)
posts_same s r m seat zero [] ws e h = refl
posts_same s r m seat zero (p ∷ ps) ws e h = absurd (omega (arith, e))
posts_same s r m seat (suc n) [] ws e h = absurd (omega (arith, e))
posts_same s r m seat (suc n) (p ∷ ps) ws e h =
    let z : seat + 0 ≡ seat = omega arith in
    let head : p ≡ cond (has m seat) (post_in (ws seat)) Quiet = h 0 (omega arith) ∙ ap (λ x. cond (has m x) (post_in (ws x)) Quiet) z in
    ap₂ (λ (a : Post) (b : List Post). a ∷ b)
    (ap (as_read s r seat) head ∙ read_cond s r seat (has m seat) (post_in (ws seat)))
    (posts_same s r m (seat + 1) n ps ws (omega (arith, e))
    (λ i lt.
    let next : seat + suc i ≡ (seat + 1) + i = omega arith in
    h (suc i) (omega (arith, lt)) ∙ ap (λ x. cond (has m x) (post_in (ws x)) Quiet) next))

pub rings_same : (s : Shape) (r m to seat n : ℕ) (rs : List Ring) (ws : ℕ → Say) → length rs ≡ n →
    ((i : ℕ) → i < n → ring_as_read s r (seat + i) to (get_or rs i Nothing) ≡ cond (has m (seat + i)) (ring_as_read s r (seat + i) to (ring_in to (ws (seat + i)))) Nothing) →
    rings_read s r to seat rs ≡ rings_heard s r m to seat (tabulate seat n ws)
rings_same s r m to seat zero [] ws e h = refl
rings_same s r m to seat zero (p ∷ ps) ws e h = absurd (omega (arith, e))
rings_same s r m to seat (suc n) [] ws e h = absurd (omega (arith, e))
rings_same s r m to seat (suc n) (p ∷ ps) ws e h =
    let z : seat + 0 ≡ seat = omega arith in
    let head : ring_as_read s r seat to p ≡ cond (has m seat) (ring_as_read s r seat to (ring_in to (ws seat))) Nothing =
    subst (λ (x : ℕ). ring_as_read s r x to p ≡ cond (has m x) (ring_as_read s r x to (ring_in to (ws x))) Nothing) z (h 0 (omega arith)) in
    ap₂ (λ (a : Ring) (b : List Ring). a ∷ b) head
    (rings_same s r m to (seat + 1) n ps ws (omega (arith, e))
    (λ i lt.
    let next : seat + suc i ≡ (seat + 1) + i = omega arith in
    subst (λ (x : ℕ). ring_as_read s r x to (get_or ps i Nothing) ≡ cond (has m x) (ring_as_read s r x to (ring_in to (ws x))) Nothing) next (h (suc i) (omega (arith, lt)))))

-- what a seat sends to itself is read as nothing
and_off : (a b : Bool) → b ≡ false → (a && b) ≡ false
and_off true b e = e
and_off false b e = refl

not_same : (k : ℕ) → not (eqb k k) ≡ false
not_same k = ap not (eq-eqb k k refl)

off_here : (b c : Bool) → b ≡ false → (b && c) ≡ false
off_here true c e = absurd (cc (e))
off_here false c e = refl

off : (a b c d : Bool) (k : ℕ) → (a && (b && (c && (not (eqb k k) && d)))) ≡ false
off a b c d k = and_off a (b && (c && (not (eqb k k) && d))) (and_off b (c && (not (eqb k k) && d)) (and_off c (not (eqb k k) && d) (off_here (not (eqb k k)) d (not_same k))))

pub own_nothing : (s : Shape) (r k : ℕ) (x : Ring) → ring_as_read s r k k x ≡ Nothing
own_nothing s r k Nothing = refl
own_nothing s r k (Dealt xs) =
    ap (λ b. cond b (Dealt xs) Nothing) (off (eqb r 1) (deals s k) (receives s k) (eqb (length xs) (10 * (s.degree + 1))) k)
own_nothing s r k (Cross xs) =
    ap (λ b. cond b (Cross xs) Nothing) (off (eqb r 2) (receives s k) (receives s k) (eqb (length xs) (2 * instances s)) k)

-- ---- lists made by seat
pub map_tabulate : {A B : Type 0} (f : A → B) (seat n : ℕ) (g : ℕ → A) → map f (tabulate seat n g) ≡ tabulate seat n (λ k. f (g k))
map_tabulate f seat zero g = refl
map_tabulate f seat (suc n) g = ap (λ xs. f (g seat) ∷ xs) (map_tabulate f (seat + 1) n g)

pub tabulate_same : {A : Type 0} (seat n : ℕ) (f g : ℕ → A) → ((k : ℕ) → seat ≤ k → k < seat + n → f k ≡ g k) → tabulate seat n f ≡ tabulate seat n g
tabulate_same seat zero f g h = refl
tabulate_same seat (suc n) f g h =
    let e : f seat ≡ g seat = h seat (omega arith) (omega arith) in
    let rest : tabulate (seat + 1) n f ≡ tabulate (seat + 1) n g = tabulate_same (seat + 1) n f g (λ k lo hi. h k (omega (arith, lo)) (omega (arith, hi))) in
    cc (e, rest)

-- the words may be said under the mask
pub may_say : (cut before now : Bool) (word : Say) → AbsentIfPass now (counted (not before) word) → PresentIfSpeak cut now (counted (not before) word) → MaySay before now (said_when cut word)
may_say true true now (Speak p rs) t h = λ _. refl
may_say false true now (Speak p rs) t h = h refl
may_say true true now Pass t h = t
may_say false true now Pass t h = t
may_say true true now (PassThenSpeak p rs) t h = λ _. refl
may_say false true now (PassThenSpeak p rs) t h = λ _. refl
may_say true false now (Speak p rs) t h = λ e. absurd (cc (e, t))
may_say false false now (Speak p rs) t h = t
may_say true false now Pass t h = t
may_say false false now Pass t h = t
may_say true false now (PassThenSpeak p rs) t h = λ e. absurd (cc (e, t))
may_say false false now (PassThenSpeak p rs) t h = λ e. absurd (cc (e, t))

pub allowed_tabulate : (before m cut seat n : ℕ) (ws : ℕ → Say) → ((k : ℕ) → seat ≤ k → k < seat + n → MaySay (has before k) (has m k) (said_when (has cut k) (ws k))) → Allowed before m cut seat (tabulate seat n ws)
allowed_tabulate before m cut seat zero ws h = tt
allowed_tabulate before m cut seat (suc n) ws h =
    (h seat (omega arith) (omega arith), allowed_tabulate before m cut (seat + 1) n ws (λ k lo hi. h k (omega (arith, lo)) (omega (arith, hi))))

module _ {M : Type 0} (w : Ways M) (s : Shape) (r m : ℕ) (words : List Say) where
  pub hears_tabulate : (seat n : ℕ) (f : ℕ → M) → after_hears w s r m words seat (tabulate seat n f) ≡ tabulate seat n (λ k. w.after_hear (f k) r (heard_at s r m words k))
  hears_tabulate seat zero f = refl
  hears_tabulate seat (suc n) f = ap (λ xs. w.after_hear (f seat) r (heard_at s r m words seat) ∷ xs) (hears_tabulate (seat + 1) n f)
