-- One seat more was taken in.
use Rattle.std.proofs.Common.{◌≡◌, ◌≢◌, ◌⊎◌, inl, inr, ℕ, zero, suc, ◌+◌, ◌*◌, ◌-◌, ◌<◌, ◌≤◌, true, false, List, [], ◌∷◌, ◌++◌, length, get_or, Some, refl, sym, ap, ap₂, ◌∙◌, subst, arith, length-append}
use Rattle.std.proofs.lemmas.Bool.{cases_eq}
use Rattle.std.proofs.lemmas.List.{get_or_append_left, get_or-append_right}
use Rattle.std.proofs.Math.Seq.{get_or-append_seam}
use Rattle.talk.specs.declared.messages.Post.{Post}
use Rattle.talk.specs.declared.messages.Post.TheVariants.{Quiet}
use Rattle.talk.specs.declared.messages.Ring.{Ring}
use Rattle.talk.specs.declared.messages.Ring.TheVariants.{Nothing}
use Rattle.talk.specs.Shape.{Shape}
use Rattle.talk.specs.Read.{as_read, ring_as_read, posts_read, rings_read}
use Rattle.talk.specs.Sync.{has}
use Rattle.roundboard.specs.declared.cells.Cells.{Cells}
use Rattle.roundboard.specs.Cells.{knows}
use Rattle.roundboard.specs.Pens.{cell_of}
use Rattle.talk.specs.Read.{posts_read, rings_read}
use Rattle.party_crew.specs.Logs.{OnlyLearns}
use Rattle.party_crew.specs.Taken.{OnePost, PostsTaken, OneRing, RingsTaken}

posts_read_snoc : (s : Shape) (r seat : ℕ) (xs : List Post) (x : Post) → posts_read s r seat (xs ++ x ∷ []) ≡ posts_read s r seat xs ++ as_read s r (seat + length xs) x ∷ []
posts_read_snoc s r seat [] x = let z : seat ≡ seat + 0 = omega arith in ap (λ k. as_read s r k x ∷ []) z
posts_read_snoc s r seat (y ∷ ys) x =
    let z : (seat + 1) + length ys ≡ seat + suc (length ys) = omega arith in
    ap (λ ps. as_read s r seat y ∷ ps) (posts_read_snoc s r (seat + 1) ys x ∙ ap (λ k. posts_read s r (seat + 1) ys ++ as_read s r k x ∷ []) z)

rings_read_snoc : (s : Shape) (r to seat : ℕ) (xs : List Ring) (x : Ring) → rings_read s r to seat (xs ++ x ∷ []) ≡ rings_read s r to seat xs ++ ring_as_read s r (seat + length xs) to x ∷ []
rings_read_snoc s r to seat [] x = let z : seat ≡ seat + 0 = omega arith in ap (λ k. ring_as_read s r k to x ∷ []) z
rings_read_snoc s r to seat (y ∷ ys) x =
    let z : (seat + 1) + length ys ≡ seat + suc (length ys) = omega arith in
    ap (λ ps. ring_as_read s r seat to y ∷ ps) (rings_read_snoc s r to (seat + 1) ys x ∙ ap (λ k. rings_read s r to (seat + 1) ys ++ ring_as_read s r k to x ∷ []) z)

-- the k-th of a list that is longer by one
last_or : {A : Type 0} (xs : List A) (x d : A) (k n : ℕ) → length xs ≡ n → 1 ≤ k → k ≤ n + 1 → ((k ≤ n) × (get_or (xs ++ x ∷ []) (k - 1) d ≡ get_or xs (k - 1) d)) ⊎ ((k ≡ n + 1) × (get_or (xs ++ x ∷ []) (k - 1) d ≡ x))
last_or xs x d k n e lo hi = elim (cases_eq k (n + 1)) [
  | inl is ↦ let z : k - 1 ≡ length xs = omega (arith, is, e) in inr (is, ap (λ j. get_or (xs ++ x ∷ []) j d) z ∙ get_or-append_seam xs x [] d)
  | inr ne ↦ inl (omega (arith, ne, hi), get_or_append_left xs (x ∷ []) d (k - 1) (omega (arith, ne, hi, lo, e)))
]

pub posts_none : (s : Shape) (seats round mask : ℕ) (cells : Cells Post) → PostsTaken s seats round mask 0 cells [] []
posts_none s seats round mask cells = record { all = refl; is = refl; known = λ k lo hi. absurd (omega (arith, lo, hi)); absent = λ k lo hi. absurd (omega (arith, lo, hi)) }

pub posts_more : (s : Shape) (seats round mask n : ℕ) (old new : Cells Post) (raw ps : List Post) (x p : Post) →
    PostsTaken s seats round mask n old raw ps → OnlyLearns old new → OnePost s seats round mask (n + 1) new x p → PostsTaken s seats round mask (n + 1) new (raw ++ x ∷ []) (ps ++ p ∷ [])
posts_more s seats round mask n old new raw ps x p t l o =
    let all : length raw ≡ n = t.all in
    let z : 1 + length raw ≡ n + 1 = omega (arith, all) in
    record {
      all = length-append raw (x ∷ []) ∙ omega (arith, all);
      is = ap₂ (λ (a : List Post) (b : Post). a ++ b ∷ []) t.is (o.is ∙ ap (λ k. as_read s round k x) (sym z)) ∙ sym (posts_read_snoc s round 1 raw x);
      known = λ k lo hi h. elim (last_or raw x Quiet k n all lo hi) [
        | inl q ↦ l (cell_of seats (round - 1) (k - 1)) (get_or raw (k - 1) Quiet) (t.known k lo q.0 h) ∙ ap Some (sym q.1)
        | inr q ↦ ap (λ j. knows new (cell_of seats (round - 1) (j - 1))) q.0 ∙ o.known (ap (has mask) (sym q.0) ∙ h) ∙ ap Some (sym q.1)
      ];
      absent = λ k lo hi h. elim (last_or raw x Quiet k n all lo hi) [
        | inl q ↦ q.1 ∙ t.absent k lo q.0 h
        | inr q ↦ q.1 ∙ o.absent (ap (has mask) (sym q.0) ∙ h)
      ];
    }

pub rings_none : (s : Shape) (round mask me : ℕ) (old : ℕ → List Ring) → RingsTaken s round mask me 0 old old [] []
rings_none s round mask me old = record {
  all = refl;
  is = refl;
  got = λ k lo hi. absurd (omega (arith, lo, hi));
  none = λ k lo hi. absurd (omega (arith, lo, hi));
  own = λ lo hi. absurd (omega (arith, lo, hi));
  later = λ k le. refl;
}

pub rings_more : (s : Shape) (round mask me n : ℕ) (first old new : ℕ → List Ring) (raw rs : List Ring) (x r : Ring) →
    RingsTaken s round mask me n first old raw rs → ((k : ℕ) → k ≢ (n + 1) - 1 → new k ≡ old k) → OneRing s round mask me (n + 1) (old ((n + 1) - 1)) (new ((n + 1) - 1)) x r →
    RingsTaken s round mask me (n + 1) first new (raw ++ x ∷ []) (rs ++ r ∷ [])
rings_more s round mask me n first old new raw rs x r t same o =
    let all : length raw ≡ n = t.all in
    let z : 1 + length raw ≡ n + 1 = omega (arith, all) in
    let m : (n + 1) - 1 ≡ n = omega arith in
    let before : old ((n + 1) - 1) ≡ first ((n + 1) - 1) = t.later ((n + 1) - 1) (omega arith) in
    record {
      all = length-append raw (x ∷ []) ∙ omega (arith, all);
      is = ap₂ (λ (a : List Ring) (b : Ring). a ++ b ∷ []) t.is (o.is ∙ ap (λ k. ring_as_read s round k me x) (sym z)) ∙ sym (rings_read_snoc s round me 1 raw x);
      got = λ k lo hi ne h. elim (last_or raw x Nothing k n all lo hi) [
        | inl q ↦ same (k - 1) (omega (arith, q.0, lo)) ∙ t.got k lo q.0 ne h ∙ ap (λ y. first (k - 1) ++ y ∷ []) (sym q.1)
        | inr q ↦
            ap (λ j. new (j - 1)) q.0 ∙ o.got (λ e. ne (q.0 ∙ e)) (ap (has mask) (sym q.0) ∙ h)
            ∙ ap₂ (λ (a : List Ring) (b : Ring). a ++ b ∷ []) (before ∙ ap (λ j. first (j - 1)) (sym q.0)) (sym q.1)
      ];
      none = λ k lo hi h. elim (last_or raw x Nothing k n all lo hi) [
        | inl q ↦ (q.1 ∙ (t.none k lo q.0 h).0, same (k - 1) (omega (arith, q.0, lo)) ∙ (t.none k lo q.0 h).1)
        | inr q ↦
            let here = o.none (ap (has mask) (sym q.0) ∙ h) in
            (q.1 ∙ here.0, ap (λ j. new (j - 1)) q.0 ∙ here.1 ∙ before ∙ ap (λ j. first (j - 1)) (sym q.0))
      ];
      own = λ lo hi. elim (last_or raw x Nothing me n all lo hi) [
        | inl q ↦ q.1 ∙ t.own lo q.0
        | inr q ↦ q.1 ∙ o.own (sym q.0)
      ];
      later = λ k le. same k (omega (arith, le)) ∙ t.later k (omega (arith, le));
    }
