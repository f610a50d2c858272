-- The board's posts are the words' posts.
use Rattle.std.proofs.Common.{◌≡◌, ◌≢◌, ℕ, zero, suc, ◌+◌, ◌-◌, ◌<◌, ◌≤◌, true, List, [], ◌∷◌, ◌++◌, length, get_or, map, reverse, take, inl, inr, Option, Some, refl, sym, ap, ◌∙◌, subst, arith}
use Rattle.talk.specs.declared.messages.Post.{Post}
use Rattle.talk.specs.declared.messages.Say.{Say}
use Rattle.talk.specs.declared.messages.Say.TheVariants.{Pass}
use Rattle.talk.specs.Shape.{Shape}
use Rattle.talk.specs.Sync.{Ways, has, post_in, words_of, sync}
use Rattle.std.proofs.lemmas.Bool.{cases_eq}
use Rattle.std.proofs.lemmas.List.{reverse-append, length-reverse, get_or_append_left}
use Rattle.std.proofs.Math.Seq.{get_or-append_seam}
use Rattle.turns.proofs.Forward.{sync_forward}
use Rattle.turns.specs.Turns.{Turn, mind_after, counted_after, AbsentWherePassed, masks_of, MembersAgree, tabulate, sync_back, PostsBack, HeldBy}
use Rattle.turns.proofs.Hearing.{map_tabulate}
use Rattle.turns.proofs.Rounds.{head, tail, split, masks_length, said_now, word_now, earlier, same_back}

take_front : {A : Type 0} (xs ys : List A) → take (length xs) (xs ++ ys) ≡ xs
take_front [] ys = refl
take_front (x ∷ xs) ys = ap (λ zs. x ∷ zs) (take_front xs ys)

take_less : {A : Type 0} (xs ys : List A) (n : ℕ) → n ≤ length xs → take n (xs ++ ys) ≡ take n xs
take_less xs ys zero le = refl
take_less [] ys (suc n) le = absurd (omega (arith, le))
take_less (x ∷ xs) ys (suc n) le = ap (λ zs. x ∷ zs) (take_less xs ys n (omega (arith, le)))

pub get_tabulate : {A : Type 0} (d : A) (seat n : ℕ) (f : ℕ → A) (i : ℕ) → i < n → get_or (tabulate seat n f) i d ≡ f (seat + i)
get_tabulate d seat zero f i lt = absurd (omega (arith, lt))
get_tabulate d seat (suc n) f zero lt = let z : seat ≡ seat + 0 = omega arith in ap f z
get_tabulate d seat (suc n) f (suc i) lt = let z : (seat + 1) + i ≡ seat + suc i = omega arith in get_tabulate d (seat + 1) n f i (omega (arith, lt)) ∙ ap f z

module _ {M : Type 0} (w : Ways M) (s : Shape) (n : ℕ) (first : ℕ → M) (held : ℕ → ℕ → Option Post) where
  held_now : (k m r : ℕ) (u : Turn) (older : List Turn) → length older + 1 ≡ r → u.mask ≡ m → has m k ≡ true → AbsentWherePassed w s k (first k) (u ∷ older) → HeldBy w s first held k (u ∷ older) →
      held r k ≡ Some (post_in (w.word (mind_after w s k (first k) older) r))
  held_now k m r u older er eu here timely h =
      let its : has u.mask k ≡ true = ap (λ x. has x k) eu ∙ here in
      ap (λ x. held x k) (sym er) ∙ h.0 its ∙ ap (λ d. Some (post_in d)) (said_now w s n first u k older r er its timely)

  pub posts_back : (masks : List ℕ) (turns : ℕ → List Turn) → MembersAgree w s n first masks turns → ((k : ℕ) → 1 ≤ k → k ≤ n → HeldBy w s first held k (turns k)) → PostsBack w s n held masks (tabulate 1 n first)
  posts_back [] turns a h = tt
  posts_back (m ∷ ms) turns a h =
      let e = earlier w s n first m ms turns a in
      let f : ℕ → M = λ k. mind_after w s k (first k) (tail (turns k)) in
      let now : ℕ = length ms + 1 in (
        posts_back ms (λ k. tail (turns k)) e (λ k lo hi. (subst (λ (ts : List Turn). HeldBy w s first held k ts) (split (turns k) m ms (a.same_masks k lo hi)).0 (h k lo hi)).1),
        λ k lo hi here.
            let p = split (turns k) m ms (a.same_masks k lo hi) in
            let z : 1 + (k - 1) ≡ k = omega (arith, lo) in
            let words : tabulate 1 n (λ j. w.word (f j) now) ≡ words_of w now (sync_back w s ms (tabulate 1 n first)) =
            sym (map_tabulate (λ x. w.word x now) 1 n f) ∙ ap (words_of w now) (same_back w s n first ms (λ j. tail (turns j)) e) in
            held_now k m now (head (turns k)) (tail (turns k)) (ap (λ x. x + 1) (masks_length (tail (turns k)) ms p.2)) p.1 here
            (subst (λ (ts : List Turn). AbsentWherePassed w s k (first k) ts) p.0 (a.absent k lo hi))
            (subst (λ (ts : List Turn). HeldBy w s first held k ts) p.0 (h k lo hi))
            ∙ ap (λ x. Some (post_in x)) (ap (λ j. w.word (f j) now) (sym z) ∙ sym (get_tabulate Pass 1 n (λ j. w.word (f j) now) (k - 1) (omega (arith, lo, hi))) ∙ ap (λ ws. get_or ws (k - 1) Pass) words),
      )

-- ---- in the order of the rounds
module _ {M : Type 0} (w : Ways M) (s : Shape) (n : ℕ) (held : ℕ → ℕ → Option Post) (minds : List M) where
  -- what the seat k said in round r + 1 of the run with these masks
  abbrev pub word_in : List ℕ → ℕ → ℕ → Say
  word_in masks r k = get_or (words_of w (r + 1) (sync w s 1 (take r masks) minds)) (k - 1) Pass

  pub posts_forward : (masks : List ℕ) → PostsBack w s n held masks minds → (r k : ℕ) → r < length masks → 1 ≤ k → k ≤ n → has (get_or (reverse masks) r 0) k ≡ true →
      held (r + 1) k ≡ Some (post_in (word_in (reverse masks) r k))
  posts_forward [] h r k lt lo hi here = absurd (omega (arith, lt))
  posts_forward (m ∷ ms) h r k lt lo hi here =
      let long : length (reverse ms) ≡ length ms = length-reverse ms in
      let all : reverse (m ∷ ms) ≡ reverse ms ++ m ∷ [] = reverse-append (m ∷ []) ms in
      elim (cases_eq r (length ms)) [
        | inl is ↦
            let at : r ≡ length (reverse ms) = is ∙ sym long in
            let mask : get_or (reverse (m ∷ ms)) r 0 ≡ m = ap (λ xs. get_or xs r 0) all ∙ ap (λ i. get_or (reverse ms ++ m ∷ []) i 0) at ∙ get_or-append_seam (reverse ms) m [] 0 in
            let front : take r (reverse (m ∷ ms)) ≡ reverse ms = ap (take r) all ∙ ap (λ i. take i (reverse ms ++ m ∷ [])) at ∙ take_front (reverse ms) (m ∷ []) in
            let before : sync_back w s ms minds ≡ sync w s 1 (take r (reverse (m ∷ ms))) minds = sync_forward w s ms minds ∙ ap (λ xs. sync w s 1 xs minds) (sym front) in
            ap (λ i. held (i + 1) k) is ∙ h.1 k lo hi (ap (λ x. has x k) (sym mask) ∙ here)
            ∙ (λ i. Some (post_in (get_or (words_of w (sym is i + 1) (before i)) (k - 1) Pass)))
        | inr ne ↦
            let less : r < length (reverse ms) = omega (arith, ne, lt, long) in
            let mask : get_or (reverse (m ∷ ms)) r 0 ≡ get_or (reverse ms) r 0 = ap (λ xs. get_or xs r 0) all ∙ get_or_append_left (reverse ms) (m ∷ []) 0 r less in
            let front : take r (reverse ms) ≡ take r (reverse (m ∷ ms)) = sym (ap (take r) all ∙ take_less (reverse ms) (m ∷ []) r (omega (arith, less))) in
            posts_forward ms h.0 r k (omega (arith, ne, lt)) lo hi (ap (λ x. has x k) (sym mask) ∙ here)
            ∙ ap (λ xs. Some (post_in (get_or (words_of w (r + 1) (sync w s 1 xs minds)) (k - 1) Pass))) front
      ]
