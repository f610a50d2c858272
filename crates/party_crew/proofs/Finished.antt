-- A finished phase is the synchronous run with the masks of its closed board.
use Rattle.std.proofs.Common.{◌≡◌, ◌≢◌, ◌⊎◌, inl, inr, ⊎_elim, ℕ, zero, suc, ◌+◌, ◌-◌, ◌%◌, ◌^◌, ◌<◌, ◌≤◌, Bool, true, List, [], ◌∷◌, length, map, get_or, take, Option, Some, None, refl, sym, ap, ◌∙◌, subst, arith}
use Rattle.std.specs.Prelude.{slice_get, IfSome}
use Rattle.std.specs.Int.{bit_at}
use mathlib.Core.List.{IsPrefix}
use Rattle.std.proofs.lemmas.Bool.{cases_eq, cases_lt}
use Rattle.talk.specs.declared.messages.Post.{Post}
use Rattle.talk.specs.declared.messages.Ring.{Ring}
use Rattle.talk.specs.declared.messages.Say.TheVariants.{Pass}
use Rattle.talk.specs.Shape.{Shape, seats, rounds}
use Rattle.talk.specs.Sync.{Ways, has, post_in, words_of, sync, all_seats, AllAllowed}
use Rattle.roundboard.specs.Sheets.{sheet_of}
use Rattle.roundboard.specs.declared.page.Sheet.{Sheet}
use Rattle.roundboard.specs.declared.board.Board.{Board}
use Rattle.roundboard.specs.declared.board.Pen.{Pen}
use Rattle.roundboard.specs.declared.view.Event.{Event}
use Rattle.roundboard.specs.declared.view.Deed.TheVariants.{Posted, Passed}
use Rattle.roundboard.specs.declared.finish.ClosedBoard.{ClosedBoard}
use Rattle.roundboard.specs.declared.finish.Reader.{Reader}
use Rattle.roundboard.specs.Rule.{In, event}
use Rattle.roundboard.specs.Pages.{Saw}
use Rattle.roundboard.specs.Cells.{knows}
use Rattle.roundboard.specs.Pens.{Seated, events, cells_of, cell_of}
use Rattle.roundboard.specs.Closed.{Agrees, Settles, sheet_at, cut_at, mask_at, value_at, post_at, rounds_closed}
use Rattle.pairrings.specs.declared.ends.End.{End}
use Rattle.pairrings.specs.Ends.{got_from, sent_to}
use Rattle.pairrings.specs.Records.{got_between, sent_between}
use Rattle.turns.specs.Turns.{Turn, tabulate}
use Rattle.turns.specs.Account.{AllLogged, Account, Closed}
use Rattle.turns.specs.Finished.{Finished}
use Rattle.paces.proofs.Pacing.{below_bits}
use Rattle.turns.proofs.Phase.{finished_same, finished_allowed, finished_posts}
use Rattle.party_crew.specs.Parties.{TookPart, AllTook}
use Rattle.party_crew.specs.Phase.{shown, round_mask, board_masks, board_cuts, HasAllMasks, PostsAreWords}
use Rattle.party_crew.proofs.Ready.{get_is, get_within, get_some}

-- ---- plain lists
get_map : {A B : Type 0} (f : A → B) (d : A) (xs : List A) (k : ℕ) → get_or (map f xs) k (f d) ≡ f (get_or xs k d)
get_map f d [] k = refl
get_map f d (x ∷ xs) zero = refl
get_map f d (x ∷ xs) (suc k) = get_map f d xs k

get_map_to : {A B : Type 0} (f : A → B) (e : B) (d : A) (xs : List A) (k : ℕ) → k < length xs → get_or (map f xs) k e ≡ f (get_or xs k d)
get_map_to f e d [] k lt = absurd (omega (arith, lt))
get_map_to f e d (x ∷ xs) zero lt = refl
get_map_to f e d (x ∷ xs) (suc k) lt = get_map_to f e d xs k (omega (arith, lt))

pub head_of : {A : Type 0} (xs : List A) → 0 < length xs → A
head_of [] lt = absurd (omega (arith, lt))
head_of (x ∷ xs) lt = x

-- one choice for each seat
is_seat : (n k : ℕ) → ((1 ≤ k) × (k ≤ n)) ⊎ ((1 ≤ k) × (k ≤ n) → ⊥)
is_seat n k = elim (cases_lt k 1) [
  | inl low ↦ inr (λ h. let a = h.0 in omega (arith, low, a))
  | inr one ↦ elim (cases_lt n k) [
    | inl high ↦ inr (λ h. let b = h.1 in omega (arith, high, b))
    | inr in_n ↦ inl (omega (arith, one), omega (arith, in_n))
  ]
]

choose : {A : Type 0} (P : ℕ → A → Type 0) (n : ℕ) (d : A) → ((k : ℕ) → 1 ≤ k → k ≤ n → (a : A) × P k a) → (f : ℕ → A) × ((k : ℕ) → 1 ≤ k → k ≤ n → P k (f k))
choose {A} P n d g =
    let pick : (k : ℕ) → ((1 ≤ k) × (k ≤ n)) ⊎ ((1 ≤ k) × (k ≤ n) → ⊥) → A = λ k x. ⊎_elim (λ (h : (1 ≤ k) × (k ≤ n)). (g k h.0 h.1).0) (λ (_ : (1 ≤ k) × (k ≤ n) → ⊥). d) x in (
      (λ k. pick k (is_seat n k)),
      (λ k lo hi. elim (is_seat n k) as (λ x. P k (pick k x)) [
        | inl h ↦ (g k h.0 h.1).1
        | inr no_seat ↦ absurd (no_seat (lo, hi))
      ]),
    )

-- the log of one member shows a mask of each round
looked : {M : Type 0} (w : Ways M) (s : Shape) (n me : ℕ) (first : M) (es : List Event) (known : ℕ → Option Post) (turns : List Turn) → AllLogged w s n me first es known turns →
    (r : ℕ) → r < length turns → (m : ℕ) × Saw es r m
looked w s n me first es known [] h r lt = absurd (omega (arith, lt))
looked w s n me first es known (t ∷ older) h r lt = elim (cases_eq r (length older)) [
  | inl e ↦ (t.mask, subst (λ (q : ℕ). Saw es q t.mask) (sym e) h.0.mask)
  | inr ne ↦ looked w s n me first es known older h.1 r (omega (arith, ne, lt))
]

module _ {M : Type 0} {S : ℕ} (w : Ways M) (s : Shape) (b : Board Post S) (minds : List M) (ends : List (End Ring S)) (minds2 : List M) (pens2 : List (Pen Post S)) (ends2 : List (End Ring S))
    (least : 2 ≤ S) (sized : seats s ≡ S) (all_minds : length minds ≡ S) (took : AllTook w s b minds ends minds2 pens2 ends2)
    (c : ClosedBoard Post S) (d : Reader Post S) (all_rounds : rounds_closed c ≡ rounds s)
    (agrees : (k : ℕ) (p : Pen Post S) → slice_get pens2 k ≡ Some p → Agrees c d p) (es : List Event) (settles : Settles c pens2 es) (sheets : (r : ℕ) → r < rounds s → sheet_at c r ≡ sheet_of es r)
    (order : (i j : ℕ) → i < S → j < S → IsPrefix (got_between ends2 i j) (sent_between ends2 i j))
    (m0 : M) (p0 : Pen Post S) (e0 : End Ring S) where
  abbrev pen : ℕ → Pen Post S
  pen k = get_or pens2 (k - 1) p0

  abbrev end : ℕ → End Ring S
  end k = get_or ends2 (k - 1) e0

  pen_at : (k : ℕ) → 1 ≤ k → k ≤ S → slice_get pens2 (k - 1) ≡ Some (pen k)
  pen_at k lo hi = get_some pens2 (k - 1) p0 (let n = took.seated.0 in omega (arith, lo, hi, n))

  abbrev Told : ℕ → List Turn → Type 0
  Told k turns = (length turns ≡ rounds s) × Account w s S k (get_or minds (k - 1) m0) (get_or minds2 (k - 1) m0) (events (pen k)) (knows (cells_of (pen k))) (sent_to (end k)) (got_from (end k)) turns

  told : (k : ℕ) → 1 ≤ k → k ≤ S → (turns : List Turn) × Told k turns
  told k lo hi =
      let back : (k - 1) + 1 ≡ k = omega (arith, lo) in
      let part : TookPart w s ((k - 1) + 1) (get_or minds (k - 1) m0) (get_or minds2 (k - 1) m0) (pen k) (end k) =
      took.parts (k - 1) (get_or minds (k - 1) m0) (get_or minds2 (k - 1) m0) (pen k) (end k)
      (get_some minds (k - 1) m0 (omega (arith, lo, hi, all_minds)))
      (get_some minds2 (k - 1) m0 (let n = took.all_minds in omega (arith, lo, hi, n)))
      (pen_at k lo hi)
      (get_some ends2 (k - 1) e0 (let n = took.all_ends in omega (arith, lo, hi, n))) in
      let t = subst (λ (j : ℕ). TookPart w s j (get_or minds (k - 1) m0) (get_or minds2 (k - 1) m0) (pen k) (end k)) back part in
      (t.0, (t.1, t.2))

  masked : (r : ℕ) → r < rounds s → (m : ℕ) × (mask_at c r ≡ Some m)
  masked r lt =
      let t = told 1 (omega arith) (omega (arith, least)) in
      let l = looked w s S 1 (get_or minds 0 m0) (events (pen 1)) (knows (cells_of (pen 1))) t.0 t.1.1.logged r (let n = t.1.0 in omega (arith, n, lt)) in
      (l.0, (agrees 0 (pen 1) (pen_at 1 (omega arith) (omega (arith, least)))).masks r l.0 (omega (arith, all_rounds, lt)) l.1)

  is : (r m : ℕ) → mask_at c r ≡ Some m → m ≡ round_mask c r
  is r m e = sym (ap shown e)

  few_bits : (r : ℕ) → r < rounds s → round_mask c r < 2 ^ S
  few_bits r lt =
      let m = masked r lt in
      subst (λ (x : ℕ). x < 2 ^ S) (is r m.0 m.1)
      (below_bits m.0 S (λ k bit. let p = settles.posted r k m.0 (omega (arith, all_rounds, lt)) m.1 bit in let in_list = get_within pens2 k p.1 p.2 in let n = took.seated.0 in omega (arith, in_list, n)))

  closed : Closed S (rounds s) (round_mask c) (board_cuts c) (value_at d) (λ k. events (pen k)) (λ k. knows (cells_of (pen k)))
  closed = record {
    one_mask = λ k r m lo hi lt h. is r m ((agrees (k - 1) (pen k) (pen_at k lo hi)).masks r m (omega (arith, all_rounds, lt)) h);
    few = few_bits;
    in_time = λ k r v lo hi lt h.
        let m = masked r lt in
        let one : bit_at v 63 + bit_at m.0 (k - 1) ≡ 1 = (agrees (k - 1) (pen k) (pen_at k lo hi)).timely r (k - 1) v m.0 (omega (arith, all_rounds, lt)) h m.1 in
        subst (λ (x : ℕ). bit_at v 63 + bit_at x (k - 1) ≡ 1) (is r m.0 m.1) one;
    late = λ k r v lo hi lt h shut.
        let z : (r + 1) - 1 ≡ r = omega arith in
        ⊎_elim (λ (t : (x : ℕ) × In (event r (Passed (k - 1) x)) (events (pen k))). inl t)
        (λ (t : bit_at (sheet_of es r).cut (k - 1) ≡ 1). inr (ap (λ q. bit_at (cut_at c q) (k - 1)) z ∙ ap (λ (x : Sheet). bit_at x.cut (k - 1)) (sheets r lt) ∙ t))
        (settles.late r (k - 1) v (pen k) (omega (arith, all_rounds, lt)) (pen_at k lo hi) h shut);
    posted = λ k r lo hi lt bit.
        let m = masked r lt in
        let p = settles.posted r (k - 1) m.0 (omega (arith, all_rounds, lt)) m.1 (ap (λ x. bit_at x (k - 1)) (is r m.0 m.1) ∙ bit) in
        let same : p.1 ≡ pen k = sym (get_is pens2 (k - 1) p.1 p0 p.2) in
        (p.0, subst (λ (x : Pen Post S). In (event r (Posted (k - 1) p.0)) (events x)) same p.3);
    one_value = λ k i x lo hi h. subst (λ (o : Option Post). IfSome o (λ y. value_at d i ≡ Some y)) h ((agrees (k - 1) (pen k) (pen_at k lo hi)).values i);
  }

  prefixes : (a k : ℕ) → 1 ≤ a → a ≤ S → 1 ≤ k → k ≤ S → a ≢ k → IsPrefix (got_from (end a) (k - 1)) (sent_to (end k) (a - 1))
  prefixes a k al ah kl kh ne =
      let la : a - 1 < length ends2 = (let n = took.all_ends in omega (arith, al, ah, n)) in
      let lk : k - 1 < length ends2 = (let n = took.all_ends in omega (arith, kl, kh, n)) in
      subst (λ (z : List Ring × List Ring). IsPrefix z.0 z.1)
      (λ i. (get_map_to (λ (e : End Ring S). got_from e (k - 1)) [] e0 ends2 (a - 1) la i, get_map_to (λ (e : End Ring S). sent_to e (a - 1)) [] e0 ends2 (k - 1) lk i))
      (order (k - 1) (a - 1) (omega (arith, kl, kh)) (omega (arith, al, ah)))

  chosen : (f : ℕ → List Turn) × ((k : ℕ) → 1 ≤ k → k ≤ S → Told k (f k))
  chosen = choose Told S [] told

  finished : Finished w s S (rounds s) (round_mask c) (board_cuts c) (value_at d) minds minds2
  finished = record {
    events = λ k. events (pen k);
    known = λ k. knows (cells_of (pen k));
    sent = λ k. sent_to (end k);
    got = λ k. got_from (end k);
    turns = chosen.0;
    other = m0;
    sized = sized;
    all_before = all_minds;
    all_after = took.all_minds;
    closed = closed;
    accounts = λ k lo hi. (chosen.1 k lo hi).1;
    long = λ k lo hi. (chosen.1 k lo hi).0;
    prefixes = prefixes;
  }

  masks_are : tabulate 0 (rounds s) (round_mask c) ≡ board_masks c
  masks_are = ap (λ n. tabulate 0 n (round_mask c)) (sym all_rounds)

  pub minds_same : minds2 ≡ sync w s 1 (board_masks c) minds
  minds_same = finished_same w s S (rounds s) (round_mask c) (board_cuts c) (value_at d) minds minds2 finished ∙ ap (λ xs. sync w s 1 xs minds) masks_are

  pub masks_allowed : AllAllowed w s 1 (all_seats s) (board_cuts c) (board_masks c) minds
  masks_allowed =
      subst (λ (xs : List ℕ). AllAllowed w s 1 (all_seats s) (board_cuts c) xs minds) masks_are
      (finished_allowed w s S (rounds s) (round_mask c) (board_cuts c) (value_at d) minds minds2 finished)

  pub all_masks : HasAllMasks (rounds s) c
  all_masks = record { count = all_rounds; each = λ r lt. (let m = masked r lt in m.1 ∙ ap Some (is r m.0 m.1)) }

  pub posts_same : PostsAreWords w s c d minds
  posts_same r k lt kl here =
      let z : (k + 1) - 1 ≡ k = omega arith in
      let got = finished_posts w s S (rounds s) (round_mask c) (board_cuts c) (value_at d) minds minds2 finished r (k + 1) (omega (arith, lt, all_rounds)) (omega arith) (omega (arith, kl)) here in
      subst (λ (q : ℕ × List ℕ). value_at d (cell_of S r q.0) ≡ Some (post_in (get_or (words_of w (r + 1) (sync w s 1 (take r q.1) minds)) q.0 Pass)))
      (λ i. (z i, masks_are i)) got
