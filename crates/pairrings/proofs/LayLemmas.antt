-- One ring more, one sender more, one end more.
use Rattle.std.proofs.Common.{◌≡◌, ◌≢◌, ℕ, zero, suc, ◌+◌, ◌-◌, ◌<◌, ◌≤◌, List, [], ◌∷◌, ◌++◌, length, get_or, set, map, All, Vec, Global, sym, refl, ap, ap₂, arith, ◌∙◌, subst, length-append, get_or-set_same, get_or-set_other, below_more}
use Rattle.rtrb.specs.Ring.{sent, received, known_items, IsPair}
use Rattle.pairrings.specs.declared.heads.Head.{Head}
use Rattle.pairrings.specs.declared.tails.Tail.{Tail}
use Rattle.pairrings.specs.declared.ends.End.{End}
use Rattle.pairrings.specs.Ends.{sent_to, got_from, room_to, known_from, dry_of, IsRing, IsFresh}
use Rattle.pairrings.specs.Records.{AreRings}
use Rattle.pairrings.specs.Laying.{FreshHead, FreshTail, Grown, GrownBelow, LaidBelow, JoinedBelow}
use Rattle.pairrings.proofs.Picks.{length_more}

-- ---- lists with one element more
-- some element of a list that has one
pub some_of : {A : Type 0} (xs : List A) (k : ℕ) → k < length xs → A
some_of [] k lt = absurd (omega arith)
some_of (x ∷ xs) k lt = x

pub any_default : {A : Type 0} (xs : List A) (k : ℕ) (d e : A) → k < length xs → get_or xs k d ≡ get_or xs k e
any_default [] k d e lt = absurd (omega arith)
any_default (x ∷ xs) zero d e lt = refl
any_default (x ∷ xs) (suc k) d e lt = any_default xs k d e (omega (arith, lt))

pub at_end : {A : Type 0} (xs : List A) (x d : A) (k : ℕ) → k ≡ length xs → get_or (xs ++ x ∷ []) k d ≡ x
at_end [] x d zero e = refl
at_end [] x d (suc k) e = absurd (omega (arith, e))
at_end (y ∷ xs) x d zero e = absurd (omega (arith, e))
at_end (y ∷ xs) x d (suc k) e = at_end xs x d k (omega (arith, e))

pub before_end : {A : Type 0} (xs : List A) (x d : A) (k : ℕ) → k < length xs → get_or (xs ++ x ∷ []) k d ≡ get_or xs k d
before_end [] x d k lt = absurd (omega arith)
before_end (y ∷ xs) x d zero lt = refl
before_end (y ∷ xs) x d (suc k) lt = before_end xs x d k (omega (arith, lt))

-- a write at a place leaves those behind it
pub rest_same : {A : Type 0} (done : ℕ) (olds now : List A) (new : A) → ((j : ℕ) (d : A) → done ≤ j → get_or now j d ≡ get_or olds j d) →
    (j : ℕ) (d : A) → done + 1 ≤ j → get_or (set now done new) j d ≡ get_or olds j d
rest_same done olds now new rest j d le = let other : j ≢ done = omega arith in get_or-set_other now done j new d other ∙ rest j d (omega arith)

-- what holds of each element, and of one more, holds of each of the longer list
pub each_more : {A : Type 0} (P : A → Type 0) (xs : List A) (x : A) → ((k : ℕ) (d : A) → k < length xs → P (get_or xs k d)) → P x → (k : ℕ) (d : A) → k < length xs + 1 → P (get_or (xs ++ x ∷ []) k d)
each_more P [] x h p zero d lt = p
each_more P [] x h p (suc k) d lt = absurd (omega (arith, lt))
each_more P (y ∷ xs) x h p zero d lt = h 0 d (omega arith)
each_more P (y ∷ xs) x h p (suc k) d lt = each_more P xs x (λ j e l. h (suc j) e (omega (arith, l))) p k d (omega (arith, lt))

pub both_more : {A B : Type 0} (P : A → B → Type 0) (xs : List A) (ys : List B) (x : A) (y : B) → length xs ≡ length ys →
    ((k : ℕ) (d : A) (e : B) → k < length xs → P (get_or xs k d) (get_or ys k e)) → P x y → (k : ℕ) (d : A) (e : B) → k < length xs + 1 → P (get_or (xs ++ x ∷ []) k d) (get_or (ys ++ y ∷ []) k e)
both_more P [] [] x y s h p zero d e lt = p
both_more P [] [] x y s h p (suc k) d e lt = absurd (omega (arith, lt))
both_more P [] (v ∷ ys) x y s h p k d e lt = absurd (omega (arith, s))
both_more P (u ∷ xs) [] x y s h p k d e lt = absurd (omega (arith, s))
both_more P (u ∷ xs) (v ∷ ys) x y s h p zero d e lt = h 0 d e (omega arith)
both_more P (u ∷ xs) (v ∷ ys) x y s h p (suc k) d e lt =
    both_more P xs ys x y (omega (arith, s)) (λ j a b l. h (suc j) a b (omega (arith, l))) p k d e (omega (arith, lt))

-- what reads the same of each element is read at each place
pub reads_same : {A T : Type 0} (f : A → T) (v d : T) (xs : List A) → ((k : ℕ) (x : A) → k < length xs → f (get_or xs k x) ≡ v) → (k : ℕ) → k < length xs → get_or (map f xs) k d ≡ v
reads_same f v d [] h k lt = absurd (omega arith)
reads_same f v d (x ∷ xs) h zero lt = h 0 x (omega arith)
reads_same f v d (x ∷ xs) h (suc k) lt = reads_same f v d xs (λ j y l. h (suc j) y (omega (arith, l))) k (omega (arith, lt))

pub reads_always : {A T : Type 0} (f : A → T) (v : T) (xs : List A) → ((k : ℕ) (x : A) → k < length xs → f (get_or xs k x) ≡ v) → (k : ℕ) → get_or (map f xs) k v ≡ v
reads_always f v [] h k = refl
reads_always f v (x ∷ xs) h zero = h 0 x (omega arith)
reads_always f v (x ∷ xs) h (suc k) = reads_always f v xs (λ j y l. h (suc j) y (omega (arith, l))) k

module _ {M : Type 0} where
  pub grown_of : (rounds : ℕ) (old new : Vec (Tail M) Global) (h : Head M) (t : Tail M) → new.items ≡ old.items ++ t ∷ [] → FreshHead rounds h → FreshTail t → IsPair h.ring t.ring → Grown rounds old h new
  grown_of rounds old new h t e fh ft p = record { last = t; items = e; head = fh; tail = ft; pair = p }

  -- ---- one sender's rings
  pub none_grown : (rounds : ℕ) (olds : List (Vec (Tail M) Global)) (heads : List (Head M)) → heads ≡ [] → GrownBelow rounds 0 olds heads olds
  none_grown rounds olds heads e = record { count = ap length e; grown = λ k o n h lt. absurd (omega arith) }

  pub one_grown : (rounds done : ℕ) (olds now : List (Vec (Tail M) Global)) (heads : List (Head M)) (old new : Vec (Tail M) Global) (h : Head M) →
      done < length olds → length now ≡ length olds → ((j : ℕ) (d : Vec (Tail M) Global) → done ≤ j → get_or now j d ≡ get_or olds j d) → old ≡ get_or now done old →
      Grown rounds old h new → GrownBelow rounds done olds heads now → GrownBelow rounds (done + 1) olds (heads ++ h ∷ []) (set now done new)
  one_grown rounds done olds now heads old new h lt len rest is g b = record {
    count = length_more heads h ∙ ap (λ n. n + 1) b.count;
    grown = λ k o n e less. below_more (λ j. (o n : Vec (Tail M) Global) (e : Head M) → Grown rounds (get_or olds j o) (get_or (heads ++ h ∷ []) j e) (get_or (set now done new) j n)) done
        (λ j l o n e. let other : j ≢ done = omega arith in
        subst (λ (z : Head M × Vec (Tail M) Global). Grown rounds (get_or olds j o) z.0 z.1)
        (λ i. (sym (before_end heads h e j (omega (arith, b.count, l))) i, sym (get_or-set_other now done j new n other) i)) (b.grown j o n e l))
        (λ o n e.
        subst (λ (z : Vec (Tail M) Global × Head M × Vec (Tail M) Global). Grown rounds z.0 z.1 z.2)
        (λ i. ((is ∙ rest done old (omega arith) ∙ any_default olds done old o lt) i, sym (at_end heads h e done (sym b.count)) i, sym (get_or-set_same now done new n (omega (arith, lt, len))) i)) g)
        k less o n e;
  }

  -- ---- all senders
  pub none_laid : (rounds seats : ℕ) (heads : List (Vec (Head M) Global)) (tails : List (Vec (Tail M) Global)) → heads ≡ [] → length tails ≡ seats →
      All (λ (l : Vec (Tail M) Global). l.items ≡ []) tails → LaidBelow rounds seats 0 heads tails
  none_laid rounds seats heads tails e len empty = record {
    senders = ap length e;
    receivers = len;
    to_each = λ i hs lt. absurd (omega arith);
    from_each = λ j ts lt. ap length (empty j ts (omega (arith, len, lt)));
    fresh_heads = λ i j hs h li lj. absurd (omega arith);
    fresh_tails = λ i j ts t li lj. absurd (omega arith);
    pairs = λ i j hs ts h t li lj. absurd (omega arith);
  }

  pub one_laid : (rounds seats done : ℕ) (heads : List (Vec (Head M) Global)) (row : Vec (Head M) Global) (tails news : List (Vec (Tail M) Global)) →
      LaidBelow rounds seats done heads tails → GrownBelow rounds (length tails) tails row.items news → length news ≡ length tails →
      LaidBelow rounds seats (done + 1) (heads ++ row ∷ []) news
  one_laid rounds seats done heads row tails news l g len = record {
    senders = length_more heads row ∙ ap (λ n. n + 1) l.senders;
    receivers = len ∙ l.receivers;
    to_each = λ i hs lt. each_more (λ (v : Vec (Head M) Global). length v.items ≡ seats) heads row
        (λ k d below. l.to_each k d (omega (arith, below, l.senders))) (g.count ∙ l.receivers) i hs (omega (arith, lt, l.senders));
    from_each = λ j ts lt.
        let grown = g.grown j ts ts (some_of row.items j (omega (arith, lt, g.count, l.receivers))) (omega (arith, lt, l.receivers)) in
        ap length grown.items ∙ length_more (get_or tails j ts).items grown.last ∙ ap (λ n. n + 1) (l.from_each j ts lt);
    fresh_heads = λ i j hs h li lj. each_more (λ (v : Vec (Head M) Global). FreshHead rounds (get_or v.items j h)) heads row
        (λ k d below. l.fresh_heads k j d h (omega (arith, below, l.senders)) lj)
        (let ts : Vec (Tail M) Global = some_of tails j (omega (arith, lj, l.receivers)) in (g.grown j ts ts h (omega (arith, lj, l.receivers))).head)
        i hs (omega (arith, li, l.senders));
    fresh_tails = λ i j ts t li lj.
        let grown = g.grown j ts ts (some_of row.items j (omega (arith, lj, g.count, l.receivers))) (omega (arith, lj, l.receivers)) in
        subst (λ (items : List (Tail M)). FreshTail (get_or items i t)) (sym grown.items)
        (each_more FreshTail (get_or tails j ts).items grown.last
        (λ k d below. l.fresh_tails k j ts d (omega (arith, below, l.from_each j ts lj)) lj) grown.tail i t (omega (arith, li, l.from_each j ts lj)));
    pairs = λ i j hs ts h t li lj.
        let grown = g.grown j ts ts h (omega (arith, lj, l.receivers)) in
        subst (λ (items : List (Tail M)). IsPair (get_or (get_or (heads ++ row ∷ []) i hs).items j h).ring (get_or items i t).ring) (sym grown.items)
        (both_more (λ (v : Vec (Head M) Global) (u : Tail M). IsPair (get_or v.items j h).ring u.ring) heads (get_or tails j ts).items row grown.last
        (l.senders ∙ sym (l.from_each j ts lj))
        (λ k d e below. l.pairs k j d ts h e (omega (arith, below, l.senders)) lj) grown.pair i hs t (omega (arith, li, l.senders)));
  }

module _ {M : Type 0} {S : ℕ} where
  -- ---- the ends
  pub none_joined : (heads : List (Vec (Head M) Global)) (tails : List (Vec (Tail M) Global)) (ends : List (End M S)) → ends ≡ [] → JoinedBelow 0 heads tails ends
  none_joined heads tails ends e = record { count = ap length e; heads_are = λ k e hs lt. absurd (omega arith); tails_are = λ k e ts lt. absurd (omega arith) }

  pub one_joined : (done : ℕ) (heads : List (Vec (Head M) Global)) (tails : List (Vec (Tail M) Global)) (ends news : List (End M S)) (e : End M S) (hs : Vec (Head M) Global) (ts : Vec (Tail M) Global) →
      news ≡ ends ++ e ∷ [] → done < length heads → done < length tails → e.heads ≡ hs → hs ≡ get_or heads done hs → e.tails ≡ ts → ts ≡ get_or tails done ts →
      JoinedBelow done heads tails ends → JoinedBelow (done + 1) heads tails news
  one_joined done heads tails ends news e hs ts pushed lh lt eh ah et at j = subst (JoinedBelow (done + 1) heads tails) (sym pushed) (record {
    count = length_more ends e ∙ ap (λ n. n + 1) j.count;
    heads_are = λ k d v less. below_more (λ i. (d : End M S) (v : Vec (Head M) Global) → (get_or (ends ++ e ∷ []) i d).heads ≡ get_or heads i v) done
        (λ i l d v. ap (λ (x : End M S). x.heads) (before_end ends e d i (omega (arith, l, j.count))) ∙ j.heads_are i d v l)
        (λ d v. ap (λ (x : End M S). x.heads) (at_end ends e d done (sym j.count)) ∙ eh ∙ ah ∙ any_default heads done hs v lh) k less d v;
    tails_are = λ k d v less. below_more (λ i. (d : End M S) (v : Vec (Tail M) Global) → (get_or (ends ++ e ∷ []) i d).tails ≡ get_or tails i v) done
        (λ i l d v. ap (λ (x : End M S). x.tails) (before_end ends e d i (omega (arith, l, j.count))) ∙ j.tails_are i d v l)
        (λ d v. ap (λ (x : End M S). x.tails) (at_end ends e d done (sym j.count)) ∙ et ∙ at ∙ any_default tails done ts v lt) k less d v;
  })

  fresh_of : (rounds : ℕ) (e : End M S) (hs : Vec (Head M) Global) (ts : Vec (Tail M) Global) → e.heads ≡ hs → e.tails ≡ ts → length hs.items ≡ S → length ts.items ≡ S →
      ((j : ℕ) (h : Head M) → j < S → FreshHead rounds (get_or hs.items j h)) → ((j : ℕ) (t : Tail M) → j < S → FreshTail (get_or ts.items j t)) → IsFresh rounds e
  fresh_of rounds e hs ts eh et lh lt heads tails = record {
    sent = λ k. ap (λ (v : Vec (Head M) Global). get_or (map (λ (h : Head M). sent h.ring) v.items) k []) eh
        ∙ reads_always (λ (h : Head M). sent h.ring) [] hs.items (λ j h l. (heads j h (omega (arith, l, lh))).none_sent) k;
    room = λ k below. ap (λ (v : Vec (Head M) Global). get_or (map (λ (h : Head M). h.laid - length (sent h.ring)) v.items) k 0) eh
        ∙ reads_same (λ (h : Head M). h.laid - length (sent h.ring)) rounds 0 hs.items
        (λ j h l. let f = heads j h (omega (arith, l, lh)) in omega (arith, f.laid, ap length f.none_sent)) k (omega (arith, below, lh));
    got = λ k. ap (λ (v : Vec (Tail M) Global). get_or (map (λ (t : Tail M). received t.ring) v.items) k []) et
        ∙ reads_always (λ (t : Tail M). received t.ring) [] ts.items (λ j t l. (tails j t (omega (arith, l, lt))).none_got) k;
    known = λ k. ap (λ (v : Vec (Tail M) Global). get_or (map (λ (t : Tail M). known_items t.ring) v.items) k []) et
        ∙ reads_always (λ (t : Tail M). known_items t.ring) [] ts.items (λ j t l. (tails j t (omega (arith, l, lt))).none_known) k;
    dry = λ k. ap (λ (v : Vec (Tail M) Global). get_or (map (λ (t : Tail M). t.dry) v.items) k 0) et
        ∙ reads_always (λ (t : Tail M). t.dry) 0 ts.items (λ j t l. (tails j t (omega (arith, l, lt))).never_dry) k;
  }

  pub joined_fresh : (rounds : ℕ) (heads : List (Vec (Head M) Global)) (tails : List (Vec (Tail M) Global)) (ends : List (End M S)) → LaidBelow rounds S S heads tails → JoinedBelow S heads tails ends →
      All (IsFresh rounds) ends
  joined_fresh rounds heads tails ends l j k e below =
      let lk : k < S = omega (arith, below, j.count) in
      let hs : Vec (Head M) Global = some_of heads k (omega (arith, lk, l.senders)) in
      let ts : Vec (Tail M) Global = some_of tails k (omega (arith, lk, l.receivers)) in
      fresh_of rounds (get_or ends k e) (get_or heads k hs) (get_or tails k ts) (j.heads_are k e hs lk) (j.tails_are k e ts lk) (l.to_each k hs lk) (l.from_each k ts lk)
      (λ i h li. l.fresh_heads k i hs h lk li) (λ i t li. l.fresh_tails i k ts t li lk)

  pub joined_rings : (rounds : ℕ) (heads : List (Vec (Head M) Global)) (tails : List (Vec (Tail M) Global)) (ends : List (End M S)) → LaidBelow rounds S S heads tails → JoinedBelow S heads tails ends →
      AreRings ends
  joined_rings rounds heads tails ends l j i k a b li lk h t =
      let hs : Vec (Head M) Global = some_of heads i (omega (arith, li, l.senders)) in
      let ts : Vec (Tail M) Global = some_of tails k (omega (arith, lk, l.receivers)) in
      subst (λ (z : Vec (Head M) Global × Vec (Tail M) Global). IsPair (get_or z.0.items k h).ring (get_or z.1.items i t).ring)
      (λ n. (sym (j.heads_are i a hs li) n, sym (j.tails_are k b ts lk) n)) (l.pairs i k hs ts h t li lk)
