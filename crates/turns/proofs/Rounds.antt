-- What the members did together is the synchronous run.
use Rattle.std.proofs.Common.{◌≡◌, ◌≢◌, ◌⊎◌, inl, inr, ℕ, zero, suc, ◌+◌, ◌-◌, ◌<◌, ◌≤◌, Bool, true, false, not, cond, List, [], ◌∷◌, ◌++◌, length, get_or, map, refl, sym, ap, ap₂, ◌∙◌, subst, arith}
use Rattle.std.proofs.lemmas.Bool.{cases_eq}
use Rattle.talk.specs.declared.messages.Post.{Post}
use Rattle.talk.specs.declared.messages.Post.TheVariants.{Quiet}
use Rattle.talk.specs.declared.messages.Ring.{Ring}
use Rattle.talk.specs.declared.messages.Ring.TheVariants.{Nothing}
use Rattle.talk.specs.declared.messages.Say.{Say}
use Rattle.talk.specs.declared.messages.Say.TheVariants.{Pass}
use Rattle.talk.specs.declared.messages.Heard.{Heard}
use mathlib.Core.List.{IsPrefix}
use Rattle.talk.specs.Shape.{Shape}
use Rattle.talk.specs.Read.{ring_as_read, posts_read, rings_read}
use Rattle.talk.specs.Sync.{Ways, has, post_in, ring_in, posts_heard, rings_heard, heard_at, words_of, after_words, after_hears, after_round, Allowed}
use Rattle.turns.specs.Turns.{Turn, IsComplete, AllComplete, out_of, counted, mind_after, counted_after, heard_of, got_items, sent_items, AbsentIfPass, AbsentWherePassed, PresentIfSpeak, PresentWhereSpoke, Values, masks_of, MembersAgree, tabulate, mask_before, sync_back, AllowedBack, AllMasks}
use Rattle.turns.proofs.Rings.{present, out_now, before_newest, newest}
use Rattle.turns.proofs.Hearing.{posts_same, rings_same, own_nothing, map_tabulate, tabulate_same, may_say, allowed_tabulate, hears_tabulate}

-- ---- the newest turn and the older ones
abbrev pub blank : Turn
blank = record { mask = 0; posts = []; rings = [] }

abbrev pub head : List Turn → Turn
head [] = blank
head (t ∷ ts) = t

abbrev pub tail : List Turn → List Turn
tail [] = []
tail (t ∷ ts) = ts

pub split : (ts : List Turn) (m : ℕ) (ms : List ℕ) → masks_of ts ≡ m ∷ ms → (ts ≡ head ts ∷ tail ts) × ((head ts).mask ≡ m) × (masks_of (tail ts) ≡ ms)
split [] m ms e = absurd (cc (e))
split (t ∷ ts) m ms e = (refl, cc (e), cc (e))

pub masks_length : (ts : List Turn) (ms : List ℕ) → masks_of ts ≡ ms → length ts ≡ length ms
masks_length [] ms e = ap length e
masks_length (t ∷ ts) [] e = absurd (cc (e))
masks_length (t ∷ ts) (m ∷ ms) e = let more : length ts ≡ length ms = masks_length ts ms (cc (e)) in omega (arith, more)

nil_masks : (ts : List Turn) → masks_of ts ≡ [] → ts ≡ []
nil_masks [] e = refl
nil_masks (t ∷ ts) e = absurd (cc (e))

cond_is : {A : Type 0} (b c : Bool) (x y : A) → b ≡ c → cond b x y ≡ cond c x y
cond_is b c x y e = ap (λ z. cond z x y) e

either : (b : Bool) → (b ≡ true) ⊎ (b ≡ false)
either true = inl refl
either false = inr refl

module _ {M : Type 0} (w : Ways M) (s : Shape) (n : ℕ) (first : ℕ → M) where
  -- ---- the rounds before the newest
  pub earlier : (m : ℕ) (ms : List ℕ) (turns : ℕ → List Turn) → MembersAgree w s n first (m ∷ ms) turns → MembersAgree w s n first ms (λ k. tail (turns k))
  earlier m ms turns a = record {
    same_masks = λ k lo hi. (split (turns k) m ms (a.same_masks k lo hi)).2;
    complete = λ k lo hi. (subst (λ (ts : List Turn). AllComplete n k ts) (split (turns k) m ms (a.same_masks k lo hi)).0 (a.complete k lo hi)).1;
    absent = λ k lo hi. (subst (λ (ts : List Turn). AbsentWherePassed w s k (first k) ts) (split (turns k) m ms (a.same_masks k lo hi)).0 (a.absent k lo hi)).1;
    values = λ j k jl jh lo hi.
        (subst (λ (z : List Turn × List Turn). Values w s k (first k) z.0 z.1)
        (λ i. ((split (turns j) m ms (a.same_masks j jl jh)).0 i, (split (turns k) m ms (a.same_masks k lo hi)).0 i))
        (a.values j k jl jh lo hi)).1;
    rings = λ j k jl jh lo hi ne.
        let sj = split (turns j) m ms (a.same_masks j jl jh) in
        let sk = split (turns k) m ms (a.same_masks k lo hi) in
        before_newest w s k (first k) j (head (turns j)) (head (turns k)) (tail (turns j)) (tail (turns k))
        (sym (ap masks_of sj.0) ∙ a.same_masks j jl jh ∙ sym (a.same_masks k lo hi) ∙ ap masks_of sk.0)
        (subst (λ (ts : List Turn). AbsentWherePassed w s k (first k) ts) sk.0 (a.absent k lo hi))
        (subst (λ (z : List Turn × List Turn). IsPrefix (got_items k z.0) (sent_items w s j k (first k) z.1)) (λ i. (sj.0 i, sk.0 i)) (a.rings j k jl jh lo hi ne));
  }

  -- ---- the newest round
  -- the words said in the round after the turns
  abbrev pub word_now : ℕ → (ℕ → List Turn) → ℕ → Say
  word_now r turns k = w.word (mind_after w s k (first k) (turns k)) r

  -- who is in the newest mask did what its word said
  pub said_now : (t : Turn) (k : ℕ) (older : List Turn) (r : ℕ) → length older + 1 ≡ r → has t.mask k ≡ true → AbsentWherePassed w s k (first k) (t ∷ older) →
      counted_after w s k (first k) older ≡ w.word (mind_after w s k (first k) older) r
  said_now t k older r e here h =
      cond_is (out_of k older) false Pass (w.word (mind_after w s k (first k) older) (length older + 1)) (present w s k (first k) t older here h)
      ∙ ap (w.word (mind_after w s k (first k) older)) e

  post_now : (t u : Turn) (m k : ℕ) (older theirs : List Turn) (r a : ℕ) → length theirs + 1 ≡ r → t.mask ≡ m → u.mask ≡ m → 1 ≤ k → k ≤ n →
      IsComplete n a t → AbsentWherePassed w s k (first k) (u ∷ theirs) → Values w s k (first k) (t ∷ older) (u ∷ theirs) →
      get_or t.posts (k - 1) Quiet ≡ cond (has m k) (post_in (w.word (mind_after w s k (first k) theirs) r)) Quiet
  post_now t u m k older theirs r a er et eu lo hi whole timely values =
      elim (either (has m k)) [
        | inl here ↦
            let mine : has t.mask k ≡ true = ap (λ x. has x k) et ∙ here in
            let its : has u.mask k ≡ true = ap (λ x. has x k) eu ∙ here in
            values.0 mine ∙ ap post_in (said_now u k theirs r er its timely)
            ∙ sym (cond_is (has m k) true (post_in (w.word (mind_after w s k (first k) theirs) r)) Quiet here)
        | inr gone ↦
            whole.no_post k lo hi (ap (λ x. has x k) et ∙ gone)
            ∙ sym (cond_is (has m k) false (post_in (w.word (mind_after w s k (first k) theirs) r)) Quiet gone)
      ]

  ring_now : (t u : Turn) (m k : ℕ) (older theirs : List Turn) (r a : ℕ) → length theirs + 1 ≡ r → t.mask ≡ m → u.mask ≡ m → 1 ≤ k → k ≤ n → masks_of (t ∷ older) ≡ masks_of (u ∷ theirs) →
      IsComplete n a t → AbsentWherePassed w s k (first k) (u ∷ theirs) → IsPrefix (got_items k (t ∷ older)) (sent_items w s a k (first k) (u ∷ theirs)) →
      get_or t.rings (k - 1) Nothing ≡ cond (has m k) (ring_in a (w.word (mind_after w s k (first k) theirs) r)) Nothing
  ring_now t u m k older theirs r a er et eu lo hi same whole timely prefix =
      elim (either (has m k)) [
        | inl here ↦
            let mine : has t.mask k ≡ true = ap (λ x. has x k) et ∙ here in
            let its : has u.mask k ≡ true = ap (λ x. has x k) eu ∙ here in
            newest w s k (first k) a t u older theirs same timely mine prefix
            ∙ ap (ring_in a) (said_now u k theirs r er its timely)
            ∙ sym (cond_is (has m k) true (ring_in a (w.word (mind_after w s k (first k) theirs) r)) Nothing here)
        | inr gone ↦
            whole.no_ring k lo hi (ap (λ x. has x k) et ∙ gone)
            ∙ sym (cond_is (has m k) false (ring_in a (w.word (mind_after w s k (first k) theirs) r)) Nothing gone)
      ]

  ring_cond : (r k a : ℕ) (b : Bool) (x : Ring) → ring_as_read s r k a (cond b x Nothing) ≡ cond b (ring_as_read s r k a x) Nothing
  ring_cond r k a true x = refl
  ring_cond r k a false x = refl

  cond_nothing : (b : Bool) → Nothing ≡ cond b Nothing Nothing
  cond_nothing true = refl
  cond_nothing false = refl

  module _ (m : ℕ) (ms : List ℕ) (turns : ℕ → List Turn) (a : MembersAgree w s n first (m ∷ ms) turns) where
    abbrev older : ℕ → List Turn
    older k = tail (turns k)

    abbrev now : ℕ
    now = length ms + 1

    parts : (k : ℕ) → 1 ≤ k → k ≤ n → (turns k ≡ head (turns k) ∷ older k) × ((head (turns k)).mask ≡ m) × (masks_of (older k) ≡ ms)
    parts k lo hi = split (turns k) m ms (a.same_masks k lo hi)

    round_is : (k : ℕ) → 1 ≤ k → k ≤ n → length (older k) + 1 ≡ now
    round_is k lo hi = ap (λ x. x + 1) (masks_length (older k) ms (parts k lo hi).2)

    complete_now : (k : ℕ) → 1 ≤ k → k ≤ n → IsComplete n k (head (turns k))
    complete_now k lo hi = (subst (λ (ts : List Turn). AllComplete n k ts) (parts k lo hi).0 (a.complete k lo hi)).0

    absent_now : (k : ℕ) → 1 ≤ k → k ≤ n → AbsentWherePassed w s k (first k) (head (turns k) ∷ older k)
    absent_now k lo hi = subst (λ (ts : List Turn). AbsentWherePassed w s k (first k) ts) (parts k lo hi).0 (a.absent k lo hi)

    post_heard : (j k : ℕ) → 1 ≤ j → j ≤ n → 1 ≤ k → k ≤ n →
        get_or (head (turns j)).posts (k - 1) Quiet ≡ cond (has m k) (post_in (word_now now older k)) Quiet
    post_heard j k jl jh lo hi =
        post_now (head (turns j)) (head (turns k)) m k (older j) (older k) now j (round_is k lo hi) (parts j jl jh).1 (parts k lo hi).1 lo hi (complete_now j jl jh) (absent_now k lo hi)
        (subst (λ (z : List Turn × List Turn). Values w s k (first k) z.0 z.1) (λ i. ((parts j jl jh).0 i, (parts k lo hi).0 i)) (a.values j k jl jh lo hi))

    ring_heard : (j k : ℕ) → 1 ≤ j → j ≤ n → 1 ≤ k → k ≤ n →
        ring_as_read s now k j (get_or (head (turns j)).rings (k - 1) Nothing) ≡ cond (has m k) (ring_as_read s now k j (ring_in j (word_now now older k))) Nothing
    ring_heard j k jl jh lo hi =
        elim (cases_eq j k) [
          | inl e ↦
              let left : ring_as_read s now k j (get_or (head (turns j)).rings (k - 1) Nothing) ≡ Nothing =
              subst (λ (x : ℕ). ring_as_read s now x j (get_or (head (turns j)).rings (k - 1) Nothing) ≡ Nothing) e (own_nothing s now j (get_or (head (turns j)).rings (k - 1) Nothing)) in
              let right : ring_as_read s now k j (ring_in j (word_now now older k)) ≡ Nothing =
              subst (λ (x : ℕ). ring_as_read s now x j (ring_in j (word_now now older k)) ≡ Nothing) e (own_nothing s now j (ring_in j (word_now now older k))) in
              left ∙ cond_nothing (has m k) ∙ ap (λ x. cond (has m k) x Nothing) (sym right)
          | inr ne ↦
              ap (ring_as_read s now k j)
              (ring_now (head (turns j)) (head (turns k)) m k (older j) (older k) now j (round_is k lo hi) (parts j jl jh).1 (parts k lo hi).1 lo hi
              (sym (ap masks_of (parts j jl jh).0) ∙ a.same_masks j jl jh ∙ sym (a.same_masks k lo hi) ∙ ap masks_of (parts k lo hi).0)
              (complete_now j jl jh) (absent_now k lo hi)
              (subst (λ (z : List Turn × List Turn). IsPrefix (got_items k z.0) (sent_items w s j k (first k) z.1)) (λ i. ((parts j jl jh).0 i, (parts k lo hi).0 i)) (a.rings j k jl jh lo hi ne)))
              ∙ ring_cond now k j (has m k) (ring_in j (word_now now older k))
        ]

    -- each member heard what the synchronous run lets it hear
    pub heard_same : (j : ℕ) → 1 ≤ j → j ≤ n → heard_of s now j (head (turns j)) ≡ heard_at s now m (tabulate 1 n (word_now now older)) j
    heard_same j jl jh =
        let back : (i : ℕ) → i ≡ (1 + i) - 1 = λ i. omega arith in
        ap₂ (λ (ps : List Post) (rs : List Ring). let h : Heard = record { posts = ps; rings = rs } in h)
        (posts_same s now m 1 n (head (turns j)).posts (word_now now older) (complete_now j jl jh).posts_all
        (λ i lt. ap (λ x. get_or (head (turns j)).posts x Quiet) (back i) ∙ post_heard j (1 + i) jl jh (omega arith) (omega (arith, lt))))
        (rings_same s now m j 1 n (head (turns j)).rings (word_now now older) (complete_now j jl jh).rings_all
        (λ i lt. ap (λ x. ring_as_read s now (1 + i) j (get_or (head (turns j)).rings x Nothing)) (back i) ∙ ring_heard j (1 + i) jl jh (omega arith) (omega (arith, lt))))

    pub mind_now : (j : ℕ) → 1 ≤ j → j ≤ n →
        mind_after w s j (first j) (turns j)
        ≡ w.after_hear (w.after_say (mind_after w s j (first j) (older j)) now) now (heard_at s now m (tabulate 1 n (word_now now older)) j)
    mind_now j jl jh =
        ap (mind_after w s j (first j)) (parts j jl jh).0
        ∙ ap (λ x. w.after_hear (w.after_say (mind_after w s j (first j) (older j)) x) x (heard_of s x j (head (turns j)))) (round_is j jl jh)
        ∙ ap (w.after_hear (w.after_say (mind_after w s j (first j) (older j)) now) now) (heard_same j jl jh)

    pub round_same : tabulate 1 n (λ k. mind_after w s k (first k) (turns k)) ≡ after_round w s now m (tabulate 1 n (λ k. mind_after w s k (first k) (older k)))
    round_same =
        let f : ℕ → M = λ k. mind_after w s k (first k) (older k) in
        let words : tabulate 1 n (word_now now older) ≡ words_of w now (tabulate 1 n f) = sym (map_tabulate (λ x. w.word x now) 1 n f) in
        let saids : tabulate 1 n (λ k. w.after_say (f k) now) ≡ after_words w now (tabulate 1 n f) = sym (map_tabulate (λ x. w.after_say x now) 1 n f) in
        tabulate_same 1 n (λ k. mind_after w s k (first k) (turns k)) (λ k. w.after_hear (w.after_say (f k) now) now (heard_at s now m (tabulate 1 n (word_now now older)) k))
        (λ k lo hi. mind_now k lo (omega (arith, hi)))
        ∙ sym (hears_tabulate w s now m (tabulate 1 n (word_now now older)) 1 n (λ k. w.after_say (f k) now))
        ∙ ap₂ (λ (ws : List Say) (xs : List M). after_hears w s now m ws 1 xs) words saids

    out_is : (everyone k : ℕ) (before : List ℕ) (ts : List Turn) → masks_of ts ≡ before → AbsentWherePassed w s k (first k) ts → has everyone k ≡ true → out_of k ts ≡ not (has (mask_before everyone before) k)
    out_is everyone k [] [] e h f = sym (ap not f)
    out_is everyone k [] (t ∷ ts) e h f = absurd (cc (e))
    out_is everyone k (x ∷ xs) [] e h f = absurd (cc (e))
    out_is everyone k (x ∷ xs) (t ∷ ts) e h f = let q : t.mask ≡ x = cc (e) in out_now w s k (first k) t ts h ∙ ap (λ y. not (has y k)) q

    present_now : (cut : ℕ → ℕ) → ((k : ℕ) → 1 ≤ k → k ≤ n → PresentWhereSpoke cut w s k (first k) (turns k)) → (k : ℕ) → 1 ≤ k → k ≤ n → PresentWhereSpoke cut w s k (first k) (head (turns k) ∷ older k)
    present_now cut must k lo hi = subst (λ (ts : List Turn). PresentWhereSpoke cut w s k (first k) ts) (parts k lo hi).0 (must k lo hi)

    pub round_allowed : (everyone : ℕ) → ((k : ℕ) → 1 ≤ k → k ≤ n → has everyone k ≡ true) → (cut : ℕ → ℕ) → ((k : ℕ) → 1 ≤ k → k ≤ n → PresentWhereSpoke cut w s k (first k) (turns k)) → Allowed (mask_before everyone ms) m (cut now) 1 (tabulate 1 n (word_now now older))
    round_allowed everyone in_everyone cut must =
        allowed_tabulate (mask_before everyone ms) m (cut now) 1 n (word_now now older)
        (λ k lo hi.
        let hi_n : k ≤ n = omega (arith, hi) in
        let p = parts k lo hi_n in
        may_say (has (cut now) k) (has (mask_before everyone ms) k) (has m k) (word_now now older k)
        (subst (λ (z : ℕ × Bool × ℕ). AbsentIfPass (has z.0 k) (counted z.1 (w.word (mind_after w s k (first k) (older k)) z.2)))
        (λ i. (p.1 i, out_is everyone k ms (older k) p.2 (absent_now k lo hi_n).1 (in_everyone k lo hi_n) i, round_is k lo hi_n i))
        (absent_now k lo hi_n).0)
        (subst (λ (z : ℕ × Bool × ℕ). PresentIfSpeak (has (cut z.2) k) (has z.0 k) (counted z.1 (w.word (mind_after w s k (first k) (older k)) z.2)))
        (λ i. (p.1 i, out_is everyone k ms (older k) p.2 (absent_now k lo hi_n).1 (in_everyone k lo hi_n) i, round_is k lo hi_n i))
        (present_now cut must k lo hi_n).0))

  -- ---- all rounds
  pub same_back : (masks : List ℕ) (turns : ℕ → List Turn) → MembersAgree w s n first masks turns → tabulate 1 n (λ k. mind_after w s k (first k) (turns k)) ≡ sync_back w s masks (tabulate 1 n first)
  same_back [] turns a = tabulate_same 1 n (λ k. mind_after w s k (first k) (turns k)) first (λ k lo hi. ap (mind_after w s k (first k)) (nil_masks (turns k) (a.same_masks k lo (omega (arith, hi)))))
  same_back (m ∷ ms) turns a =
      round_same m ms turns a ∙ ap (after_round w s (length ms + 1) m) (same_back ms (λ k. tail (turns k)) (earlier m ms turns a))

  pub allowed_back : (everyone : ℕ) → ((k : ℕ) → 1 ≤ k → k ≤ n → has everyone k ≡ true) → (cut : ℕ → ℕ) (masks : List ℕ) (turns : ℕ → List Turn) → AllMasks s masks → MembersAgree w s n first masks turns → ((k : ℕ) → 1 ≤ k → k ≤ n → PresentWhereSpoke cut w s k (first k) (turns k)) → AllowedBack w s everyone cut masks (tabulate 1 n first)
  allowed_back everyone in_everyone cut [] turns small a must = tt
  allowed_back everyone in_everyone cut (m ∷ ms) turns small a must =
      let e = earlier m ms turns a in
      let f : ℕ → M = λ k. mind_after w s k (first k) (tail (turns k)) in (
        allowed_back everyone in_everyone cut ms (λ k. tail (turns k)) small.1 e
            (λ k lo hi. (subst (λ (ts : List Turn). PresentWhereSpoke cut w s k (first k) ts) (split (turns k) m ms (a.same_masks k lo hi)).0 (must k lo hi)).1),
        small.0,
        subst (λ (ws : List Say). Allowed (mask_before everyone ms) m (cut (length ms + 1)) 1 ws)
            (sym (map_tabulate (λ x. w.word x (length ms + 1)) 1 n f) ∙ ap (words_of w (length ms + 1)) (same_back ms (λ k. tail (turns k)) e))
            (round_allowed m ms turns a everyone in_everyone cut must),
      )
