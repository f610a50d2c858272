-- Which item of a ring belongs to which round.
use Rattle.std.proofs.Common.{◌≡◌, ◌≢◌, ◌⊎◌, inl, inr, ℕ, zero, suc, ◌+◌, ◌-◌, ◌<◌, ◌≤◌, Bool, true, false, not, ◌||◌, cond, List, [], ◌∷◌, ◌++◌, length, get_or, refl, sym, ap, ◌∙◌, subst, arith, length-append, append_assoc}
use Rattle.talk.specs.declared.messages.Ring.{Ring}
use Rattle.talk.specs.declared.messages.Ring.TheVariants.{Nothing}
use Rattle.talk.specs.declared.messages.Say.{Say}
use Rattle.talk.specs.declared.messages.Say.TheVariants.{Speak, Pass, PassThenSpeak}
use mathlib.Core.List.{IsPrefix}
use Rattle.talk.specs.Shape.{Shape}
use Rattle.talk.specs.Sync.{Ways, has, ring_in}
use Rattle.turns.specs.Turns.{Turn, out_of, counted, counted_after, mind_after, sent_in, got_in, got_items, sent_items, AbsentIfPass, AbsentWherePassed, masks_of}

-- ---- prefixes
nil_of_length : {A : Type 0} (zs : List A) → length zs ≡ 0 → zs ≡ []
nil_of_length [] e = refl
nil_of_length (z ∷ zs) e = absurd (omega (arith, e))

append_nil : {A : Type 0} (xs : List A) → xs ++ [] ≡ xs
append_nil [] = refl
append_nil (x ∷ xs) = ap (λ ys. x ∷ ys) (append_nil xs)

-- a prefix that is as long is the whole
pub prefix_full : {A : Type 0} (xs ys : List A) → length xs ≡ length ys → IsPrefix xs ys → xs ≡ ys
prefix_full xs ys h p =
    let n : length p.0 ≡ 0 = omega (arith, h, ap length p.1, length-append xs p.0) in
    sym (append_nil xs) ∙ ap (λ zs. xs ++ zs) (sym (nil_of_length p.0 n)) ∙ p.1

-- a prefix of an appended list that is no longer than its first part is a prefix of that part
pub prefix_first : {A : Type 0} (xs ys zs : List A) → length xs ≤ length ys → IsPrefix xs (ys ++ zs) → IsPrefix xs ys
prefix_first [] ys zs h p = (ys, refl)
prefix_first (x ∷ xs) [] zs h p = absurd (omega (arith, h))
prefix_first (x ∷ xs) (y ∷ ys) zs h p =
    let both : (x ≡ y) × (xs ++ p.0 ≡ ys ++ zs) = (cc (p.1), cc (p.1)) in
    let q : IsPrefix xs ys = prefix_first xs ys zs (omega (arith, h)) (p.0, both.1) in
    (q.0, cc (both.0, q.1))

pub prefix_shorter : {A : Type 0} (xs us ys : List A) → IsPrefix (xs ++ us) ys → IsPrefix xs ys
prefix_shorter xs us ys p = (us ++ p.0, sym (append_assoc xs us p.0) ∙ p.1)

snoc_back : {A : Type 0} (xs ys : List A) (x y : A) → xs ++ x ∷ [] ≡ ys ++ y ∷ [] → (xs ≡ ys) × (x ≡ y)
snoc_back [] [] x y e = (refl, cc)
snoc_back [] (b ∷ ys) x y e = absurd (omega (arith, ap length e, length-append ys (y ∷ [])))
snoc_back (a ∷ xs) [] x y e = absurd (omega (arith, ap length e, length-append xs (x ∷ [])))
snoc_back (a ∷ xs) (b ∷ ys) x y e =
    let r = snoc_back xs ys x y (cc (e)) in
    (cc (e, r.0), r.1)

true_ne_false : true ≡ false → ⊥
true_ne_false e = absurd (cc (e))

not_not : (b : Bool) → not b ≡ false → b ≡ true
not_not true e = refl
not_not false e = absurd (cc (e))

-- ---- one seat alone
module _ {M : Type 0} (w : Ways M) (s : Shape) (k : ℕ) (first : M) where
  present_case : (now out : Bool) (word : Say) → now ≡ true → AbsentIfPass now (counted out word) → out ≡ false
  present_case now true word e h = absurd (true_ne_false (sym e ∙ h))
  present_case now false word e h = refl

  -- who is in the mask of the newest round was not out in it
  pub present : (t : Turn) (older : List Turn) → has t.mask k ≡ true → AbsentWherePassed w s k first (t ∷ older) → out_of k older ≡ false
  present t older e h = present_case (has t.mask k) (out_of k older) (w.word (mind_after w s k first older) (length older + 1)) e h.0

  out_case : (now out : Bool) (word : Say) → AbsentIfPass now (counted out word) → (out || not now) ≡ not now
  out_case now true word h = rw h refl
  out_case now false word h = refl

  -- a seat is out exactly where the newest mask lacks it
  pub out_now : (t : Turn) (older : List Turn) → AbsentWherePassed w s k first (t ∷ older) → out_of k (t ∷ older) ≡ not (has t.mask k)
  out_now t older h = out_case (has t.mask k) (out_of k older) (w.word (mind_after w s k first older) (length older + 1)) h.0

  sent_one : (to : ℕ) (now : Bool) (d : Say) → now ≡ true → AbsentIfPass now d → sent_in to d ≡ ring_in to d ∷ []
  sent_one to now (Speak p rs) e h = refl
  sent_one to now Pass e h = absurd (true_ne_false (sym e ∙ h))
  sent_one to now (PassThenSpeak p rs) e h = refl

  -- who is in the mask of the newest round sent one item in it
  pub sent_here : (to : ℕ) (t : Turn) (older : List Turn) → has t.mask k ≡ true → AbsentWherePassed w s k first (t ∷ older) →
      sent_in to (counted_after w s k first older) ≡ ring_in to (counted_after w s k first older) ∷ []
  sent_here to t older e h = sent_one to (has t.mask k) (counted_after w s k first older) e h.0

  not_false : (b : Bool) → (b ≡ false) → b ≡ true → ⊥
  not_false b e f = true_ne_false (sym f ∙ e)

  -- while it is not out, there is one item for each round
  pub sent_length : (to : ℕ) (turns : List Turn) → out_of k turns ≡ false → AbsentWherePassed w s k first turns → length (sent_items w s to k first turns) ≡ length turns
  sent_length to [] e h = refl
  sent_length to (t ∷ older) e h =
      let here : has t.mask k ≡ true = not_not (has t.mask k) (sym (out_now t older h) ∙ e) in
      let more : length (sent_items w s to k first older) ≡ length older = sent_length to older (present t older here h) h.1 in
      length-append (sent_items w s to k first older) (sent_in to (counted_after w s k first older))
      ∙ ap (λ xs. length (sent_items w s to k first older) + length xs) (sent_here to t older here h)
      ∙ omega (arith, more)

-- ---- a ring: the turns of its receiver, and the turns of its sender, the seat k
module _ {M : Type 0} (w : Ways M) (s : Shape) (k : ℕ) (first : M) (to : ℕ) where
  abbrev sent : List Turn → List Ring
  sent theirs = sent_items w s to k first theirs

  same_mask : (t u : Turn) (older theirs : List Turn) → masks_of (t ∷ older) ≡ masks_of (u ∷ theirs) → (t.mask ≡ u.mask) × (masks_of older ≡ masks_of theirs)
  same_mask t u older theirs e = (cc (e), cc (e))

  got_here : (t : Turn) → has t.mask k ≡ true → got_in k t ≡ get_or t.rings (k - 1) Nothing ∷ []
  got_here t e = rw e refl

  got_none : (t : Turn) → has t.mask k ≡ false → got_in k t ≡ []
  got_none t e = rw e refl

  -- while the seat is not out, one item was received for each round
  pub got_length : (turns theirs : List Turn) → masks_of turns ≡ masks_of theirs → out_of k theirs ≡ false → AbsentWherePassed w s k first theirs → length (got_items k turns) ≡ length theirs
  got_length [] [] m e h = refl
  got_length [] (u ∷ theirs) m e h = absurd (cc (m))
  got_length (t ∷ older) [] m e h = absurd (cc (m))
  got_length (t ∷ older) (u ∷ theirs) m e h =
      let both : (t.mask ≡ u.mask) × (masks_of older ≡ masks_of theirs) = same_mask t u older theirs m in
      let here : has u.mask k ≡ true = not_not (has u.mask k) (sym (out_now w s k first u theirs h) ∙ e) in
      let mine : has t.mask k ≡ true = ap (λ x. has x k) both.0 ∙ here in
      let more : length (got_items k older) ≡ length theirs = got_length older theirs both.1 (present w s k first u theirs here h) h.1 in
      length-append (got_items k older) (got_in k t)
      ∙ ap (λ xs. length (got_items k older) + length xs) (got_here t mine)
      ∙ omega (arith, more)

  case_of : (b : Bool) → (b ≡ true) ⊎ (b ≡ false)
  case_of true = inl refl
  case_of false = inr refl

  -- never more was received than sent: whoever is in a mask sent in that round
  pub got_fewer : (turns theirs : List Turn) → masks_of turns ≡ masks_of theirs → AbsentWherePassed w s k first theirs → length (got_items k turns) ≤ length (sent theirs)
  got_fewer [] theirs m h = omega arith
  got_fewer (t ∷ older) [] m h = absurd (cc (m))
  got_fewer (t ∷ older) (u ∷ theirs) m h =
      let both : (t.mask ≡ u.mask) × (masks_of older ≡ masks_of theirs) = same_mask t u older theirs m in
      let more : length (got_items k older) ≤ length (sent theirs) = got_fewer older theirs both.1 h.1 in
      let gots : length (got_items k (t ∷ older)) ≡ length (got_items k older) + length (got_in k t) = length-append (got_items k older) (got_in k t) in
      let sents : length (sent (u ∷ theirs)) ≡ length (sent theirs) + length (sent_in to (counted_after w s k first theirs)) = length-append (sent theirs) (sent_in to (counted_after w s k first theirs)) in
      elim (case_of (has u.mask k)) [
        | inl here ↦
            let one : length (got_in k t) ≡ 1 = ap length (got_here t (ap (λ x. has x k) both.0 ∙ here)) in
            let two : length (sent_in to (counted_after w s k first theirs)) ≡ 1 = ap length (sent_here w s k first to u theirs here h) in
            omega (arith, more, gots, sents, one, two)
        | inr gone ↦
            let none : length (got_in k t) ≡ 0 = ap length (got_none t (ap (λ x. has x k) both.0 ∙ gone)) in
            omega (arith, more, gots, sents, none)
      ]

  -- what was received before the newest round is a prefix of what was sent before it
  pub before_newest : (t u : Turn) (older theirs : List Turn) → masks_of (t ∷ older) ≡ masks_of (u ∷ theirs) → AbsentWherePassed w s k first (u ∷ theirs) →
      IsPrefix (got_items k (t ∷ older)) (sent (u ∷ theirs)) → IsPrefix (got_items k older) (sent theirs)
  before_newest t u older theirs m h p =
      prefix_first (got_items k older) (sent theirs) (sent_in to (counted_after w s k first theirs))
      (got_fewer older theirs (same_mask t u older theirs m).1 h.1)
      (prefix_shorter (got_items k older) (got_in k t) (sent (u ∷ theirs)) p)

  -- the item received in the newest round is the one that was sent in it
  pub newest : (t u : Turn) (older theirs : List Turn) → masks_of (t ∷ older) ≡ masks_of (u ∷ theirs) → AbsentWherePassed w s k first (u ∷ theirs) → has t.mask k ≡ true →
      IsPrefix (got_items k (t ∷ older)) (sent (u ∷ theirs)) → get_or t.rings (k - 1) Nothing ≡ ring_in to (counted_after w s k first theirs)
  newest t u older theirs m h mine p =
      let both : (t.mask ≡ u.mask) × (masks_of older ≡ masks_of theirs) = same_mask t u older theirs m in
      let here : has u.mask k ≡ true = ap (λ x. has x k) (sym both.0) ∙ mine in
      let in_now : out_of k (u ∷ theirs) ≡ false = out_now w s k first u theirs h ∙ ap not here in
      let long : length (got_items k (t ∷ older)) ≡ length (u ∷ theirs) = got_length (t ∷ older) (u ∷ theirs) m in_now h in
      let sent_long : length (sent (u ∷ theirs)) ≡ length (u ∷ theirs) = sent_length w s k first to (u ∷ theirs) in_now h in
      let whole : got_items k (t ∷ older) ≡ sent (u ∷ theirs) = prefix_full (got_items k (t ∷ older)) (sent (u ∷ theirs)) (long ∙ sym sent_long) p in
      let left : got_items k (t ∷ older) ≡ got_items k older ++ get_or t.rings (k - 1) Nothing ∷ [] = ap (λ xs. got_items k older ++ xs) (got_here t mine) in
      let right : sent (u ∷ theirs) ≡ sent theirs ++ ring_in to (counted_after w s k first theirs) ∷ [] = ap (λ xs. sent theirs ++ xs) (sent_here w s k first to u theirs here h) in
      (snoc_back (got_items k older) (sent theirs) (get_or t.rings (k - 1) Nothing) (ring_in to (counted_after w s k first theirs)) (sym left ∙ whole ∙ right)).1
