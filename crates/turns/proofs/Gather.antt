-- From what each member did, the closed board and the settled rings: all members agree.
use Rattle.std.proofs.Common.{◌≡◌, ◌≢◌, ◌⊎◌, inl, inr, ⊎_elim, ℕ, zero, suc, ◌+◌, ◌-◌, ◌<◌, ◌≤◌, Bool, true, false, not, cond, List, [], ◌∷◌, ◌++◌, length, get_or, Option, Some, None, refl, sym, ap, ap₂, ◌∙◌, subst, arith}
use Rattle.std.specs.Int.{bit_at}
use Rattle.std.proofs.lemmas.Bool.{eqb-true, eq-eqb, cases_eq}
use Rattle.std.proofs.lemmas.Bool.Decides.{eqb_tells}
use Rattle.std.proofs.lemmas.Nat.Bits.{bit_at-lt}
use Rattle.talk.specs.declared.messages.Post.{Post}
use Rattle.talk.specs.declared.messages.Post.TheVariants.{Quiet}
use Rattle.talk.specs.declared.messages.Ring.{Ring}
use Rattle.talk.specs.declared.messages.Say.{Say}
use Rattle.talk.specs.declared.messages.Say.TheVariants.{Speak, Pass, PassThenSpeak}
use mathlib.Core.List.{IsPrefix}
use Rattle.talk.specs.Shape.{Shape}
use Rattle.talk.specs.Sync.{Ways, has, post_in}
use Rattle.roundboard.specs.declared.view.Event.{Event}
use Rattle.roundboard.specs.declared.view.Deed.TheVariants.{Posted, Passed, Looked}
use Rattle.roundboard.specs.Rule.{In, event}
use Rattle.roundboard.specs.Pens.{cell_of}
use Rattle.turns.specs.Turns.{Turn, IsComplete, AllComplete, mind_after, counted_after, got_items, sent_items, AbsentIfPass, AbsentWherePassed, PresentIfSpeak, PresentWhereSpoke, Values, masks_of, MembersAgree}
use Rattle.turns.specs.Turns.{HeldBy}
use Rattle.turns.specs.Account.{WordLogged, Wrote, TurnLogged, AllLogged, Account, Closed, masks_back}

bit_true : (m k : ℕ) → has m k ≡ true → bit_at m (k - 1) ≡ 1
bit_true m k e = eqb-true (bit_at m (k - 1)) 1 e

bit_false : (m k : ℕ) → has m k ≡ false → bit_at m (k - 1) ≡ 1 → ⊥
bit_false m k e f = absurd (cc (e, eq-eqb (bit_at m (k - 1)) 1 f))

true_bit : (m k : ℕ) → bit_at m (k - 1) ≡ 1 → has m k ≡ true
true_bit m k e = eq-eqb (bit_at m (k - 1)) 1 e

either : (b : Bool) → (b ≡ true) ⊎ (b ≡ false)
either true = inl refl
either false = inr refl

false_bit : (m k : ℕ) → (bit_at m (k - 1) ≡ 1 → ⊥) → has m k ≡ false
false_bit m k f = elim (either (has m k)) [ inl e ↦ absurd (f (bit_true m k e)) | inr e ↦ e ]

module _ {M : Type 0} (w : Ways M) (s : Shape) (n rounds : ℕ) (mask cut : ℕ → ℕ) (held : ℕ → Option Post) (events : ℕ → List Event) (known : ℕ → ℕ → Option Post) (c : Closed n rounds mask cut held events known) where
  -- ---- masks
  masks_are : (k : ℕ) → 1 ≤ k → k ≤ n → (first : M) (turns : List Turn) → length turns ≤ rounds → AllLogged w s n k first (events k) (known k) turns → masks_of turns ≡ masks_back mask (length turns)
  masks_are k lo hi first [] le h = refl
  masks_are k lo hi first (t ∷ older) le h =
      let here : t.mask ≡ mask (length older) = c.one_mask k (length older) t.mask lo hi (omega (arith, le)) h.0.mask in
      let rest : masks_of older ≡ masks_back mask (length older) = masks_are k lo hi first older (omega (arith, le)) h.1 in
      cc (here, rest)

  all_complete : (k : ℕ) (first : M) (turns : List Turn) → AllLogged w s n k first (events k) (known k) turns → AllComplete n k turns
  all_complete k first [] h = tt
  all_complete k first (t ∷ older) h = (h.0.complete, all_complete k first older h.1)

  -- ---- in time
  absent_if_pass : (k r m : ℕ) → 1 ≤ k → k ≤ n → r < rounds → m ≡ mask r → (d : Say) → WordLogged (events k) r (k - 1) d → AbsentIfPass (has m k) d
  absent_if_pass k r m lo hi lt e (Speak p rs) h = tt
  absent_if_pass k r m lo hi lt e Pass h =
      false_bit m k (λ b. let p = c.posted k r lo hi lt (ap (λ x. bit_at x (k - 1)) (sym e) ∙ b) in h.1 p.0 p.1)
  absent_if_pass k r m lo hi lt e (PassThenSpeak p rs) h = tt

  -- who speaks and isn't present was cut
  present_if_speak : (k r m : ℕ) → 1 ≤ k → k ≤ n → r < rounds → m ≡ mask r → (d : Say) → WordLogged (events k) r (k - 1) d → PresentIfSpeak (has (cut (r + 1)) k) (has m k) d
  present_if_speak k r m lo hi lt e (Speak p rs) h = λ uncut.
      let w = h.0.0 in
      let one : bit_at w 63 + bit_at (mask r) (k - 1) ≡ 1 = c.in_time k r w lo hi lt h.0.1 in
      elim (cases_eq (bit_at w 63) 1) [
        | inl shut ↦ ⊎_elim (λ (t : (x : ℕ) × In (event r (Passed (k - 1) x)) (events k)). absurd (h.1 t.0 t.1))
            (λ (t : bit_at (cut (r + 1)) (k - 1) ≡ 1). absurd (bit_false (cut (r + 1)) k uncut t)) (c.late k r w lo hi lt h.0.1 shut)
        | inr open_ ↦ let set : bit_at (mask r) (k - 1) ≡ 1 = let z = bit_at-lt w 63 in omega (arith, one, open_, z) in
            true_bit m k (ap (λ x. bit_at x (k - 1)) e ∙ set)
      ]
  present_if_speak k r m lo hi lt e Pass h = tt
  present_if_speak k r m lo hi lt e (PassThenSpeak p rs) h = tt

  pub present_where_spoke : (k : ℕ) → 1 ≤ k → k ≤ n → (first : M) (turns : List Turn) → length turns ≤ rounds → AllLogged w s n k first (events k) (known k) turns → PresentWhereSpoke cut w s k first turns
  present_where_spoke k lo hi first [] le h = tt
  present_where_spoke k lo hi first (t ∷ older) le h =
      let here : t.mask ≡ mask (length older) = c.one_mask k (length older) t.mask lo hi (omega (arith, le)) h.0.mask in
      (present_if_speak k (length older) t.mask lo hi (omega (arith, le)) here (counted_after w s k first older) h.0.word, present_where_spoke k lo hi first older (omega (arith, le)) h.1)

  absent_where_passed : (k : ℕ) → 1 ≤ k → k ≤ n → (first : M) (turns : List Turn) → length turns ≤ rounds → AllLogged w s n k first (events k) (known k) turns → AbsentWherePassed w s k first turns
  absent_where_passed k lo hi first [] le h = tt
  absent_where_passed k lo hi first (t ∷ older) le h =
      let here : t.mask ≡ mask (length older) = c.one_mask k (length older) t.mask lo hi (omega (arith, le)) h.0.mask in
      (absent_if_pass k (length older) t.mask lo hi (omega (arith, le)) here (counted_after w s k first older) h.0.word, absent_where_passed k lo hi first older (omega (arith, le)) h.1)

  -- ---- values
  some_same : (x y : Post) → Some x ≡ Some y → x ≡ y
  some_same x y e = cc (e)

  post_of : (k i : ℕ) (x : Post) → 1 ≤ k → k ≤ n → (d : Say) → AbsentIfPass true d → held i ≡ Some x → Wrote (known k) i d → x ≡ post_in d
  post_of k i x lo hi (Speak p rs) t e h = some_same x p (sym e ∙ c.one_value k i p lo hi h)
  post_of k i x lo hi Pass t e h = absurd (cc (t))
  post_of k i x lo hi (PassThenSpeak p rs) t e h = some_same x p (sym e ∙ c.one_value k i p lo hi h)

  held_of : (k i : ℕ) → 1 ≤ k → k ≤ n → (d : Say) → AbsentIfPass true d → Wrote (known k) i d → held i ≡ Some (post_in d)
  held_of k i lo hi (Speak p rs) t h = c.one_value k i p lo hi h
  held_of k i lo hi Pass t h = absurd (cc (t))
  held_of k i lo hi (PassThenSpeak p rs) t h = c.one_value k i p lo hi h

  -- the posts of the seat k of the rounds whose mask has it
  pub held_by : (k : ℕ) → 1 ≤ k → k ≤ n → (first : ℕ → M) (turns : List Turn) → length turns ≤ rounds → AllLogged w s n k (first k) (events k) (known k) turns →
      HeldBy w s first (λ r j. held (cell_of n (r - 1) (j - 1))) k turns
  held_by k lo hi first [] le h = tt
  held_by k lo hi first (u ∷ older) le h =
      let here : u.mask ≡ mask (length older) = c.one_mask k (length older) u.mask lo hi (omega (arith, le)) h.0.mask in
      let row : length older ≡ (length older + 1) - 1 = omega arith in (
        (λ in_mask.
            let timely : AbsentIfPass (has u.mask k) (counted_after w s k (first k) older) = absent_if_pass k (length older) u.mask lo hi (omega (arith, le)) here (counted_after w s k (first k) older) h.0.word in
            ap (λ r. held (cell_of n r (k - 1))) (sym row)
            ∙ held_of k (cell_of n (length older) (k - 1)) lo hi (counted_after w s k (first k) older) (subst (λ (b : Bool). AbsentIfPass b (counted_after w s k (first k) older)) in_mask timely) h.0.wrote),
        held_by k lo hi first older (omega (arith, le)) h.1,
      )

  values_are : (a k : ℕ) → 1 ≤ a → a ≤ n → 1 ≤ k → k ≤ n → (mine its : M) (turns theirs : List Turn) → length turns ≡ length theirs → length theirs ≤ rounds →
      AllLogged w s n a mine (events a) (known a) turns → AllLogged w s n k its (events k) (known k) theirs → Values w s k its turns theirs
  values_are a k al ah lo hi mine its [] theirs e le ha hk = tt
  values_are a k al ah lo hi mine its (t ∷ older) [] e le ha hk = tt
  values_are a k al ah lo hi mine its (t ∷ older) (u ∷ theirs) e le ha hk =
      let same : length older ≡ length theirs = omega (arith, e) in
      let lt : length theirs < rounds = omega (arith, le) in
      let mt : t.mask ≡ mask (length older) = c.one_mask a (length older) t.mask al ah (omega (arith, le, e)) ha.0.mask in
      let mu : u.mask ≡ mask (length theirs) = c.one_mask k (length theirs) u.mask lo hi lt hk.0.mask in
      let both : t.mask ≡ u.mask = mt ∙ ap mask same ∙ sym mu in (
        (λ here.
            let timely : AbsentIfPass (has u.mask k) (counted_after w s k its theirs) = absent_if_pass k (length theirs) u.mask lo hi lt mu (counted_after w s k its theirs) hk.0.word in
            let its_here : has u.mask k ≡ true = ap (λ x. has x k) (sym both) ∙ here in
            post_of k (cell_of n (length theirs) (k - 1)) (get_or t.posts (k - 1) Quiet) lo hi (counted_after w s k its theirs)
            (subst (λ (b : Bool). AbsentIfPass b (counted_after w s k its theirs)) its_here timely)
            (ap (λ x. held (cell_of n x (k - 1))) (sym same) ∙ c.one_value a (cell_of n (length older) (k - 1)) (get_or t.posts (k - 1) Quiet) al ah (ha.0.read k lo hi here))
            hk.0.wrote),
        values_are a k al ah lo hi mine its older theirs same (omega (arith, le)) ha.1 hk.1,
      )

  module _ (first now : ℕ → M) (sent got : ℕ → ℕ → List Ring) (turns : ℕ → List Turn)
      (accounts : (k : ℕ) → 1 ≤ k → k ≤ n → Account w s n k (first k) (now k) (events k) (known k) (sent k) (got k) (turns k))
      (long : (k : ℕ) → 1 ≤ k → k ≤ n → length (turns k) ≡ rounds)
      (prefixes : (a k : ℕ) → 1 ≤ a → a ≤ n → 1 ≤ k → k ≤ n → a ≢ k → IsPrefix (got a (k - 1)) (sent k (a - 1))) where
    pub members_agree : MembersAgree w s n first (masks_back mask rounds) turns
    members_agree = record {
      same_masks = λ k lo hi. masks_are k lo hi (first k) (turns k) (omega (arith, long k lo hi)) (accounts k lo hi).logged ∙ ap (masks_back mask) (long k lo hi);
      complete = λ k lo hi. all_complete k (first k) (turns k) (accounts k lo hi).logged;
      absent = λ k lo hi. absent_where_passed k lo hi (first k) (turns k) (omega (arith, long k lo hi)) (accounts k lo hi).logged;
      values = λ a k al ah lo hi.
          values_are a k al ah lo hi (first a) (first k) (turns a) (turns k) (long a al ah ∙ sym (long k lo hi)) (omega (arith, long k lo hi)) (accounts a al ah).logged (accounts k lo hi).logged;
      rings = λ a k al ah lo hi ne.
          subst (λ (z : List Ring × List Ring). IsPrefix z.0 z.1)
          (λ i. ((accounts a al ah).gets k lo hi (λ e. ne (sym e)) i, (accounts k lo hi).sends a al ah ne i)) (prefixes a k al ah lo hi ne);
    }
