-- What the words say of the pens at the end.
use Rattle.std.proofs.Common.{◌≡◌, ℕ, ◌+◌, ◌*◌, ◌%◌, ◌^◌, ◌<◌, ◌≤◌, ◌⊎◌, List, length, get_or, slice_get, Option, Some, None, sym, refl, ap, ◌∙◌, subst, inl, inr, ⊎_elim, arith}
use Rattle.std.specs.Int.{bit_at}
use Rattle.std.proofs.lemmas.Nat.Bits.{bit_at-lt, bit_at_above}
use Rattle.std.proofs.lemmas.Option.{get_or_from_slice_get}
use mathlib.Core.Logic.{dite}
use mathlib.Core.Option.{some-injective}
use native.Mathlib.Decide.{dec_lt}
use Rattle.std.proofs.Common.{zero, suc, [], ◌∷◌, ◌++◌}
use lib.ListN.{get_elem?}
use Rattle.roundboard.specs.declared.view.View.{View}
use Rattle.roundboard.specs.declared.view.Deed.{Deed}
use Rattle.roundboard.specs.declared.view.Deed.TheVariants.{Posted, Passed, Closed, Lost, Published, Looked, Aborted, SawControl, Cut}
use Rattle.roundboard.specs.declared.view.Event.{Event}
use Rattle.roundboard.specs.Logs.{OwnPosts, OwnPasses}
use Rattle.roundboard.specs.Sheets.{sheet_of}
use Rattle.roundboard.proofs.Sheeting.{on_sheet}
use Rattle.roundboard.specs.declared.board.Pen.{Pen}
use Rattle.roundboard.specs.declared.cells.Cells.{Cells}
use Rattle.roundboard.specs.Rule.{In, event, Did, Sits, Has, Left, arrivals_of, frozen_of, RoundKept}
use Rattle.roundboard.specs.Pages.{mask_in, Saw}
use Rattle.roundboard.specs.Cells.{knows}
use Rattle.roundboard.specs.Pens.{events, place_of, Took, CameFrom, CameFromBoth, HasNumber}
use Rattle.roundboard.specs.Ends.{Ends}
use Rattle.roundboard.specs.Closed.{AgreesAs, SettlesAs}
use Rattle.roundboard.proofs.BitLemmas.{low_bit}
use Rattle.roundboard.proofs.Replay.{mask_of_frozen}
use Rattle.roundboard.proofs.Keeping.{not_none}
use Rattle.roundboard.proofs.ListLemmas.{one_value}
use Rattle.roundboard.proofs.Views.{In-left, In-right, In-back}
use Rattle.roundboard.proofs.Gathers.{took_more}
use Rattle.roundboard.proofs.Notes.{itself}

inner : (a b : Option ℕ) → ◌≡◌ {A = Option (Option ℕ)} (Some a) (Some b) → a ≡ b
inner a b e = cc

value : (a b : ℕ) → ◌≡◌ {A = Option ℕ} (Some a) (Some b) → a ≡ b
value a b e = cc

-- a frozen word that shows a mask was published
module _ (n a f : ℕ) (H : Deed → Type 0) (o : RoundKept n a f H) where
  pub shown_by : (m : ℕ) → mask_in f ≡ Some m → (c : ℕ) × H (Published c) × (c % 2 ^ 30 ≡ m)
  shown_by m is = ⊎_elim (λ (z : f ≡ 0). let n : mask_in f ≡ None = ap mask_in z in absurd cc)
      (λ (t : (c : ℕ) × H (Published c)). (t.0, t.1, value (t.0 % 2 ^ 30) m (sym (mask_of_frozen t.0) ∙ (ap mask_in (sym (o.publishes t.0 t.1).1) ∙ is)))) o.published

  pub shows : (c : ℕ) → H (Published c) → mask_in f ≡ Some (c % 2 ^ 30)
  shows c h = ap mask_in (o.publishes c h).1 ∙ mask_of_frozen c

  pub shows_look : (g m : ℕ) → H (Looked g) → mask_in g ≡ Some m → mask_in f ≡ Some m
  shows_look g m h is = ⊎_elim (λ (z : g ≡ 0). let n : mask_in g ≡ None = ap mask_in z in absurd cc) (λ (z : g ≡ f). ap mask_in (sym z) ∙ is) (o.looks g h)

-- the masks of a list, with one default for all that is past its end
mask_here : (masks : List (Option ℕ)) (r : ℕ) (x : Option ℕ) → slice_get masks r ≡ Some x → get_or masks r None ≡ x
mask_here masks r x e = get_or_from_slice_get masks r x None e

-- where there is a mask there is a round
pub within : (masks : List (Option ℕ)) (r m : ℕ) → get_or masks r None ≡ Some m → r < length masks
within [] r m e = absurd cc
within (x ∷ xs) zero m e = omega arith
within (x ∷ xs) (suc r) m e = let h = within xs r m e in omega arith

pick : {A : Type 0} (xs : List A) (k : ℕ) → k < length xs → (x : A) × (slice_get xs k ≡ Some x)
pick [] k h = absurd (omega arith)
pick (x ∷ xs) zero h = (x, refl)
pick (x ∷ xs) (suc k) h = pick xs k (omega arith)

module _ {T : Type 0} {S : ℕ} (few : S ≤ 30) (rounds id : ℕ) (v : View) (masks : List (Option ℕ)) (known : Cells T) (ends : Ends S rounds id v masks) where
  abbrev mask : ℕ → Option ℕ
  mask r = get_or masks r None

  abbrev arrivals : ℕ → ℕ
  arrivals r = get_or ends.0.words (arrivals_of r) 0

  abbrev frozen : ℕ → ℕ
  frozen r = get_or ends.0.words (frozen_of r) 0

  at_mask : (r : ℕ) → r < rounds → mask r ≡ mask_in (frozen r)
  at_mask r inside = mask_here masks r (mask_in (frozen r)) (ends.4 r inside)

  kept_round : (r : ℕ) → r < rounds → RoundKept S (arrivals r) (frozen r) (Has ends.0.views r)
  kept_round r inside = ends.1.each_round r inside

  -- who published the mask
  by : (r m : ℕ) → r < rounds → mask r ≡ Some m → (c : ℕ) × Has ends.0.views r (Published c) × (c % 2 ^ 30 ≡ m)
  by r m inside is = shown_by S (arrivals r) (frozen r) (Has ends.0.views r) (kept_round r inside) m (sym (at_mask r inside) ∙ is)

  pub agrees : (p : Pen T S) → Took v known p → AgreesAs rounds mask (knows known) p
  agrees p took =
      let has : (r : ℕ) (d : Deed) → In (event r d) (events p) → Has ends.0.views r d = λ r d h. (id, (v, ends.2, took.0 (event r d) h)) in
      record {
        masks = λ r m inside saw. let o = kept_round r inside in at_mask r inside ∙ ⊎_elim
            (λ (t : (f : ℕ) × In (event r (Looked f)) (events p) × (mask_in f ≡ Some m)). shows_look S (arrivals r) (frozen r) (Has ends.0.views r) o t.0 m (has r (Looked t.0) t.1) t.2)
            (λ (t : (c : ℕ) × In (event r (Published c)) (events p) × (c % 2 ^ 30 ≡ m)). shows S (arrivals r) (frozen r) (Has ends.0.views r) o t.0 (has r (Published t.0) t.1) ∙ ap (λ (x : ℕ). Some x) t.2) saw;
        timely = λ r k w m inside h is. let o = kept_round r inside in let t = by r m inside is in
            let place = (o.posts k w (has r (Posted k w) h)).0 in
            let bit : bit_at m k ≡ bit_at t.0 k = ap (λ (x : ℕ). bit_at x k) (sym t.2) ∙ low_bit t.0 k (omega arith) in
            let both = o.timely t.0 k w (o.publishes t.0 t.1).0 (has r (Posted k w) h) in omega arith;
        values = took.1;
      }

  -- the masks that the warden saw
  pub watches : (es : List Event) → ((e : Event) → In e es → In e v.events) → (r m : ℕ) → r < rounds → Saw es r m → mask r ≡ Some m
  watches es took r m inside saw = let o = kept_round r inside in at_mask r inside ∙ ⊎_elim
      (λ (t : (f : ℕ) × In (event r (Looked f)) es × (mask_in f ≡ Some m)). shows_look S (arrivals r) (frozen r) (Has ends.0.views r) o t.0 m (id, (v, ends.2, took (event r (Looked t.0)) t.1)) t.2)
      (λ (t : (c : ℕ) × In (event r (Published c)) es × (c % 2 ^ 30 ≡ m)). shows S (arrivals r) (frozen r) (Has ends.0.views r) o t.0 (id, (v, ends.2, took (event r (Published t.0)) t.1)) ∙ ap (λ (x : ℕ). Some x) t.2) saw

  -- the deeds of all places are in the one view
  module _ (es : List Event) (own_posts : OwnPosts S es) (own_passes : OwnPasses S es) (watch : In (S + 1) v.numbers) (pens : List (Pen T S)) (count : length pens ≡ S) (order : (k : ℕ) (p : Pen T S) → slice_get pens k ≡ Some p → place_of p ≡ k) (from : CameFromBoth v pens es) (numbers : (k : ℕ) (p : Pen T S) → slice_get pens k ≡ Some p → HasNumber v p) where
    seated : (k : ℕ) → k < S → In (k + 1) v.numbers
    seated k inside = let t = pick pens k (omega arith) in subst (λ (n : ℕ). In (n + 1) v.numbers) (order k t.0 t.1) (numbers k t.0 t.1)

    own_view : (i k : ℕ) → k < S → Sits ends.0.views i (k + 1) → i ≡ id
    own_view i k inside sits = ends.1.single i id (k + 1) sits (v, ends.2, seated k inside)

    in_view : (i r : ℕ) (d : Deed) → i ≡ id → Did ends.0.views i r d → In (event r d) v.events
    in_view i r d e did = subst (λ (u : View). In (event r d) u.events) (some-injective did.0 v (sym did.1 ∙ ap (λ (x : ℕ). get_elem? ends.0.views x) e ∙ ends.2)) did.2

    cutter : (i r m w : ℕ) → Did ends.0.views i r (Cut m w) → i ≡ id
    cutter i r m w did = ends.1.single i id (S + 1) (ends.1.warden i r m w did) (v, ends.2, watch)

    -- a view that shows an arrival of a seat, or a cut, is that one
    arrived : (i r : ℕ) (d : Deed) (x : ℕ) → r < rounds → Did ends.0.views i r d → Left d x → i ≡ id
    arrived i r (Posted k w) x inside did left = own_view i k ((kept_round r inside).posts k w (i, did)).0 (ends.1.own i r k w (inl did))
    arrived i r (Passed k w) x inside did left = own_view i k ((kept_round r inside).passes k w (i, did)).0 (ends.1.own i r k w (inr did))
    arrived i r (Closed c) x inside did left = absurd left
    arrived i r (Lost c) x inside did left = absurd left
    arrived i r (Published c) x inside did left = absurd left
    arrived i r (Looked c) x inside did left = absurd left
    arrived i r Aborted x inside did left = absurd left
    arrived i r (SawControl c) x inside did left = absurd left
    arrived i r (Cut m w) x inside did left = cutter i r m w did

    published : (r m : ℕ) → r < rounds → mask r ≡ Some m → (c : ℕ) × (c % 2 ^ 30 ≡ m) × (((k : ℕ) × (p : Pen T S) × (slice_get pens k ≡ Some p) × In (event r (Published c)) (events p)) ⊎ In (event r (Published c)) es)
    published r m inside is =
        let t = by r m inside is in let c = t.0 in let i = t.1.0 in let did = t.1.1 in
        let closed = ends.1.publisher i r c did in
        let shown = ends.1.licensed i r c closed in
        let here : i ≡ id = arrived i r shown.2.0 shown.2.1 inside (shown.0, shown.1, shown.2.2) shown.2.3 in
        (c, t.2, from (event r (Published c)) (in_view i r (Published c) here did))

    -- an event that isn't the warden's is that of the pen of its place
    pen_of : (r k : ℕ) (d : Deed) → ((p : Pen T S) → In (event r d) (events p) → k ≡ place_of p) → ¬ (In (event r d) es) → In (event r d) v.events → (p : Pen T S) × (slice_get pens k ≡ Some p) × In (event r d) (events p)
    pen_of r k d own not_his h = ⊎_elim
        (λ (src : (j : ℕ) × (p : Pen T S) × (slice_get pens j ≡ Some p) × In (event r d) (events p)).
        let place : k ≡ src.0 = own src.1 src.3 ∙ order src.0 src.1 src.2 in (src.1, ap (λ (n : ℕ). slice_get pens n) place ∙ src.2, src.3))
        (λ (t : In (event r d) es). absurd (not_his t)) (from (event r d) h)

    posted : (r k m : ℕ) → r < rounds → mask r ≡ Some m → bit_at m k ≡ 1 → (w : ℕ) × (p : Pen T S) × (slice_get pens k ≡ Some p) × In (event r (Posted k w)) (events p)
    posted r k m inside is bit =
        let o = kept_round r inside in let t = by r m inside is in let c = t.0 in
        let in_low : bit_at (c % 2 ^ 30) k ≡ 1 = ap (λ (x : ℕ). bit_at x k) t.2 ∙ bit in
        let low : k < 30 = dite (dec_lt k 30) (λ h. h) (λ h. absurd (let z = bit_at_above (c % 2 ^ 30) 30 k (omega arith) (omega arith) in omega arith)) in
        let in_c : bit_at c k ≡ 1 = sym (low_bit c k low) ∙ in_low in
        let part : bit_at c k ≤ bit_at (arrivals r) k = (o.closes c (o.publishes c t.1).0).3 k in
        let set_ : bit_at (arrivals r) k ≡ 1 = omega (arith, part, in_c, bit_at-lt (arrivals r) k) in
        let q = o.posted k low set_ in let w = q.0 in let i = q.1.0 in let did = q.1.1 in
        let here : i ≡ id = own_view i k (o.posts k w q.1).0 (ends.1.own i r k w (inl did)) in
        let inside_k : k < S = (o.posts k w q.1).0 in
        let src = pen_of r k (Posted k w) (λ p h. p.log.posts r k w h) (λ h. let e : k ≡ S = own_posts r k w h in omega arith) (in_view i r (Posted k w) here did) in
        (w, src.0, src.1, src.2)

    -- a late post
    late : (r k w : ℕ) (p : Pen T S) → Took v known p → r < rounds → slice_get pens k ≡ Some p → In (event r (Posted k w)) (events p) → bit_at w 63 ≡ 1 → ((x : ℕ) × In (event r (Passed k x)) (events p)) ⊎ (bit_at (sheet_of es r).cut k ≡ 1)
    late r k w p took inside at h is =
        let o = kept_round r inside in let a = arrivals r in
        let has : Has ends.0.views r (Posted k w) = (id, (v, ends.2, took.0 (event r (Posted k w)) h)) in
        let post = o.posts k w has in let inside_k : k < S = post.0 in
        let shut : bit_at a 63 ≡ 1 = let t = post.2 63 in let z = bit_at-lt a 63 in omega arith in
        let c = o.closed shut in let close = o.closes c.0 c.1 in
        let lacks : bit_at c.0 k ≡ 0 = let t = o.timely c.0 k w c.1 has in omega arith in
        let set_ : bit_at a (30 + k) ≡ 1 = let f = close.2 k inside_k in let t = close.3 (30 + k) in let z = bit_at-lt a (30 + k) in omega arith in
        ⊎_elim
        (λ (q : (x : ℕ) × Has ends.0.views r (Passed k x)). let x = q.0 in let i = q.1.0 in let did = q.1.1 in
        let here : i ≡ id = own_view i k inside_k (ends.1.own i r k x (inr did)) in
        let src = pen_of r k (Passed k x) (λ u t. u.log.passes r k x t) (λ t. let e : k ≡ S = own_passes r k x t in omega arith) (in_view i r (Passed k x) here did) in
        inl (x, subst (λ (u : Pen T S). In (event r (Passed k x)) (events u)) (one_value (slice_get pens k) src.0 p src.1 at) src.2))
        (λ (q : (m : ℕ) × (x : ℕ) × Has ends.0.views r (Cut m x) × (bit_at m k ≡ 1)). let m = q.0 in let x = q.1 in let i = q.2.0 in let did = q.2.1 in
        inr (⊎_elim (λ (src : (j : ℕ) × (u : Pen T S) × (slice_get pens j ≡ Some u) × In (event r (Cut m x)) (events u)). absurd (src.1.uncut r m x src.3))
        (λ (t : In (event r (Cut m x)) es). on_sheet es r m x k t q.3) (from (event r (Cut m x)) (in_view i r (Cut m x) (cutter i r m x did) did))))
        (o.passed k (omega arith) set_)

    pub settles : ((k : ℕ) (p : Pen T S) → slice_get pens k ≡ Some p → Took v known p) → SettlesAs rounds mask pens es
    settles took = record { posted = posted; published = published; late = λ r k w p inside at h is. late r k w p (took k p at) inside at h is }

    -- the value of who is in a mask is there
    pub held : ((k : ℕ) (p : Pen T S) → slice_get pens k ≡ Some p → Took v known p) → (r k m : ℕ) → r < rounds → mask r ≡ Some m → bit_at m k ≡ 1 → ¬ (knows known (r * S + k) ≡ None)
    held took r k m inside is bit =
        let t = posted r k m inside is bit in let p = t.1 in
        let own : ¬ (knows p.cells (r * S + k) ≡ None) = subst (λ (n : ℕ). ¬ (knows p.cells (r * S + n) ≡ None)) (order k p t.2) (p.kept r k t.0 t.3) in
        not_none S (knows p.cells (r * S + k)) (knows known (r * S + k)) ((took k p t.2).1 (r * S + k)) own

-- what the last view took up from the view of all pens v and the warden's w
module _ {T : Type 0} {S : ℕ} (v w u : View) where
  pub all_took : (known : Cells T) (pens : List (Pen T S)) → u.events ≡ v.events ++ w.events → ((k : ℕ) (p : Pen T S) → slice_get pens k ≡ Some p → Took v known p)
      → (k : ℕ) (p : Pen T S) → slice_get pens k ≡ Some p → Took u known p
  all_took known pens deeds took k p at = took_more v u known known p (took k p at) (λ x h. subst (λ (l : List Event). In x l) (sym deeds) (In-left x v.events w.events h)) (λ i. itself (knows known i))

  pub all_numbers : (pens : List (Pen T S)) → u.numbers ≡ v.numbers ++ w.numbers → ((k : ℕ) (p : Pen T S) → slice_get pens k ≡ Some p → HasNumber v p)
      → (k : ℕ) (p : Pen T S) → slice_get pens k ≡ Some p → HasNumber u p
  all_numbers pens numbers sits k p at = subst (λ (l : List ℕ). In (place_of p + 1) l) (sym numbers) (In-left (place_of p + 1) v.numbers w.numbers (sits k p at))

  pub came_from : (pens : List (Pen T S)) (es : List Event) → u.events ≡ v.events ++ w.events → w.events ≡ es → CameFrom v pens → CameFromBoth u pens es
  came_from pens es deeds his from e h = ⊎_elim (λ (t : In e v.events). inl (from e t)) (λ (t : In e w.events). inr (subst (λ (l : List Event). In e l) his t))
      (In-back e v.events w.events (subst (λ (l : List Event). In e l) deeds h))

pub his_number : (v w u : View) (n : ℕ) → u.numbers ≡ v.numbers ++ w.numbers → w.numbers ≡ (n + 1) ∷ [] → In (n + 1) u.numbers
his_number v w u n numbers his = subst (λ (l : List ℕ). In (n + 1) l) (sym numbers) (In-right (n + 1) v.numbers w.numbers (subst (λ (l : List ℕ). In (n + 1) l) (sym his) (inl refl)))
