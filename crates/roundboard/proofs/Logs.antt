-- How a log grows.
use Rattle.std.proofs.Common.{◌≡◌, ℕ, ◌+◌, ◌%◌, ◌^◌, ◌<◌, ◌≤◌, ◌⊎◌, List, [], ◌∷◌, sym, refl, ap, ◌∙◌, subst, inl, inr, ⊎_elim, arith}
use Rattle.std.specs.Int.{bit_at}
use Rattle.roundboard.specs.declared.view.Event.{Event}
use Rattle.roundboard.specs.declared.view.Deed.{Deed}
use Rattle.roundboard.specs.declared.view.Deed.TheVariants.{Posted, Passed, Closed, Lost, Published, Looked, SawControl, Cut}
use Rattle.std.proofs.Common.{length, set, Option, Some, None, Bool}
use Rattle.atomic_table.specs.Table.{Me}
use Rattle.roundboard.specs.declared.view.View.{View}
use Rattle.roundboard.specs.declared.page.Page.{Page}
use Rattle.roundboard.specs.Rule.{In, event, with_event, IsFull, control_round}
use Rattle.roundboard.specs.Pages.{Paged, page_of, turned, Saw, newer}
use Rattle.std.specs.Prelude.{IfSome}
use Rattle.roundboard.specs.Answers.{LookTells, LooksUnset, last_look}
use Rattle.roundboard.specs.declared.board.Waited.{Waited}
use Rattle.roundboard.specs.declared.board.Waited.TheVariants.{Frozen as WaitedFrozen, Aborted as WaitedAborted}
use Rattle.roundboard.specs.declared.board.Look.{Look}
use Rattle.roundboard.specs.declared.board.Look.TheVariants.{Frozen, NotYet, Aborted as LookAborted}
use Rattle.roundboard.proofs.Replay.{keeps_page, turns_page, replay}
use Rattle.roundboard.specs.Logs.{ClosesOrLoses, Arrival, OwnPosts, OwnPasses, Grew, NoArrivals, OnlyLooks, IsLoad, frozen_loads, control_loads}

-- one more event, of which it is known whose post or pass it would be
pub own_posts_more : (place : ℕ) (es : List Event) (r : ℕ) (d : Deed) → OwnPosts place es → ((k w : ℕ) → d ≡ Posted k w → k ≡ place) → OwnPosts place (event r d ∷ es)
own_posts_more place es r d own new q k w h = ⊎_elim (λ (t : event r d ≡ event q (Posted k w)). new k w (ap (λ (z : Event). z.deed) t)) (λ (t : In (event q (Posted k w)) es). own q k w t) h

pub own_passes_more : (place : ℕ) (es : List Event) (r : ℕ) (d : Deed) → OwnPasses place es → ((k w : ℕ) → d ≡ Passed k w → k ≡ place) → OwnPasses place (event r d ∷ es)
own_passes_more place es r d own new q k w h = ⊎_elim (λ (t : event r d ≡ event q (Passed k w)). new k w (ap (λ (z : Event). z.deed) t)) (λ (t : In (event q (Passed k w)) es). own q k w t) h

-- What the log of a place keeps, of the seat m and the pages
pub record Keeps (place : ℕ) (m : Me (Unit {0}) View) (pages : List Page) : Type 0 where
  pub sits : m.0.numbers ≡ (place + 1) ∷ []
  pub bare : m.1 ≡ []
  pub paged : Paged m.0.events pages
  pub posts : OwnPosts place m.0.events
  pub passes : OwnPasses place m.0.events

-- one more event that turns no page
pub quiet_more : (place : ℕ) (m n : Me (Unit {0}) View) (pages : List Page) (r : ℕ) (d : Deed) → Keeps place m pages → n ≡ (with_event r d m.0, m.1)
    → ((p : Page) → turned d p ≡ p) → ((k w : ℕ) → ¬ (d ≡ Posted k w)) → ((k w : ℕ) → ¬ (d ≡ Passed k w)) → Keeps place n pages
quiet_more place m n pages r d o is still no_post no_pass = subst (λ (z : Me (Unit {0}) View). Keeps place z pages) (sym is) record {
  sits = o.sits;
  bare = o.bare;
  paged = keeps_page m.0.events pages r d o.paged still;
  posts = own_posts_more place m.0.events r d o.posts (λ k w e. absurd (no_post k w e));
  passes = own_passes_more place m.0.events r d o.passes (λ k w e. absurd (no_pass k w e));
}

-- one more event, with its page turned
pub page_more : (place : ℕ) (m n : Me (Unit {0}) View) (pages : List Page) (r : ℕ) (d : Deed) (pg : Page) → Keeps place m pages → n ≡ (with_event r d m.0, m.1)
    → r < length pages → pg ≡ turned d (page_of m.0.events r) → ((k w : ℕ) → d ≡ Posted k w → k ≡ place) → ((k w : ℕ) → d ≡ Passed k w → k ≡ place) → Keeps place n (set pages r pg)
page_more place m n pages r d pg o is inside page post pass = subst (λ (z : Me (Unit {0}) View). Keeps place z (set pages r pg)) (sym is) record {
  sits = o.sits;
  bare = o.bare;
  paged = turns_page m.0.events pages r d pg o.paged inside page;
  posts = own_posts_more place m.0.events r d o.posts post;
  passes = own_passes_more place m.0.events r d o.passes pass;
}

pub same_page : (a b p q : Bool) (m n : Option ℕ) → a ≡ b → p ≡ q → m ≡ n → ◌≡◌ {A = Page} record { posted = a; passed = p; mask = m } record { posted = b; passed = q; mask = n }
same_page a b p q m n e f g i = record { posted = e i; passed = f i; mask = g i }

-- ---- what the calls add to a log
pub no_posts_more : (es : List Event) (r : ℕ) (d : Deed) → ((k w : ℕ) → ¬ (d ≡ Posted k w)) → (q k w : ℕ) → In (event q (Posted k w)) (event r d ∷ es) → In (event q (Posted k w)) es
no_posts_more es r d none q k w h = ⊎_elim (λ (t : event r d ≡ event q (Posted k w)). absurd (none k w (ap (λ (z : Event). z.deed) t))) (λ (t : In (event q (Posted k w)) es). t) h

no_passes_more : (es : List Event) (r : ℕ) (d : Deed) → ((k w : ℕ) → ¬ (d ≡ Passed k w)) → (q k w : ℕ) → In (event q (Passed k w)) (event r d ∷ es) → In (event q (Passed k w)) es
no_passes_more es r d none q k w h = ⊎_elim (λ (t : event r d ≡ event q (Passed k w)). absurd (none k w (ap (λ (z : Event). z.deed) t))) (λ (t : In (event q (Passed k w)) es). t) h

pub no_cuts_more : (es : List Event) (r : ℕ) (d : Deed) → ((m w : ℕ) → ¬ (d ≡ Cut m w)) → (q m w : ℕ) → In (event q (Cut m w)) (event r d ∷ es) → In (event q (Cut m w)) es
no_cuts_more es r d none q m w h = ⊎_elim (λ (t : event r d ≡ event q (Cut m w)). absurd (none m w (ap (λ (z : Event). z.deed) t))) (λ (t : In (event q (Cut m w)) es). t) h

-- a closing step adds no post and no pass
pub closing_posts : (r : ℕ) (old new : List Event) → ClosesOrLoses r old new → (q k w : ℕ) → In (event q (Posted k w)) new → In (event q (Posted k w)) old
closing_posts r old new (c, how) q k w h = ⊎_elim
    (λ (t : (bit_at c 63 ≡ 0) × (new ≡ event r (Published c) ∷ (event r (Closed c) ∷ old))). no_posts_more old r (Closed c) (λ j x e. absurd cc) q k w
    (no_posts_more (event r (Closed c) ∷ old) r (Published c) (λ j x e. absurd cc) q k w (subst (λ (l : List Event). In (event q (Posted k w)) l) t.1 h)))
    (λ (t : (bit_at c 63 ≡ 1) × (new ≡ event r (Lost c) ∷ old)). no_posts_more old r (Lost c) (λ j x e. absurd cc) q k w (subst (λ (l : List Event). In (event q (Posted k w)) l) t.1 h)) how

pub closing_passes : (r : ℕ) (old new : List Event) → ClosesOrLoses r old new → (q k w : ℕ) → In (event q (Passed k w)) new → In (event q (Passed k w)) old
closing_passes r old new (c, how) q k w h = ⊎_elim
    (λ (t : (bit_at c 63 ≡ 0) × (new ≡ event r (Published c) ∷ (event r (Closed c) ∷ old))). no_passes_more old r (Closed c) (λ j x e. absurd cc) q k w
    (no_passes_more (event r (Closed c) ∷ old) r (Published c) (λ j x e. absurd cc) q k w (subst (λ (l : List Event). In (event q (Passed k w)) l) t.1 h)))
    (λ (t : (bit_at c 63 ≡ 1) × (new ≡ event r (Lost c) ∷ old)). no_passes_more old r (Lost c) (λ j x e. absurd cc) q k w (subst (λ (l : List Event). In (event q (Passed k w)) l) t.1 h)) how

pub closing_cuts : (r : ℕ) (old new : List Event) → ClosesOrLoses r old new → (q k w : ℕ) → In (event q (Cut k w)) new → In (event q (Cut k w)) old
closing_cuts r old new (c, how) q k w h = ⊎_elim
    (λ (t : (bit_at c 63 ≡ 0) × (new ≡ event r (Published c) ∷ (event r (Closed c) ∷ old))). no_cuts_more old r (Closed c) (λ j x e. absurd cc) q k w
    (no_cuts_more (event r (Closed c) ∷ old) r (Published c) (λ j x e. absurd cc) q k w (subst (λ (l : List Event). In (event q (Cut k w)) l) t.1 h)))
    (λ (t : (bit_at c 63 ≡ 1) × (new ≡ event r (Lost c) ∷ old)). no_cuts_more old r (Lost c) (λ j x e. absurd cc) q k w (subst (λ (l : List Event). In (event q (Cut k w)) l) t.1 h)) how

closing_keeps : (r : ℕ) (old new : List Event) → ClosesOrLoses r old new → (e : Event) → In e old → In e new
closing_keeps r old new (c, how) e h = ⊎_elim
    (λ (t : (bit_at c 63 ≡ 0) × (new ≡ event r (Published c) ∷ (event r (Closed c) ∷ old))). subst (λ (l : List Event). In e l) (sym t.1) (inr (inr h)))
    (λ (t : (bit_at c 63 ≡ 1) × (new ≡ event r (Lost c) ∷ old)). subst (λ (l : List Event). In e l) (sym t.1) (inr h)) how

-- an arrival adds its own event, and no other post or pass
module _ (seats r : ℕ) (d : Deed) (w all : ℕ) (old new : List Event) (how : Arrival seats r d w all old new) where
  pub arrival_keeps : (e : Event) → In e (event r d ∷ old) → In e new
  arrival_keeps e h = ⊎_elim (λ (t : (bit_at w 63 ≡ 0) × IsFull seats all × ClosesOrLoses r (event r d ∷ old) new). closing_keeps r (event r d ∷ old) new t.2 e h)
      (λ (t : ((bit_at w 63 ≡ 1) ⊎ (¬ (IsFull seats all))) × (new ≡ event r d ∷ old)). subst (λ (l : List Event). In e l) (sym t.1) h) how

  pub arrival_posts : (q k x : ℕ) → In (event q (Posted k x)) new → In (event q (Posted k x)) (event r d ∷ old)
  arrival_posts q k x h = ⊎_elim (λ (t : (bit_at w 63 ≡ 0) × IsFull seats all × ClosesOrLoses r (event r d ∷ old) new). closing_posts r (event r d ∷ old) new t.2 q k x h)
      (λ (t : ((bit_at w 63 ≡ 1) ⊎ (¬ (IsFull seats all))) × (new ≡ event r d ∷ old)). subst (λ (l : List Event). In (event q (Posted k x)) l) t.1 h) how

  pub arrival_passes : (q k x : ℕ) → In (event q (Passed k x)) new → In (event q (Passed k x)) (event r d ∷ old)
  arrival_passes q k x h = ⊎_elim (λ (t : (bit_at w 63 ≡ 0) × IsFull seats all × ClosesOrLoses r (event r d ∷ old) new). closing_passes r (event r d ∷ old) new t.2 q k x h)
      (λ (t : ((bit_at w 63 ≡ 1) ⊎ (¬ (IsFull seats all))) × (new ≡ event r d ∷ old)). subst (λ (l : List Event). In (event q (Passed k x)) l) t.1 h) how

  pub arrival_cuts : (q k x : ℕ) → In (event q (Cut k x)) new → In (event q (Cut k x)) (event r d ∷ old)
  arrival_cuts q k x h = ⊎_elim (λ (t : (bit_at w 63 ≡ 0) × IsFull seats all × ClosesOrLoses r (event r d ∷ old) new). closing_cuts r (event r d ∷ old) new t.2 q k x h)
      (λ (t : ((bit_at w 63 ≡ 1) ⊎ (¬ (IsFull seats all))) × (new ≡ event r d ∷ old)). subst (λ (l : List Event). In (event q (Cut k x)) l) t.1 h) how

  pub arrival_grew : Grew r old new
  arrival_grew = record {
    keep = λ e h. arrival_keeps e (inr h);
    posts = λ q k x h. ⊎_elim (λ (t : event r d ≡ event q (Posted k x)). inr (sym (ap (λ (z : Event). z.round) t))) (λ (t : In (event q (Posted k x)) old). inl t) (arrival_posts q k x h);
    passes = λ q k x h. ⊎_elim (λ (t : event r d ≡ event q (Passed k x)). inr (sym (ap (λ (z : Event). z.round) t))) (λ (t : In (event q (Passed k x)) old). inl t) (arrival_passes q k x h);
  }

published_mask : (r x : ℕ) (es : List Event) → (page_of (event r (Published x) ∷ es) r).mask ≡ Some (x % 2 ^ 30)
published_mask r x es = replay (event r (Published x)) es r (λ p. p.mask ≡ Some (x % 2 ^ 30)) (λ e. refl) (λ n. absurd (n refl))

closer_behind : (r : ℕ) (d : Deed) (old : List Event) → ((c : ℕ) → ¬ (d ≡ Closed c)) → (c : ℕ) → In (event r (Closed c)) (event r d ∷ old) → In (event r (Closed c)) old
closer_behind r d old other c h = ⊎_elim (λ (e : event r d ≡ event r (Closed c)). absurd (other c (ap (λ (z : Event). z.deed) e))) (λ (y : In (event r (Closed c)) old). y) h

closing_closer : (r : ℕ) (old new : List Event) → ClosesOrLoses r old new → (c : ℕ) → In (event r (Closed c)) new → In (event r (Closed c)) old ⊎ ((page_of new r).mask ≡ Some (c % 2 ^ 30))
closing_closer r old new (x, how) c h = ⊎_elim
    (λ (t : (bit_at x 63 ≡ 0) × (new ≡ event r (Published x) ∷ (event r (Closed x) ∷ old))).
    let mask : (page_of new r).mask ≡ Some (x % 2 ^ 30) = subst (λ (l : List Event). (page_of l r).mask ≡ Some (x % 2 ^ 30)) (sym t.1) (published_mask r x (event r (Closed x) ∷ old)) in
    ⊎_elim (λ (e : event r (Published x) ≡ event r (Closed c)). absurd (let z : Published x ≡ Closed c = ap (λ (z : Event). z.deed) e in cc))
    (λ (y : In (event r (Closed c)) (event r (Closed x) ∷ old)). ⊎_elim
    (λ (e : event r (Closed x) ≡ event r (Closed c)). let z : Closed x ≡ Closed c = ap (λ (z : Event). z.deed) e in let same : x ≡ c = cc in
    inr (subst (λ (n : ℕ). (page_of new r).mask ≡ Some (n % 2 ^ 30)) same mask))
    (λ (z : In (event r (Closed c)) old). inl z) y)
    (subst (λ (l : List Event). In (event r (Closed c)) l) t.1 h))
    (λ (t : (bit_at x 63 ≡ 1) × (new ≡ event r (Lost x) ∷ old)). inl (closer_behind r (Lost x) old (λ y e. absurd cc) c (subst (λ (l : List Event). In (event r (Closed c)) l) t.1 h))) how

-- a closing word that came by this call has been published, and its mask was seen
pub arrival_closer : (seats r : ℕ) (d : Deed) (w all : ℕ) (old new : List Event) → Arrival seats r d w all old new → ((c : ℕ) → ¬ (d ≡ Closed c)) → (c : ℕ) → In (event r (Closed c)) new → In (event r (Closed c)) old ⊎ ((page_of new r).mask ≡ Some (c % 2 ^ 30))
arrival_closer seats r d w all old new how other c h = ⊎_elim
    (λ (t : (bit_at w 63 ≡ 0) × IsFull seats all × ClosesOrLoses r (event r d ∷ old) new). ⊎_elim
    (λ (y : In (event r (Closed c)) (event r d ∷ old)). inl (closer_behind r d old other c y))
    (λ (y : (page_of new r).mask ≡ Some (c % 2 ^ 30)). inr y)
    (closing_closer r (event r d ∷ old) new t.2 c h))
    (λ (t : ((bit_at w 63 ≡ 1) ⊎ (¬ (IsFull seats all))) × (new ≡ event r d ∷ old)). inl (closer_behind r d old other c (subst (λ (l : List Event). In (event r (Closed c)) l) t.1 h))) how

-- ---- looks
pub looks_none : (r : ℕ) (l : List Event) → OnlyLooks r l l
looks_none r l = record { keep = λ e h. h; loads = λ e h. inl h; frozen = omega arith; control = omega arith }

-- one more load of a look
look_more : (r : ℕ) (a b : List Event) (e : Event) → IsLoad r e → OnlyLooks r a b → OnlyLooks r a (e ∷ b)
look_more r a b e is o = record {
  keep = λ x h. inr (o.keep x h);
  loads = λ x h. ⊎_elim (λ (t : e ≡ x). inr (subst (λ (y : Event). IsLoad r y) t is)) (λ (t : In x b). o.loads x t) h;
  frozen = let t = o.frozen in omega (arith, t);
  control = let t = o.control in omega (arith, t);
}

-- a look that found nothing, after looks
pub unset_more : (r c : ℕ) (a b new : List Event) → OnlyLooks r a b → LooksUnset r c b new → OnlyLooks r a new
unset_more r c a b new o (f, is, none) = subst (λ (l : List Event). OnlyLooks r a l) (sym is)
    (look_more r a (event r (Looked f) ∷ b) (event control_round (SawControl c)) (inr (c, refl)) (look_more r a b (event r (Looked f)) (inl (f, refl)) o))

-- a look adds no post and no pass
pub looks_no_arrivals : (r : ℕ) (a b : List Event) → OnlyLooks r a b → NoArrivals a b
looks_no_arrivals r a b o = record {
  posts = λ q k w h. ⊎_elim (λ (t : In (event q (Posted k w)) a). t)
      (λ (t : IsLoad r (event q (Posted k w))). absurd (⊎_elim
      (λ (u : (f : ℕ) × (event q (Posted k w) ≡ event r (Looked f))). let z : Posted k w ≡ Looked u.0 = ap (λ (x : Event). x.deed) u.1 in cc)
      (λ (u : (c : ℕ) × (event q (Posted k w) ≡ event control_round (SawControl c))). let z : Posted k w ≡ SawControl u.0 = ap (λ (x : Event). x.deed) u.1 in cc) t))
      (o.loads (event q (Posted k w)) h);
  passes = λ q k w h. ⊎_elim (λ (t : In (event q (Passed k w)) a). t)
      (λ (t : IsLoad r (event q (Passed k w))). absurd (⊎_elim
      (λ (u : (f : ℕ) × (event q (Passed k w) ≡ event r (Looked f))). let z : Passed k w ≡ Looked u.0 = ap (λ (x : Event). x.deed) u.1 in cc)
      (λ (u : (c : ℕ) × (event q (Passed k w) ≡ event control_round (SawControl c))). let z : Passed k w ≡ SawControl u.0 = ap (λ (x : Event). x.deed) u.1 in cc) t))
      (o.loads (event q (Passed k w)) h);
}

pub looks_grew : (r : ℕ) (a b : List Event) → OnlyLooks r a b → Grew r a b
looks_grew r a b o = let none = looks_no_arrivals r a b o in
    record { keep = o.keep; posts = λ q k w h. inl (none.posts q k w h); passes = λ q k w h. inl (none.passes q k w h) }

-- what a look adds, whatever it answers
pub look_grew : (r : ℕ) (result : Look) (old new : List Event) → LookTells r result old new → OnlyLooks r old new
look_grew r (Frozen m) old new (f, is, shows) = subst (λ (l : List Event). OnlyLooks r old l) (sym is) (look_more r old old (event r (Looked f)) (inl (f, refl)) (looks_none r old))
look_grew r NotYet old new (c, how, bit) = unset_more r c old old new (looks_none r old) how
look_grew r LookAborted old new (c, how, bit) = unset_more r c old old new (looks_none r old) how

-- a look that shows a mask: the log shows it
pub look_saw : (r m : ℕ) (old new : List Event) → LookTells r (Frozen m) old new → Saw new r m
look_saw r m old new (f, is, shows) = inl (f, subst (λ (l : List Event). In (event r (Looked f)) l) (sym is) (inl refl), shows)

-- and so does the page
pub look_page : (r m : ℕ) (old new : List Event) → LookTells r (Frozen m) old new → (page_of new r).mask ≡ Some m
look_page r m old new (f, is, shows) = subst (λ (l : List Event). (page_of l r).mask ≡ Some m) (sym is)
    (replay (event r (Looked f)) old r (λ p. p.mask ≡ Some m) (λ e. ap (λ (o : Option ℕ). newer o (page_of old r).mask) shows) (λ n. absurd (n refl)))

-- ---- waits
-- a pen that is answered "not yet" had seen no mask, so one that had seen a mask before its wait isn't
pub not_seen : (first now next : Option ℕ) (result : Look) → result ≡ NotYet → IfSome now (λ m. result ≡ Frozen m) → IfSome first (λ m. now ≡ Some m) → IfSome first (λ m. next ≡ Some m)
not_seen None now next result is again seen = tt
not_seen (Some m) None next result is again seen = absurd (let t = seen in cc)
not_seen (Some m) (Some n) next result is again seen = absurd (let t : NotYet ≡ Frozen n = sym is ∙ again in cc)

last_frozen : (waited : Waited) (m : ℕ) → last_look waited ≡ Frozen m → waited ≡ WaitedFrozen m
last_frozen (WaitedFrozen x) m e = let same : x ≡ m = cc in ap (λ (n : ℕ). WaitedFrozen n) same
last_frozen WaitedAborted m e = absurd cc

-- the last look of a wait answers with the mask that was seen before
pub frozen_again : (first now : Option ℕ) (waited : Waited) → IfSome now (λ m. last_look waited ≡ Frozen m) → IfSome first (λ m. now ≡ Some m) → IfSome first (λ m. waited ≡ WaitedFrozen m)
frozen_again None now waited again seen = tt
frozen_again (Some m) now waited again seen = last_frozen waited m (subst (λ (o : Option ℕ). IfSome o (λ n. last_look waited ≡ Frozen n)) seen again)
