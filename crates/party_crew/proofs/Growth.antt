-- How the log of a member grows.
use Rattle.std.proofs.Common.{◌≡◌, ◌⊎◌, inl, inr, ⊎_elim, ℕ, ◌+◌, ◌-◌, ◌<◌, ◌≤◌, Bool, true, false, List, [], ◌∷◌, Option, Some, None, refl, sym, ap, ◌∙◌, subst, arith}
use Rattle.std.specs.Prelude.{IfSome}
use Rattle.std.specs.Int.{bit_at}
use Rattle.std.proofs.lemmas.Bool.{cases_eq}
use Rattle.talk.specs.declared.messages.Say.{Say}
use Rattle.roundboard.specs.declared.view.Event.{Event}
use Rattle.roundboard.specs.declared.view.Deed.{Deed}
use Rattle.roundboard.specs.declared.view.Deed.TheVariants.{Posted, Passed, Looked, Published, SawControl}
use Rattle.roundboard.specs.declared.board.Posted.{Posted as Post}
use Rattle.roundboard.specs.declared.board.Posted.TheVariants.{InTime, Late}
use Rattle.roundboard.specs.declared.board.Look.{Look}
use Rattle.roundboard.specs.Rule.{In, event, control_round}
use Rattle.roundboard.specs.Pages.{page_of, Saw}
use Rattle.roundboard.specs.Logs.{Arrival, Grew, NoArrivals, OnlyLooks}
use Rattle.roundboard.specs.Answers.{LookTells}
use Rattle.roundboard.specs.declared.cells.Cells.{Cells}
use Rattle.roundboard.specs.Cells.{knows, OnlyKnows}
use Rattle.roundboard.proofs.Logs.{no_posts_more, arrival_keeps, arrival_posts, arrival_passes, looks_grew, looks_no_arrivals, look_grew}
use Rattle.roundboard.proofs.Replay.{posted}
use Rattle.party_crew.specs.Logs.{Fresh, OnlyLearns, NoPassIn}

pub grew_more : (r : ℕ) (a b c : List Event) → Grew r a b → Grew r b c → Grew r a c
grew_more r a b c f g = record {
  keep = λ e h. g.keep e (f.keep e h);
  posts = λ q k w h. ⊎_elim (λ (t : In (event q (Posted k w)) b). f.posts q k w t) (λ (e : q ≡ r). inr e) (g.posts q k w h);
  passes = λ q k w h. ⊎_elim (λ (t : In (event q (Passed k w)) b). f.passes q k w t) (λ (e : q ≡ r). inr e) (g.passes q k w h);
}

-- ---- an arrival
pub arrival_here : (n r : ℕ) (d : Deed) (w all : ℕ) (old new : List Event) → Arrival n r d w all old new → In (event r d) new
arrival_here n r d w all old new h = arrival_keeps n r d w all old new h (event r d) (inl refl)

-- a pass is no post
pub pass_no_posts : (n r k w all : ℕ) (old new : List Event) → Arrival n r (Passed k w) w all old new → (q j x : ℕ) → In (event q (Posted j x)) new → In (event q (Posted j x)) old
pass_no_posts n r k w all old new h q j x t = no_posts_more old r (Passed k w) (λ i v e. absurd (cc (e))) q j x (arrival_posts n r (Passed k w) w all old new h q j x t)

-- a post is no pass
pub post_no_passes : (n r k w all : ℕ) (old new : List Event) → Arrival n r (Posted k w) w all old new → NoPassIn r old → NoPassIn r new
post_no_passes n r k w all old new h none j x t = ⊎_elim
    (λ (e : event r (Posted k w) ≡ event r (Passed j x)). let z : Posted k w ≡ Passed j x = ap (λ (y : Event). y.deed) e in absurd (cc (z)))
    (λ (u : In (event r (Passed j x)) old). none j x u) (arrival_passes n r (Posted k w) w all old new h r j x t)

-- ---- a wait for a round
module _ (r : ℕ) (result : Look) (old before new : List Event) (looks : OnlyLooks r old before) (told : LookTells r result before new) where
  pub wait_grew : Grew r old new
  wait_grew = grew_more r old before new (looks_grew r old before looks) (looks_grew r before new (look_grew r result before new told))

  pub wait_no_arrivals : NoArrivals old new
  wait_no_arrivals =
      let first = looks_no_arrivals r old before looks in let last = looks_no_arrivals r before new (look_grew r result before new told) in
      record { posts = λ q k w h. first.posts q k w (last.posts q k w h); passes = λ q k w h. first.passes q k w (last.passes q k w h) }

pub saw_on : (r q m : ℕ) (old new : List Event) → Grew q old new → Saw old r m → Saw new r m
saw_on r q m old new g h = ⊎_elim
    (λ (t : (f : ℕ) × In (event r (Looked f)) old × (Rattle.roundboard.specs.Pages.mask_in f ≡ Some m)). inl (t.0, g.keep (event r (Looked t.0)) t.1, t.2))
    (λ (t : (c : ℕ) × In (event r (Published c)) old × (Rattle.std.proofs.Common.◌%◌ c (Rattle.std.proofs.Common.◌^◌ 2 30) ≡ m)). inr (t.0, g.keep (event r (Published t.0)) t.1, t.2)) h

-- ---- rounds to come
pub fresh_next : (r : ℕ) (old new : List Event) → Fresh r old → Grew r old new → Fresh (r + 1) new
fresh_next r old new f g = record {
  posts = λ q k w le h. ⊎_elim (λ (t : In (event q (Posted k w)) old). f.posts q k w (omega (arith, le)) t) (λ (e : q ≡ r). absurd (omega (arith, e, le))) (g.posts q k w h);
  passes = λ q k w le h. ⊎_elim (λ (t : In (event q (Passed k w)) old). f.passes q k w (omega (arith, le)) t) (λ (e : q ≡ r). absurd (omega (arith, e, le))) (g.passes q k w h);
}

pub fresh_none : (events : List Event) → events ≡ [] → Fresh 0 events
fresh_none events e = record {
  posts = λ q k w le h. subst (λ (es : List Event). In (event q (Posted k w)) es) e h;
  passes = λ q k w le h. subst (λ (es : List Event). In (event q (Passed k w)) es) e h;
}

-- ---- a page with no post
either : (b : Bool) → (b ≡ true) ⊎ (b ≡ false)
either true = inl refl
either false = inr refl

pub unposted : (r : ℕ) (events : List Event) → ((k w : ℕ) → In (event r (Posted k w)) events → ⊥) → (page_of events r).posted ≡ false
unposted r events none = elim (either (page_of events r).posted) [
  | inl yes_posted ↦ let p = posted events r yes_posted in absurd (none p.0 p.1 p.2)
  | inr unset ↦ unset
]

pub only_learns : {T : Type 0} (k : ℕ) (a b : Cells T) → OnlyKnows k a b → OnlyLearns a b
only_learns {T} k a b h = λ i x e. elim (cases_eq i k) [
  | inl is ↦ ap (knows b) is ∙ subst (λ (o : Option T). IfSome o (λ y. knows b k ≡ Some y)) (ap (knows a) (sym is) ∙ e) h.2
  | inr ne ↦ h.1 i ne ∙ e
]
