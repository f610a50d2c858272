-- What was taken in makes a turn.
use Rattle.std.proofs.Common.{◌≡◌, ◌≢◌, ◌⊎◌, inl, inr, ℕ, zero, suc, ◌+◌, ◌*◌, ◌-◌, ◌<◌, ◌≤◌, Bool, true, false, cond, List, [], ◌∷◌, ◌++◌, length, get_or, Option, Some, refl, sym, ap, ap₂, ◌∙◌, subst, arith}
use Rattle.talk.specs.declared.messages.Post.{Post}
use Rattle.talk.specs.declared.messages.Post.TheVariants.{Quiet}
use Rattle.talk.specs.declared.messages.Ring.{Ring}
use Rattle.talk.specs.declared.messages.Ring.TheVariants.{Nothing}
use Rattle.talk.specs.declared.messages.Heard.{Heard}
use Rattle.talk.specs.Shape.{Shape, seats}
use Rattle.talk.specs.Sync.{has}
use Rattle.talk.specs.Hears.{Fits}
use Rattle.talk.proofs.Fit.{fits_heard}
use Rattle.roundboard.specs.declared.view.Event.{Event}
use Rattle.roundboard.specs.declared.cells.Cells.{Cells}
use Rattle.roundboard.specs.Cells.{knows}
use Rattle.turns.specs.Turns.{Turn, IsComplete, heard_of, got_in}
use Rattle.roundboard.specs.Pages.{Saw}
use Rattle.party_crew.specs.Taken.{PostsTaken, RingsTaken}
use Rattle.party_crew.specs.Turning.{HeardRound}

append_nil : {A : Type 0} (xs : List A) → xs ≡ xs ++ []
append_nil [] = refl
append_nil (x ∷ xs) = ap (λ ys. x ∷ ys) (append_nil xs)

either : (b : Bool) → (b ≡ true) ⊎ (b ≡ false)
either true = inl refl
either false = inr refl

got_here : (k mask : ℕ) (rings : List Ring) (b : Bool) → has mask k ≡ b → cond b (get_or rings (k - 1) Nothing ∷ []) [] ≡ cond (has mask k) (get_or rings (k - 1) Nothing ∷ []) []
got_here k mask rings b e = ap (λ (z : Bool). cond z (get_or rings (k - 1) Nothing ∷ []) []) (sym e)

pub heard_round : (s : Shape) (n me round mask : ℕ) (events : List Event) (cells : Cells Post) (old new : ℕ → List Ring) (posts : List Post) (rings : List Ring) (ps : List Post) (rs : List Ring) → 1 ≤ me → me ≤ n →
    Saw events (round - 1) mask → PostsTaken s n round mask n cells posts ps → RingsTaken s round mask me n old new rings rs →
    HeardRound s n me round mask (record { posts = ps; rings = rs }) events (knows cells) old new (record { mask = mask; posts = posts; rings = rings })
heard_round s n me round mask events cells old new posts rings ps rs lo hi saw p r = record {
  mask_is = refl;
  heard_is = ap₂ (λ (a : List Post) (b : List Ring). let h : Heard = record { posts = a; rings = b } in h) p.is r.is;
  saw = saw;
  read = p.known;
  complete = record { posts_all = p.all; rings_all = r.all; no_post = p.absent; no_ring = λ k kl kh h. (r.none k kl kh h).0; own_ring = r.own lo hi };
  gets = λ k kl kh ne. elim (either (has mask k)) [
    | inl here ↦ r.got k kl kh ne here ∙ ap (λ (xs : List Ring). old (k - 1) ++ xs) (got_here k mask rings true here)
    | inr gone ↦ (r.none k kl kh gone).1 ∙ append_nil (old (k - 1)) ∙ ap (λ (xs : List Ring). old (k - 1) ++ xs) (got_here k mask rings false gone)
  ];
}

pub fits_turn : (s : Shape) (n me round : ℕ) (t : Turn) → n ≡ seats s → IsComplete n me t → Fits s me round (heard_of s round me t)
fits_turn s n me round t e w = fits_heard s me round t.posts t.rings (w.posts_all ∙ e) (w.rings_all ∙ e)
