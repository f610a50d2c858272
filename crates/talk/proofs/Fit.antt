-- What is read of messages has their shapes.
use Rattle.std.proofs.Common.{◌≡◌, ℕ, suc, ◌+◌, Bool, true, false, cond, List, [], ◌∷◌, length, refl, ap, ◌∙◌}
use Rattle.talk.specs.declared.messages.Post.{Post}
use Rattle.talk.specs.declared.messages.Post.TheVariants.{Quiet}
use Rattle.talk.specs.declared.messages.Ring.{Ring}
use Rattle.talk.specs.declared.messages.Ring.TheVariants.{Nothing}
use Rattle.talk.specs.declared.messages.Say.{Say}
use Rattle.talk.specs.Shape.{Shape, seats}
use Rattle.talk.specs.Read.{post_ok, ring_ok, as_read, ring_as_read, posts_read, rings_read}
use Rattle.talk.specs.Hears.{PostsOk, RingsOk, Fits}
use Rattle.talk.specs.Sync.{has, post_in, ring_in, posts_heard, rings_heard, heard_at}

kept_ok : (s : Shape) (round seat : ℕ) (b : Bool) (p : Post) → b ≡ post_ok s round seat p → post_ok s round seat (cond b p Quiet) ≡ true
kept_ok s round seat true p e = cc (e)
kept_ok s round seat false p e = refl

-- what is read of a post has its shape
pub read_ok : (s : Shape) (round seat : ℕ) (p : Post) → post_ok s round seat (as_read s round seat p) ≡ true
read_ok s round seat p = kept_ok s round seat (post_ok s round seat p) p refl

ring_kept_ok : (s : Shape) (round seat to : ℕ) (b : Bool) (r : Ring) → b ≡ ring_ok s round seat to r → ring_ok s round seat to (cond b r Nothing) ≡ true
ring_kept_ok s round seat to true r e = cc (e)
ring_kept_ok s round seat to false r e = refl

-- and so has what is read of a ring message
pub ring_read_ok : (s : Shape) (round seat to : ℕ) (r : Ring) → ring_ok s round seat to (ring_as_read s round seat to r) ≡ true
ring_read_ok s round seat to r = ring_kept_ok s round seat to (ring_ok s round seat to r) r refl

masked_ok : (s : Shape) (round seat : ℕ) (b : Bool) (p : Post) → post_ok s round seat p ≡ true → post_ok s round seat (cond b p Quiet) ≡ true
masked_ok s round seat true p e = e
masked_ok s round seat false p e = refl

ring_masked_ok : (s : Shape) (round seat to : ℕ) (b : Bool) (r : Ring) → ring_ok s round seat to r ≡ true → ring_ok s round seat to (cond b r Nothing) ≡ true
ring_masked_ok s round seat to true r e = e
ring_masked_ok s round seat to false r e = refl

pub length-posts_heard : (s : Shape) (round mask seat : ℕ) (ws : List Say) → length (posts_heard s round mask seat ws) ≡ length ws
length-posts_heard s round mask seat [] = refl
length-posts_heard s round mask seat (w ∷ ws) = ap suc (length-posts_heard s round mask (seat + 1) ws)

pub length-rings_heard : (s : Shape) (round mask to seat : ℕ) (ws : List Say) → length (rings_heard s round mask to seat ws) ≡ length ws
length-rings_heard s round mask to seat [] = refl
length-rings_heard s round mask to seat (w ∷ ws) = ap suc (length-rings_heard s round mask to (seat + 1) ws)

posts_heard_ok : (s : Shape) (round mask seat : ℕ) (ws : List Say) → PostsOk s round seat (posts_heard s round mask seat ws)
posts_heard_ok s round mask seat [] = tt
posts_heard_ok s round mask seat (w ∷ ws) =
    (masked_ok s round seat (has mask seat) (as_read s round seat (post_in w)) (read_ok s round seat (post_in w)), posts_heard_ok s round mask (seat + 1) ws)

rings_heard_ok : (s : Shape) (round mask to seat : ℕ) (ws : List Say) → RingsOk s round to seat (rings_heard s round mask to seat ws)
rings_heard_ok s round mask to seat [] = tt
rings_heard_ok s round mask to seat (w ∷ ws) =
    (ring_masked_ok s round seat to (has mask seat) (ring_as_read s round seat to (ring_in to w)) (ring_read_ok s round seat to (ring_in to w)), rings_heard_ok s round mask to (seat + 1) ws)

-- what a seat hears in a run fits
pub fits_heard_at : (s : Shape) (round mask to : ℕ) (ws : List Say) → length ws ≡ seats s → Fits s to round (heard_at s round mask ws to)
fits_heard_at s round mask to ws e = record {
  posts_all = length-posts_heard s round mask 1 ws ∙ e;
  rings_all = length-rings_heard s round mask to 1 ws ∙ e;
  posts_ok = posts_heard_ok s round mask 1 ws;
  rings_ok = rings_heard_ok s round mask to 1 ws;
}

length-posts_read : (s : Shape) (round seat : ℕ) (ps : List Post) → length (posts_read s round seat ps) ≡ length ps
length-posts_read s round seat [] = refl
length-posts_read s round seat (p ∷ ps) = ap suc (length-posts_read s round (seat + 1) ps)

length-rings_read : (s : Shape) (round to seat : ℕ) (rs : List Ring) → length (rings_read s round to seat rs) ≡ length rs
length-rings_read s round to seat [] = refl
length-rings_read s round to seat (r ∷ rs) = ap suc (length-rings_read s round to (seat + 1) rs)

posts_read_ok : (s : Shape) (round seat : ℕ) (ps : List Post) → PostsOk s round seat (posts_read s round seat ps)
posts_read_ok s round seat [] = tt
posts_read_ok s round seat (p ∷ ps) = (read_ok s round seat p, posts_read_ok s round (seat + 1) ps)

rings_read_ok : (s : Shape) (round to seat : ℕ) (rs : List Ring) → RingsOk s round to seat (rings_read s round to seat rs)
rings_read_ok s round to seat [] = tt
rings_read_ok s round to seat (r ∷ rs) = (ring_read_ok s round seat to r, rings_read_ok s round to (seat + 1) rs)

-- such a round's messages fit
pub fits_heard : (s : Shape) (seat round : ℕ) (ps : List Post) (rs : List Ring) → length ps ≡ seats s → length rs ≡ seats s →
    Fits s seat round (record { posts = posts_read s round 1 ps; rings = rings_read s round seat 1 rs })
fits_heard s seat round ps rs ep er = record {
  posts_all = length-posts_read s round 1 ps ∙ ep;
  rings_all = length-rings_read s round seat 1 rs ∙ er;
  posts_ok = posts_read_ok s round 1 ps;
  rings_ok = rings_read_ok s round seat 1 rs;
}
