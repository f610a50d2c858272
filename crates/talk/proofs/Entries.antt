-- What is heard of a seat.
use Rattle.std.proofs.Common.{◌≡◌, ℕ, zero, suc, ◌+◌, ◌<◌, cond, List, [], ◌∷◌, length, get_or, ap, ◌∙◌, arith}
use Rattle.talk.specs.declared.messages.Post.TheVariants.{Quiet}
use Rattle.talk.specs.declared.messages.Ring.TheVariants.{Nothing}
use Rattle.talk.specs.declared.messages.Say.{Say}
use Rattle.talk.specs.declared.messages.Say.TheVariants.{Pass}
use Rattle.talk.specs.Shape.{Shape}
use Rattle.talk.specs.Read.{as_read, ring_as_read}
use Rattle.talk.specs.Sync.{posts_heard, rings_heard, has, post_in, ring_in}

-- what is heard of the seat at place k
pub post_entry : (s : Shape) (round mask seat : ℕ) (ws : List Say) (k : ℕ) → k < length ws →
    get_or (posts_heard s round mask seat ws) k Quiet ≡ cond (has mask (seat + k)) (as_read s round (seat + k) (post_in (get_or ws k Pass))) Quiet
post_entry s round mask seat [] k lt = absurd (omega (arith, lt))
post_entry s round mask seat (w ∷ ws) zero lt = let e : seat ≡ seat + 0 = omega arith in ap (λ n. cond (has mask n) (as_read s round n (post_in w)) Quiet) e
post_entry s round mask seat (w ∷ ws) (suc k) lt =
    let e : (seat + 1) + k ≡ seat + suc k = omega arith in
    post_entry s round mask (seat + 1) ws k (omega (arith, lt)) ∙ ap (λ n. cond (has mask n) (as_read s round n (post_in (get_or ws k Pass))) Quiet) e

pub ring_entry : (s : Shape) (round mask to seat : ℕ) (ws : List Say) (k : ℕ) → k < length ws →
    get_or (rings_heard s round mask to seat ws) k Nothing ≡ cond (has mask (seat + k)) (ring_as_read s round (seat + k) to (ring_in to (get_or ws k Pass))) Nothing
ring_entry s round mask to seat [] k lt = absurd (omega (arith, lt))
ring_entry s round mask to seat (w ∷ ws) zero lt = let e : seat ≡ seat + 0 = omega arith in ap (λ n. cond (has mask n) (ring_as_read s round n to (ring_in to w)) Nothing) e
ring_entry s round mask to seat (w ∷ ws) (suc k) lt =
    let e : (seat + 1) + k ≡ seat + suc k = omega arith in
    ring_entry s round mask to (seat + 1) ws k (omega (arith, lt)) ∙ ap (λ n. cond (has mask n) (ring_as_read s round n to (ring_in to (get_or ws k Pass))) Nothing) e
