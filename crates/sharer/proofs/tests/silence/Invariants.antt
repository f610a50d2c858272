use Rattle.std.proofs.Common.{◌≡◌, ℕ, length}
use Rattle.talk.specs.Hears.{PostsOk, RingsOk}
use Rattle.sharer.proofs.tests.silence.Given as goal

abbrev pub invariant-loop-seat : goal.invariant-loop-seat
invariant-loop-seat l = record {
  posts : length l.posts ≡ l._seat;
  rings : length l.rings ≡ l._seat;
  quiet : (round : ℕ) → PostsOk l.s round 1 l.posts;
  nothing : (seat round : ℕ) → RingsOk l.s round seat 1 l.rings;
}
