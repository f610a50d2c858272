-- The sixth round of a move.
use Rattle.std.proofs.Common.{◌≡◌, ℕ, zero, suc, ◌+◌, ◌*◌, ◌<◌, ◌≤◌, Bool, true, false, List, length, map, Option, Some, None, refl, sym, ap, ◌∙◌, subst, arith}
use Rattle.std.proofs.lemmas.Bool.{cond-true, and_from, eq-eqb}
use Rattle.std.proofs.lemmas.List.FromFn.{get_or-map-range_with_len, length-map-range_with_len}
use Rattle.algebra61.specs.Field.{Fp, zeroₚ}
use Rattle.algebra61.specs.Poly.{eval}
use Rattle.checks61.specs.Checks.{check_of, syndrome_of}
use Rattle.checks61.proofs.Errors.{check_same, syndrome_same}
use Rattle.sizes.specs.Instances.{instance_at}
use Rattle.sharing61.specs.Rules.{Pair, zero_pair}
use Rattle.sharing61.specs.Instance.{kept}
use Rattle.talk.specs.declared.messages.Post.{Post}
use Rattle.talk.specs.declared.messages.Post.TheVariants.{Syndromes}
use Rattle.talk.specs.declared.messages.Say.TheVariants.{Speak}
use Rattle.talk.specs.declared.messages.Heard.{Heard}
use Rattle.talk.specs.Shape.{Shape, instances, receives}
use Rattle.talk.specs.Read.{as_read, post_ok}
use Rattle.talk.specs.Sync.{post_in}
use Rattle.plays.specs.Play.{Play, instance_of, seat_of}
use Rattle.plays.specs.Said.{places, unless_down}
use Rattle.plays.specs.Seat.{post_at}
use Rattle.plays.specs.Law.{HonestIn}
use Rattle.plays.specs.Stage.{Stage, AtReady, AtDealt, AtCrossed, AtComplained, AtRevealed, AtDone, IsTurn, stage_post, receiver_at}
use Rattle.plays.specs.Transcript.{Transcript, posts_in, heard_in}
use Rattle.plays.specs.Run.{play_of, stage_in, done_stage}
use Rattle.plays.proofs.Proper.{plays_are_proper}
use Rattle.plays.proofs.Rounds.{receives_from, receiver_seat, run_is_play, run_makes_play}
use Rattle.plays.proofs.Shapes.{length-flat}
use Rattle.plays.proofs.Steps.{flat_same}
use Rattle.machines.specs.Machines.{machine_in, TurnsGoOn, AlwaysSpeaks}
use Rattle.machines.proofs.Machines.{machines_are_heard}
use Rattle.members.specs.Member.{Member, member_at, member_word, member_after_hear, member_ways, rings_said}
use Rattle.members.proofs.Minds.{member_in, machine_is, goes_by_the_rules}
use Rattle.members.proofs.Turns.{speaks_next}
use Rattle.periods.specs.Move.{subshare, syndrome_list, syndromes_by}
use Rattle.periods.specs.Mover.{Mover, mover_at, mover_post, mover_word, mover_after_hear, mover_ways, mover_turn, sixth_after, subshare_in, IsTurnBefore}
use Rattle.periods.specs.Runs.{ByMovers, MovesShare, MovesAreProper, MoversEnd, SyndromesHeard}
use Rattle.periods.proofs.Polynomials.{number_below}

-- ---- in the first five rounds a mover is a member
same_post : (s : Shape) (seat round : ℕ) (own : List (List (List Fp))) (stage : Stage) → IsTurn round stage → mover_post s seat own stage ≡ stage_post s seat own stage
same_post s seat round own AtReady e = refl
same_post s seat round own (AtDealt ps) e = refl
same_post s seat round own (AtCrossed ps cs) e = refl
same_post s seat round own (AtComplained ps third) e = refl
same_post s seat round own (AtRevealed ps fourth votes) e = refl
same_post s seat round own (AtDone ps acc) e = absurd e

none_yet : (round : ℕ) (h : Heard) (stage : Stage) → IsTurn round stage → sixth_after stage None h ≡ None
none_yet round h AtReady e = refl
none_yet round h (AtDealt ps) e = refl
none_yet round h (AtCrossed ps cs) e = refl
none_yet round h (AtComplained ps third) e = refl
none_yet round h (AtRevealed ps fourth votes) e = refl
none_yet round h (AtDone ps acc) e = absurd e

-- the turns of a seat that goes by the rules
turn_in : (t : Transcript) (seat : ℕ) (own : List (List (List Fp))) (k : ℕ) → k < 5 → IsTurn (suc k) (stage_in t own seat k)
turn_in t seat own zero lt = refl
turn_in t seat own (suc k) lt =
    let e : suc k + 1 ≡ suc (suc k) = omega arith in
    subst (λ (r : ℕ). IsTurn r (stage_in t own seat (suc k))) e
    (speaks_next t.shape (receiver_at t.shape seat) own (heard_in t (suc k) seat) (stage_in t own seat k) (suc k) (turn_in t seat own k (omega (arith, lt))) lt)

-- the mover on a seat that has come as far as a transcript says
abbrev mover_in : Transcript → ℕ → List (List (List Fp)) → ℕ → Mover
mover_in t seat own k = record { member = member_in t seat own k; sixth = None }

mover_is : (t : Transcript) (seat : ℕ) (own : List (List (List Fp))) (k : ℕ) → k ≤ 5 → machine_in mover_ways t seat (mover_at t.shape seat own) k ≡ mover_in t seat own k
mover_is t seat own zero le = refl
mover_is t seat own (suc k) le =
    let h : Heard = heard_in t (suc k) seat in
    ap (λ (m : Mover). mover_after_hear m (suc k) h) (mover_is t seat own k (omega (arith, le)))
    ∙ ap (λ (x : Option (List Post)). let m : Mover = record { member = member_in t seat own (suc k); sixth = x } in m) (none_yet (suc k) h (stage_in t own seat k) (turn_in t seat own k le))

-- so it says the same
same_word : (t : Transcript) (seat : ℕ) (own : List (List (List Fp))) (k : ℕ) → k < 5 →
    mover_word (machine_in mover_ways t seat (mover_at t.shape seat own) k) (suc k) ≡ member_word (machine_in member_ways t seat (member_at t.shape seat own) k) (suc k)
same_word t seat own k lt =
    ap (λ (m : Mover). mover_word m (suc k)) (mover_is t seat own k (omega (arith, lt)))
    ∙ ap (λ (p : Post). Speak p (rings_said t.shape seat own (stage_in t own seat k))) (same_post t.shape seat (suc k) own (stage_in t own seat k) (turn_in t seat own k lt))
    ∙ sym (ap (λ (m : Member). member_word m (suc k)) (machine_is t seat own k))

pub moves_share : MovesShare
moves_share t down own by =
    goes_by_the_rules t down own by.setting by.degrees (record {
      all = λ k lt. by.movers.all k (omega (arith, lt));
      in_mask = λ k seat lt honest. by.movers.in_mask k seat (omega (arith, lt)) honest;
      words = λ k seat lt honest. by.movers.words k seat (omega (arith, lt)) honest ∙ same_word t seat (own seat) k lt;
    })

pub moves_are_proper : MovesAreProper
moves_are_proper t words down own by two few = record {
  setting = by.setting;
  two = two;
  proper = plays_are_proper (play_of words down own) (run_makes_play words down own (moves_share words down own by)) few;
}

-- ---- after five rounds
module _ (t : Transcript) (down : ℕ → Bool) (own : ℕ → List (List (List Fp))) (by : ByMovers t down own) where
  -- the play of the words
  abbrev p : Play
  p = play_of t down own

  -- an honest receiver is done, and has still to post its syndromes
  abbrev fifth : ℕ → Mover
  fifth j = record { member = record { shape = t.shape; seat = seat_of t.shape j; grids = own (seat_of t.shape j); stage = done_stage p j }; sixth = None }

  fifth_is : (j : ℕ) → HonestIn p j → machine_in mover_ways t (seat_of t.shape j) (mover_at t.shape (seat_of t.shape j) (own (seat_of t.shape j))) 5 ≡ fifth j
  fifth_is j honest =
      mover_is t (seat_of t.shape j) (own (seat_of t.shape j)) 5 (omega arith)
      ∙ ap (λ (stage : Stage). let m : Mover = record { member = record { shape = t.shape; seat = seat_of t.shape j; grids = own (seat_of t.shape j); stage = stage }; sixth = None } in m)
      (run_is_play t down own (moves_share t down own by) j honest)

pub movers_end : MoversEnd
movers_end t down own by j honest = ap (λ (m : Mover). mover_after_hear m 6 (heard_in t 6 (seat_of t.shape j))) (fifth_is t down own by j honest)

-- ---- what is heard of the sixth round
length-syndromes : (s : Shape) (subshares : ℕ → ℕ → Fp) → length (syndrome_list s subshares) ≡ 5 * s.checks
length-syndromes s subshares =
    length-flat (λ l. syndrome_of s.dealers s.checks (subshares l)) s.checks (λ l. length-map-range_with_len (λ m. check_of s.dealers m (subshares l)) 0 s.checks) 5 0

syndromes_same : (s : Shape) (f g : ℕ → ℕ → Fp) → ((l i : ℕ) → l < 5 → 1 ≤ i → i ≤ s.dealers → f l i ≡ g l i) → syndrome_list s f ≡ syndrome_list s g
syndromes_same s f g h =
    flat_same (λ l. syndrome_of s.dealers s.checks (f l)) (λ l. syndrome_of s.dealers s.checks (g l)) 5 0
    (λ l a b. syndrome_same s.dealers s.checks (f l) (g l) (λ m lt. check_same s.dealers m (f l) (g l) (λ i x y. h l i (omega (arith, b)) x y)))

-- a subshare of the pairs that a play defines is the play's
pub subshare_is : (p : Play) (receiver lane dealer : ℕ) → lane < 5 → 1 ≤ dealer → dealer ≤ p.shape.dealers →
    subshare_in (map (λ k. kept (instance_of p k) receiver) (places (instances p.shape))) lane dealer ≡ subshare p lane dealer receiver
subshare_is p receiver lane dealer l5 a b =
    ap (λ (q : Pair). eval q.row.coeffs zeroₚ)
    (get_or-map-range_with_len (λ k. kept (instance_of p k) receiver) 0 (instances p.shape) (instance_at dealer lane) (instance_at dealer lane) zero_pair (number_below p dealer lane a b l5) (omega arith))

posted_is : (p : Play) (seat receiver : ℕ) (own : List (List (List Fp))) → receives p.shape seat ≡ true → mover_post p.shape seat own (done_stage p receiver) ≡ syndromes_by p receiver
unfolding syndromes_by
posted_is p seat receiver own e =
    cond-true (receives p.shape seat) _ _ e
    ∙ ap (λ xs. Syndromes xs)
    (syndromes_same p.shape (subshare_in (map (λ k. kept (instance_of p k) receiver) (places (instances p.shape)))) (λ l i. subshare p l i receiver) (λ l i l5 a b. subshare_is p receiver l i l5 a b))

syndromes_ok : (p : Play) (seat receiver : ℕ) → receives p.shape seat ≡ true → post_ok p.shape 6 seat (syndromes_by p receiver) ≡ true
unfolding syndromes_by
syndromes_ok p seat receiver e =
    and_from (receives p.shape seat) _ e
    (eq-eqb (length (syndrome_list p.shape (λ l i. subshare p l i receiver))) (5 * p.shape.checks) (length-syndromes p.shape (λ l i. subshare p l i receiver)))

heard_cases : (t : Transcript) (down : ℕ → Bool) (own : ℕ → List (List (List Fp))) → ByMovers t down own → (k : ℕ) → 1 ≤ k → k ≤ t.shape.receivers → (b : Bool) → down (seat_of t.shape k) ≡ b →
    post_at (posts_in t 6) (seat_of t.shape k) ≡ unless_down b (post_at (posts_in t 6) (seat_of t.shape k)) (syndromes_by (play_of t down own) k)
heard_cases t down own by k k1 kn true e = refl
heard_cases t down own by k k1 kn false e =
    let p : Play = play_of t down own in
    let seat : ℕ = seat_of t.shape k in
    let honest : HonestIn p k = record { from = k1; to = kn; up = e } in
    let here : receives t.shape seat ≡ true = receives_from t.shape k k1 kn in
    (machines_are_heard mover_ways t 6 down (λ n. mover_at t.shape n (own n)) by.movers 5 seat (omega arith) (receiver_seat t down own k honest)).post
    ∙ ap (λ (m : Mover). as_read t.shape 6 seat (post_in (mover_word m 6))) (fifth_is t down own by k honest)
    ∙ ap (as_read t.shape 6 seat) (posted_is p seat k (own seat) here)
    ∙ cond-true (post_ok t.shape 6 seat (syndromes_by p k)) _ _ (syndromes_ok p seat k here)

pub syndromes_are_heard : SyndromesHeard
syndromes_are_heard t down own by k k1 kn = heard_cases t down own by k k1 kn (down (seat_of t.shape k)) refl

-- ---- turns
turns_before : (c : Mover) (round : ℕ) (h : Heard) (stage : Stage) (sixth : Option (List Post)) → IsTurnBefore round stage sixth → round < 6 →
    IsTurnBefore (suc round) (member_after_hear (record { shape = c.member.shape; seat = c.member.seat; grids = c.member.grids; stage = stage }) round h).stage (sixth_after stage sixth h)
turns_before c round h stage (Some posts) e lt = absurd e
turns_before c round h AtReady None e lt = omega (arith, e)
turns_before c round h (AtDealt ps) None e lt = omega (arith, e)
turns_before c round h (AtCrossed ps cs) None e lt = omega (arith, e)
turns_before c round h (AtComplained ps third) None e lt = omega (arith, e)
turns_before c round h (AtRevealed ps fourth votes) None e lt = omega (arith, e)
turns_before c round h (AtDone ps acc) None e lt = absurd (omega (arith, e, lt))

-- after each round but the sixth the next one is the mover's
pub mover_turns : TurnsGoOn mover_ways mover_turn 6
mover_turns c round h turn lt = turns_before c round h c.member.stage c.sixth turn lt

pub movers_speak : AlwaysSpeaks mover_ways mover_turn
movers_speak c round turn = refl
