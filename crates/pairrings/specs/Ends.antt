-- What a contract sees of one seat's ends of the rings. Places count from 0: seat i has place i - 1.
use Rattle.std.specs.Prelude.{◌≡◌, ◌≢◌, ℕ, ◌-◌, ◌<◌, List, [], length, map, get_or}
use Rattle.rtrb.specs.Ends.{SameRing}
use Rattle.rtrb.specs.Ring.{sent, received, known_items, IsPair}
use Rattle.pairrings.specs.declared.heads.Head.{Head}
use Rattle.pairrings.specs.declared.tails.Tail.{Tail}
use Rattle.pairrings.specs.declared.ends.End.{End}

module _ {M : Type 0} {S : ℕ} where
  -- the items that were sent to the seat at place k, oldest first
  abbrev pub sent_to : End M S → ℕ → List M
  sent_to e k = get_or (map (λ (h : Head M). sent h.ring) e.heads.items) k []

  -- how many more items the ring to the seat at place k takes: the number it was laid for, less those that were sent
  abbrev pub room_to : End M S → ℕ → ℕ
  room_to e k = get_or (map (λ (h : Head M). h.laid - length (sent h.ring)) e.heads.items) k 0

  -- the items that were received from the seat at place k, oldest first
  abbrev pub got_from : End M S → ℕ → List M
  got_from e k = get_or (map (λ (t : Tail M). received t.ring) e.tails.items) k []

  -- the items of the seat at place k that this end has seen and not yet received
  abbrev pub known_from : End M S → ℕ → List M
  known_from e k = get_or (map (λ (t : Tail M). known_items t.ring) e.tails.items) k []

  -- how often the ring gave no item of the seat at place k
  abbrev pub dry_of : End M S → ℕ → ℕ
  dry_of e k = get_or (map (λ (t : Tail M). t.dry) e.tails.items) k 0

  -- nothing changed but what was sent to the seat at place k
  pub record OnlySent (k : ℕ) (a b : End M S) : Type 0 where
    pub sent : (j : ℕ) → j ≢ k → sent_to b j ≡ sent_to a j
    pub room : (j : ℕ) → j ≢ k → room_to b j ≡ room_to a j
    pub got : (j : ℕ) → got_from b j ≡ got_from a j
    pub known : (j : ℕ) → known_from b j ≡ known_from a j
    pub dry : (j : ℕ) → dry_of b j ≡ dry_of a j

  -- nothing changed but what is known of the seat at place k, what was received from it and how often there was nothing
  pub record OnlyGot (k : ℕ) (a b : End M S) : Type 0 where
    pub sent : (j : ℕ) → sent_to b j ≡ sent_to a j
    pub room : (j : ℕ) → room_to b j ≡ room_to a j
    pub got : (j : ℕ) → j ≢ k → got_from b j ≡ got_from a j
    pub known : (j : ℕ) → j ≢ k → known_from b j ≡ known_from a j
    pub dry : (j : ℕ) → j ≢ k → dry_of b j ≡ dry_of a j

  -- each half belongs to the ring that it belonged to
  pub record SameRings (a b : End M S) : Type 0 where
    pub heads : (j : ℕ) (d : Head M) → SameRing (get_or a.heads.items j d).ring.end (get_or b.heads.items j d).ring.end
    pub tails : (j : ℕ) (d : Tail M) → SameRing (get_or a.tails.items j d).ring.end (get_or b.tails.items j d).ring.end

  -- the half of the seat at place i to the one at place j, in a, and the half from the seat at place i, in b, are of one ring
  abbrev pub IsRing : End M S → End M S → ℕ → ℕ → Type 0
  IsRing a b i j = (h : Head M) (t : Tail M) → IsPair (get_or a.heads.items j h).ring (get_or b.tails.items i t).ring

  -- an end of rings for `rounds` items each, through which nothing went yet
  pub record IsFresh (rounds : ℕ) (e : End M S) : Type 0 where
    pub sent : (k : ℕ) → sent_to e k ≡ []
    pub room : (k : ℕ) → k < S → room_to e k ≡ rounds
    pub got : (k : ℕ) → got_from e k ≡ []
    pub known : (k : ℕ) → known_from e k ≡ []
    pub dry : (k : ℕ) → dry_of e k ≡ 0

  -- the same items were sent and received, and each half belongs to the ring that it belonged to
  pub record SameEnd (a b : End M S) : Type 0 where
    pub sent : (j : ℕ) → sent_to b j ≡ sent_to a j
    pub got : (j : ℕ) → got_from b j ≡ got_from a j
    pub rings : SameRings a b
