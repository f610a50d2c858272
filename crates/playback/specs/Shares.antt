-- What a played phase comes to.
use Rattle.std.specs.Prelude.{◌≡◌, ℕ, ◌-◌, ◌≤◌, Bool, false, List, [], cond, map, get_or, Option, Some, None}
use Rattle.algebra61.specs.Field.{Fp, fe, zeroₚ, ◌+ₚ◌, ◌*ₚ◌}
use Rattle.talk.specs.Shape.{rounds}
use Rattle.plays.specs.Play.{Play}
use Rattle.plays.specs.Said.{places, points_up_to}
use Rattle.periods.specs.Move.{syndromes_heard, HaveErrors, moved_share}
use Rattle.histories61.specs.Phases.{receivers_down}
use Rattle.choices61.specs.Views.{posts_in_phase, rings_in_phase}
use Rattle.playback.specs.declared.played.Played.{Played}
use Rattle.playback.specs.Playing.{seats_after, posts_read_in}

-- the seats have come to the end of the sharing, and the messages are those that are read in the play
pub record IsPlayed (play : Play) (played : Played) : Type 0 where
  pub seats_are : played.seats.items ≡ seats_after play 5
  pub last_is : played.last ≡ posts_read_in play (rounds play.shape)
  pub posts_are : played.posts ≡ posts_in_phase play
  pub rings_are : played.rings ≡ rings_in_phase play

-- the five shares of a receiver, where a share goes by lane and receiver; none where it is down
abbrev pub shares_at : Play → (ℕ → ℕ → Fp) → ℕ → Option (List Fp)
shares_at play share receiver = cond (receivers_down play receiver) None (Some (map (λ lane. share lane receiver) (places 5)))

-- those of all receivers
abbrev pub shares_by : Play → (ℕ → ℕ → Fp) → List (Option (List Fp))
shares_by play share = map (shares_at play share) (points_up_to play.shape.receivers)

-- ---- a refresh
-- these are the shares before it, where share goes by lane and member: each of the members 1 to n that isn't down has its own
abbrev pub HasBefore : ℕ → (ℕ → Bool) → (ℕ → ℕ → Fp) → List (Option (List Fp)) → Type 0
HasBefore count down share shares =
    (member : ℕ) → 1 ≤ member → member ≤ count → down member ≡ false →
    get_or shares (member - 1) None ≡ Some (map (λ lane. share lane member) (places 5))

-- each old share with the point times the created one added
abbrev pub sums_of : Fp → List Fp → List Fp → List Fp
sums_of point old new = map (λ lane. get_or old lane zeroₚ +ₚ point *ₚ get_or new lane zeroₚ) (places 5)

-- the shares of a receiver that had shares before, and for which some are created
abbrev pub refreshed_of : ℕ → Option (List Fp) → Option (List Fp) → Option (List Fp)
refreshed_of receiver None created = None
refreshed_of receiver (Some old) None = None
refreshed_of receiver (Some old) (Some new) = Some (sums_of (fe receiver) old new)

-- ---- a move
-- these are the moved shares, under the error vectors of the lanes
abbrev pub AreMoved : Play → List (Option (List Fp)) → Type 0
AreMoved play shares =
    (errors : List (List Fp)) × HaveErrors play.shape (syndromes_heard play) errors
    × (shares ≡ shares_by play (λ lane receiver. moved_share play lane (get_or errors lane []) receiver))
