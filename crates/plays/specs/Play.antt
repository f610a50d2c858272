-- A play of a phase, for all seats at once: the setting, who is down, the honest dealers' grids, and what those who
-- are down say. All else is defined from these.
use Rattle.std.specs.Prelude.{ℕ, zero, suc, ◌+◌, ◌*◌, Bool, true, false, List}
use Rattle.algebra61.specs.Field.{Fp, zeroₚ, ◌+ₚ◌}
use Rattle.sharing61.specs.Instance.{Dealer, Honest, Faulty, Instance, share}
use Rattle.talk.specs.declared.messages.Post.{Post}
use Rattle.talk.specs.declared.messages.Ring.{Ring}
use Rattle.talk.specs.Shape.{Shape}
use Rattle.sizes.specs.Instances.{dealer_of, lane_of, instance_at}
use Rattle.plays.specs.Read.{dealt_in, crossed_in, listed_in, shown_in, voted_in}

-- down seat: the seat is faulty, or takes no part; it says what `post` and `ring` give, which is read only in its shape
-- grid i: the grid of instance i, where its dealer is honest
-- post round seat, ring round seat to: what a seat that is down says, as it is read
pub record Play : Type 0 where
  pub shape : Shape
  pub down : ℕ → Bool
  pub grid : ℕ → List (List Fp)
  pub post : ℕ → ℕ → Post
  pub ring : ℕ → ℕ → ℕ → Ring

-- the seat of receiver j
abbrev pub seat_of : Shape → ℕ → ℕ
seat_of shape receiver = shape.shift + receiver

-- an honest dealer has its grid; one that is down has what its messages of the first and the fourth round tell
abbrev pub dealer_if : Bool → Play → ℕ → Dealer
dealer_if false play instance = Honest (play.grid instance)
dealer_if true play instance =
    Faulty (λ j. dealt_in play.shape.degree (lane_of instance) (play.ring 1 (dealer_of instance) (seat_of play.shape j)))
    (λ j. shown_in (lane_of instance) j (play.post 4 (dealer_of instance)))

-- instance i of a play: the sharing by one dealer in one lane
unfoldable pub instance_of : Play → ℕ → Instance
instance_of play instance = record {
  receivers = play.shape.receivers;
  bound = play.shape.bound;
  down = λ j. play.down (seat_of play.shape j);
  dealer = dealer_if (play.down (dealer_of instance)) play instance;
  crossed = λ k j. crossed_in instance (play.ring 2 (seat_of play.shape k) (seat_of play.shape j));
  listed = λ j k. listed_in instance k (play.post 3 (seat_of play.shape j));
  voted = λ j. voted_in instance (play.post 5 (seat_of play.shape j));
}

-- the sum over the dealers 1 to n of the shares of receiver j in lane l. In an instance that isn't accepted the
-- share is 0
abbrev pub lane_sum : ℕ → Play → ℕ → ℕ → Fp
lane_sum zero play lane receiver = zeroₚ
lane_sum (suc count) play lane receiver = lane_sum count play lane receiver +ₚ share (instance_of play (instance_at (suc count) lane)) receiver

-- the created share of receiver j in lane l
abbrev pub created_share : Play → ℕ → ℕ → Fp
created_share play lane receiver = lane_sum play.shape.dealers play lane receiver
