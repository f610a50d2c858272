-- The meaning of `move NAME M U` and `move NAME M U DRILL`: the key goes to a committee of M members, of whom U may be
-- faulty.
use Rattle.std.specs.Prelude.{◌≡◌, ◌⊎◌, ℕ, Bool, List, [], ◌++◌, length, map, replicate, get_or, Option, Some, None, Result, Ok, Err}
use Rattle.std.specs.List.{filter, range_with_len}
use Rattle.algebra61.specs.Field.{Fp, zeroₚ, ◌+ₚ◌}
use Rattle.chance61.specs.Draws.{grids_drawn_with}
use Rattle.talk.specs.declared.part.Part.{Part}
use Rattle.talk.specs.declared.part.Part.TheVariants.{Away, In}
use Rattle.talk.specs.Part.{part_ways}
use Rattle.talk.specs.Shape.{Shape, move_shape}
use Rattle.plays.specs.Play.{Play, seat_of}
use Rattle.plays.specs.Said.{places}
use Rattle.members.specs.Shares.{accepted_count}
use Rattle.periods.specs.Move.{syndromes_heard, HaveErrors, MoveHasNoResult, moved_share}
use Rattle.periods.specs.Mover.{Mover, mover_at, mover_ways}
use Rattle.moveshare.specs.Result.{has_error}
use Rattle.drillbook.specs.declared.order.Order.{Order}
use Rattle.drillbook.specs.Orders.{names, wrong_of}
use Rattle.shelf.specs.Held.{Held, Change}
use Rattle.sharefile.specs.Files.{Now}
use Rattle.keyroom.specs.declared.status.Status.{Status}
use Rattle.keyroom.specs.declared.status.Status.TheVariants.{NoWord}
use Rattle.keyroom.specs.Outcome.{Outcome, done_with, ThenDo, AreFirst}
use Rattle.keyroom.specs.Sound.{is_down_in_move}
use Rattle.keyroom.specs.Steps.{◌and_then◌}
use Rattle.keyroom.specs.Texts.{move_text}
use Rattle.commands.specs.Late.{down_after, enough_after, refused_after}
use Rattle.commands.specs.Links.{following_now}
use Rattle.commands.specs.Period.{next_changes, up_members}
use Rattle.commands.specs.Run.{numbered, AreMasks, phase_play}
use Rattle.commands.specs.Standing.{Standing, next_asked, seeds_for, Holding, holdings, held_on}

-- steps: as `next_asked` has them, for the setting of a move to m members with the bound u
abbrev pub move_asked : List ℕ → ℕ → ℕ → Option (List ℕ) → Held → Result Standing Status
move_asked name m u = next_asked (λ now. move_shape now.n now.t m u) name

-- the setting. The old members sit on the first seats, the new ones behind them
abbrev pub moving_of : Standing → ℕ → ℕ → Shape
moving_of st m u = move_shape st.now.n st.now.t m u

-- which seats are down before the phase: of an old member that is drilled or has no valid share file, and of a new one that
-- is drilled
abbrev pub down_moving : Standing → ℕ → Bool
down_moving st = is_down_in_move (names st.orders) st.files

-- ---- what the seats take part with
-- what an old member deals as its shares: to each of them is added what the drill tells its seat to add, if anything
abbrev pub dealt_shares : List Order → ℕ → List Fp → List Fp
dealt_shares orders index lanes = map (λ lane. get_or lanes lane zeroₚ +ₚ wrong_of orders index) (places 5)

-- it draws grids of degree u from its seed, whose constants are these
abbrev pub moving : List Order → ℕ → ℕ → List Fp → List ℕ → Holding
moving orders u index lanes seed =
    record { old = dealt_shares orders index lanes; grids = grids_drawn_with u (dealt_shares orders index lanes) seed }

-- a new member has no shares before, and deals nothing
abbrev pub new_member : Holding
new_member = record { old = []; grids = [] }

-- what all take part with, by seat
abbrev pub seats_in : Standing → ℕ → ℕ → List (List ℕ) → List (Option Holding)
seats_in st m u seeds = holdings (moving st.orders u) 1 st.files seeds ++ replicate m (Some new_member)

-- ---- the run
-- a seat before the first round
abbrev pub mover_on : Shape → ℕ → Option Holding → Part Mover
mover_on s seat None = Away
mover_on s seat (Some holding) = In (mover_at s seat holding.grids)

-- all of them
abbrev pub movers_on : Shape → List (Option Holding) → List (Part Mover)
movers_on s held = numbered (mover_on s) 1 held

-- the masks are ones that the words of the seats allow, where these were cut
abbrev pub AreMoveMasks : Standing → ℕ → ℕ → List (List ℕ) → (ℕ → ℕ) → List ℕ → Type 0
AreMoveMasks st m u seeds cuts masks = AreMasks (part_ways mover_ways) (moving_of st m u) st.orders (movers_on (moving_of st m u) (seats_in st m u seeds)) cuts masks

-- the play of a move: who was down before and who is late is down in it
abbrev pub play_moved : Standing → ℕ → ℕ → List (List ℕ) → List ℕ → Play
play_moved st m u seeds masks =
    phase_play (part_ways mover_ways) (moving_of st m u) (down_after (down_moving st) masks) (λ seat. (held_on (seats_in st m u seeds) seat).grids)
    st.orders (movers_on (moving_of st m u) (seats_in st m u seeds)) masks

-- ---- the end
-- which of the new members are down in a play
abbrev pub new_down : Play → ℕ → Bool
new_down p j = p.down (seat_of p.shape j)

-- the five lanes of new member j, under the error vectors of the lanes
abbrev pub moved_shares : Play → List (List Fp) → ℕ → List Fp
moved_shares p errors j = map (λ lane. moved_share p lane (get_or errors lane []) j) (places 5)

-- the now file of the new committee
abbrev pub moved_now : Standing → ℕ → ℕ → Play → Now
moved_now st m u p = following_now st.now m u (new_down p)

-- the changes: the next period begins, and each new member that isn't down has its moved shares
abbrev pub move_changes : Standing → ℕ → ℕ → Play → List (List Fp) → List Change
move_changes st m u p errors = next_changes st.now (moved_now st m u p) (new_down p) (moved_shares p errors)

-- the old members whose shares had an error in some lane, by index
abbrev pub corrected_members : ℕ → List (List Fp) → List ℕ
corrected_members n errors = filter (has_error errors) (range_with_len 1 n)

-- what is printed: both committees, the masks, how many instances are accepted, whose old shares were corrected, and who
-- got a share file
abbrev pub moved_text : Standing → ℕ → ℕ → List ℕ → Play → List (List Fp) → List ℕ
moved_text st m u masks p errors =
    move_text st.now (moved_now st m u p) masks (accepted_count p) (corrected_members st.now.n errors) (up_members m (new_down p))

abbrev pub move_outcome : Standing → ℕ → ℕ → List ℕ → Play → List (List Fp) → Outcome
move_outcome st m u masks p errors = done_with (seeds_for st) (move_changes st m u p errors) (moved_text st m u masks p errors)

-- step: in a play enough of the old members must not be down, and enough of the new ones
abbrev pub enough_moved : Standing → ℕ → ℕ → Play → Result ℕ Status
enough_moved st m u p = enough_after st.now.n st.now.t p.down and_then λ old. enough_after m u (new_down p)

-- What is opened in a play. Where each lane has its error vector the move is done; where it has no result it is refused,
-- with the least lane that has none and what was opened there.
abbrev pub EndsOpened : Standing → ℕ → ℕ → List ℕ → Play → Outcome → Type 0
EndsOpened st m u masks p outcome =
    ((errors : List (List Fp)) × HaveErrors p.shape (syndromes_heard p) errors × (outcome ≡ move_outcome st m u masks p errors))
    ⊎ ((lane : ℕ) × (syndrome : List Fp) × MoveHasNoResult p.shape (syndromes_heard p) lane syndrome × (outcome ≡ refused_after (seeds_for st) (NoWord lane syndrome)))

-- A step behind a phase that took so many seeds: what follows is told of its value, and a refusal is the end.
abbrev pub ThenAfter : {A : Type 0} → ℕ → Result A Status → (A → Outcome → Type 0) → Outcome → Type 0
ThenAfter taken (Ok x) next outcome = next x outcome
ThenAfter taken (Err status) next outcome = outcome ≡ refused_after taken status

-- What a play of a move comes to: a refusal where too few members are left, else what is opened. By a refusal the seeds are
-- taken and nothing has changed.
abbrev pub EndsMove : Standing → ℕ → ℕ → List ℕ → Play → Outcome → Type 0
EndsMove st m u masks p = ThenAfter (seeds_for st) (enough_moved st m u p) (λ enough. EndsOpened st m u masks p)

-- with all that known: there is a seed for each valid share file, by index, the first of those to come, and the phase is
-- the play of its run
abbrev pub Moves : ℕ → ℕ → Option (List (List ℕ)) → (ℕ → ℕ) → List ℕ → Standing → Outcome → Type 0
Moves m u coming cuts masks st outcome =
    (seeds : List (List ℕ)) × (length seeds ≡ seeds_for st) × AreFirst seeds coming × AreMoveMasks st m u seeds cuts masks
    × EndsMove st m u masks (play_moved st m u seeds masks) outcome

-- the steps, then the seeds are taken and the phase is run, under these cuts and masks
abbrev pub MeansMove : List ℕ → ℕ → ℕ → Option (List ℕ) → Held → Option (List (List ℕ)) → (ℕ → ℕ) → List ℕ → Outcome → Type 0
MeansMove name m u drill held coming cuts masks = ThenDo (move_asked name m u drill held) (Moves m u coming cuts masks)

-- a move takes so many seeds: it may go on, and takes one for each valid share file
abbrev pub MoveTakes : List ℕ → ℕ → ℕ → Option (List ℕ) → Held → ℕ → Type 0
MoveTakes name m u drill held count = (st : Standing) × (move_asked name m u drill held ≡ Ok st) × (count ≡ seeds_for st)
