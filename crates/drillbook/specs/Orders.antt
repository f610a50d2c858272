-- Orders of a drill: who misbehaves in which round, and how.
use Rattle.std.specs.Prelude.{◌≡◌, ℕ, ◌+◌, ◌≤◌, Bool, true, false, ◌&&◌, ◌||◌, not, eqb, List, [], ◌∷◌, Option, Some, None}
use Rattle.algebra61.specs.Field.{Fp, zeroₚ}
use Rattle.talk.specs.Basics.{first_of}
use Rattle.talk.specs.Shape.{Shape, seats, rounds, within, deals, receives}
use Rattle.drillbook.specs.declared.order.Verb.{Verb}
use Rattle.drillbook.specs.declared.order.Verb.TheVariants.{Silent, Late, Garble, Skew, Wrong, Accuse, Veto}
use Rattle.drillbook.specs.declared.order.Order.{Order}

-- the receivers are new members, who sit behind the dealers
abbrev pub moves : Shape → Bool
moves shape = not (eqb shape.shift 0)

-- skew stands in the first and fourth rounds of a dealer, the second of a receiver, and the sixth of a receiver of
-- a move
abbrev pub may_skew : Shape → ℕ → ℕ → Bool
may_skew shape seat round =
    (eqb round 1 && deals shape seat)
    || ((eqb round 2 && receives shape seat)
    || ((eqb round 4 && deals shape seat)
    || (eqb round 6 && (moves shape && receives shape seat))))

-- the receiver sits on another seat
abbrev pub other_receiver : Shape → ℕ → ℕ → Bool
other_receiver shape seat receiver = within 1 receiver shape.receivers && not (eqb (shape.shift + receiver) seat)

-- the seat may be told this verb in this round, with its argument in range
abbrev pub allows : Shape → ℕ → ℕ → Verb → Bool
allows shape seat round Silent = true
allows shape seat round Late = true
allows shape seat round Garble = true
allows shape seat round (Skew by) = may_skew shape seat round
allows shape seat round (Wrong by) = eqb round 1 && (moves shape && deals shape seat)
allows shape seat round (Accuse receiver) = eqb round 3 && (receives shape seat && other_receiver shape seat receiver)
allows shape seat round Veto = eqb round 5 && receives shape seat

-- a receiver that the verb names is one of the setting
abbrev pub NamesReceiver : Shape → Verb → Type 0
NamesReceiver shape (Accuse receiver) = (1 ≤ receiver) × (receiver ≤ shape.receivers)
NamesReceiver shape Silent = Unit {0}
NamesReceiver shape Late = Unit {0}
NamesReceiver shape Garble = Unit {0}
NamesReceiver shape (Skew by) = Unit {0}
NamesReceiver shape (Wrong by) = Unit {0}
NamesReceiver shape Veto = Unit {0}

-- the party is a seat, the round one of the phase, and the verb may stand there
abbrev pub is_lawful : Shape → Order → Bool
is_lawful shape order =
    within 1 order.party
    (seats shape) && (within 1 order.round (rounds shape) && allows shape order.party order.round order.verb)

abbrev pub IsLawful : Shape → Order → Type 0
IsLawful shape order = is_lawful shape order ≡ true

abbrev pub AllLawful : Shape → List Order → Type 0
AllLawful shape [] = Unit {0}
AllLawful shape (order ∷ orders) = IsLawful shape order × AllLawful shape orders

-- some order's party is this seat
abbrev pub names : List Order → ℕ → Bool
names [] seat = false
names (order ∷ orders) seat = eqb order.party seat || names orders seat

-- what the seat is told to do in a round
abbrev pub order_at : List Order → ℕ → ℕ → Option Verb
order_at [] seat round = None
order_at (order ∷ orders) seat round =
    first_of (eqb order.party seat && eqb order.round round) order.verb (order_at orders seat round)

-- what a verb adds to the shares of which a dealer of a move makes its grids
abbrev pub added_by : Option Verb → Fp
added_by (Some (Wrong by)) = by
added_by (Some Silent) = zeroₚ
added_by (Some Late) = zeroₚ
added_by (Some Garble) = zeroₚ
added_by (Some (Skew by)) = zeroₚ
added_by (Some (Accuse receiver)) = zeroₚ
added_by (Some Veto) = zeroₚ
added_by None = zeroₚ

-- what the seat's line with wrong adds, 0 where it has none
abbrev pub wrong_of : List Order → ℕ → Fp
wrong_of orders seat = added_by (order_at orders seat 1)
