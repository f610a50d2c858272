-- Which drill a text is, or the first thing that is wrong with it.
use Rattle.std.specs.Prelude.{◌≡◌, ℕ, ◌+◌, ◌*◌, ◌-◌, ◌^◌, Bool, true, false, ◌&&◌, ◌||◌, eqb, cond, List, [], ◌∷◌, ◌++◌, Option, Some, None, is_some, Result, Ok, Err, decimal, codes}
use Rattle.std.specs.Str.{bytes_eq}
use Rattle.std.specs.List.{slice_split}
use Rattle.std.proofs.Common.{leb, ltb}
use Rattle.algebra61.specs.Field.{Fp, fe, Prime}
use Rattle.sharing61.specs.Count.{how_many}
use Rattle.talk.specs.Basics.{first_of}
use Rattle.talk.specs.Shape.{Shape, seats, within}
use Rattle.decimals.specs.Decimals.{number_in}
use Rattle.drillbook.specs.declared.order.Verb.{Verb}
use Rattle.drillbook.specs.declared.order.Verb.TheVariants.{Silent, Late, Garble, Skew, Wrong, Accuse, Veto}
use Rattle.drillbook.specs.declared.order.Order.{Order}
use Rattle.drillbook.specs.declared.fault.DrillFault.{DrillFault}
use Rattle.drillbook.specs.declared.fault.DrillFault.TheVariants.{BadLine, Stranger, TooMany, OutOfMemory}
use Rattle.drillbook.specs.Orders.{moves, is_lawful, names, order_at}

-- the parts between the separators: one more than there are separators
abbrev pub split : ℕ → List ℕ → List (List ℕ)
split separator text = slice_split (λ c. eqb c separator) text

-- the value where the test holds
abbrev pub some_if : {A : Type 0} → Bool → A → Option A
some_if true value = Some value
some_if false value = None

-- a verb without an argument
abbrev pub plain_verb : List ℕ → Option Verb
plain_verb word =
    first_of (bytes_eq word (codes "silent")) Silent
    (first_of (bytes_eq word (codes "late")) Late
    (first_of (bytes_eq word (codes "garble")) Garble
    (first_of (bytes_eq word (codes "veto")) Veto
    None)))

-- an element of the field, from its number
abbrev pub element_of : Option ℕ → Option Fp
element_of None = None
element_of (Some number) = some_if (ltb number Prime) (fe number)

abbrev pub skew_by : Option Fp → Option Verb
skew_by None = None
skew_by (Some by) = Some (Skew by)

abbrev pub wrong_by : Option Fp → Option Verb
wrong_by None = None
wrong_by (Some by) = Some (Wrong by)

-- a number of 2^32 or more is no receiver's
abbrev pub accuse_of : Option ℕ → Option Verb
accuse_of None = None
accuse_of (Some receiver) = some_if (ltb receiver (2 ^ 32)) (Accuse receiver)

-- a verb with an argument
abbrev pub argued_verb : List ℕ → List ℕ → Option Verb
argued_verb word argument =
    cond (bytes_eq word (codes "skew")) (skew_by (element_of (number_in argument)))
    (cond (bytes_eq word (codes "wrong")) (wrong_by (element_of (number_in argument)))
    (cond (bytes_eq word (codes "accuse")) (accuse_of (number_in argument))
    None))

-- the word is a verb of the table
abbrev pub is_verb : List ℕ → Bool
is_verb word =
    is_some (plain_verb word)
    || (bytes_eq word (codes "skew") || (bytes_eq word (codes "wrong") || bytes_eq word (codes "accuse")))

-- the party, where all three are there and it is no seat
abbrev pub stranger_of : Shape → Option ℕ → Option ℕ → Bool → Option ℕ
stranger_of shape (Some party) (Some round) verb = cond (within 1 party (seats shape)) None (some_if verb party)
stranger_of shape (Some party) None verb = None
stranger_of shape None round verb = None

-- the party that is no seat, where the words have the form of a line
abbrev pub stranger_in : Shape → List (List ℕ) → Option ℕ
stranger_in shape (party ∷ round ∷ verb ∷ []) = stranger_of shape (number_in party) (number_in round) (is_verb verb)
stranger_in shape (party ∷ round ∷ verb ∷ [] ∷ []) = None
stranger_in shape (party ∷ round ∷ verb ∷ (first ∷ rest) ∷ []) =
    stranger_of shape (number_in party) (number_in round) (is_verb verb)
stranger_in shape words = None

-- the order, where all three are there and it is one that the table has
abbrev pub order_of : Shape → Option ℕ → Option ℕ → Option Verb → Option Order
order_of shape (Some party) (Some round) (Some verb) =
    some_if (is_lawful shape (record { party = party; round = round; verb = verb }))
    (record { party = party; round = round; verb = verb })
order_of shape (Some party) (Some round) None = None
order_of shape (Some party) None verb = None
order_of shape None round verb = None

-- the order that words are
abbrev pub order_in : Shape → List (List ℕ) → Option Order
order_in shape (party ∷ round ∷ verb ∷ []) = order_of shape (number_in party) (number_in round) (plain_verb verb)
order_in shape (party ∷ round ∷ verb ∷ argument ∷ []) =
    order_of shape (number_in party) (number_in round) (argued_verb verb argument)
order_in shape words = None

-- the orders after one more, unless its party has one for its round
abbrev pub with_order : ℕ → List Order → Order → Result (List Order) DrillFault
with_order number before order =
    cond (is_some (order_at before order.party order.round)) (Err (BadLine number)) (Ok (before ++ order ∷ []))

-- the orders after the line of this number, by the stranger that it names and the order that it is
abbrev pub judged : ℕ → List Order → Option ℕ → Option Order → Result (List Order) DrillFault
judged number before (Some party) order = Err (Stranger number party)
judged number before None None = Err (BadLine number)
judged number before None (Some order) = with_order number before order

-- an empty line and a line that begins with # say nothing
abbrev pub is_idle : List ℕ → Bool
is_idle [] = true
is_idle (first ∷ rest) = eqb first 35

-- the orders after the line of this number
abbrev pub line_at : Shape → ℕ → List Order → List ℕ → Result (List Order) DrillFault
line_at shape number before line =
    cond (is_idle line) (Ok before)
    (judged number before (stranger_in shape (split 32 line)) (order_in shape (split 32 line)))

-- the second step over what the first gives, or the first's fault
abbrev pub after_ok : {A B : Type 0} → Result A DrillFault → (A → Result B DrillFault) → Result B DrillFault
after_ok (Ok value) next = next value
after_ok (Err fault) next = Err fault

-- the orders after the lines from this number on
abbrev pub lines_at : Shape → ℕ → List Order → List (List ℕ) → Result (List Order) DrillFault
lines_at shape number before [] = Ok before
lines_at shape number before (line ∷ lines) =
    after_ok (line_at shape number before line) (λ now. lines_at shape (number + 1) now lines)

-- how many of so many members on the seats after `shift` are named
abbrev pub named_among : List Order → ℕ → ℕ → ℕ
named_among orders shift count = how_many count (λ j. names orders (shift + j))

-- how many of the old committee of a move may be faulty
abbrev pub old_bound : Shape → ℕ
old_bound shape = shape.dealers - shape.checks - 1

-- the orders, unless more are named than may be faulty
abbrev pub unless_many : ℕ → ℕ → Result (List Order) DrillFault → Result (List Order) DrillFault
unless_many named bound rest = cond (leb named bound) rest (Err (TooMany named bound))

-- no committee has more members named than may be faulty: in a move the old one is looked at first
abbrev pub counted : Shape → List Order → Result (List Order) DrillFault
counted shape orders =
    let new = unless_many (named_among orders shape.shift shape.receivers) shape.bound (Ok orders) in
    cond (moves shape) (unless_many (named_among orders 0 shape.dealers) (old_bound shape) new) new

-- which drill a text is. Lines are parted by line feeds and count from 1, and words by single spaces
unfoldable pub drill_at : Shape → List ℕ → Result (List Order) DrillFault
drill_at shape text = after_ok (lines_at shape 1 [] (split 10 text)) (counted shape)

-- a fault is the one that reading gives, but for want of memory, which is free
abbrev pub Fails : DrillFault → Result (List Order) DrillFault → Type 0
Fails OutOfMemory is = Unit {0}
Fails (BadLine line) is = is ≡ Err (BadLine line)
Fails (Stranger line party) is = is ≡ Err (Stranger line party)
Fails (TooMany named bound) is = is ≡ Err (TooMany named bound)

-- what a function returned is the drill of the text or its first fault, unless memory ran out
abbrev pub Reads : Result (List Order) DrillFault → Result (List Order) DrillFault → Type 0
Reads (Ok orders) is = is ≡ Ok orders
Reads (Err fault) is = Fails fault is

-- the number of a fault
abbrev pub fault_number : DrillFault → ℕ
fault_number (BadLine line) = 1
fault_number (Stranger line party) = 2
fault_number (TooMany named bound) = 3
fault_number OutOfMemory = 4
