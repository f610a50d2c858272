-- Laws of drills that callers may use.
use Rattle.std.specs.Prelude.{◌≡◌, ℕ, false, List, [], ◌∷◌, ◌++◌, None, decimal, codes, Ok}
use Rattle.talk.specs.declared.messages.Say.{Say}
use Rattle.talk.specs.Shape.{Shape, Lawful}
use Rattle.drillbook.specs.declared.order.Verb.{Verb}
use Rattle.drillbook.specs.declared.order.Verb.TheVariants.{Silent, Late, Garble, Skew, Wrong, Accuse, Veto}
use Rattle.drillbook.specs.declared.order.Order.{Order}
use Rattle.drillbook.specs.Orders.{IsLawful, names, order_at}
use Rattle.drillbook.specs.Text.{is_idle, line_at}
use Rattle.drillbook.specs.Word.{drilled_word}

-- a seat that no order names says its own words
abbrev pub UnnamedSpeaks : Type 0
UnnamedSpeaks =
    (shape : Shape) (orders : List Order) (seat round : ℕ) (second word : Say) → names orders seat ≡ false →
    drilled_word shape orders seat round second word ≡ word

-- in a round without an order of its own a seat says its own word
abbrev pub SpeaksWithoutOrder : Type 0
SpeaksWithoutOrder =
    (shape : Shape) (orders : List Order) (seat round : ℕ) (second word : Say) → order_at orders seat round ≡ None →
    drilled_word shape orders seat round second word ≡ word

-- how a verb is spelled
abbrev pub verb_text : Verb → List ℕ
verb_text Silent = codes "silent"
verb_text Late = codes "late"
verb_text Garble = codes "garble"
verb_text (Skew by) = codes "skew " ++ decimal by.num
verb_text (Wrong by) = codes "wrong " ++ decimal by.num
verb_text (Accuse receiver) = codes "accuse " ++ decimal receiver
verb_text Veto = codes "veto"

-- how an order is spelled
abbrev pub order_text : Order → List ℕ
order_text order = decimal order.party ++ 32 ∷ (decimal order.round ++ 32 ∷ verb_text order.verb)

-- the line of an order that the table has is that order, where its party has none for its round yet
abbrev pub SpelledIsRead : Type 0
SpelledIsRead =
    (shape : Shape) (number : ℕ) (before : List Order) (order : Order) → Lawful shape → IsLawful shape order →
    order_at before order.party order.round ≡ None →
    line_at shape number before (order_text order) ≡ Ok (before ++ order ∷ [])

-- a line that is read and says something is the line of one order, which is then the last
pub record IsLineOf (shape : Shape) (before after : List Order) (line : List ℕ) (order : Order) : Type 0 where
  pub spelled : line ≡ order_text order
  pub lawful : IsLawful shape order
  pub new : order_at before order.party order.round ≡ None
  pub last : after ≡ before ++ order ∷ []

abbrev pub ReadIsSpelled : Type 0
ReadIsSpelled =
    (shape : Shape) (number : ℕ) (before after : List Order) (line : List ℕ) → is_idle line ≡ false →
    line_at shape number before line ≡ Ok after → (order : Order) × IsLineOf shape before after line order
