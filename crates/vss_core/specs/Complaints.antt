-- Complaints laid out for look-up, in tables with a row of 16 cells for each instance and a column for each receiver.
use Rattle.std.specs.Prelude.{◌≡◌, ℕ, ◌+◌, ◌*◌, ◌<◌, ◌-◌, Bool, true, false, List, [], length, get_or, Option, None}
use Rattle.sharing61.specs.Rules.{told_same}
use Rattle.sharing61.specs.declared.Crossing.{Crossing}
use Rattle.talk.specs.declared.messages.Post.{Post}
use Rattle.talk.specs.declared.messages.Post.TheVariants.{Quiet}
use Rattle.talk.specs.Shape.{Shape}
use Rattle.plays.specs.Read.{listed_in}
use Rattle.plays.specs.Seat.{heard_complaint}

-- what stands in the cell of an instance and a receiver
abbrev pub cell_of : List (Option Crossing) → ℕ → ℕ → Option Crossing
cell_of cells instance other = get_or cells (instance * 16 + other) None

-- each cell that is there has what the post tells of its instance and receiver
pub record LaidOut (cells : List (Option Crossing)) (post : Post) : Type 0 where
  pub told : (i k : ℕ) → k < 16 → i * 16 + k < length cells → cell_of cells i k ≡ listed_in i k post

-- one table for each post
pub record AllLaidOut (tables : List (List (Option Crossing))) (posts : List Post) : Type 0 where
  pub all : length tables ≡ length posts
  pub each : (k : ℕ) → LaidOut (get_or tables k []) (get_or posts k Quiet)

-- two receivers are settled where one of them is revealed, or where they tell the same
abbrev pub settled_where : Bool → Bool → Option Crossing → Option Crossing → Bool
settled_where true true mine theirs = told_same mine theirs
settled_where true false mine theirs = true
settled_where false hidden mine theirs = true

-- the same of two receivers in an instance, with a list of which receivers are hidden, by their index less 1
abbrev pub settled_here : Shape → List Post → List Bool → ℕ → ℕ → ℕ → Bool
settled_here shape third hidden instance receiver other =
    settled_where (get_or hidden (receiver - 1) false) (get_or hidden (other - 1) false)
    (heard_complaint shape third instance receiver other) (heard_complaint shape third instance other receiver)
