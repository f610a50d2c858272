-- A history: four members create a key, four others get it by a move, and in a refresh one of them is down, who is exposed
-- before and after it. Every grid is zero.
use Rattle.std.specs.Prelude.{ℕ, zero, suc, Bool, false, eqb, []}
use Rattle.talk.specs.declared.messages.Post.TheVariants.{Quiet}
use Rattle.talk.specs.declared.messages.Ring.TheVariants.{Nothing}
use Rattle.talk.specs.Shape.{Shape, create_shape, refresh_shape, move_shape}
use Rattle.plays.specs.Play.{Play}
use Rattle.histories61.specs.Phases.{Kind, Created, Refreshed, Moved}
use Rattle.histories61.specs.Course.{Course, IsHistory}

-- the honest dealers share zero, and those who are down say nothing
abbrev pub zero_play : Shape → (ℕ → Bool) → Play
zero_play shape down = record { shape = shape; down = down; grid = λ i. []; post = λ round seat. Quiet; ring = λ round seat to. Nothing }

abbrev pub nobody_of : ℕ → Bool
nobody_of member = false

abbrev pub the_first : ℕ → Bool
the_first member = eqb member 1

abbrev pub example_kind : ℕ → Kind
example_kind zero = Created
example_kind (suc zero) = Moved
example_kind (suc (suc phase)) = Refreshed

abbrev pub example_play : ℕ → Play
example_play zero = zero_play (create_shape 4 1) nobody_of
example_play (suc zero) = zero_play (move_shape 4 1 4 1) nobody_of
example_play (suc (suc phase)) = zero_play (refresh_shape 4 1) the_first

abbrev pub example_exposed : ℕ → ℕ → Bool
example_exposed zero = nobody_of
example_exposed (suc phase) = the_first

abbrev pub example_course : Course
example_course = record { phases = 3; kind = example_kind; play = example_play; exposed = example_exposed }

abbrev pub ExampleIsHistory : Type 0
ExampleIsHistory = IsHistory example_course
