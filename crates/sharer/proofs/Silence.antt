-- Rounds in which nobody says anything.
use Rattle.std.proofs.Common.{◌≡◌, ℕ, ◌+◌, List, [], ◌∷◌, ◌++◌, refl}
use Rattle.talk.specs.declared.messages.Post.{Post}
use Rattle.talk.specs.declared.messages.Post.TheVariants.{Quiet}
use Rattle.talk.specs.declared.messages.Ring.{Ring}
use Rattle.talk.specs.declared.messages.Ring.TheVariants.{Nothing}
use Rattle.talk.specs.Shape.{Shape}
use Rattle.talk.specs.Hears.{PostsOk, RingsOk}

pub quiet_more : (s : Shape) (round seat : ℕ) (ps qs : List Post) → PostsOk s round seat ps → qs ≡ ps ++ Quiet ∷ [] → PostsOk s round seat qs
quiet_more s round seat [] qs ok e = rw e (refl, tt)
quiet_more s round seat (p ∷ ps) qs ok e = rw e (ok.0, quiet_more s round (seat + 1) ps (ps ++ Quiet ∷ []) ok.1 refl)

pub nothing_more : (s : Shape) (round to seat : ℕ) (rs qs : List Ring) → RingsOk s round to seat rs → qs ≡ rs ++ Nothing ∷ [] → RingsOk s round to seat qs
nothing_more s round to seat [] qs ok e = rw e (refl, tt)
nothing_more s round to seat (r ∷ rs) qs ok e = rw e (ok.0, nothing_more s round to (seat + 1) rs (rs ++ Nothing ∷ []) ok.1 refl)
