-- A round leaves as many minds.
use Rattle.std.proofs.Common.{◌≡◌, ℕ, suc, ◌+◌, List, [], ◌∷◌, length, refl, ap}
use Rattle.talk.specs.declared.messages.Say.{Say}
use Rattle.talk.specs.Shape.{Shape}
use Rattle.talk.specs.Sync.{Ways, after_words, after_hears}

module _ {M : Type 0} where
  pub length-after_hears : (w : Ways M) (s : Shape) (round mask : ℕ) (words : List Say) (seat : ℕ) (ms : List M) → length (after_hears w s round mask words seat ms) ≡ length ms
  length-after_hears w s round mask words seat [] = refl
  length-after_hears w s round mask words seat (m ∷ ms) = ap suc (length-after_hears w s round mask words (seat + 1) ms)

  pub length-after_words : (w : Ways M) (round : ℕ) (ms : List M) → length (after_words w round ms) ≡ length ms
  length-after_words w round [] = refl
  length-after_words w round (m ∷ ms) = ap suc (length-after_words w round ms)
