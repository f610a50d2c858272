-- When there is room, by what is counted.
use Rattle.std.proofs.Common.{◌≡◌, ℕ, ◌+◌, ◌≤◌, ◌↔◌, true, leb, sym, ap, ◌∙◌, subst, arith}
use Rattle.std.proofs.lemmas.Bool.{leb-true, le-leb}
use Rattle.sharing61.specs.Count.{how_many}
use Rattle.talk.specs.Shape.{Shape}
use Rattle.talk.specs.Sync.{has}
use Rattle.playback.specs.declared.phase.PhaseKind.{PhaseKind}
use Rattle.playback.specs.declared.phase.PhaseKind.TheVariants.{Create, Refresh, Move}
use Rattle.playback.specs.Recorded.{kind_of}
use Rattle.phaseshift.specs.Members.{behind}
use Rattle.phaseshift.specs.Shift.{HasRoom, down_among}
use Rattle.phaseshift.proofs.Members.{count_front}

-- what is counted of a mask from its first bit on
counted : (n m mask x : ℕ) → n ≡ m → x ≡ how_many n (behind mask 0) → x ≡ how_many m (has mask)
counted n m mask x en e = e ∙ ap (λ i. how_many i (behind mask 0)) en ∙ count_front m mask

module _ (k : PhaseKind) (shape : Shape) (down before after : ℕ) where
  pub room_created : (degree d x n : ℕ) → k ≡ Create → degree ≡ shape.degree → d ≡ down_among shape (has down) → d ≤ degree → n ≡ shape.receivers → x ≡ how_many n (behind after 0) →
      (leb x degree ≡ true) ↔ HasRoom (kind_of k) shape (has down) (has before) (has after)
  room_created degree d x n ek eg ed le en ex =
      subst (λ (j : PhaseKind). (leb x degree ≡ true) ↔ HasRoom (kind_of j) shape (has down) (has before) (has after)) (sym ek) (
        λ t. (omega (arith, le, eg, ed), omega (arith, leb-true x degree t, eg, counted n shape.receivers after x en ex)),
        λ r. le-leb x degree (omega (arith, r.1, eg, counted n shape.receivers after x en ex)),
      )

  pub room_moved : (degree d x n : ℕ) → k ≡ Move → degree ≡ shape.degree → d ≡ down_among shape (has down) → d ≤ degree → n ≡ shape.receivers → x ≡ how_many n (behind after 0) →
      (leb x degree ≡ true) ↔ HasRoom (kind_of k) shape (has down) (has before) (has after)
  room_moved degree d x n ek eg ed le en ex =
      subst (λ (j : PhaseKind). (leb x degree ≡ true) ↔ HasRoom (kind_of j) shape (has down) (has before) (has after)) (sym ek) (
        λ t. (omega (arith, le, eg, ed), omega (arith, leb-true x degree t, eg, counted n shape.receivers after x en ex)),
        λ r. le-leb x degree (omega (arith, r.1, eg, counted n shape.receivers after x en ex)),
      )

  pub room_refreshed : (degree b x n m : ℕ) → k ≡ Refresh → degree ≡ shape.degree → m ≡ shape.dealers → b ≡ how_many m (behind before 0) → b ≤ degree + 1 → n ≡ shape.receivers → x ≡ how_many n (behind after 0) →
      (leb x (degree + 1) ≡ true) ↔ HasRoom (kind_of k) shape (has down) (has before) (has after)
  room_refreshed degree b x n m ek eg em eb le en ex =
      subst (λ (j : PhaseKind). (leb x (degree + 1) ≡ true) ↔ HasRoom (kind_of j) shape (has down) (has before) (has after)) (sym ek) (
        λ t. (omega (arith, le, eg, counted m shape.dealers before b em eb), omega (arith, leb-true x (degree + 1) t, eg, counted n shape.receivers after x en ex)),
        λ r. le-leb x (degree + 1) (omega (arith, r.1, eg, counted n shape.receivers after x en ex)),
      )
