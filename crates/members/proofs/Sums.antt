-- Shares of members and of plays.
use Rattle.std.proofs.Common.{◌≡◌, ℕ, zero, suc, ◌+◌, ◌*◌, ◌<◌, ◌≤◌, Bool, false, cond, ◌∷◌, map, refl, sym, ap, ap₂, ◌∙◌, arith}
use Rattle.std.specs.List.{count_by, range_with_len}
use Rattle.std.proofs.lemmas.List.FromFn.{get_or-map-range_with_len}
use Rattle.std.proofs.lemmas.List.Sums.{sum_by-cons}
use Rattle.algebra61.specs.Field.{Fp, zeroₚ, fe, ◌+ₚ◌}
use Rattle.algebra61.specs.Poly.{eval}
use Rattle.algebra61.specs.Grid.{row, grid_at}
use Rattle.bivar61.specs.Sums.{sum_below}
use Rattle.sharing61.specs.Rules.{Pair, zero_pair}
use Rattle.sharing61.specs.Instance.{kept, accepted, share}
use Rattle.sharing61.specs.Agreement.{HonestReceiver}
use Rattle.sharing61.proofs.Values.{eval-poly}
use Rattle.plays.proofs.Proper.{honest_dealers_in_plays}
use Rattle.talk.specs.Shape.{instances}
use Rattle.sizes.specs.Instances.{dealer_of, instance_at}
use Rattle.plays.specs.Play.{Play, instance_of, seat_of, lane_sum, created_share}
use Rattle.plays.specs.Law.{ProperPlay}
use Rattle.plays.specs.Run.{done_stage}
use Rattle.plays.specs.Said.{places}
use Rattle.plays.specs.Seat.{pair_at}
use Rattle.plays.specs.Stage.{Stage}
use Rattle.members.specs.Shares.{share_sum, kept_in, member_share, accepted_in}
use Rattle.members.specs.Laws.{NobodyDown, PlainShares, DoneIsPlay}

-- ---- the shares of one who is done
kept_place : (p : Play) (i j : ℕ) → i < instances p.shape → pair_at (map (λ k. kept (instance_of p k) j) (places (instances p.shape))) i ≡ kept (instance_of p i) j
kept_place p i j lt = get_or-map-range_with_len (λ k. kept (instance_of p k) j) 0 (instances p.shape) i i zero_pair lt (omega arith)

pub sum_is : (p : Play) (l j n : ℕ) → l < 5 → n ≤ p.shape.dealers → share_sum n (map (λ i. kept (instance_of p i) j) (places (instances p.shape))) l ≡ lane_sum n p l j
sum_is p l j zero l5 le = refl
sum_is p l j (suc n) l5 le =
    ap₂ (λ a b. a +ₚ b) (sum_is p l j n l5 (omega (arith, le)))
    (ap (λ (q : Pair). eval q.row.coeffs zeroₚ) (kept_place p (instance_at (suc n) l) j (omega (arith, l5, le))))

count_map : (f : ℕ → Bool) (n a : ℕ) → count_by (λ b. b) (map f (range_with_len a n)) ≡ count_by f (range_with_len a n)
count_map f zero a = refl
count_map f (suc n) a =
    sum_by-cons (λ (b : Bool). cond b 1 0) (f a) (map f (range_with_len (a + 1) n))
    ∙ ap (λ (k : ℕ). cond (f a) 1 0 + k) (count_map f n (a + 1))
    ∙ sym (sum_by-cons (λ (i : ℕ). cond (f i) 1 0) a (range_with_len (a + 1) n))

share_is : (p : Play) (l j n : ℕ) (stage : Stage) → l < 5 → n ≡ p.shape.dealers → stage ≡ done_stage p j → share_sum n (kept_in stage) l ≡ created_share p l j
share_is p l j n stage l5 en es =
    ap₂ (λ (k : ℕ) (st : Stage). share_sum k (kept_in st) l) en es ∙ sum_is p l j p.shape.dealers l5 (omega arith)

five_same : (f g : ℕ → Fp) (n a : ℕ) → ((l : ℕ) → l < a + n → f l ≡ g l) → map f (range_with_len a n) ≡ map g (range_with_len a n)
five_same f g zero a h = refl
five_same f g (suc n) a h = ap₂ (λ x xs. x ∷ xs) (h a (omega arith)) (five_same f g n (a + 1) (λ l lt. h l (omega (arith, lt))))

pub done_is_play : DoneIsPlay
done_is_play p j m d =
    let each : (l : ℕ) → l < 5 → member_share m l ≡ created_share p l j =
    λ l l5. share_is p l j m.shape.dealers m.stage l5 (ap (λ s. s.dealers) d.shape) d.stage in
    record {
      share = each;
      shares = five_same (member_share m) (λ l. created_share p l j) 5 0 (λ l lt. each l (omega (arith, lt)));
      accepted = ap accepted_in d.stage ∙ count_map (λ i. accepted (instance_of p i)) (instances p.shape) 0;
    }

-- ---- where nobody is down
receiver_honest : (p : Play) (i j : ℕ) → 1 ≤ j → j ≤ p.shape.receivers → p.down (seat_of p.shape j) ≡ false → HonestReceiver (instance_of p i) j
unfolding instance_of
receiver_honest p i j from to up = record { from = from; to = to; up = up }

plain_share : (p : Play) (i j : ℕ) → ProperPlay p → NobodyDown p → i < instances p.shape → 1 ≤ j → j ≤ p.shape.receivers →
    share (instance_of p i) j ≡ grid_at (p.grid i) zeroₚ (fe j)
plain_share p i j proper up lt from to =
    let end = honest_dealers_in_plays p i proper lt (up.dealers (dealer_of i) (omega arith) (omega (arith, lt))) in
    ap (λ (q : Pair). eval q.row.coeffs zeroₚ) (end.own j (receiver_honest p i j from to (up.receivers j from to)))
    ∙ eval-poly (row (p.grid i) (fe j)) zeroₚ

plain_sum : (p : Play) (l j : ℕ) → ProperPlay p → NobodyDown p → l < 5 → 1 ≤ j → j ≤ p.shape.receivers → (n : ℕ) → n ≤ p.shape.dealers →
    lane_sum n p l j ≡ sum_below n (λ i. grid_at (p.grid (instance_at (suc i) l)) zeroₚ (fe j))
plain_sum p l j proper up l5 from to zero le = refl
plain_sum p l j proper up l5 from to (suc n) le =
    ap₂ (λ a b. a +ₚ b) (plain_sum p l j proper up l5 from to n (omega (arith, le)))
    (plain_share p (instance_at (suc n) l) j proper up (omega (arith, l5, le)) from to)

pub plain_shares : PlainShares
plain_shares p l j proper up l5 from to = plain_sum p l j proper up l5 from to p.shape.dealers (omega arith)
