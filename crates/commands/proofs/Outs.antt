-- What the new members of a move come to is one end, which the play defines.
use Rattle.std.proofs.Common.{◌≡◌, ℕ, zero, suc, ◌+◌, ◌-◌, ◌<◌, ◌≤◌, Bool, true, false, cond, List, [], ◌∷◌, ◌++◌, length, map, get_or, Option, Some, None, Result, Ok, Err, refl, sym, ap, ap₂, ◌∙◌, arith, append-nil}
use Rattle.std.specs.List.{range_with_len, filter}
use Rattle.std.proofs.lemmas.List.{ext_get_or, map-id}
use Rattle.std.proofs.lemmas.List.FromFn.{filter_of_map_range_with_len_more}
use Rattle.algebra61.specs.Field.{Fp}
use Rattle.talk.specs.Sync.{has}
use Rattle.plays.specs.Play.{Play}
use Rattle.periods.specs.Move.{syndromes_heard, HaveErrors, MoveHasNoResult, IsMove}
use Rattle.periods.proofs.Moving.{one_lane_error, result_or_none}
use Rattle.moveshare.specs.declared.out.MoveOut.{MoveOut}
use Rattle.moveshare.specs.declared.out.MoveOut.TheVariants.{Shares, NotOpened, NoWord}
use Rattle.moveshare.specs.Result.{has_error, AreCorrected}
use Rattle.moveshare.specs.Laws.{DefinesOut}
use Rattle.keyroom.specs.declared.status.Status.{Status}
use Rattle.keyroom.specs.declared.status.Status.TheVariants as status
use Rattle.commands.specs.Move.{new_down, moved_shares, corrected_members}
use Rattle.commands.specs.MovePhase.{OutIs, AreOuts, shares_at, IsOpened, AreOpened, first_end, members_in}
use Rattle.commands.specs.Phase.{unless_down}
use Rattle.commands.proofs.Phases.{SomeUp, up_step}

-- ---- the error vectors are one
pub one_errors : (t : ℕ) (p : Play) (a b : List (List Fp)) → IsMove t p → HaveErrors p.shape (syndromes_heard p) a → HaveErrors p.shape (syndromes_heard p) b → a ≡ b
one_errors t p a b move h k =
    ext_get_or [] a b (h.five ∙ sym k.five)
    (λ lane lt. let less : lane < 5 = omega (arith, lt, h.five) in one_lane_error t p lane (get_or a lane []) (get_or b lane []) move (h.each lane less) (k.each lane less))

-- ---- all lanes are opened
out_opened : (p : Play) (j : ℕ) (b : Bool) (out : Option MoveOut) → OutIs b (DefinesOut p j) out → IsOpened out
out_opened p j true None is = tt
out_opened p j true (Some o) is = absurd cc
out_opened p j false None is = absurd is
out_opened p j false (Some (Shares shares mask)) is = tt
out_opened p j false (Some (NotOpened lane place)) is = is
out_opened p j false (Some (NoWord lane syndrome)) is = tt

pub outs_opened : (p : Play) (j : ℕ) (outs : List (Option MoveOut)) → AreOuts p j outs → AreOpened outs
outs_opened p j [] are = tt
outs_opened p j (out ∷ outs) are = (out_opened p j (new_down p j) out are.0, outs_opened p (j + 1) outs are.1)

-- ---- the shares, under the error vectors
module _ (t : ℕ) (p : Play) (move : IsMove t p) (errors : List (List Fp)) (have : HaveErrors p.shape (syndromes_heard p) errors) where
  out_shares : (j : ℕ) (b : Bool) (out : Option MoveOut) → OutIs b (DefinesOut p j) out → shares_at out ≡ unless_down b (moved_shares p errors j)
  out_shares j true None is = refl
  out_shares j true (Some o) is = absurd cc
  out_shares j false None is = absurd is
  out_shares j false (Some (Shares shares mask)) is =
      ap (λ (xs : List Fp). let o : Option (List Fp) = Some xs in o) (is.2 ∙ ap (λ (es : List (List Fp)). moved_shares p es j) (one_errors t p is.0 errors move is.1 have))
  out_shares j false (Some (NotOpened lane place)) is = absurd is
  out_shares j false (Some (NoWord lane syndrome)) is = absurd (result_or_none t p errors lane syndrome move have is)

  pub outs_shares : (j : ℕ) (outs : List (Option MoveOut)) → AreOuts p j outs → map shares_at outs ≡ map (λ k. unless_down (new_down p k) (moved_shares p errors k)) (range_with_len j (length outs))
  outs_shares j [] are = refl
  outs_shares j (out ∷ outs) are = ap₂ (λ (x : Option (List Fp)) (xs : List (Option (List Fp))). x ∷ xs) (out_shares j (new_down p j) out are.0) (outs_shares (j + 1) outs are.1)

-- ---- the end, by the first member that isn't down
abbrev pub FirstEnd : Play → Result ℕ Status → Type 0
FirstEnd p (Ok mask) = (errors : List (List Fp)) × HaveErrors p.shape (syndromes_heard p) errors × AreCorrected p.shape.dealers errors mask
FirstEnd p (Err s) = (lane : ℕ) × (syndrome : List Fp) × MoveHasNoResult p.shape (syndromes_heard p) lane syndrome × (s ≡ status.NoWord lane syndrome)

first_step : (p : Play) (j : ℕ) (b : Bool) (out : Option MoveOut) (outs : List (Option MoveOut)) → OutIs b (DefinesOut p j) out → (b ≡ true → FirstEnd p (first_end outs)) → FirstEnd p (first_end (out ∷ outs))
first_step p j true None outs is next = next refl
first_step p j true (Some o) outs is next = absurd cc
first_step p j false None outs is next = absurd is
first_step p j false (Some (Shares shares mask)) outs is next = (is.0, is.1, is.3)
first_step p j false (Some (NotOpened lane place)) outs is next = absurd is
first_step p j false (Some (NoWord lane syndrome)) outs is next = (lane, syndrome, is, refl)

pub outs_end : (p : Play) (j : ℕ) (outs : List (Option MoveOut)) → AreOuts p j outs → SomeUp (new_down p) j (length outs) → FirstEnd p (first_end outs)
outs_end p j [] are some = absurd (omega (arith, some.within))
outs_end p j (out ∷ outs) are some =
    first_step p j (new_down p j) out outs are.0 (λ down. outs_end p (j + 1) outs are.1 (up_step (new_down p) j (length outs) some.place down some.within some.up))

-- ---- who was corrected
filter_same : (f g : ℕ → Bool) (a n : ℕ) → ((j : ℕ) → a ≤ j → j < a + n → f j ≡ g j) → filter f (range_with_len a n) ≡ filter g (range_with_len a n)
filter_same f g a zero agree = refl
filter_same f g a (suc n) agree =
    ap₂ (λ (b : Bool) (xs : List ℕ). cond b (a ∷ xs) xs) (agree a (omega arith) (omega arith)) (filter_same f g (a + 1) n (λ j from to. agree j (omega (arith, from)) (omega (arith, to))))

pub corrected_same : (n : ℕ) (errors : List (List Fp)) (mask : ℕ) → AreCorrected n errors mask → members_in mask n ≡ corrected_members n errors
corrected_same n errors mask are = filter_same (has mask) (has_error errors) 1 n (λ j from to. are.each j from (omega (arith, to)))

-- the members of a mask, one after the other
pub members_more : (f : ℕ → Bool) (k : ℕ) → 1 ≤ k → filter f (range_with_len 1 (k + 1 - 1)) ≡ filter f (range_with_len 1 (k - 1)) ++ cond (f k) (k ∷ []) []
members_more f k low =
    let more : k + 1 - 1 ≡ k - 1 + 1 = omega (arith, low) in
    ap (λ (n : ℕ). filter f (range_with_len 1 n)) more ∙ ap (filter f) (sym (map-id (range_with_len 1 (k - 1 + 1))))
    ∙ filter_of_map_range_with_len_more f (λ j. j) 1 (k - 1) k (omega (arith, low))
    ∙ ap (λ (js : List ℕ). filter f js ++ cond (f k) (k ∷ []) []) (map-id (range_with_len 1 (k - 1)))

pub in_more : (f : ℕ → Bool) (old new : List ℕ) (k : ℕ) → 1 ≤ k → old ≡ filter f (range_with_len 1 (k - 1)) → f k ≡ true → new ≡ old ++ k ∷ [] → new ≡ filter f (range_with_len 1 (k + 1 - 1))
in_more f old new k low so_far is pushed =
    pushed ∙ ap (λ (xs : List ℕ). xs ++ k ∷ []) so_far ∙ ap (λ (b : Bool). filter f (range_with_len 1 (k - 1)) ++ cond b (k ∷ []) []) (sym is) ∙ sym (members_more f k low)

pub out_more : (f : ℕ → Bool) (old : List ℕ) (k : ℕ) → 1 ≤ k → old ≡ filter f (range_with_len 1 (k - 1)) → f k ≡ false → old ≡ filter f (range_with_len 1 (k + 1 - 1))
out_more f old k low so_far is =
    so_far ∙ sym (append-nil (filter f (range_with_len 1 (k - 1)))) ∙ ap (λ (b : Bool). filter f (range_with_len 1 (k - 1)) ++ cond b (k ∷ []) []) (sym is) ∙ sym (members_more f k low)
