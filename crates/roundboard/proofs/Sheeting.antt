-- What a sheet says of the log that it replays.
use Rattle.std.proofs.Common.{◌≡◌, ◌≢◌, ℕ, ◌+◌, ◌^◌, ◌<◌, ◌≤◌, ◌⊎◌, List, [], ◌∷◌, cond, true, false, Bool, sym, refl, ap, ◌∙◌, subst, inl, inr, ⊎_elim, eq-eqb, ne_eqb, arith, Some, length, get_or, set, slice_get, length-set, get_or-set_other}
use Rattle.std.specs.Int.{bit_at}
use Rattle.std.proofs.lemmas.Grind.{get_or-set_at}
use Rattle.std.proofs.lemmas.Option.{slice_get-get_or, get_or_from_slice_get}
use mathlib.Core.Logic.{dite}
use native.Mathlib.Decide.{ℕ_discrete}
use Rattle.roundboard.specs.declared.view.Event.{Event}
use Rattle.roundboard.specs.declared.view.Deed.{Deed}
use Rattle.roundboard.specs.declared.view.Deed.TheVariants.{Posted, Passed, Closed, Lost, Published, Looked, Aborted, SawControl, Cut}
use Rattle.roundboard.specs.declared.page.Sheet.{Sheet}
use Rattle.roundboard.specs.Rule.{In, event, control_round, IsFull}
use Rattle.roundboard.specs.Logs.{ClosesOrLoses, Arrival}
use Rattle.roundboard.specs.Answers.{LookTells, LooksUnset}
use Rattle.roundboard.specs.declared.board.Look.{Look}
use Rattle.roundboard.specs.declared.board.Look.TheVariants.{Frozen, NotYet, Aborted as LookAborted}
use Rattle.roundboard.specs.Sheets.{empty, added, noted, sheet_of, Sheeted}
use Rattle.roundboard.proofs.BitLemmas.{or_left, or_right, IsPart-trans}

-- a fact of the sheet after one more event
pub resheet : (e : Event) (es : List Event) (r : ℕ) (F : Sheet → Type 0) → (e.round ≡ r → F (noted e.deed (sheet_of es r))) → (e.round ≢ r → F (sheet_of es r)) → F (sheet_of (e ∷ es) r)
resheet e es r F yes_ no_ = dite (ℕ_discrete e.round r)
    (λ s. subst (λ (b : Bool). F (cond b (noted e.deed (sheet_of es r)) (sheet_of es r))) (sym (eq-eqb e.round r s)) (yes_ s))
    (λ n. subst (λ (b : Bool). F (cond b (noted e.deed (sheet_of es r)) (sheet_of es r))) (sym (ne_eqb e.round r n)) (no_ n))

-- an event that changes no sheet
pub same_sheet : (es : List Event) (r : ℕ) (d : Deed) → ((s : Sheet) → noted d s ≡ s) → (q : ℕ) → sheet_of (event r d ∷ es) q ≡ sheet_of es q
same_sheet es r d still q = resheet (event r d) es q (λ s. s ≡ sheet_of es q) (λ e. still (sheet_of es q)) (λ n. refl)

-- a cut changes the sheet of its own round
pub cut_sheet : (es : List Event) (r m w : ℕ) → sheet_of (event r (Cut m w) ∷ es) r ≡ added m (sheet_of es r)
cut_sheet es r m w = resheet (event r (Cut m w)) es r (λ s. s ≡ added m (sheet_of es r)) (λ e. refl) (λ n. absurd (n refl))

pub cut_others : (es : List Event) (r m w q : ℕ) → ¬ (q ≡ r) → sheet_of (event r (Cut m w) ∷ es) q ≡ sheet_of es q
cut_others es r m w q ne = resheet (event r (Cut m w)) es q (λ s. s ≡ sheet_of es q) (λ e. absurd (ne (sym e))) (λ n. refl)

closing_sheets : (r : ℕ) (old new : List Event) → ClosesOrLoses r old new → (q : ℕ) → sheet_of new q ≡ sheet_of old q
closing_sheets r old new (c, how) q = ⊎_elim
    (λ (t : (bit_at c 63 ≡ 0) × (new ≡ event r (Published c) ∷ (event r (Closed c) ∷ old))).
    ap (λ (l : List Event). sheet_of l q) t.1 ∙ (same_sheet (event r (Closed c) ∷ old) r (Published c) (λ s. refl) q ∙ same_sheet old r (Closed c) (λ s. refl) q))
    (λ (t : (bit_at c 63 ≡ 1) × (new ≡ event r (Lost c) ∷ old)). ap (λ (l : List Event). sheet_of l q) t.1 ∙ same_sheet old r (Lost c) (λ s. refl) q) how

-- what an arrival leaves of the sheets
pub arrival_sheets : (seats r : ℕ) (d : Deed) (w all : ℕ) (old new : List Event) → Arrival seats r d w all old new → (q : ℕ) → sheet_of new q ≡ sheet_of (event r d ∷ old) q
arrival_sheets seats r d w all old new how q = ⊎_elim
    (λ (t : (bit_at w 63 ≡ 0) × IsFull seats all × ClosesOrLoses r (event r d ∷ old) new). closing_sheets r (event r d ∷ old) new t.2 q)
    (λ (t : ((bit_at w 63 ≡ 1) ⊎ (¬ (IsFull seats all))) × (new ≡ event r d ∷ old)). ap (λ (l : List Event). sheet_of l q) t.1) how

unset_sheets : (r c : ℕ) (old new : List Event) → LooksUnset r c old new → (q : ℕ) → sheet_of new q ≡ sheet_of old q
unset_sheets r c old new (f, is, none) q = ap (λ (l : List Event). sheet_of l q) is ∙ (same_sheet (event r (Looked f) ∷ old) control_round (SawControl c) (λ s. refl) q ∙ same_sheet old r (Looked f) (λ s. refl) q)

pub look_sheets : (r : ℕ) (result : Look) (old new : List Event) → LookTells r result old new → (q : ℕ) → sheet_of new q ≡ sheet_of old q
look_sheets r (Frozen m) old new (f, is, shows) q = ap (λ (l : List Event). sheet_of l q) is ∙ same_sheet old r (Looked f) (λ s. refl) q
look_sheets r NotYet old new (c, how, bit) q = unset_sheets r c old new how q
look_sheets r LookAborted old new (c, how, bit) q = unset_sheets r c old new how q

-- the sheets of a log that shows the same
pub sheets_same : (old new : List Event) (sheets : List Sheet) → Sheeted old sheets → ((q : ℕ) → sheet_of new q ≡ sheet_of old q) → Sheeted new sheets
sheets_same old new sheets kept same q near = kept q near ∙ ap (λ (s : Sheet). Some s) (sym (same q))

-- the sheet of one round is set
pub sheets_set : (old new : List Event) (sheets : List Sheet) (r : ℕ) (s : Sheet) → Sheeted old sheets → r < length sheets → sheet_of new r ≡ s → ((q : ℕ) → ¬ (q ≡ r) → sheet_of new q ≡ sheet_of old q) → Sheeted new (set sheets r s)
sheets_set old new sheets r s kept inside here others q near =
    let within : q < length sheets = let l : length (set sheets r s) ≡ length sheets = length-set sheets r s in omega arith in
    slice_get-get_or (set sheets r s) q s near ∙ dite (ℕ_discrete q r)
    (λ e. ap (λ (p : Sheet). Some p) (get_or-set_at sheets r q s s e inside ∙ (sym here ∙ ap (λ (z : ℕ). sheet_of new z) (sym e))))
    (λ n. ap (λ (p : Sheet). Some p) (get_or-set_other sheets r q s s n) ∙ (sym (slice_get-get_or sheets q s within) ∙ (kept q within ∙ ap (λ (p : Sheet). Some p) (sym (others q n)))))

-- the sheet that is read at a place
pub sheet_read : (es : List Event) (sheets : List Sheet) (r : ℕ) (s : Sheet) → Sheeted es sheets → r < length sheets → s ≡ get_or sheets r s → s ≡ sheet_of es r
sheet_read es sheets r s kept inside is = is ∙ get_or_from_slice_get sheets r (sheet_of es r) s (kept r inside)

-- who was cut is on the sheet
noted_part : (d : Deed) (s : Sheet) (k : ℕ) → bit_at s.cut k ≡ 1 → bit_at (noted d s).cut k ≡ 1
noted_part (Cut m w) s k is = let t = or_left s.cut m k in let z = Rattle.std.proofs.lemmas.Nat.Bits.bit_at-lt (Rattle.std.specs.Prelude.bit_or s.cut m) k in omega arith
noted_part (Posted j w) s k is = is
noted_part (Passed j w) s k is = is
noted_part (Closed c) s k is = is
noted_part (Lost c) s k is = is
noted_part (Published c) s k is = is
noted_part (Looked f) s k is = is
noted_part Aborted s k is = is
noted_part (SawControl c) s k is = is

pub on_sheet : (es : List Event) (r m w k : ℕ) → In (event r (Cut m w)) es → bit_at m k ≡ 1 → bit_at (sheet_of es r).cut k ≡ 1
on_sheet [] r m w k h is = absurd h
on_sheet (e ∷ es) r m w k h is = ⊎_elim
    (λ (t : e ≡ event r (Cut m w)). subst (λ (x : Event). bit_at (sheet_of (x ∷ es) r).cut k ≡ 1) (sym t)
    (subst (λ (s : Sheet). bit_at s.cut k ≡ 1) (sym (cut_sheet es r m w)) (let u = or_right (sheet_of es r).cut m k in let z = Rattle.std.proofs.lemmas.Nat.Bits.bit_at-lt (Rattle.std.specs.Prelude.bit_or (sheet_of es r).cut m) k in omega arith)))
    (λ (t : In (event r (Cut m w)) es). let before = on_sheet es r m w k t is in
    resheet e es r (λ s. bit_at s.cut k ≡ 1) (λ s. noted_part e.deed (sheet_of es r) k before) (λ n. before)) h
