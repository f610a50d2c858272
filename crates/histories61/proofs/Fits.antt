-- What phases that fit are: proper plays, each of the committee before. And whose shares they go on with.
use Rattle.std.proofs.Common.{inl, inr, ◌≡◌, ℕ, zero, suc, ◌+◌, ◌<◌, ◌≤◌, Bool, true, false, List, refl, sym, ap, ◌∙◌, subst, arith}
use Rattle.algebra61.specs.Field.{Fp}
use Rattle.sizes.specs.Committees.{IsCommittee}
use Rattle.talk.specs.Shape.{Shape, Lawful, TwoCommittees, create_shape, refresh_shape, move_shape}
use Rattle.plays.specs.Play.{Play}
use Rattle.plays.specs.Law.{ProperPlay, FewDown, HonestIn}
use Rattle.plays.proofs.Proper.{plays_are_proper}
use Rattle.periods.specs.Move.{IsMove}
use Rattle.histories61.specs.Phases.{Kind, Created, Refreshed, Moved, FirstFits, RefreshFits, MoveFits, NextFits}
use Rattle.histories61.specs.Course.{Course, share_after_phase, FitsTo}

-- ---- proper plays
pub proper_first : (kind : Kind) (p : Play) → FirstFits kind p → ProperPlay p
proper_first kind p f = plays_are_proper p f.play_is f.few

pub proper_refresh : (old p : Play) → RefreshFits old p → ProperPlay p
proper_refresh old p f = plays_are_proper p f.play_is f.few

-- the degree of a refresh is one less than the bound
pub refresh_degree : (old p : Play) → RefreshFits old p → IsCommittee old.shape.receivers old.shape.bound → p.shape.degree + 1 ≡ p.shape.bound
refresh_degree old p f c = omega (arith, ap (λ (s : Shape). s.degree) f.setting, ap (λ (s : Shape). s.bound) f.setting, c.some_bad)

two_of : (n t m u : ℕ) → IsCommittee n t → TwoCommittees (move_shape n t m u) t
two_of n t m u c = record { behind = refl; some_bad = c.some_bad; third = c.third; checks = omega (arith, c.third) }

pub is_move : (old p : Play) (share : ℕ → ℕ → Fp) → MoveFits old p share → IsCommittee old.shape.receivers old.shape.bound → IsMove old.shape.bound p
is_move old p share f c = record {
  setting = f.play_is.setting;
  two = subst (λ s. TwoCommittees s old.shape.bound) (sym f.setting) (two_of old.shape.receivers old.shape.bound p.shape.receivers p.shape.bound c);
  proper = plays_are_proper p f.play_is f.few;
}

-- ---- settings
pub lawful_create : (n t : ℕ) → IsCommittee n t → Lawful (create_shape n t)
lawful_create n t c = record {
  receivers = (omega (arith, c.some_bad, c.third), c.most);
  dealers = (omega (arith, c.some_bad, c.third), c.most);
  some_bad = c.some_bad;
  third = c.third;
  degree = omega arith;
  committees = inl (record { no_shift = refl; same = refl; checks = omega arith });
}

pub lawful_refresh : (n t : ℕ) → IsCommittee n t → Lawful (refresh_shape n t)
lawful_refresh n t c = record {
  receivers = (omega (arith, c.some_bad, c.third), c.most);
  dealers = (omega (arith, c.some_bad, c.third), c.most);
  some_bad = c.some_bad;
  third = c.third;
  degree = omega arith;
  committees = inl (record { no_shift = refl; same = refl; checks = omega arith });
}

pub lawful_move : (n t m u : ℕ) → IsCommittee n t → IsCommittee m u → Lawful (move_shape n t m u)
lawful_move n t m u c d = record {
  receivers = (omega (arith, d.some_bad, d.third), d.most);
  dealers = (omega (arith, c.some_bad, c.third), c.most);
  some_bad = d.some_bad;
  third = d.third;
  degree = omega arith;
  committees = inr (t, two_of n t m u c);
}

-- ---- who goes on
not_false : (b : Bool) → (b ≡ true → ⊥) → b ≡ false
not_false true h = absurd (h refl)
not_false false h = refl

true_false : (b : Bool) → b ≡ true → b ≡ false → ⊥
true_false true e f = let differ : true ≡ false = f in cc
true_false false e f = let differ : false ≡ true = e in cc

-- who is honest in a refresh was honest in the phase before
pub honest_before : (old p : Play) → RefreshFits old p → (j : ℕ) → HonestIn p j → HonestIn old j
honest_before old p f j s =
    let size : p.shape.receivers ≡ old.shape.receivers = ap (λ (x : Shape). x.receivers) f.setting in
    let at : p.shape.shift + j ≡ j = omega (arith, ap (λ (x : Shape). x.shift) f.setting) in
    let jn : j ≤ old.shape.receivers = omega (arith, s.to, size) in
    record { from = s.from; to = jn; up = not_false _ (λ d. true_false (p.down j) (f.stays j s.from jn d) (ap p.down (sym at) ∙ s.up)) }

-- and so was an honest dealer of a move
pub honest_old : (old p : Play) (share : ℕ → ℕ → Fp) → MoveFits old p share → (i : ℕ) → 1 ≤ i → i ≤ p.shape.dealers → p.down i ≡ false → HonestIn old i
honest_old old p share f i a b up =
    let size : p.shape.dealers ≡ old.shape.receivers = ap (λ (x : Shape). x.dealers) f.setting in
    let jn : i ≤ old.shape.receivers = omega (arith, b, size) in
    record { from = a; to = jn; up = not_false _ (λ d. true_false (p.down i) (f.stays i a jn d) up) }

-- ---- the committees
committee_next : (kind : Kind) (old p : Play) (share : ℕ → ℕ → Fp) → NextFits kind old p share → IsCommittee old.shape.receivers old.shape.bound → IsCommittee p.shape.receivers p.shape.bound
committee_next Created old p share f c = absurd f
committee_next Refreshed old p share f c = subst (λ (s : Shape). IsCommittee s.receivers s.bound) (sym f.setting) c
committee_next Moved old p share f c = f.committee

pub committee_at : (course : Course) (errors : ℕ → List (List Fp)) (n : ℕ) → FitsTo course errors n → (k : ℕ) → k < n → IsCommittee (course.play k).shape.receivers (course.play k).shape.bound
committee_at course errors n fits zero lt = (fits.phases_fit 0 lt).committee
committee_at course errors n fits (suc k) lt =
    committee_next (course.kind (suc k)) (course.play k) (course.play (suc k)) (share_after_phase course errors k) (fits.phases_fit (suc k) lt)
    (committee_at course errors n fits k (omega (arith, lt)))

-- ---- who is down
few_next : (kind : Kind) (old p : Play) (share : ℕ → ℕ → Fp) → NextFits kind old p share → FewDown p
few_next Created old p share f = absurd f
few_next Refreshed old p share f = f.few
few_next Moved old p share f = f.few

pub few_at : (course : Course) (errors : ℕ → List (List Fp)) (n : ℕ) → FitsTo course errors n → (k : ℕ) → k < n → FewDown (course.play k)
few_at course errors n fits zero lt = (fits.phases_fit 0 lt).few
few_at course errors n fits (suc k) lt =
    few_next (course.kind (suc k)) (course.play k) (course.play (suc k)) (share_after_phase course errors k) (fits.phases_fit (suc k) lt)
