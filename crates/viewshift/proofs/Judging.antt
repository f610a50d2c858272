-- What the tests of a phase come to.
use Rattle.std.proofs.Common.{◌≡◌, ℕ, ◌-◌, ◌<◌, ◌≤◌, ◌↔◌, Bool, true, false, List, map, get_or, Option, Some, None, refl, sym, ap, ap₂, ◌∙◌, subst, arith}
use Rattle.std.proofs.lemmas.Bool.{cond-false}
use Rattle.std.proofs.lemmas.List.FromFn.{get_or-map-range_with_len}
use Rattle.algebra61.specs.Field.{Fp, zeroₚ}
use Rattle.algebra61.specs.Grid.{grid_at}
use Rattle.sizes.specs.Committees.{IsCommittee}
use Rattle.sizes.specs.Instances.{instance_at}
use Rattle.sharing61.specs.Count.{how_many}
use Rattle.talk.specs.Shape.{Shape, Lawful, create_shape, refresh_shape, move_shape}
use Rattle.talk.specs.Sync.{has}
use Rattle.plays.specs.Play.{Play}
use Rattle.plays.specs.Law.{FewDown}
use Rattle.plays.specs.Said.{places}
use Rattle.histories61.specs.Phases.{Created, Refreshed, Moved, FirstFits, RefreshFits, MoveFits, NextFits, Within, receivers_down}
use Rattle.histories61.proofs.Fits.{lawful_create, lawful_refresh, lawful_move}
use Rattle.playback.specs.declared.phase.PhaseKind.{PhaseKind}
use Rattle.playback.specs.declared.phase.Phase.{Phase}
use Rattle.playback.specs.Recorded.{kind_of, play_of}
use Rattle.playback.specs.Kept.{IsKept}
use Rattle.playback.specs.Shares.{shares_at, shares_by}
use Rattle.playback.proofs.Formed.{formed}
use Rattle.viewshift.specs.Constants.{ConstantsFit, share_in}
use Rattle.viewshift.specs.Members.{behind}
use Rattle.viewshift.proofs.Naming.{count_front}

-- a test that fails refuses whatever asks for what it tests
pub refuse : {P Q : Type 0} (b : Bool) → ((b ≡ true) ↔ P) → b ≡ false → (Q → P) → (false ≡ true) ↔ Q
refuse b is failed h = (
  λ differ. cc,
  λ q. sym failed ∙ is.1 (h q),
)

pub refuse_by : {Q : Type 0} → (Q → ⊥) → (false ≡ true) ↔ Q
refuse_by h = (
  λ differ. cc,
  λ q. absurd (h q),
)

-- ---- settings
pub same_setting : (one other : Shape) → one.receivers ≡ other.receivers → one.bound ≡ other.bound → one.degree ≡ other.degree → one.dealers ≡ other.dealers → one.shift ≡ other.shift → one.checks ≡ other.checks → one ≡ other
same_setting one other r b d n s k =
    ap₂ (λ (x y : ℕ). let it : Shape = record { receivers = x; bound = y; degree = one.degree; dealers = one.dealers; shift = one.shift; checks = one.checks } in it) r b
    ∙ ap₂ (λ (x y : ℕ). let it : Shape = record { receivers = other.receivers; bound = other.bound; degree = x; dealers = y; shift = one.shift; checks = one.checks } in it) d n
    ∙ ap₂ (λ (x y : ℕ). let it : Shape = record { receivers = other.receivers; bound = other.bound; degree = other.degree; dealers = other.dealers; shift = x; checks = y } in it) s k

-- ---- a create
-- its setting, by the numbers that are read
pub create_setting : (p : Phase) (n t : ℕ) → n ≡ p.setting.receivers → t ≡ p.setting.bound → create_shape p.setting.receivers p.setting.bound ≡ create_shape n t
create_setting p n t en et = ap₂ create_shape (sym en) (sym et)

pub first_by : (p : Phase) (b : Bool) → IsKept p → IsCommittee p.setting.receivers p.setting.bound → p.setting ≡ create_shape p.setting.receivers p.setting.bound →
    ((b ≡ true) ↔ FewDown (play_of p)) → (b ≡ true) ↔ FirstFits Created (play_of p)
first_by p b kept cm same few = (
  λ e. record {
    create = refl;
    committee = cm;
    setting = same;
    play_is = formed p kept (subst Lawful (sym same) (lawful_create p.setting.receivers p.setting.bound cm));
    few = few.0 e;
  },
  λ f. few.1 f.few,
)

-- ---- a refresh
pub refresh_setting : (p : Phase) (n t : ℕ) → n ≡ p.setting.receivers → t ≡ p.setting.bound → refresh_shape p.setting.receivers p.setting.bound ≡ refresh_shape n t
refresh_setting p n t en et = ap₂ refresh_shape (sym en) (sym et)

pub refresh_by : (old p : Phase) (b : Bool) → IsKept p → IsCommittee old.setting.receivers old.setting.bound → p.setting ≡ refresh_shape old.setting.receivers old.setting.bound → FewDown (play_of p) →
    ((b ≡ true) ↔ Within old.setting.receivers (receivers_down (play_of old)) (has p.down)) → (b ≡ true) ↔ RefreshFits (play_of old) (play_of p)
refresh_by old p b kept cm same few stays = (
  λ e. record {
    setting = same;
    play_is = formed p kept (subst Lawful (sym same) (lawful_refresh old.setting.receivers old.setting.bound cm));
    few = few;
    stays = stays.0 e;
  },
  λ f. stays.1 f.stays,
)

-- ---- a move
pub move_setting : (old p : Phase) (n t m u : ℕ) → n ≡ old.setting.receivers → t ≡ old.setting.bound → m ≡ p.setting.receivers → u ≡ p.setting.bound →
    move_shape old.setting.receivers old.setting.bound p.setting.receivers p.setting.bound ≡ move_shape n t m u
move_setting old p n t m u en et em eu =
    ap₂ (λ (a b : ℕ). move_shape a b p.setting.receivers p.setting.bound) (sym en) (sym et) ∙ ap₂ (λ (a b : ℕ). move_shape n t a b) (sym em) (sym eu)

off : (b c : Bool) → (b ≡ true → c ≡ true) → c ≡ false → b ≡ false
off false c h e = refl
off true c h e = let no : true ≡ false = sym (h refl) ∙ e in cc

share_is : (old : Play) (share : ℕ → ℕ → Fp) (shares : List (Option (List Fp))) (k lane : ℕ) → shares ≡ shares_by old share → 1 ≤ k → k ≤ old.shape.receivers → receivers_down old k ≡ false → lane < 5 →
    share_in (get_or shares (k - 1) None) lane ≡ share lane k
share_is old share shares k lane is from to up l5 =
    ap (λ (o : Option (List Fp)). share_in o lane)
    (ap (λ (l : List (Option (List Fp))). get_or l (k - 1) None) is
    ∙ get_or-map-range_with_len (shares_at old share) 1 old.shape.receivers (k - 1) k None (omega (arith, from, to)) (omega (arith, from))
    ∙ cond-false (receivers_down old k) None (Some (map (λ l. share l k) (places 5))) up)
    ∙ get_or-map-range_with_len (λ l. share l k) 0 5 lane lane zeroₚ l5 (omega arith)

abbrev Constants : Play → (ℕ → ℕ → Fp) → Type 0
Constants play share =
    (dealer lane : ℕ) → 1 ≤ dealer → dealer ≤ play.shape.dealers → lane < 5 → play.down dealer ≡ false → grid_at (play.grid (instance_at dealer lane)) zeroₚ zeroₚ ≡ share lane dealer

constants_are : (old p : Play) (share : ℕ → ℕ → Fp) (shares : List (Option (List Fp))) → shares ≡ shares_by old share → p.shape.dealers ≡ old.shape.receivers → Within old.shape.receivers (receivers_down old) p.down →
    ConstantsFit p shares ↔ Constants p share
constants_are old p share shares is size stays =
    let at : (k lane : ℕ) → 1 ≤ k → k ≤ p.shape.dealers → p.down k ≡ false → lane < 5 → share_in (get_or shares (k - 1) None) lane ≡ share lane k =
    λ k lane from to up l5. share_is old share shares k lane is from (omega (arith, to, size)) (off (receivers_down old k) (p.down k) (stays k from (omega (arith, to, size))) up) l5 in (
      λ f k lane from to l5 up. f k from to up lane l5 ∙ at k lane from to up l5,
      λ f k from to up lane l5. f k lane from to l5 up ∙ sym (at k lane from to up l5),
    )

pub move_by : (old p : Phase) (shares : List (Option (List Fp))) (count : ℕ) (b : Bool) → IsKept p → IsCommittee old.setting.receivers old.setting.bound → IsCommittee p.setting.receivers p.setting.bound →
    p.setting ≡ move_shape old.setting.receivers old.setting.bound p.setting.receivers p.setting.bound → count ≡ how_many old.setting.receivers (behind p.down 0) → count ≤ old.setting.bound →
    FewDown (play_of p) → Within old.setting.receivers (receivers_down (play_of old)) (has p.down) → ((b ≡ true) ↔ ConstantsFit (play_of p) shares) →
    (share : ℕ → ℕ → Fp) → shares ≡ shares_by (play_of old) share → (b ≡ true) ↔ MoveFits (play_of old) (play_of p) share
move_by old p shares count b kept cm new same ec most few stays fit share is =
    let size : p.setting.dealers ≡ old.setting.receivers = ap (λ (s : Shape). s.dealers) same in
    let are = constants_are (play_of old) (play_of p) share shares is size stays in
    let all : how_many p.setting.dealers (has p.down) ≡ how_many old.setting.receivers (has p.down) = ap (λ n. how_many n (has p.down)) size in (
      λ e. record {
        committee = new;
        setting = same;
        play_is = formed p kept (subst Lawful (sym same) (lawful_move old.setting.receivers old.setting.bound p.setting.receivers p.setting.bound cm new));
        few_old = omega (arith, all, most, ec, count_front old.setting.receivers p.down);
        few = few;
        stays = stays;
        constants = are.0 (fit.0 e);
      },
      λ f. fit.1 (are.1 f.constants),
    )

-- at most the bound of the old members is down
pub few_of_old : (old p : Phase) (share : ℕ → ℕ → Fp) (count : ℕ) → count ≡ how_many old.setting.receivers (behind p.down 0) → MoveFits (play_of old) (play_of p) share → count ≤ old.setting.bound
few_of_old old p share count ec f =
    let size : p.setting.dealers ≡ old.setting.receivers = ap (λ (s : Shape). s.dealers) f.setting in
    let all : how_many p.setting.dealers (has p.down) ≡ how_many old.setting.receivers (has p.down) = ap (λ n. how_many n (has p.down)) size in
    omega (arith, all, f.few_old, ec, count_front old.setting.receivers p.down)

-- ---- by what the phase does
pub first_by_kind : (p : Phase) (b : Bool) (kind : PhaseKind) → p.kind ≡ kind → ((b ≡ true) ↔ FirstFits (kind_of kind) (play_of p)) → (b ≡ true) ↔ FirstFits (kind_of p.kind) (play_of p)
first_by_kind p b kind e is = subst (λ (k : PhaseKind). (b ≡ true) ↔ FirstFits (kind_of k) (play_of p)) (sym e) is

pub no_refresh_first : (p : Play) → FirstFits Refreshed p → ⊥
no_refresh_first p f = let differ : Refreshed ≡ Created = f.create in cc

pub no_move_first : (p : Play) → FirstFits Moved p → ⊥
no_move_first p f = let differ : Moved ≡ Created = f.create in cc

pub by_kind : (old p : Phase) (share : ℕ → ℕ → Fp) (b : Bool) (kind : PhaseKind) → p.kind ≡ kind → ((b ≡ true) ↔ NextFits (kind_of kind) (play_of old) (play_of p) share) →
    (b ≡ true) ↔ NextFits (kind_of p.kind) (play_of old) (play_of p) share
by_kind old p share b kind e is = subst (λ (k : PhaseKind). (b ≡ true) ↔ NextFits (kind_of k) (play_of old) (play_of p) share) (sym e) is

pub no_create : (old p : Phase) (share : ℕ → ℕ → Fp) → (false ≡ true) ↔ NextFits Created (play_of old) (play_of p) share
no_create old p share = (λ differ. cc, λ f. absurd f)
