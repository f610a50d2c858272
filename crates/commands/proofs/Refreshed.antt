-- The members of a refresh go like members of the sharing or are away, and end with the play's refreshed shares.
use Rattle.std.proofs.Common.{◌≡◌, ℕ, ◌+◌, ◌-◌, ◌≤◌, false, List, [], ◌∷◌, length, get_or, Option, Some, None, refl, sym, ap, ◌∙◌, subst, arith}
use Rattle.algebra61.specs.Field.{Fp}
use Rattle.algebra61.specs.Grid.{Degree}
use Rattle.sharing61.specs.Count.{how_many}
use Rattle.sizes.specs.Committees.{IsCommittee}
use Rattle.talk.specs.Part.{part_ways, part_is, part_made_for, part_may}
use Rattle.talk.specs.Shape.{Shape, rounds}
use Rattle.talk.specs.Hears.{Hearing, Seated}
use Rattle.plays.specs.Play.{Play, seat_of}
use Rattle.plays.specs.Law.{ProperPlay, HonestIn}
use Rattle.members.specs.Member.{Member, member_at}
use Rattle.periods.specs.Keeper.{Keeper, keeper_ways, IsKeeper}
use Rattle.periods.proofs.Runs.{keepers_go}
use Rattle.zeroshare.specs.Refresh.{HasResult, shares_in, accepted_by, refreshed_shares, keeper_made_for, keeper_may}
use Rattle.zeroshare.proofs.Ends.{ends_refreshed}
use Rattle.drillbook.specs.declared.order.Order.{Order}
use Rattle.keyroom.specs.declared.steps.Found.{Found}
use Rattle.commands.specs.Run.{numbered, drilled_on, drilled_all}
use Rattle.commands.specs.Refresh.{keeping, setting_of, holdings_in, keeper_on, keepers_on, AreRefreshMasks, play_refreshed, old_shares, new_shares}
use Rattle.commands.specs.Standing.{Standing, down_in, Holding, holdings, holding_or_none, held_on}
use Rattle.commands.specs.Late.{down_after, IsLate, WasCut}
use Rattle.commands.specs.declared.phase.Phase.{Phase}
use Rattle.commands.specs.Phase.{marked, marks_of, EndDone, IsReadOff, IsPhase}
use Rattle.commands.proofs.Holdings.{length-holdings, each_holding, takes_part, up_is}
use Rattle.commands.proofs.Phases.{length-numbered, nth_numbered, none_degree, grids_degree, Starts, Reads, honest_in, proper_phase, late_was_cut, end_done, is_phase}

-- ---- what the members take part with
holdings_degree : (degree : ℕ) (files : List Found) (seeds : List (List ℕ)) (place lane : ℕ) → degree ≤ 14 → Degree degree (get_or (holding_or_none (get_or (holdings (keeping degree) 1 files seeds) place None)).grids lane [])
holdings_degree degree files seeds place lane small =
    each_holding (keeping degree) (λ (h : Holding). Degree degree (get_or h.grids lane [])) (none_degree degree) (λ index lanes seed. grids_degree degree seed lane small) 1 files seeds place

-- ---- the minds
pub keeper_hears : (s : Shape) (seat : ℕ) (held : Option Holding) → part_may keeper_may (keeper_on s seat held) 1
keeper_hears s seat None = tt
keeper_hears s seat (Some holding) = refl

pub keepers_hearing : (s : Shape) (k : ℕ) (held : List (Option Holding)) → Hearing (part_may keeper_may) 1 (numbered (keeper_on s) k held)
keepers_hearing s k [] = tt
keepers_hearing s k (h ∷ hs) = (keeper_hears s k h, keepers_hearing s (k + 1) hs)

pub keeper_sits : (s : Shape) (seat : ℕ) (held : Option Holding) → s.checks ≡ 0 → part_made_for keeper_made_for (keeper_on s seat held) s seat
keeper_sits s seat None five = tt
keeper_sits s seat (Some holding) five = (refl, refl, five)

pub keepers_seated : (s : Shape) (k : ℕ) (held : List (Option Holding)) → s.checks ≡ 0 → Seated (part_made_for keeper_made_for) s k (numbered (keeper_on s) k held)
keepers_seated s k [] five = tt
keepers_seated s k (h ∷ hs) five = (keeper_sits s k h five, keepers_seated s (k + 1) hs five)

pub length-keepers : (s : Shape) (orders : List Order) (degree : ℕ) (files : List Found) (seeds : List (List ℕ)) → length (drilled_all s orders (keepers_on s (holdings (keeping degree) 1 files seeds))) ≡ length files
length-keepers s orders degree files seeds =
    length-numbered (drilled_on s orders) 1 (keepers_on s (holdings (keeping degree) 1 files seeds)) ∙ length-numbered (keeper_on s) 1 (holdings (keeping degree) 1 files seeds) ∙ length-holdings (keeping degree) 1 files seeds

-- ---- the end
pub keepers_read : (p : Play) (own : ℕ → List (List (List Fp))) (old : ℕ → List Fp) → p.shape.shift ≡ 0 →
    Reads (part_is (IsKeeper old)) HasResult shares_in accepted_by p own (λ j. refreshed_shares p j (old j))
keepers_read p own old flat = record {
  is_done = λ j m h. (ends_refreshed p own old j m h).done;
  has = λ j m h. let e : seat_of p.shape j ≡ j = omega (arith, flat) in (ends_refreshed p own old j m h).shares ∙ ap (λ (k : ℕ). refreshed_shares p j (old k)) e;
  counts = λ j m h. (ends_refreshed p own old j m h).accepted;
}

abbrev keeper_with : Member → List Fp → Keeper
keeper_with member old = record { member = member; old = old }

-- ---- the members of a committee that has as many share files
module _ (st : Standing) (committee : IsCommittee st.now.n st.now.t) (every_file : length st.files ≡ st.now.n) (seeds : List (List ℕ)) where
  sits : (seat : ℕ) → 1 ≤ seat → down_in st seat ≡ false → part_is (IsKeeper (λ j. old_shares st seeds j)) (keeper_on (setting_of st) seat (get_or (holdings_in st seeds) (seat - 1) None))
      (member_at (setting_of st) seat (held_on (holdings_in st seeds) seat).grids)
  sits seat from up =
      let t = takes_part (keeping (st.now.t - 1)) 1 st.files seeds (seat - 1) seat (omega (arith, from)) (up_is st seat up).1 in
      subst (λ (h : Option Holding). part_is (IsKeeper (λ j. old_shares st seeds j)) (keeper_on (setting_of st) seat h) (member_at (setting_of st) seat (held_on (holdings_in st seeds) seat).grids)) (sym t.is)
      (ap (λ (h : Holding). keeper_with (member_at (setting_of st) seat h.grids) h.old) (ap holding_or_none (sym t.is)))

  pub starts : Starts (part_ways keeper_ways) (part_is (IsKeeper (λ j. old_shares st seeds j))) st.now.n st.now.t (st.now.t - 1) st.orders (down_in st) (λ seat. (held_on (holdings_in st seeds) seat).grids) (keepers_on (setting_of st) (holdings_in st seeds))
  starts = record {
    committee = committee;
    low = omega arith;
    goes = keepers_go (λ j. old_shares st seeds j);
    all = length-numbered (keeper_on (setting_of st)) 1 (holdings_in st seeds) ∙ length-holdings (keeping (st.now.t - 1)) 1 st.files seeds ∙ every_file;
    unnamed = λ seat up. (up_is st seat up).0;
    degrees = λ seat lane up. holdings_degree (st.now.t - 1) st.files seeds (seat - 1) lane (omega (arith, committee.third, committee.most));
    fresh = λ seat honest.
        let e : 1 + (seat - 1) ≡ seat = omega (arith, honest.from) in (
          keeper_on (setting_of st) (1 + (seat - 1)) (get_or (holdings_in st seeds) (seat - 1) None),
          nth_numbered (keeper_on (setting_of st)) None 1 (seat - 1) (holdings_in st seeds) (omega (arith, honest.from, honest.to, every_file, length-holdings (keeping (st.now.t - 1)) 1 st.files seeds)),
          subst (λ (k : ℕ). part_is (IsKeeper (λ j. old_shares st seeds j)) (keeper_on (setting_of st) k (get_or (holdings_in st seeds) (seat - 1) None)) (member_at (setting_of st) seat (held_on (holdings_in st seeds) seat).grids)) (sym e) (sits seat honest.from honest.up),
        );
  }

  pub refresh_honest : (masks : List ℕ) → length masks ≡ rounds (setting_of st) → (j : ℕ) → 1 ≤ j → j ≤ st.now.n → down_after (down_in st) masks j ≡ false → HonestIn (play_refreshed st seeds masks) j
  refresh_honest masks every = honest_in (part_ways keeper_ways) (part_is (IsKeeper (λ j. old_shares st seeds j))) st.now.n st.now.t (st.now.t - 1) st.orders (down_in st) (λ seat. (held_on (holdings_in st seeds) seat).grids) (keepers_on (setting_of st) (holdings_in st seeds)) starts masks every

  -- with at most the bound down the play is as agreement asks
  pub proper_refresh : (masks : List ℕ) → length masks ≡ rounds (setting_of st) → how_many st.now.n (down_after (down_in st) masks) ≤ st.now.t → ProperPlay (play_refreshed st seeds masks)
  proper_refresh masks every few = proper_phase (part_ways keeper_ways) (part_is (IsKeeper (λ j. old_shares st seeds j))) st.now.n st.now.t (st.now.t - 1) st.orders (down_in st) (λ seat. (held_on (holdings_in st seeds) seat).grids) (keepers_on (setting_of st) (holdings_in st seeds)) starts masks every few

  -- who is late was cut
  pub refresh_late : (cuts : ℕ → ℕ) (masks : List ℕ) → AreRefreshMasks st seeds cuts masks → (j : ℕ) → 1 ≤ j → j ≤ st.now.n → IsLate (down_in st) masks j → WasCut cuts 5 j
  refresh_late cuts masks allowed = late_was_cut (part_ways keeper_ways) (part_is (IsKeeper (λ j. old_shares st seeds j))) st.now.n st.now.t (st.now.t - 1) st.orders (down_in st) (λ seat. (held_on (holdings_in st seeds) seat).grids) (keepers_on (setting_of st) (holdings_in st seeds)) starts masks allowed.0 cuts allowed.1

  reads : (masks : List ℕ) → Reads (part_is (IsKeeper (λ j. old_shares st seeds j))) HasResult shares_in accepted_by (play_refreshed st seeds masks) (λ seat. (held_on (holdings_in st seeds) seat).grids) (new_shares st seeds (play_refreshed st seeds masks))
  reads masks = keepers_read (play_refreshed st seeds masks) (λ seat. (held_on (holdings_in st seeds) seat).grids) (λ j. old_shares st seeds j) refl

  pub refresh_done : EndDone (part_ways keeper_ways) HasResult (setting_of st) (marked (marks_of (down_in st) st.now.n)) (drilled_all (setting_of st) st.orders (keepers_on (setting_of st) (holdings_in st seeds)))
  refresh_done =
      end_done (part_ways keeper_ways) (part_is (IsKeeper (λ j. old_shares st seeds j))) st.now.n st.now.t (st.now.t - 1) st.orders (down_in st) (λ seat. (held_on (holdings_in st seeds) seat).grids) (keepers_on (setting_of st) (holdings_in st seeds)) starts
      HasResult shares_in accepted_by (new_shares st seeds) reads

  module _ (cuts : ℕ → ℕ) (phase : Phase) (off : IsReadOff (part_ways keeper_ways) shares_in accepted_by (setting_of st) (marked (marks_of (down_in st) st.now.n)) cuts (drilled_all (setting_of st) st.orders (keepers_on (setting_of st) (holdings_in st seeds))) phase) where
    pub refresh_masks : AreRefreshMasks st seeds cuts phase.masks
    refresh_masks = (off.all, off.allowed)

    pub refresh_is_phase : IsPhase st.now.n (play_refreshed st seeds phase.masks) (new_shares st seeds (play_refreshed st seeds phase.masks)) phase
    refresh_is_phase =
        is_phase (part_ways keeper_ways) (part_is (IsKeeper (λ j. old_shares st seeds j))) st.now.n st.now.t (st.now.t - 1) st.orders (down_in st) (λ seat. (held_on (holdings_in st seeds) seat).grids) (keepers_on (setting_of st) (holdings_in st seeds)) starts
        HasResult shares_in accepted_by (new_shares st seeds) reads cuts phase off
