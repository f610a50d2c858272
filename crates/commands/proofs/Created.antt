-- The members of a create go like members, and end with the play's created shares.
use Rattle.std.proofs.Common.{◌≡◌, ℕ, zero, suc, ◌+◌, ◌-◌, ◌≤◌, false, List, [], ◌∷◌, length, get_or, refl, sym, ap, ◌∙◌, subst, arith}
use Rattle.std.proofs.lemmas.List.{length-map}
use Rattle.algebra61.specs.Field.{Fp}
use Rattle.algebra61.specs.Grid.{Degree}
use Rattle.chance61.specs.Draws.{grids_drawn}
use Rattle.sharing61.specs.Count.{how_many}
use Rattle.sharing61.proofs.Count.{how_many_same}
use Rattle.sizes.specs.Committees.{IsCommittee}
use Rattle.talk.specs.Shape.{Shape, create_shape, rounds}
use Rattle.talk.specs.Hears.{Hearing, Seated}
use Rattle.plays.specs.Play.{Play}
use Rattle.plays.specs.Law.{ProperPlay, HonestIn}
use Rattle.plays.specs.Stage.{IsTurn}
use Rattle.machines.specs.Machines.{GoesLike}
use Rattle.members.specs.Member.{Member, member_at, member_ways, member_word, member_after_hear, member_turn}
use Rattle.members.specs.Shares.{IsDone, member_shares, accepted_in}
use Rattle.members.specs.Laws.{DoneAs, member_done}
use Rattle.members.proofs.Sums.{done_is_play}
use Rattle.drillbook.specs.declared.order.Order.{Order}
use Rattle.drillbook.specs.Orders.{names}
use Rattle.drillbook.specs.Text.{named_among}
use Rattle.sharer.specs.Sharer.{MadeFor}
use Rattle.commands.specs.Create.{dealt_by, grids_on, members_on, AreCreateMasks, play_created, created_shares}
use Rattle.commands.specs.Late.{down_after, IsLate, WasCut}
use Rattle.commands.specs.declared.phase.Phase.{Phase}
use Rattle.commands.specs.Phase.{marked, marks_of, EndDone, IsReadOff, IsPhase}
use Rattle.commands.specs.Run.{numbered, drilled_on, drilled_all}
use Rattle.commands.proofs.Phases.{length-numbered, nth_numbered, none_degree, grids_degree, Starts, Reads, honest_in, proper_phase, late_was_cut, end_done, is_phase}

-- ---- the members at the start
pub length-dealt : (degree : ℕ) (seeds : List (List ℕ)) → length (dealt_by degree seeds) ≡ length seeds
length-dealt degree seeds = length-map seeds (grids_drawn degree)

dealt_degree : (d : ℕ) (seeds : List (List ℕ)) (place lane : ℕ) → d ≤ 14 → Degree d (get_or (get_or (dealt_by d seeds) place []) lane [])
dealt_degree d [] place lane small = none_degree d
dealt_degree d (seed ∷ seeds) zero lane small = grids_degree d seed lane small
dealt_degree d (seed ∷ seeds) (suc place) lane small = dealt_degree d seeds place lane small

pub members_hearing : (s : Shape) (k : ℕ) (dealt : List (List (List (List Fp)))) → Hearing (λ (m : Member) (round : ℕ). IsTurn round m.stage) 1 (numbered (member_at s) k dealt)
members_hearing s k [] = tt
members_hearing s k (grids ∷ dealt) = (refl, members_hearing s (k + 1) dealt)

pub members_seated : (s : Shape) (k : ℕ) (dealt : List (List (List (List Fp)))) → s.checks ≡ 0 → Seated MadeFor s k (numbered (member_at s) k dealt)
members_seated s k [] five = tt
members_seated s k (grids ∷ dealt) five = ((refl, refl, five), members_seated s (k + 1) dealt five)

members_go : GoesLike member_ways member_ways (λ (m c : Member). m ≡ c) member_turn
members_go = record {
  same_word = λ m c round speaks h. ap (λ (x : Member). member_word x round) h;
  same_next = λ m c round heard speaks h. ap (λ (x : Member). member_after_hear x round heard) h;
}

pub few_named : (orders : List Order) (n : ℕ) → how_many n (names orders) ≡ named_among orders 0 n
few_named orders n = how_many_same n (names orders) (λ j. names orders (0 + j)) (λ k a b. let e : k ≡ 0 + k = omega arith in ap (names orders) e)

pub length-minds : (n t : ℕ) (orders : List Order) (seeds : List (List ℕ)) → length seeds ≡ n → length (drilled_all (create_shape n t) orders (members_on (create_shape n t) (dealt_by t seeds))) ≡ n
length-minds n t orders seeds all =
    length-numbered (drilled_on (create_shape n t) orders) 1 (members_on (create_shape n t) (dealt_by t seeds))
    ∙ length-numbered (member_at (create_shape n t)) 1 (dealt_by t seeds) ∙ length-dealt t seeds ∙ all

-- ---- the end
done_here : (p : Play) (own : ℕ → List (List (List Fp))) (j : ℕ) (m : Member) → m ≡ member_done p own j → DoneAs p j m
done_here p own j m h = record { shape = ap (λ (x : Member). x.shape) h; stage = ap (λ (x : Member). x.stage) h }

members_read : (p : Play) (own : ℕ → List (List (List Fp))) → Reads (λ (m c : Member). m ≡ c) (λ (m : Member). IsDone m.stage) member_shares (λ (m : Member). accepted_in m.stage) p own (created_shares p)
members_read p own = record {
  is_done = λ j m h. subst IsDone (sym (done_here p own j m h).stage) tt;
  has = λ j m h. (done_is_play p j m (done_here p own j m h)).shares;
  counts = λ j m h. (done_is_play p j m (done_here p own j m h)).accepted;
}

module _ (n t : ℕ) (c : IsCommittee n t) (orders : List Order) (seeds : List (List ℕ)) (all : length seeds ≡ n) where
  pub starts : Starts member_ways (λ (m x : Member). m ≡ x) n t t orders (names orders) (grids_on (dealt_by t seeds)) (members_on (create_shape n t) (dealt_by t seeds))
  starts = record {
    committee = c;
    low = omega arith;
    goes = members_go;
    all = length-numbered (member_at (create_shape n t)) 1 (dealt_by t seeds) ∙ length-dealt t seeds ∙ all;
    unnamed = λ seat up. up;
    degrees = λ seat lane up. dealt_degree t seeds (seat - 1) lane (omega (arith, c.third, c.most));
    fresh = λ seat honest.
        let e : 1 + (seat - 1) ≡ seat = omega (arith, honest.from) in (
          member_at (create_shape n t) (1 + (seat - 1)) (grids_on (dealt_by t seeds) seat),
          nth_numbered (member_at (create_shape n t)) [] 1 (seat - 1) (dealt_by t seeds) (omega (arith, honest.from, honest.to, all, length-dealt t seeds)),
          ap (λ (k : ℕ). member_at (create_shape n t) k (grids_on (dealt_by t seeds) seat)) e,
        );
  }

  pub create_honest : (masks : List ℕ) → length masks ≡ rounds (create_shape n t) → (j : ℕ) → 1 ≤ j → j ≤ n → down_after (names orders) masks j ≡ false → HonestIn (play_created n t orders seeds masks) j
  create_honest masks every = honest_in member_ways (λ (m x : Member). m ≡ x) n t t orders (names orders) (grids_on (dealt_by t seeds)) (members_on (create_shape n t) (dealt_by t seeds)) starts masks every

  -- with at most the bound down the play is as agreement asks
  pub proper_create : (masks : List ℕ) → length masks ≡ rounds (create_shape n t) → how_many n (down_after (names orders) masks) ≤ t → ProperPlay (play_created n t orders seeds masks)
  proper_create masks every few = proper_phase member_ways (λ (m x : Member). m ≡ x) n t t orders (names orders) (grids_on (dealt_by t seeds)) (members_on (create_shape n t) (dealt_by t seeds)) starts masks every few

  -- who is late was cut
  pub create_late : (cuts : ℕ → ℕ) (masks : List ℕ) → AreCreateMasks n t orders seeds cuts masks → (j : ℕ) → 1 ≤ j → j ≤ n → IsLate (names orders) masks j → WasCut cuts 5 j
  create_late cuts masks allowed = late_was_cut member_ways (λ (m x : Member). m ≡ x) n t t orders (names orders) (grids_on (dealt_by t seeds)) (members_on (create_shape n t) (dealt_by t seeds)) starts masks allowed.0 cuts allowed.1

  pub create_done : EndDone member_ways (λ (m : Member). IsDone m.stage) (create_shape n t) (marked (marks_of (names orders) n)) (drilled_all (create_shape n t) orders (members_on (create_shape n t) (dealt_by t seeds)))
  create_done =
      end_done member_ways (λ (m x : Member). m ≡ x) n t t orders (names orders) (grids_on (dealt_by t seeds)) (members_on (create_shape n t) (dealt_by t seeds)) starts
      (λ (m : Member). IsDone m.stage) member_shares (λ (m : Member). accepted_in m.stage) created_shares (λ masks. members_read (play_created n t orders seeds masks) (grids_on (dealt_by t seeds)))

  module _ (cuts : ℕ → ℕ) (phase : Phase) (off : IsReadOff member_ways member_shares (λ (m : Member). accepted_in m.stage) (create_shape n t) (marked (marks_of (names orders) n)) cuts (drilled_all (create_shape n t) orders (members_on (create_shape n t) (dealt_by t seeds))) phase) where
    pub create_masks : AreCreateMasks n t orders seeds cuts phase.masks
    create_masks = (off.all, off.allowed)

    pub create_is_phase : IsPhase n (play_created n t orders seeds phase.masks) (created_shares (play_created n t orders seeds phase.masks)) phase
    create_is_phase =
        is_phase member_ways (λ (m x : Member). m ≡ x) n t t orders (names orders) (grids_on (dealt_by t seeds)) (members_on (create_shape n t) (dealt_by t seeds)) starts
        (λ (m : Member). IsDone m.stage) member_shares (λ (m : Member). accepted_in m.stage) created_shares (λ masks. members_read (play_created n t orders seeds masks) (grids_on (dealt_by t seeds)))
        cuts phase off
