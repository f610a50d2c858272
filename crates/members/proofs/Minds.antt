-- Minds that go like members: in a run of the sharing they go by the rules, and end as the play defines.
use Rattle.std.proofs.Common.{◌≡◌, ℕ, zero, suc, ◌+◌, ◌-◌, ◌≤◌, Bool, false, List, [], take, get_or, refl, ap, ◌∙◌, subst, arith}
use Rattle.std.proofs.lemmas.List.FromFn.{get_or-map-range_with_len}
use Rattle.algebra61.specs.Field.{Fp}
use Rattle.algebra61.specs.Grid.{Degree}
use Rattle.sharing61.specs.Count.{how_many}
use Rattle.talk.specs.declared.messages.Ring.TheVariants.{Nothing}
use Rattle.talk.specs.Shape.{Shape, Lawful, seats}
use Rattle.talk.specs.Sync.{Ways, sync, post_in, ring_in, AllAllowed, all_seats}
use Rattle.talk.specs.Basics.{Nth}
use Rattle.plays.specs.Play.{Play, seat_of}
use Rattle.plays.specs.Law.{ProperPlay, HonestIn}
use Rattle.plays.specs.Stage.{stage_ring, receiver_at}
use Rattle.plays.specs.Transcript.{Transcript, heard_in, transcript_of}
use Rattle.plays.specs.Run.{play_of, stage_in, ByTheRules}
use Rattle.plays.proofs.Proper.{plays_are_proper}
use Rattle.plays.proofs.Rounds.{run_is_play, run_makes_play}
use Rattle.machines.specs.Machines.{machine_in, ByMachines, TurnsGoOn, AlwaysSpeaks, InMasks, NobodyCut, BeginLike, stands_for}
use Rattle.machines.proofs.Machines.{ends_like, runs_by_machines, speakers_stay}
use Rattle.members.specs.Member.{Member, member_at, member_word, member_after_hear, member_ways, member_turn}
use Rattle.members.specs.Laws.{DoneAs, BeginSharing, member_done, RunByTheRules, EndAsPlay, HonestInMasks, MembersEnd}
use Rattle.members.proofs.Turns.{speaks_next}

-- ---- members as machines
pub member_turns : TurnsGoOn member_ways member_turn 5
member_turns c round h turn lt =
    let e : round + 1 ≡ suc round = omega arith in
    subst (λ (r : ℕ). member_turn r (member_after_hear c round h)) e (speaks_next c.shape (receiver_at c.shape c.seat) c.grids h c.stage round turn lt)

pub members_speak : AlwaysSpeaks member_ways member_turn
members_speak c round turn = refl

-- the member on a seat that has come as far as a transcript says
abbrev pub member_in : Transcript → ℕ → List (List (List Fp)) → ℕ → Member
member_in t seat own k = record { shape = t.shape; seat = seat; grids = own; stage = stage_in t own seat k }

pub machine_is : (t : Transcript) (seat : ℕ) (own : List (List (List Fp))) (k : ℕ) → machine_in member_ways t seat (member_at t.shape seat own) k ≡ member_in t seat own k
machine_is t seat own zero = refl
machine_is t seat own (suc k) = ap (λ (c : Member). member_after_hear c (suc k) (heard_in t (suc k) seat)) (machine_is t seat own k)

-- what goes by members goes by the rules
pub goes_by_the_rules : (t : Transcript) (down : ℕ → Bool) (own : ℕ → List (List (List Fp))) → Lawful t.shape → ((seat lane : ℕ) → down seat ≡ false → Degree t.shape.degree (get_or (own seat) lane [])) →
    ByMachines member_ways t 5 down (λ seat. member_at t.shape seat (own seat)) → ByTheRules t down own
goes_by_the_rules t down own setting degrees goes = record {
  setting = setting;
  all = goes.all;
  degrees = degrees;
  in_mask = goes.in_mask;
  posts = λ k seat lt honest. ap post_in (goes.words k seat lt honest) ∙ ap (λ (c : Member). post_in (member_word c (suc k))) (machine_is t seat (own seat) k);
  rings = λ k seat to lt honest from last.
      ap (ring_in to) (goes.words k seat lt honest)
      ∙ ap (λ (c : Member). ring_in to (member_word c (suc k))) (machine_is t seat (own seat) k)
      ∙ get_or-map-range_with_len (stage_ring t.shape seat (own seat) (stage_in t (own seat) seat k)) 1 (seats t.shape) (to - 1) to Nothing (omega (arith, from, last)) (omega (arith, from));
}

-- ---- minds in a run
module _ {M : Type 0} (w : Ways M) (is : M → Member → Type 0) (s : Shape) (masks : List ℕ) (ms : List M) (down : ℕ → Bool) (own : ℕ → List (List (List Fp)))
    (b : BeginSharing w is s masks ms down own) where
  -- the play of the run
  abbrev p : Play
  p = play_of (transcript_of w s masks ms) down own

  begins : BeginLike w member_ways is member_turn s 5 masks ms down (λ seat. member_at s seat (own seat))
  begins = record {
    goes = b.goes;
    turns = member_turns;
    enough = b.rounds;
    seated = b.seated;
    fresh = λ seat honest. let first = b.fresh seat honest in (first.0, first.1, first.2, refl);
  }

  pub honest_in_masks : (cut : ℕ → ℕ) → AllAllowed w s 1 (all_seats s) cut masks ms → NobodyCut s 5 cut down → InMasks s 5 masks down
  honest_in_masks cut = speakers_stay w member_ways is member_turn s 5 masks ms down (λ seat. member_at s seat (own seat)) begins cut members_speak

  module _ (here : InMasks s 5 masks down) where
    pub by_the_rules : ByTheRules (transcript_of w s masks ms) down own
    by_the_rules =
        goes_by_the_rules (transcript_of w s masks ms) down own b.setting b.degrees (runs_by_machines w member_ways is member_turn s 5 masks ms down (λ seat. member_at s seat (own seat)) begins here)

    -- the member of an honest receiver ends at what the play defines
    pub done_as : (j : ℕ) → HonestIn p j → DoneAs (play_of (transcript_of w s masks ms) down own) j (member_in (transcript_of w s masks ms) (seat_of s j) (own (seat_of s j)) 5)
    done_as j honest = record { shape = refl; stage = run_is_play (transcript_of w s masks ms) down own by_the_rules j honest }

    -- and a mind stands where it does
    pub ends_done : (j : ℕ) → HonestIn (play_of (transcript_of w s masks ms) down own) j →
        (m : M) × Nth (seat_of s j - 1) m (sync w s 1 (take 5 masks) ms) × is m (member_done (play_of (transcript_of w s masks ms) down own) own j)
    ends_done j honest =
        let seat : ℕ = seat_of s j in
        let end = ends_like w member_ways is member_turn s 5 masks ms down (λ seat. member_at s seat (own seat)) begins seat (record { from = omega (arith, honest.from); to = omega (arith, honest.to); up = honest.up }) in (
          end.mind,
          end.place,
          subst (λ (c : Member). is end.mind c)
              (machine_is (transcript_of w s masks ms) seat (own seat) 5
              ∙ ap (λ st. let c : Member = record { shape = s; seat = seat; grids = own seat; stage = st } in c) (done_as j honest).stage)
              end.same,
        )

    -- with at most `bound` receivers down the play is as agreement asks
    pub proper : how_many s.receivers (λ j. down (seat_of s j)) ≤ s.bound → ProperPlay (play_of (transcript_of w s masks ms) down own)
    proper few = plays_are_proper p (run_makes_play (transcript_of w s masks ms) down own by_the_rules) few

-- ---- the laws
module _ {M : Type 0} (w : Ways M) where
  pub run_by_the_rules : RunByTheRules w
  run_by_the_rules member s masks ms down own b here = by_the_rules w (stands_for member) s masks ms down own b here

  pub end_as_play : EndAsPlay w
  end_as_play member s masks ms down own b here j honest = ends_done w (stands_for member) s masks ms down own b here j honest

  pub honest_are_in_masks : HonestInMasks w
  honest_are_in_masks member s cut masks ms down own b allowed uncut = honest_in_masks w (stands_for member) s masks ms down own b cut allowed uncut

pub members_end : MembersEnd
members_end s masks ms down own b here j honest =
    let end = ends_done member_ways (λ (m c : Member). m ≡ c) s masks ms down own b here j honest in
    subst (λ (m : Member). Nth (seat_of s j - 1) m (sync member_ways s 1 (take 5 masks) ms)) end.2 end.1
