-- Minds that go like movers, and seats that may take no part.
use Rattle.std.proofs.Common.{◌≡◌, ℕ, ◌-◌, Bool, List, take, refl, ap, subst}
use Rattle.algebra61.specs.Field.{Fp}
use Rattle.talk.specs.declared.messages.Heard.{Heard}
use Rattle.talk.specs.declared.part.Part.{Part}
use Rattle.talk.specs.declared.part.Part.TheVariants.{Away, In}
use Rattle.talk.specs.Part.{part_ways, part_is}
use Rattle.talk.specs.Shape.{Shape}
use Rattle.talk.specs.Sync.{Ways, AllAllowed, all_seats, sync}
use Rattle.talk.specs.Basics.{Nth}
use Rattle.plays.specs.Play.{seat_of}
use Rattle.plays.specs.Law.{HonestIn}
use Rattle.plays.specs.Transcript.{posts_in, transcript_of}
use Rattle.plays.specs.Run.{play_of}
use Rattle.plays.proofs.Rounds.{receiver_seat}
use Rattle.machines.specs.Machines.{GoesLike, BeginLike, InMasks, NobodyCut, stands_for}
use Rattle.machines.proofs.Machines.{ends_like, runs_by_machines, speakers_stay}
use Rattle.members.specs.Member.{member_ways, member_turn}
use Rattle.periods.specs.Mover.{Mover, mover_at, mover_word, mover_after_hear, mover_ways, mover_turn}
use Rattle.periods.specs.Keeper.{Keeper, keeper_word, keeper_after_hear, keeper_ways, IsKeeper}
use Rattle.periods.specs.Runs.{ByMovers, mover_done, BeginMove, RunByMovers, EndAsMove, MoversInMasks, KeepersGo, MoversGo}
use Rattle.periods.proofs.Sixth.{movers_end, mover_turns, movers_speak}

-- ---- minds in a move
module _ {M : Type 0} (w : Ways M) (is : M → Mover → Type 0) (s : Shape) (masks : List ℕ) (ms : List M) (down : ℕ → Bool) (own : ℕ → List (List (List Fp)))
    (b : BeginMove w is s masks ms down own) where
  begins : BeginLike w mover_ways is mover_turn s 6 masks ms down (λ seat. mover_at s seat (own seat))
  begins = record {
    goes = b.goes;
    turns = mover_turns;
    enough = b.rounds;
    seated = b.seated;
    fresh = λ seat honest. let first = b.fresh seat honest in (first.0, first.1, first.2, refl);
  }

  pub moves_in_masks : (cut : ℕ → ℕ) → AllAllowed w s 1 (all_seats s) cut masks ms → NobodyCut s 6 cut down → InMasks s 6 masks down
  moves_in_masks cut = speakers_stay w mover_ways is mover_turn s 6 masks ms down (λ seat. mover_at s seat (own seat)) begins cut movers_speak

  module _ (here : InMasks s 6 masks down) where
    pub by_movers : ByMovers (transcript_of w s masks ms) down own
    by_movers = record {
      setting = b.setting;
      degrees = b.degrees;
      movers = runs_by_machines w mover_ways is mover_turn s 6 masks ms down (λ seat. mover_at s seat (own seat)) begins here;
    }

    -- the mind of an honest receiver stands where its mover ends
    pub ends_moved : (j : ℕ) → HonestIn (play_of (transcript_of w s masks ms) down own) j →
        (m : M) × Nth (seat_of s j - 1) m (sync w s 1 (take 6 masks) ms) × is m (mover_done (play_of (transcript_of w s masks ms) down own) own (posts_in (transcript_of w s masks ms) 6) j)
    ends_moved j honest =
        let seat : ℕ = seat_of s j in
        let end = ends_like w mover_ways is mover_turn s 6 masks ms down (λ n. mover_at s n (own n)) begins seat (receiver_seat (transcript_of w s masks ms) down own j honest) in
        (end.mind, end.place, subst (λ (c : Mover). is end.mind c) (movers_end (transcript_of w s masks ms) down own by_movers j honest) end.same)

-- ---- the laws
module _ {M : Type 0} (w : Ways M) where
  pub run_by_movers : RunByMovers w
  run_by_movers mover s masks ms down own b here = by_movers w (stands_for mover) s masks ms down own b here

  pub end_as_move : EndAsMove w
  end_as_move mover s masks ms down own b here j honest = ends_moved w (stands_for mover) s masks ms down own b here j honest

  pub movers_in_masks : MoversInMasks w
  movers_in_masks mover s cut masks ms down own b allowed uncut = moves_in_masks w (stands_for mover) s masks ms down own b cut allowed uncut

-- ---- seats that may take no part
module _ {M C : Type 0} (w : Ways M) (v : Ways C) (is : M → C → Type 0) (turn : ℕ → C → Type 0) (goes : GoesLike w v is turn) where
  part_says : (p : Part M) (c : C) (round : ℕ) → turn round c → part_is is p c → (part_ways w).word p round ≡ v.word c round
  part_says Away c round t i = absurd i
  part_says (In m) c round t i = goes.same_word m c round t i

  part_next : (p : Part M) (c : C) (round : ℕ) (h : Heard) → turn round c → part_is is p c →
      part_is is ((part_ways w).after_hear ((part_ways w).after_say p round) round h) (v.after_hear (v.after_say c round) round h)
  part_next Away c round h t i = absurd i
  part_next (In m) c round h t i = goes.same_next m c round h t i

  -- where the minds go like machines, so do the seats that take part with them
  pub part_goes : GoesLike (part_ways w) v (part_is is) turn
  part_goes = record { same_word = λ p c round t i. part_says p c round t i; same_next = λ p c round h t i. part_next p c round h t i }

keeper_goes : (old : ℕ → List Fp) → GoesLike keeper_ways member_ways (IsKeeper old) member_turn
keeper_goes old = record {
  same_word = λ k c round turn e. ap (λ (x : Keeper). keeper_word x round) e;
  same_next = λ k c round h turn e. ap (λ (x : Keeper). keeper_after_hear x round h) e;
}

pub keepers_go : KeepersGo
keepers_go old = part_goes keeper_ways member_ways (IsKeeper old) member_turn (keeper_goes old)

mover_goes : GoesLike mover_ways mover_ways (λ (m c : Mover). m ≡ c) mover_turn
mover_goes = record {
  same_word = λ m c round turn e. ap (λ (x : Mover). mover_word x round) e;
  same_next = λ m c round h turn e. ap (λ (x : Mover). mover_after_hear x round h) e;
}

pub movers_go : MoversGo
movers_go = part_goes mover_ways mover_ways (λ (m c : Mover). m ≡ c) mover_turn mover_goes
