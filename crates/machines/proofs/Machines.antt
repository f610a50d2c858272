-- Minds that go like machines end as these do, and are heard to say what these say.
use Rattle.std.proofs.Common.{◌≡◌, ℕ, zero, suc, ◌+◌, ◌-◌, ◌<◌, ◌≤◌, Bool, true, List, length, take, get_or, sym, ap, ap₂, ◌∙◌, subst, arith}
use Rattle.std.proofs.lemmas.Bool.{cond-true}
use Rattle.std.proofs.lemmas.List.{take_all, length-map}
use Rattle.talk.specs.declared.messages.Say.{Say}
use Rattle.talk.specs.declared.messages.Say.TheVariants.{Pass}
use Rattle.talk.specs.declared.messages.Heard.{Heard}
use Rattle.talk.specs.Shape.{Shape}
use Rattle.talk.specs.Read.{as_read, ring_as_read}
use Rattle.talk.specs.Sync.{Ways, words_of, after_round, sync, has, speaks, post_in, ring_in, AllAllowed, all_seats, heard_at}
use Rattle.talk.specs.Basics.{Nth}
use Rattle.plays.specs.Transcript.{Transcript, HonestSeat, heard_in, transcript_of}
use Rattle.plays.proofs.Rounds.{heard_post, heard_ring}
use Rattle.machines.specs.Machines.{machine_in, ByMachines, AlwaysSpeaks, InMasks, NobodyCut, BeginLike, EndsLike, stands_for, is_turn, MindsEnd, RunsByMachines, SpeakersStay, MachinesAreHeard}
use Rattle.machines.proofs.Runs.{sync_take, length-sync, word_nth, hears_nth, mask_before, all_have, speaker_stays, may_say_at}

module _ {M C : Type 0} (w : Ways M) (v : Ways C) (is : M → C → Type 0) (turn : ℕ → C → Type 0) (s : Shape) (rounds : ℕ) (masks : List ℕ) (ms : List M) (down : ℕ → Bool) (start : ℕ → C)
    (b : BeginLike w v is turn s rounds masks ms down start) where
  -- the run, and the machine on a seat before round k + 1
  abbrev run : Transcript
  run = transcript_of w s masks ms

  abbrev at : ℕ → ℕ → C
  at seat k = machine_in v (transcript_of w s masks ms) seat (start seat) k

  turns : (seat k : ℕ) → HonestSeat s down seat → k < rounds → turn (suc k) (at seat k)
  turns seat zero honest lt = (b.fresh seat honest).3
  turns seat (suc k) honest lt = b.turns (at seat k) (suc k) (heard_in run (suc k) seat) (turns seat k honest (omega (arith, lt))) lt

  -- where an honest seat stands before round k + 1
  record Stands (seat k : ℕ) : Type 0 where
    mind : M
    place : Nth (seat - 1) mind (sync w s 1 (take k masks) ms)
    same : is mind (at seat k)

  heard_is : (seat k : ℕ) → 1 ≤ seat → heard_at s (suc k) (get_or masks k 0) (words_of w (suc k) (sync w s 1 (take k masks) ms)) (1 + (seat - 1)) ≡ heard_in run (suc k) seat
  heard_is seat k from =
      let e : k ≡ suc k - 1 = omega arith in
      let f : 1 + (seat - 1) ≡ seat = omega (arith, from) in
      ap₂ (λ (n to : ℕ). heard_at s (suc k) (get_or masks n 0) (words_of w (suc k) (sync w s 1 (take n masks) ms)) to) e f

  next : (seat k : ℕ) → HonestSeat s down seat → k < rounds → Stands seat k → Stands seat (suc k)
  next seat k honest lt st =
      let c : C = at seat k in
      let now : List M = sync w s 1 (take k masks) ms in
      let heard : Heard = heard_at s (suc k) (get_or masks k 0) (words_of w (suc k) now) (1 + (seat - 1)) in
      let mind : M = w.after_hear (w.after_say st.mind (suc k)) (suc k) heard in
      let r : 1 + k ≡ suc k = omega arith in
      let rounds_on : after_round w s (suc k) (get_or masks k 0) now ≡ sync w s 1 (take (suc k) masks) ms =
      sym (sync_take w s 1 k masks ms (omega (arith, lt, b.enough)) ∙ ap (λ (n : ℕ). after_round w s n (get_or masks k 0) now) r) in
      record {
        mind = mind;
        place = subst (λ (l : List M). Nth (seat - 1) mind l) rounds_on (hears_nth w s (suc k) (get_or masks k 0) (words_of w (suc k) now) 1 (seat - 1) st.mind now st.place);
        same = subst (λ (h : Heard). is mind (v.after_hear (v.after_say c (suc k)) (suc k) h)) (heard_is seat k honest.from)
            (b.goes.same_next st.mind c (suc k) heard (turns seat k honest lt) st.same);
      }

  stands : (seat : ℕ) → HonestSeat s down seat → (k : ℕ) → k ≤ rounds → Stands seat k
  stands seat honest zero le = let first = b.fresh seat honest in record { mind = first.0; place = first.1; same = first.2 }
  stands seat honest (suc k) le = next seat k honest le (stands seat honest k (omega (arith, le)))

  pub ends_like : (seat : ℕ) → HonestSeat s down seat → EndsLike w v is s rounds masks ms seat (start seat)
  ends_like seat honest = let st = stands seat honest rounds (omega arith) in record { mind = st.mind; place = st.place; same = st.same }

  word_said : (seat k : ℕ) → HonestSeat s down seat → k < rounds → get_or (run.words (suc k)) (seat - 1) Pass ≡ v.word (at seat k) (suc k)
  word_said seat k honest lt =
      let st = stands seat honest k (omega (arith, lt)) in
      let e : suc k - 1 ≡ k = omega arith in
      ap (λ (n : ℕ). get_or (words_of w (suc k) (sync w s 1 (take n masks) ms)) (seat - 1) Pass) e
      ∙ word_nth w (suc k) (seat - 1) st.mind (sync w s 1 (take k masks) ms) st.place
      ∙ b.goes.same_word st.mind (at seat k) (suc k) (turns seat k honest lt) st.same

  pub runs_by_machines : InMasks s rounds masks down → ByMachines v (transcript_of w s masks ms) rounds down start
  runs_by_machines here = record {
    all = λ k lt. length-map (sync w s 1 (take (suc k - 1) masks) ms) (λ m. w.word m (suc k)) ∙ length-sync w s 1 (take (suc k - 1) masks) ms ∙ b.seated;
    in_mask = λ k seat lt honest. let e : suc k - 1 ≡ k = omega arith in ap (λ (n : ℕ). has (get_or masks n 0) seat) e ∙ here k seat lt honest;
    words = λ k seat lt honest. word_said seat k honest lt;
  }

  here_at : (cut : ℕ → ℕ) → AlwaysSpeaks v turn → AllAllowed w s 1 (all_seats s) cut masks ms → NobodyCut s rounds cut down →
      (seat : ℕ) → HonestSeat s down seat → (k : ℕ) → k ≤ rounds → has (mask_before (all_seats s) masks k) seat ≡ true
  here_at cut speaking allowed uncut seat honest zero le = all_have s seat honest.from honest.to
  here_at cut speaking allowed uncut seat honest (suc k) lt =
      let st = stands seat honest k (omega (arith, lt)) in
      let my : turn (suc k) (at seat k) = turns seat k honest lt in
      let said : speaks (w.word st.mind (suc k)) ≡ true = ap speaks (b.goes.same_word st.mind (at seat k) (suc k) my st.same) ∙ speaking (at seat k) (suc k) my in
      speaker_stays (has (mask_before (all_seats s) masks k) seat) (has (get_or masks k 0) seat) (has (cut (suc k)) seat) (w.word st.mind (suc k)) said (uncut k seat lt honest)
      (may_say_at w s cut (all_seats s) k seat masks ms st.mind allowed (omega (arith, lt, b.enough)) honest.from st.place)
      ∙ here_at cut speaking allowed uncut seat honest k (omega (arith, lt))

  pub speakers_stay : (cut : ℕ → ℕ) → AlwaysSpeaks v turn → AllAllowed w s 1 (all_seats s) cut masks ms → NobodyCut s rounds cut down → InMasks s rounds masks down
  speakers_stay cut speaking allowed uncut k seat lt honest = here_at cut speaking allowed uncut seat honest (suc k) lt

-- in a run of just so many rounds it ends there
pub whole_run : {M C : Type 0} (w : Ways M) (v : Ways C) (is : M → C → Type 0) (s : Shape) (rounds : ℕ) (masks : List ℕ) (ms : List M) (seat : ℕ) (c : C) → length masks ≡ rounds →
    (e : EndsLike w v is s rounds masks ms seat c) → Nth (seat - 1) e.mind (sync w s 1 masks ms)
whole_run w v is s rounds masks ms seat c all e = subst (λ (l : List ℕ). Nth (seat - 1) e.mind (sync w s 1 l ms)) (take_all rounds masks (omega (arith, all))) e.place

pub machines_are_heard : {C : Type 0} (v : Ways C) → MachinesAreHeard v
machines_are_heard v t rounds down start goes round seat lt honest =
    let most : seat ≤ length (t.words (suc round)) = omega (arith, honest.to, goes.all round lt) in
    let here : has (t.mask (suc round)) seat ≡ true = goes.in_mask round seat lt honest in
    let said = goes.words round seat lt honest in
    record {
      post = heard_post t (suc round) seat honest.from most ∙ cond-true (has (t.mask (suc round)) seat) _ _ here ∙ ap (λ (x : Say). as_read t.shape (suc round) seat (post_in x)) said;
      ring = λ to.
          heard_ring t (suc round) seat to honest.from most
          ∙ cond-true (has (t.mask (suc round)) seat) _ _ here
          ∙ ap (λ (x : Say). ring_as_read t.shape (suc round) seat to (ring_in to x)) said;
    }

module _ {M C : Type 0} (w : Ways M) (v : Ways C) where
  pub minds_end : MindsEnd w v
  minds_end machine turn s rounds masks ms down start b = ends_like w v (stands_for machine) (is_turn turn) s rounds masks ms down start b

  pub runs_are_by_machines : RunsByMachines w v
  runs_are_by_machines machine turn s rounds masks ms down start b = runs_by_machines w v (stands_for machine) (is_turn turn) s rounds masks ms down start b

  pub speakers_are_in_masks : SpeakersStay w v
  speakers_are_in_masks machine turn s rounds cut masks ms down start b = speakers_stay w v (stands_for machine) (is_turn turn) s rounds masks ms down start b cut
