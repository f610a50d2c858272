-- One round makes a turn of the member's account.
use Rattle.std.proofs.Common.{◌≡◌, ◌≢◌, ◌⊎◌, inl, inr, ⊎_elim, ℕ, zero, suc, ◌+◌, ◌*◌, ◌-◌, ◌<◌, ◌≤◌, ◌||◌, not, Bool, true, false, cond, List, [], ◌∷◌, ◌++◌, length, get_or, Option, Some, refl, sym, ap, ap₂, ◌∙◌, subst, arith}
use Rattle.std.specs.Int.{bit_at}
use Rattle.talk.specs.declared.messages.Post.{Post}
use Rattle.talk.specs.declared.messages.Post.TheVariants.{Quiet}
use Rattle.talk.specs.declared.messages.Ring.{Ring}
use Rattle.talk.specs.declared.messages.Say.{Say}
use Rattle.talk.specs.declared.messages.Say.TheVariants.{Speak, Pass, PassThenSpeak}
use Rattle.talk.specs.declared.messages.Heard.{Heard}
use Rattle.talk.specs.Shape.{Shape}
use Rattle.talk.specs.Sync.{Ways, has}
use Rattle.talk.specs.Hears.{WordFits}
use Rattle.roundboard.specs.declared.view.Event.{Event}
use Rattle.roundboard.specs.declared.view.Deed.TheVariants.{Posted, Passed}
use Rattle.roundboard.specs.Rule.{In, event}
use Rattle.roundboard.specs.Pens.{cell_of}
use Rattle.turns.specs.Turns.{Turn, IsComplete, heard_of, counted, sent_in, got_in, out_of, mind_after, counted_after, got_items, sent_items}
use Rattle.turns.specs.Account.{WordLogged, Wrote, TurnLogged, AllLogged, Account}
use Rattle.roundboard.specs.Logs.{Grew, NoArrivals}
use Rattle.party_crew.specs.Logs.{AllRings}
use Rattle.party_crew.proofs.Growth.{grew_more, saw_on}
use Rattle.party_crew.specs.Turning.{Learns, TookTurn, HeardRound}

pub counted_rings : (n : ℕ) (out : Bool) (word d : Say) → d ≡ counted out word → AllRings n word → AllRings n d
counted_rings n true word d e h = subst (λ (x : Say). AllRings n x) (sym e) tt
counted_rings n false word d e h = subst (λ (x : Say). AllRings n x) (sym e) h

-- nothing more is posted by hearing
pub logged_on : (r place : ℕ) (old new : List Event) (d : Say) → Grew r old new → NoArrivals old new → WordLogged old r place d → WordLogged new r place d
logged_on r place old new (Speak p rs) g n h = ((h.0.0, g.keep (event r (Posted place h.0.0)) h.0.1), λ w x. h.1 w (n.passes r place w x))
logged_on r place old new Pass g n h = ((h.0.0, g.keep (event r (Passed place h.0.0)) h.0.1), λ w x. h.1 w (n.posts r place w x))
logged_on r place old new (PassThenSpeak p rs) g n h = ((h.0.0, g.keep (event r (Passed place h.0.0)) h.0.1), (h.1.0, g.keep (event r (Posted place h.1.0)) h.1.1))

-- nor in another round
pub logged_later : (q r place : ℕ) (old new : List Event) (d : Say) → r ≢ q → Grew q old new → WordLogged old r place d → WordLogged new r place d
logged_later q r place old new (Speak p rs) ne g h = ((h.0.0, g.keep (event r (Posted place h.0.0)) h.0.1), λ w x. ⊎_elim (λ (t : In (event r (Passed place w)) old). h.1 w t) (λ (e : r ≡ q). ne e) (g.passes r place w x))
logged_later q r place old new Pass ne g h = ((h.0.0, g.keep (event r (Passed place h.0.0)) h.0.1), λ w x. ⊎_elim (λ (t : In (event r (Posted place w)) old). h.1 w t) (λ (e : r ≡ q). ne e) (g.posts r place w x))
logged_later q r place old new (PassThenSpeak p rs) ne g h = ((h.0.0, g.keep (event r (Passed place h.0.0)) h.0.1), (h.1.0, g.keep (event r (Posted place h.1.0)) h.1.1))

pub wrote_on : (known knows : ℕ → Option Post) (cell : ℕ) (d : Say) → Learns known knows → Wrote known cell d → Wrote knows cell d
wrote_on known knows cell (Speak p rs) l h = l cell p h
wrote_on known knows cell Pass l h = tt
wrote_on known knows cell (PassThenSpeak p rs) l h = l cell p h

module _ {M : Type 0} (w : Ways M) (s : Shape) (n me : ℕ) where
  pub took_turn : (round : ℕ) (out now_out : Bool) (before after : M) (old mid new : List Event) (known knows_mid knows : ℕ → Option Post) (sent_old sent_mid sent_new got_old got_mid got_new : ℕ → List Ring)
      (d : Say) (mask : ℕ) (heard : Heard) (t : Turn) → d ≡ counted out (w.word before round) →
      WordLogged mid (round - 1) (me - 1) d → Wrote knows_mid (cell_of n (round - 1) (me - 1)) d → Grew (round - 1) old mid → Learns known knows_mid →
      ((k : ℕ) → k < n → k ≢ me - 1 → sent_mid k ≡ sent_old k ++ sent_in (k + 1) d) → ((k : ℕ) → got_mid k ≡ got_old k) →
      Grew (round - 1) mid new → NoArrivals mid new → Learns knows_mid knows → ((k : ℕ) → sent_new k ≡ sent_mid k) → HeardRound s n me round mask heard new knows got_mid got_new t →
      after ≡ w.after_hear (w.after_say before round) round heard → now_out ≡ (out || not (has mask me)) →
      TookTurn w s n me round out now_out before after old new known knows sent_old sent_new got_old got_new t
  took_turn round out now_out before after old mid new known knows_mid knows sent_old sent_mid sent_new got_old got_mid got_new d mask heard t de logged wrote grew learns sends gets grew2 no_arrivals learns2 sends2 h mind now_is = record {
    logged = record {
      mask = h.saw;
      word = subst (λ (x : Say). WordLogged new (round - 1) (me - 1) x) de (logged_on (round - 1) (me - 1) mid new d grew2 no_arrivals logged);
      wrote = subst (λ (x : Say). Wrote knows (cell_of n (round - 1) (me - 1)) x) de (wrote_on knows_mid knows (cell_of n (round - 1) (me - 1)) d learns2 wrote);
      read = h.read;
      complete = h.complete;
    };
    mind = mind ∙ ap (w.after_hear (w.after_say before round) round) h.heard_is;
    sends = λ k lt ne. sends2 k ∙ sends k lt ne ∙ ap (λ x. sent_old k ++ sent_in (k + 1) x) de;
    gets = λ k lo hi ne. h.gets k lo hi ne ∙ ap (λ xs. xs ++ got_in k t) (gets (k - 1));
    grew = grew_more (round - 1) old mid new grew grew2;
    learns = λ i x e. learns2 i x (learns i x e);
    out_is = now_is ∙ ap (λ x. out || not (has x me)) (sym h.mask_is);
  }

  -- older turns stay as they are
  pub all_later : (first : M) (q : ℕ) (old new : List Event) (known knows : ℕ → Option Post) (turns : List Turn) → length turns ≤ q → Grew q old new → Learns known knows →
      AllLogged w s n me first old known turns → AllLogged w s n me first new knows turns
  all_later first q old new known knows [] le g l h = tt
  all_later first q old new known knows (t ∷ older) le g l h = (
    record {
      mask = saw_on (length older) q t.mask old new g h.0.mask;
      word = logged_later q (length older) (me - 1) old new (counted_after w s me first older) (λ e. omega (arith, e, le)) g h.0.word;
      wrote = wrote_on known knows (cell_of n (length older) (me - 1)) (counted_after w s me first older) l h.0.wrote;
      read = λ k lo hi here. l (cell_of n (length older) (k - 1)) (get_or t.posts (k - 1) Quiet) (h.0.read k lo hi here);
      complete = h.0.complete;
    },
    all_later first q old new known knows older (omega (arith, le)) g l h.1,
  )

  -- one more round
  pub account_more : (round : ℕ) (first before after : M) (out now_out : Bool) (old new : List Event) (known knows : ℕ → Option Post) (sent_old sent_new got_old got_new : ℕ → List Ring) (turns : List Turn) (t : Turn) →
      1 ≤ me → round ≡ length turns + 1 → out ≡ out_of me turns → Account w s n me first before old known sent_old got_old turns →
      TookTurn w s n me round out now_out before after old new known knows sent_old sent_new got_old got_new t →
      Account w s n me first after new knows sent_new got_new (t ∷ turns) × (now_out ≡ out_of me (t ∷ turns))
  account_more round first before after out now_out old new known knows sent_old sent_new got_old got_new turns t lo re oe a h =
      let row : round - 1 ≡ length turns = omega (arith, re) in
      let did : counted out (w.word before round) ≡ counted_after w s me first turns =
      λ i. counted (oe i) (w.word (a.mind i) (re i)) in (
        record {
          mind = h.mind ∙ (λ i. w.after_hear (w.after_say (a.mind i) (re i)) (re i) (heard_of s (re i) me t));
          logged = (
            subst (λ (z : ℕ × Say). TurnLogged n me new knows z.0 t z.1) (λ i. (row i, did i)) h.logged,
            all_later first (round - 1) old new known knows turns (omega (arith, row)) h.grew h.learns a.logged,
          );
          sends = λ k kl kh ne.
              let z : (k - 1) + 1 ≡ k = omega (arith, kl) in
              h.sends (k - 1) (omega (arith, kl, kh)) (λ e. ne (omega (arith, e, kl, lo)))
              ∙ ap₂ (λ (xs ys : List Ring). xs ++ ys) (a.sends k kl kh ne) (λ i. sent_in (z i) (did i));
          gets = λ k kl kh ne. h.gets k kl kh ne ∙ ap (λ xs. xs ++ got_in k t) (a.gets k kl kh ne);
        },
        h.out_is ∙ ap (λ b. b || not (has t.mask me)) oe,
      )

  -- before the first round
  pub account_none : (first : M) (events : List Event) (known : ℕ → Option Post) (sent got : ℕ → List Ring) → ((k : ℕ) → sent k ≡ []) → ((k : ℕ) → got k ≡ []) → Account w s n me first first events known sent got []
  account_none first events known sent got no_sent no_got = record { mind = refl; logged = tt; sends = λ k lo hi ne. no_sent (k - 1); gets = λ k lo hi ne. no_got (k - 1) }

-- the word of a mind that is made for the seat has a ring message for each
pub all_rings : (s : Shape) (n seat : ℕ) (word : Say) → Rattle.talk.specs.Shape.seats s ≡ n → WordFits s seat word → AllRings n word
all_rings s n seat (Speak p rs) e h = h.all ∙ e
all_rings s n seat Pass e h = tt
all_rings s n seat (PassThenSpeak p rs) e h = h.all ∙ e
