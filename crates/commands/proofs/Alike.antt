-- Runs of minds that are seen as other minds, which say the same.
use Rattle.std.proofs.Common.{◌≡◌, ℕ, zero, suc, ◌+◌, Bool, List, [], ◌∷◌, map, refl, ap, ap₂, ◌∙◌, subst}
use Rattle.talk.specs.declared.messages.Say.{Say}
use Rattle.talk.specs.declared.messages.Heard.{Heard}
use Rattle.talk.specs.Basics.{Nth}
use Rattle.talk.specs.Shape.{Shape}
use Rattle.talk.specs.Sync.{Ways, words_of, after_words, after_hears, after_round, sync, heard_at, Allowed, AllAllowed}
use Rattle.drillbook.specs.declared.order.Order.{Order}
use Rattle.drillbook.specs.Word.{DrilledMind, drilled_ways, drilled_word, kept_word}
use Rattle.commands.specs.Run.{numbered, drilled_on}

-- each mind says what the mind that it is seen as says, and goes like it
pub record SeenAs {A B : Type 0} (w : Ways A) (v : Ways B) (see : A → B) : Type 0 where
  pub word : (a : A) (round : ℕ) → w.word a round ≡ v.word (see a) round
  pub said : (a : A) (round : ℕ) → see (w.after_say a round) ≡ v.after_say (see a) round
  pub heard : (a : A) (round : ℕ) (h : Heard) → see (w.after_hear a round h) ≡ v.after_hear (see a) round h

module _ {A B : Type 0} (w : Ways A) (v : Ways B) (see : A → B) (seen : SeenAs w v see) (s : Shape) where
  pub words_same : (round : ℕ) (ms : List A) → words_of w round ms ≡ words_of v round (map see ms)
  words_same round [] = refl
  words_same round (m ∷ ms) = ap₂ (λ x xs. x ∷ xs) (seen.word m round) (words_same round ms)

  said_same : (round : ℕ) (ms : List A) → map see (after_words w round ms) ≡ after_words v round (map see ms)
  said_same round [] = refl
  said_same round (m ∷ ms) = ap₂ (λ x xs. x ∷ xs) (seen.said m round) (said_same round ms)

  hears_same : (round mask : ℕ) (words : List Say) (seat : ℕ) (ms : List A) → map see (after_hears w s round mask words seat ms) ≡ after_hears v s round mask words seat (map see ms)
  hears_same round mask words seat [] = refl
  hears_same round mask words seat (m ∷ ms) = ap₂ (λ x xs. x ∷ xs) (seen.heard m round (heard_at s round mask words seat)) (hears_same round mask words (seat + 1) ms)

  round_same : (round mask : ℕ) (ms : List A) → map see (after_round w s round mask ms) ≡ after_round v s round mask (map see ms)
  round_same round mask ms =
      hears_same round mask (words_of w round ms) 1 (after_words w round ms)
      ∙ ap₂ (λ words xs. after_hears v s round mask words 1 xs) (words_same round ms) (said_same round ms)

  pub sync_same : (round : ℕ) (masks : List ℕ) (ms : List A) → map see (sync w s round masks ms) ≡ sync v s round masks (map see ms)
  sync_same round [] ms = refl
  sync_same round (mask ∷ masks) ms =
      sync_same (round + 1) masks (after_round w s round mask ms) ∙ ap (sync v s (round + 1) masks) (round_same round mask ms)

  pub allowed_same : (round before : ℕ) (cut : ℕ → ℕ) (masks : List ℕ) (ms : List A) → AllAllowed w s round before cut masks ms → AllAllowed v s round before cut masks (map see ms)
  allowed_same round before cut [] ms a = tt
  allowed_same round before cut (mask ∷ masks) ms a = (
    a.0,
    subst (Allowed before mask (cut round) 1) (words_same round ms) a.1,
    subst (AllAllowed v s (round + 1) mask cut masks) (round_same round mask ms) (allowed_same (round + 1) mask cut masks (after_round w s round mask ms) a.2),
  )

-- what a test tells of each mind stays through a run, where saying and hearing leave it
module _ {A : Type 0} (w : Ways A) (test : A → Bool) (said : (a : A) (round : ℕ) → test (w.after_say a round) ≡ test a)
    (heard : (a : A) (round : ℕ) (h : Heard) → test (w.after_hear a round h) ≡ test a) (s : Shape) where
  words_keep : (round : ℕ) (ms : List A) → map test (after_words w round ms) ≡ map test ms
  words_keep round [] = refl
  words_keep round (m ∷ ms) = ap₂ (λ x xs. x ∷ xs) (said m round) (words_keep round ms)

  hears_keep : (round mask : ℕ) (words : List Say) (seat : ℕ) (ms : List A) → map test (after_hears w s round mask words seat ms) ≡ map test ms
  hears_keep round mask words seat [] = refl
  hears_keep round mask words seat (m ∷ ms) = ap₂ (λ x xs. x ∷ xs) (heard m round (heard_at s round mask words seat)) (hears_keep round mask words (seat + 1) ms)

  pub sync_keeps : (round : ℕ) (masks : List ℕ) (ms : List A) → map test (sync w s round masks ms) ≡ map test ms
  sync_keeps round [] ms = refl
  sync_keeps round (mask ∷ masks) ms =
      sync_keeps (round + 1) masks (after_round w s round mask ms)
      ∙ hears_keep round mask (words_of w round ms) 1 (after_words w round ms) ∙ words_keep round ms

-- ---- places
module _ {A B : Type 0} (f : A → B) where
  pub nth_map : (k : ℕ) (x : A) (xs : List A) → Nth k x xs → Nth k (f x) (map f xs)
  nth_map k x [] h = absurd h
  nth_map zero x (y ∷ ys) h = ap f h
  nth_map (suc k) x (y ∷ ys) h = nth_map k x ys h

  pub nth_of_map : (k : ℕ) (y : B) (xs : List A) → Nth k y (map f xs) → (x : A) × Nth k x xs × (f x ≡ y)
  nth_of_map k y [] h = absurd h
  nth_of_map zero y (x ∷ xs) h = (x, refl, h)
  nth_of_map (suc k) y (x ∷ xs) h = nth_of_map k y xs h

-- ---- drilled minds
module _ {A B : Type 0} (see : A → B) where
  abbrev pub drilled_see : DrilledMind A → DrilledMind B
  drilled_see d = record { shape = d.shape; seat = d.seat; orders = d.orders; second = d.second; inner = see d.inner }

  pub see_drilled : (s : Shape) (orders : List Order) (k : ℕ) (minds : List A) → map drilled_see (numbered (drilled_on s orders) k minds) ≡ numbered (drilled_on s orders) k (map see minds)
  see_drilled s orders k [] = refl
  see_drilled s orders k (m ∷ ms) = ap (λ xs. drilled_on s orders k (see m) ∷ xs) (see_drilled s orders (k + 1) ms)

  abbrev after_as : DrilledMind A → Say → B → DrilledMind B
  after_as d second inner = record { shape = d.shape; seat = d.seat; orders = d.orders; second = second; inner = inner }

  pub drilled_seen : (w : Ways A) (v : Ways B) → SeenAs w v see → SeenAs (drilled_ways w) (drilled_ways v) drilled_see
  drilled_seen w v seen = record {
    word = λ d round. ap (drilled_word d.shape d.orders d.seat round d.second) (seen.word d.inner round);
    said = λ d round. ap₂ (λ second inner. after_as d second inner) (ap (kept_word d.orders d.seat round d.second) (seen.word d.inner round)) (seen.said d.inner round);
    heard = λ d round h. ap (after_as d d.second) (seen.heard d.inner round h);
  }
