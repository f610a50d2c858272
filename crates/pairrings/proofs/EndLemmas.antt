-- Changes of an end, one after another.
use Rattle.std.proofs.Common.{◌≡◌, ◌≢◌, ℕ, List, [], get_or, sym, refl, ap, ◌∙◌}
use Rattle.pairrings.specs.declared.ends.End.{End}
use Rattle.pairrings.specs.Ends.{sent_to, room_to, got_from, known_from, dry_of, OnlySent, OnlyGot, SameRings}

module _ {M : Type 0} {S : ℕ} where
  pub rings_same : (a : End M S) → SameRings a a
  rings_same a = record { heads = λ j d. (refl, refl, refl, refl); tails = λ j d. (refl, refl, refl, refl) }

  pub rings_then : (a b c : End M S) → SameRings a b → SameRings b c → SameRings a c
  rings_then a b c h i = record {
    heads = λ j d. let x = h.heads j d in let y = i.heads j d in (y.0 ∙ x.0, y.1 ∙ x.1, y.2 ∙ x.2, y.3 ∙ x.3);
    tails = λ j d. let x = h.tails j d in let y = i.tails j d in (y.0 ∙ x.0, y.1 ∙ x.1, y.2 ∙ x.2, y.3 ∙ x.3);
  }

  pub got_same : (k : ℕ) (a : End M S) → OnlyGot k a a
  got_same k a = record { sent = λ j. refl; room = λ j. refl; got = λ j n. refl; known = λ j n. refl; dry = λ j n. refl }

  pub got_then : (k : ℕ) (a b c : End M S) → OnlyGot k a b → OnlyGot k b c → OnlyGot k a c
  got_then k a b c h i = record {
    sent = λ j. i.sent j ∙ h.sent j;
    room = λ j. i.room j ∙ h.room j;
    got = λ j n. i.got j n ∙ h.got j n;
    known = λ j n. i.known j n ∙ h.known j n;
    dry = λ j n. i.dry j n ∙ h.dry j n;
  }
