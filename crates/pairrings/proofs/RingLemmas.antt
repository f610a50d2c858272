-- The ends of one laying stay its ends, whatever goes through the rings.
use Rattle.std.proofs.Common.{◌≡◌, ℕ, zero, suc, ◌+◌, ◌<◌, ◌≤◌, List, [], ◌∷◌, ◌++◌, length, take, drop, get_or, set, map, sym, refl, ap, arith, ◌∙◌, subst, length-set}
use mathlib.Core.List.{IsPrefix}
use Rattle.std.proofs.Math.Seq.{map-set_same}
use Rattle.pairrings.specs.declared.heads.Head.{Head}
use Rattle.pairrings.specs.declared.tails.Tail.{Tail}
use Rattle.pairrings.specs.declared.ends.End.{End}
use Rattle.pairrings.specs.Ends.{sent_to, got_from, IsRing, SameRings, SameEnd}
use Rattle.pairrings.specs.Records.{AreRings, SameEnds, IsInOrder, sent_between, got_between}
use Rattle.pairrings.proofs.Picks.{pick_here, set_each}
use Rattle.pairrings.proofs.EndLemmas.{rings_same, rings_then}
use Rattle.pairrings.proofs.SettleLemmas.{two_set, two_map, two_length, in_left, in_right}

module _ {M : Type 0} {S : ℕ} where
  -- rings of ends are rings of the same ends later on
  pub rings_stay : (olds news : List (End M S)) → AreRings olds → ((k : ℕ) (d : End M S) → SameRings (get_or olds k d) (get_or news k d)) → AreRings news
  rings_stay olds news h s i j a b li lj head tail =
      let pair = h i j a b li lj head tail in
      let x = (s i a).heads j head in
      let y = (s j b).tails i tail in
      (y.0 ∙ pair.0 ∙ sym x.0, y.1 ∙ pair.1 ∙ sym x.1, y.2 ∙ pair.2 ∙ sym x.2, y.3 ∙ pair.3 ∙ sym x.3)

  pub ends_same : (ends : List (End M S)) → SameEnds ends ends
  ends_same ends = record { count = refl; sent = λ i j. refl; got = λ i j. refl; rings = λ k d. rings_same _ }

  pub ends_then : (a b c : List (End M S)) → SameEnds a b → SameEnds b c → SameEnds a c
  ends_then a b c h i = record {
    count = i.count ∙ h.count;
    sent = λ k j. i.sent k j ∙ h.sent k j;
    got = λ k j. i.got k j ∙ h.got k j;
    rings = λ k d. rings_then _ _ _ (h.rings k d) (i.rings k d);
  }

  pub order_same : (olds news : List (End M S)) (i j : ℕ) → SameEnds olds news → IsInOrder news i j → IsInOrder olds i j
  order_same olds news i j s h = subst (λ (z : List M × List M). IsPrefix z.0 z.1) (λ k. (s.got i j k, s.sent i j k)) h

  -- the ring of two ends that stand in the list
  pub ring_of : (ends : List (End M S)) (i j : ℕ) (a b : End M S) → AreRings ends → i < S → j < S → a ≡ get_or ends i a → b ≡ get_or ends j b → IsRing a b i j
  ring_of ends i j a b h li lj ea eb = subst (λ (z : End M S × End M S). IsRing z.0 z.1 i j) (λ k. (sym ea k, sym eb k)) (h i j a b li lj)

  -- the order of two ends that stand in the list
  pub order_of : (ends : List (End M S)) (i j : ℕ) (a b : End M S) → i < length ends → j < length ends → a ≡ get_or ends i a → b ≡ get_or ends j b →
      IsPrefix (got_from b i) (sent_to a j) → IsInOrder ends i j
  order_of ends i j a b li lj ea eb h =
      let got = pick_here (λ (e : End M S). got_from e i) [] ends j b lj eb in
      let sent = pick_here (λ (e : End M S). sent_to e j) [] ends i a li ea in
      subst (λ (z : List M × List M). IsPrefix z.0 z.1) (λ k. (sym got k, sym sent k)) h

  -- one end was settled
  pub one_settled : (ends : List (End M S)) (i : ℕ) (a new : End M S) → a ≡ get_or ends i a → SameEnd a new → SameEnds ends (set ends i new)
  one_settled ends i a new ea s = record {
    count = length-set ends i new;
    sent = λ k j. ap (λ (l : List (List M)). get_or l k []) (map-set_same (λ (e : End M S). sent_to e j) ends i new a (s.sent j ∙ ap (λ (e : End M S). sent_to e j) ea));
    got = λ k j. ap (λ (l : List (List M)). get_or l j []) (map-set_same (λ (e : End M S). got_from e k) ends i new a (s.got k ∙ ap (λ (e : End M S). got_from e k) ea));
    rings = set_each SameRings rings_same ends i a new ea s.rings;
  }

  -- two ends were settled, of which the first stands before the second
  pub two_settled : (ends : List (End M S)) (i j : ℕ) (a b left right : End M S) → i < j → j < length ends → a ≡ get_or (take j ends) i a → b ≡ get_or (drop j ends) 0 b →
      SameEnd a left → SameEnd b right → SameEnds ends (set (take j ends) i left ++ set (drop j ends) 0 right)
  two_settled ends i j a b left right ij jl ea eb sa sb = record {
    count = two_length ends i j left right jl;
    sent = λ k m. ap (λ (l : List (List M)). get_or l k []) (two_map (λ (e : End M S). sent_to e m) ends i j a b left right ij jl ea eb (sa.sent m) (sb.sent m));
    got = λ k m. ap (λ (l : List (List M)). get_or l m []) (two_map (λ (e : End M S). got_from e k) ends i j a b left right ij jl ea eb (sa.got k) (sb.got k));
    rings = two_set SameRings rings_same ends i j a b left right ij jl ea eb sa.rings sb.rings;
  }
