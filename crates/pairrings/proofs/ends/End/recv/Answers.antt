use Rattle.std.proofs.Common.{◌≡◌, ◌<◌, ◌-◌, ℕ, ap, sym, ◌∙◌, refl, arith, length, List, ◌++◌, ◌∷◌, [], subst}
use Rattle.std.specs.Prelude.{IfSome, IfNone}
use Rattle.rtrb.specs.Ring.{received, known_items}
use Rattle.rtrb.specs.Ends.{SameRing}
use Rattle.pairrings.specs.Counts.{raised64}
use Rattle.pairrings.specs.declared.tails.Tail.{Tail}
use Rattle.pairrings.proofs.Picks.{pick_here, pick_set, pick_other, set_each}
use Rattle.pairrings.proofs.ends.End.recv.Goals as goal

pub returns-clause-some : goal.returns-clause-some
returns-clause-some g c =
    let tails = c.args.self.now.tails.items in let k = c.args.sender - 1 in let inside : k < length tails = omega (arith, c.args.self.now.from_each) in
    let got : Tail g.row.M.Denot → List g.row.M.Denot = λ t. received t.ring in
    let now = pick_set got [] tails k c.recv.new.self inside in let before = pick_here got [] tails k c.index_mut.result.now inside c.index_mut.ensures.value in
    subst (λ (z : List g.row.M.Denot × List g.row.M.Denot). IfSome c.recv.result (λ x. z.0 ≡ z.1 ++ x ∷ [])) (λ i. (sym now i, sym before i)) c.recv.ensures.some

pub returns-clause-still : goal.returns-clause-still
returns-clause-still g c =
    let tails = c.args.self.now.tails.items in let k = c.args.sender - 1 in let inside : k < length tails = omega (arith, c.args.self.now.from_each) in
    let dry : Tail g.row.M.Denot → ℕ = λ t. t.dry in
    let now = pick_set dry 0 tails k c.recv.new.self inside in let before = pick_here dry 0 tails k c.index_mut.result.now inside c.index_mut.ensures.value in
    subst (λ (z : ℕ × ℕ). IfSome c.recv.result (λ _. z.0 ≡ z.1)) (λ i. (sym now i, sym before i)) c.recv.ensures.still

pub returns-clause-none : goal.returns-clause-none
returns-clause-none g c =
    let tails = c.args.self.now.tails.items in let k = c.args.sender - 1 in let inside : k < length tails = omega (arith, c.args.self.now.from_each) in
    let got : Tail g.row.M.Denot → List g.row.M.Denot = λ t. received t.ring in
    let now = pick_set got [] tails k c.recv.new.self inside in let before = pick_here got [] tails k c.index_mut.result.now inside c.index_mut.ensures.value in
    subst (λ (z : List g.row.M.Denot × List g.row.M.Denot). IfNone c.recv.result (z.0 ≡ z.1)) (λ i. (sym now i, sym before i)) c.recv.ensures.none

pub returns-clause-unknown : goal.returns-clause-unknown
returns-clause-unknown g c =
    let tails = c.args.self.now.tails.items in let k = c.args.sender - 1 in let inside : k < length tails = omega (arith, c.args.self.now.from_each) in
    let known : Tail g.row.M.Denot → List g.row.M.Denot = λ t. known_items t.ring in
    subst (λ (z : List g.row.M.Denot). IfNone c.recv.result (z ≡ [])) (sym (pick_here known [] tails k c.index_mut.result.now inside c.index_mut.ensures.value)) c.recv.ensures.unknown

pub returns-clause-nothing : goal.returns-clause-nothing
returns-clause-nothing g c =
    let tails = c.args.self.now.tails.items in let k = c.args.sender - 1 in let inside : k < length tails = omega (arith, c.args.self.now.from_each) in
    let known : Tail g.row.M.Denot → List g.row.M.Denot = λ t. known_items t.ring in
    subst (λ (z : List g.row.M.Denot). IfNone c.recv.result (z ≡ [])) (sym (pick_set known [] tails k c.recv.new.self inside)) c.recv.ensures.nothing

pub returns-clause-raised : goal.returns-clause-raised
returns-clause-raised g c =
    let tails = c.args.self.now.tails.items in let k = c.args.sender - 1 in let inside : k < length tails = omega (arith, c.args.self.now.from_each) in
    let dry : Tail g.row.M.Denot → ℕ = λ t. t.dry in
    let now = pick_set dry 0 tails k c.recv.new.self inside in let before = pick_here dry 0 tails k c.index_mut.result.now inside c.index_mut.ensures.value in
    subst (λ (z : ℕ × ℕ). IfNone c.recv.result (z.0 ≡ raised64 z.1)) (λ i. (sym now i, sym before i)) c.recv.ensures.raised

pub returns-clause-others : goal.returns-clause-others
returns-clause-others g c =
    let tails = c.args.self.now.tails.items in let k = c.args.sender - 1 in
    let got : Tail g.row.M.Denot → List g.row.M.Denot = λ t. received t.ring in
    let known : Tail g.row.M.Denot → List g.row.M.Denot = λ t. known_items t.ring in
    let dry : Tail g.row.M.Denot → ℕ = λ t. t.dry in
    record {
      sent = λ j. refl;
      room = λ j. refl;
      got = λ j n. pick_other got [] tails k j c.recv.new.self n;
      known = λ j n. pick_other known [] tails k j c.recv.new.self n;
      dry = λ j n. pick_other dry 0 tails k j c.recv.new.self n;
    }

pub returns-clause-rings : goal.returns-clause-rings
returns-clause-rings g c =
    record {
      heads = λ j d. (refl, refl, refl, refl);
      tails = set_each (λ (p q : Tail g.row.M.Denot). SameRing p.ring.end q.ring.end) (λ p. (refl, refl, refl, refl)) c.args.self.now.tails.items (c.args.sender - 1) c.index_mut.result.now c.recv.new.self
          c.index_mut.ensures.value c.recv.ensures.ring.0;
    }
