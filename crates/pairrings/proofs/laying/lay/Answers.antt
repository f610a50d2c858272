use Rattle.std.proofs.Common.{◌≡◌, ◌<◌, ◌+◌, ◌∙◌, ◌++◌, ◌∷◌, [], ℕ, List, ap, sym, subst, arith, length, Vec, Global}
use Rattle.pairrings.specs.declared.heads.Head.{Head}
use Rattle.pairrings.specs.declared.tails.Tail.{Tail}
use Rattle.pairrings.specs.Laying.{LaidBelow, GrownBelow}
use Rattle.pairrings.proofs.Picks.{written_back}
use Rattle.pairrings.proofs.LayLemmas.{none_laid, one_laid, joined_fresh, joined_rings}
use Rattle.pairrings.proofs.laying.lay.Goals as goal

pub loop-sender-init : goal.loop-sender-init
loop-sender-init g c = none_laid _ _ _ _ c.new-heads.ensures.items c.in_ok-tails.ensures.count c.in_ok-tails.ensures.empty

pub loop-sender-preserved : goal.loop-sender-preserved
loop-sender-preserved g c =
    let heads = c.loop-sender.heads.items in let tails = c.loop-sender.tails.items in let news = c.lay_sender.new.tails in
    let value = c.as_mut_slice.ensures.value in
    let same : length news ≡ length tails = c.lay_sender.ensures.length ∙ ap length value in
    let grown = subst (λ (ts : List (Vec (Tail g.row.M.Denot) Global)). GrownBelow c.args.rounds (length ts) ts c.in_ok-lay_sender.field-0.items news) value c.in_ok-lay_sender.ensures.grown in
    subst (λ (z : List (Vec (Head g.row.M.Denot) Global) × List (Vec (Tail g.row.M.Denot) Global)). LaidBelow c.args.rounds g.row.S (c.loop-sender._sender + 1) z.0 z.1)
    (λ i. (sym c.in_ok-push.ensures.items i, sym (written_back c.loop-sender.tails.len news tails c.loop-sender.tails.ok.0 same) i))
    (one_laid c.args.rounds g.row.S c.loop-sender._sender heads c.in_ok-lay_sender.field-0 tails news c.loop-sender.invariant grown same)

all : (g : _) (c : goal.In_ok-ends g) → LaidBelow c.args.rounds g.row.S g.row.S c.loop-sender.heads.items c.loop-sender.tails.items
all g c =
    let end : c.loop-sender._sender ≡ g.row.S = omega (arith, c.loop-sender-test.false, c.loop-sender.auto._sender-end) in
    subst (λ n. LaidBelow c.args.rounds g.row.S n c.loop-sender.heads.items c.loop-sender.tails.items) end c.loop-sender.invariant

pub returns-clause-fresh : goal.returns-clause-fresh
returns-clause-fresh g c = joined_fresh c.args.rounds c.loop-sender.heads.items c.loop-sender.tails.items c.in_ok-ends.ends.items (all g c) c.in_ok-ends.ensures

pub returns-clause-rings : goal.returns-clause-rings
returns-clause-rings g c = joined_rings c.args.rounds c.loop-sender.heads.items c.loop-sender.tails.items c.in_ok-ends.ends.items (all g c) c.in_ok-ends.ensures
