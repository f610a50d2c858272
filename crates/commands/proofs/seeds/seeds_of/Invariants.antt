use Rattle.std.proofs.Common.{◌≡◌, ◌≤◌, length, IfSome}
use Rattle.commands.proofs.Drawing.{Drawn}
use Rattle.commands.proofs.seeds.seeds_of.Given as goal

abbrev pub invariant-loop-member : goal.invariant-loop-member
invariant-loop-member g l = record {
  drawn : Drawn l.seeds.items (g.E.Entropy.coming l.fn.entropy) (g.E.Entropy.coming l.entropy);
  count : length l.seeds.items ≡ l._member;
  later : g.E.Entropy.fault_count l.fn.entropy ≤ g.E.Entropy.fault_count l.entropy;
  calm : g.E.Entropy.calm l.fn.entropy → IfSome (g.E.Entropy.coming l.fn.entropy) (λ seeds. l.fn.count ≤ length seeds) → g.E.Entropy.calm l.entropy;
}
