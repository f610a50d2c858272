use Rattle.std.proofs.Common.{◌≡◌, ◌++◌, take, string_bytes}
use Rattle.keyroom.specs.Texts.{member_lines}
use Rattle.keyroom.proofs.text.put_members.Given as goal

abbrev pub invariant-loop-k : goal.invariant-loop-k
invariant-loop-k l = string_bytes l.text ≡ string_bytes l.fn.text ++ member_lines 1 (take l.k l.state-items)
