use Rattle.std.proofs.Common.{◌≡◌, ◌+◌, ◌++◌, drop}
use Rattle.talk.specs.Shape.{create_shape}
use Rattle.members.specs.Member.{member_at}
use Rattle.commands.specs.Run.{numbered, drilled_on, drilled_all}
use Rattle.commands.specs.Create.{dealt_by, members_on}
use Rattle.commands.proofs.create_phase.create_minds.Given as goal

abbrev pub invariant-loop-seed : goal.invariant-loop-seed
invariant-loop-seed g l = record {
  at : l.seat ≡ l.seed-index + 1;
  so_far : l.minds.items ++ numbered (drilled_on (create_shape g.row.N l.bound) l.drill) l.seat (numbered (member_at (create_shape g.row.N l.bound)) l.seat (dealt_by l.bound (drop l.seed-index l.seeds)))
      ≡ drilled_all (create_shape g.row.N l.bound) l.drill (members_on (create_shape g.row.N l.bound) (dealt_by l.bound l.seeds));
}
