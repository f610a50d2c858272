-- Commands as the code has them, without where their words lie in memory.
use Rattle.std.specs.Prelude.{ℕ, List, Option, Some, None}
use Rattle.std.proofs.Common.{Bor}
use Rattle.keyroom.specs.Words as words
use Rattle.keyroom.specs.declared.command.Command.{Command}
use Rattle.keyroom.specs.declared.command.Command.TheVariants.{Create, Refresh, Move, Recover, Check, Seal, Open, Rehearse}

-- a word that may be left out
abbrev pub text_of : Option (Bor (List ℕ)) → Option (List ℕ)
text_of None = None
text_of (Some text) = Some text.now

abbrev pub command_of : Command → words.Command
command_of (Create name committee drill) = words.Create name committee.members committee.bound (text_of drill)
command_of (Refresh name drill) = words.Refresh name (text_of drill)
command_of (Move name committee drill) = words.Move name committee.members committee.bound (text_of drill)
command_of (Recover name) = words.Recover name
command_of (Check name) = words.Check name
command_of (Seal name doc target) = words.Seal name doc.now target.now
command_of (Open name source target) = words.Open name source.now target.now
command_of (Rehearse committee periods number) = words.Rehearse committee.members committee.bound periods number
