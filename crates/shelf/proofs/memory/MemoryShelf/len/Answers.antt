use Rattle.std.proofs.Common.{sym, ◌∙◌}
use Rattle.shelf.proofs.Maps.{len_held_in}
use Rattle.shelf.proofs.memory.MemoryShelf.len.Goals as goal

pub returns : goal.returns
returns c = c.len.ensures.len ∙ sym (len_held_in c.args.self.now.files c.len.ensures.ordered)
