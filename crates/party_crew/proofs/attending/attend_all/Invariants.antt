use Rattle.std.proofs.Common.{◌≡◌, ℕ, ◌+◌, ◌<◌, ◌≤◌, List, length}
use Rattle.roundboard.specs.Cells.{knows}
use Rattle.roundboard.specs.Pens.{IsPen, events}
use Rattle.pairrings.specs.Ends.{got_from, sent_to, room_to, SameRings}
use Rattle.talk.specs.Shape.{rounds}
use Rattle.talk.specs.Sync.{ways}
use Rattle.turns.specs.Turns.{Turn, out_of}
use Rattle.turns.specs.Account.{Account}
use Rattle.party_crew.specs.Logs.{Fresh}
use Rattle.party_crew.proofs.attending.attend_all.Given as goal

abbrev pub invariant-loop-row : goal.invariant-loop-row
invariant-loop-row g l = record {
  pen : IsPen l.board l.pen;
  place : l.pen.log.place ≡ l.fn.pen.log.place;
  same : SameRings l.fn.end l.end;
  fresh : Fresh l.row (events l.pen);
  made : g.M.Mind.made_for l.mind l.setting l.me;
  may : l.row < rounds l.setting → g.M.Mind.may_say l.mind (l.row + 1);
  room : (k : ℕ) → k < g.row.S → rounds l.setting ≤ room_to l.end k + l.row;
  told : (turns : List Turn) × (length turns ≡ l.row) × (l.out ≡ out_of l.me turns)
      × Account (ways g.M.Mind.word g.M.Mind.after_say g.M.Mind.after_hear) l.setting g.row.S l.me l.fn.mind l.mind (events l.pen) (knows l.pen.cells) (sent_to l.end) (got_from l.end) turns;
}
