use Rattle.std.proofs.Common.{◌≡◌, ℕ, List}
use Rattle.roundboard.specs.Pens.{IsPen}
use Rattle.talk.specs.declared.messages.Post.{Post as PostValue}
use Rattle.party_crew.specs.Logs.{OnlyLearns}
use Rattle.party_crew.specs.Taken.{PostsTaken}
use Rattle.party_crew.proofs.hearing.take_posts.Given as goal

abbrev pub invariant-loop-place : goal.invariant-loop-place
invariant-loop-place g l = record {
  pen : IsPen l.board l.pen;
  same : l.pen.log.place ≡ l.fn.pen.log.place;
  log : l.pen.log ≡ l.fn.pen.log;
  learns : OnlyLearns l.fn.pen.cells l.pen.cells;
  taken : (raw : List PostValue) × PostsTaken l.setting g.row.S l.round l.mask l.place l.pen.cells raw l.posts;
}
