use Rattle.std.proofs.lemmas.Result.{err_from_is_err_and}
use Rattle.keyroom.specs.Work.{work_of}
use Rattle.keyroom.specs.Document.{MeansWork}
use Rattle.keyroom.proofs.Refusals.{from_shelf_all}
use Rattle.keyroom.proofs.Working.{refused_told, finished_told, honest_works, keyed_works}
use Rattle.keyroom.proofs.document.go.Goals as goal

pub returns-in_err-work-clause-means : goal.returns-in_err-work-clause-means
returns-in_err-work-clause-means g c =
    let p = err_from_is_err_and c.from_residual.result c.from_residual.ensures.1 in
    rw (p.1, p.2) (refused_told (MeansWork c.args.direction c.args.name.now c.args.source.now c.args.target.now) (g.H.Shelf.held c.args.shelf.now) (g.H.Shelf.held c.prepare.new.shelf) _ _ c.in_err-work.field-0.0 c.in_err-work.ensures.means c.in_err-work.ensures.cause c.in_err-work.ensures.reads.same)

pub returns-in_err-work-clause-honest : goal.returns-in_err-work-clause-honest
returns-in_err-work-clause-honest g c =
    honest_works c.args.direction (g.H.Shelf.held c.args.shelf.now) (g.H.Shelf.held c.prepare.new.shelf) c.args.name.now c.args.source.now c.args.target.now c.from_residual.result (returns-in_err-work-clause-means g c)

pub returns-in_err-work-clause-keyed : goal.returns-in_err-work-clause-keyed
returns-in_err-work-clause-keyed g c =
    keyed_works c.args.direction (g.H.Shelf.held c.args.shelf.now) (g.H.Shelf.held c.prepare.new.shelf) c.args.name.now c.args.source.now c.args.target.now c.from_residual.result (returns-in_err-work-clause-means g c)

pub returns-clause-means : goal.returns-clause-means
returns-clause-means g c =
    finished_told (MeansWork c.args.direction c.args.name.now c.args.source.now c.args.target.now) (g.H.Shelf.held c.args.shelf.now) _ _ (g.H.Shelf.held c.prepare.new.shelf) (g.H.Shelf.held c.finish.new.shelf) (work_of c.in_ok-work.work) c.finish.result c.in_ok-work.ensures.means c.in_ok-work.ensures.reads.same c.finish.ensures.finished c.finish.ensures.cause

pub returns-clause-honest : goal.returns-clause-honest
returns-clause-honest g c =
    honest_works c.args.direction (g.H.Shelf.held c.args.shelf.now) (g.H.Shelf.held c.finish.new.shelf) c.args.name.now c.args.source.now c.args.target.now c.finish.result (returns-clause-means g c)

pub returns-clause-keyed : goal.returns-clause-keyed
returns-clause-keyed g c =
    keyed_works c.args.direction (g.H.Shelf.held c.args.shelf.now) (g.H.Shelf.held c.finish.new.shelf) c.args.name.now c.args.source.now c.args.target.now c.finish.result (returns-clause-means g c)

pub returns-clause-cause : goal.returns-clause-cause
returns-clause-cause g c = from_shelf_all _ _ _ c.finish.result c.in_ok-work.ensures.reads.later c.finish.ensures.cause
