use Rattle.keyroom.specs.declared.document.Direction.TheVariants.{Sealing, Opening}
use Rattle.keyroom.specs.Recover.{MeansRecover}
use Rattle.keyroom.specs.Check.{MeansCheck}
use Rattle.keyroom.specs.Document.{MeansDocument}
use Rattle.keyroom.specs.Commands.{text_of}
use Rattle.keyroom.specs.Words.{Create, Refresh, Move, Recover, Check, Seal, Open}
use Rattle.commands.specs.Create.{MeansCreate}
use Rattle.commands.specs.Late.{cuts_in}
use Rattle.commands.specs.Move.{MeansMove}
use Rattle.commands.specs.Refresh.{MeansRefresh}
use Rattle.committee.specs.Meaning.{TakesSeeds}
use Rattle.committee.proofs.Doing.{phase_told, plans_told}
use Rattle.committee.proofs.Rehearsing.{rehearsal_told}
use Rattle.committee.proofs.top.plan.Goals as goal

pub returns-in-Create-clause-meaning : goal.returns-in-Create-clause-meaning
returns-in-Create-clause-meaning g c =
    rw c.in-Create.is (phase_told (Create c.in-Create.name c.in-Create.committee.members c.in-Create.committee.bound (text_of c.in-Create.drill))
    (λ m. MeansCreate c.in-Create.name c.in-Create.committee.members c.in-Create.committee.bound (text_of c.in-Create.drill) m (g.E.Entropy.coming c.args.entropy.now) (cuts_in g.Q.Pace.answered_count g.Q.Pace.cuts_of c.args.pace.now c.plan_create.new.pace))
    (g.H.Shelf.held c.args.shelf.now) _ _ _ c.plan_create.result (λ m masks o means. means) c.plan_create.ensures.meaning)

pub returns-in-Refresh-clause-meaning : goal.returns-in-Refresh-clause-meaning
returns-in-Refresh-clause-meaning g c =
    rw c.in-Refresh.is (phase_told (Refresh c.in-Refresh.name (text_of c.in-Refresh.drill))
    (λ m. MeansRefresh c.in-Refresh.name (text_of c.in-Refresh.drill) m (g.E.Entropy.coming c.args.entropy.now) (cuts_in g.Q.Pace.answered_count g.Q.Pace.cuts_of c.args.pace.now c.plan_refresh.new.pace))
    (g.H.Shelf.held c.args.shelf.now) _ _ _ c.plan_refresh.result (λ m masks o means. means) c.plan_refresh.ensures.meaning)

pub returns-in-Move-clause-meaning : goal.returns-in-Move-clause-meaning
returns-in-Move-clause-meaning g c =
    rw c.in-Move.is (phase_told (Move c.in-Move.name c.in-Move.committee.members c.in-Move.committee.bound (text_of c.in-Move.drill))
    (λ m. MeansMove c.in-Move.name c.in-Move.committee.members c.in-Move.committee.bound (text_of c.in-Move.drill) m (g.E.Entropy.coming c.args.entropy.now) (cuts_in g.Q.Pace.answered_count g.Q.Pace.cuts_of c.args.pace.now c.plan_move.new.pace))
    (g.H.Shelf.held c.args.shelf.now) _ _ _ c.plan_move.result (λ m masks o means. means) c.plan_move.ensures.meaning)

pub returns-in-Recover-clause-meaning : goal.returns-in-Recover-clause-meaning
returns-in-Recover-clause-meaning g c =
    rw c.in-Recover.is (plans_told (MeansRecover c.in-Recover.name) (TakesSeeds (Recover c.in-Recover.name)) (g.H.Shelf.held c.args.shelf.now) (g.E.Entropy.coming c.args.entropy.now) _ _ c.plan_recover.result c.plan_recover.ensures.cause c.plan_recover.ensures.meaning)

pub returns-in-Check-clause-meaning : goal.returns-in-Check-clause-meaning
returns-in-Check-clause-meaning g c =
    rw c.in-Check.is (plans_told (MeansCheck c.in-Check.name) (TakesSeeds (Check c.in-Check.name)) (g.H.Shelf.held c.args.shelf.now) (g.E.Entropy.coming c.args.entropy.now) _ _ c.plan_check.result c.plan_check.ensures.cause c.plan_check.ensures.meaning)

pub returns-in-Seal-clause-meaning : goal.returns-in-Seal-clause-meaning
returns-in-Seal-clause-meaning g c =
    rw c.in-Seal.is (plans_told (MeansDocument Sealing c.in-Seal.name c.in-Seal.doc.now c.in-Seal.target.now) (TakesSeeds (Seal c.in-Seal.name c.in-Seal.doc.now c.in-Seal.target.now)) (g.H.Shelf.held c.args.shelf.now) (g.E.Entropy.coming c.args.entropy.now) _ _ c.plan_document.result c.plan_document.ensures.cause c.plan_document.ensures.meaning)

pub returns-in-Open-clause-meaning : goal.returns-in-Open-clause-meaning
returns-in-Open-clause-meaning g c =
    rw c.in-Open.is (plans_told (MeansDocument Opening c.in-Open.name c.in-Open.source.now c.in-Open.target.now) (TakesSeeds (Open c.in-Open.name c.in-Open.source.now c.in-Open.target.now)) (g.H.Shelf.held c.args.shelf.now) (g.E.Entropy.coming c.args.entropy.now) _ _ c.plan_document-in-Open.result c.plan_document-in-Open.ensures.cause c.plan_document-in-Open.ensures.meaning)

pub returns-in-Rehearse-clause-meaning : goal.returns-in-Rehearse-clause-meaning
returns-in-Rehearse-clause-meaning g c =
    rw c.in-Rehearse.is (rehearsal_told c.in-Rehearse.committee.members c.in-Rehearse.committee.bound c.in-Rehearse.periods c.in-Rehearse.number (g.H.Shelf.held c.args.shelf.now) (g.E.Entropy.coming c.args.entropy.now)
    (cuts_in g.Q.Pace.answered_count g.Q.Pace.cuts_of c.args.pace.now c.args.pace.now) _ _ c.plan_rehearsal.result c.plan_rehearsal.ensures.cause c.plan_rehearsal.ensures.changes c.plan_rehearsal.ensures.text)
