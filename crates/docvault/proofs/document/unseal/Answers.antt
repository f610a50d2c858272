use Rattle.std.proofs.Common.{◌≡◌, Some, None, sym, ◌∙◌, arith}
use Rattle.docvault.specs.Opening.{box_fault}
use Rattle.docvault.proofs.Boxes.{Says-from, found_opened, only_opened, exact_opened}
use Rattle.docvault.proofs.document.unseal.Goals as goal

pub returns-in-Some-clause-only : goal.returns-in-Some-clause-only
returns-in-Some-clause-only c = λ number document box.
    let says = Says-from c.args.key.now c.args.name.now number document c.args.bytes.now c.in-Some.ensures.name c.in-Some.ensures.short box in
    let never : Some c.in-Some.fault ≡ None = c.in-Some.ensures.first ∙ says.none in
    absurd cc

pub returns-in-None-clause-found : goal.returns-in-None-clause-found
returns-in-None-clause-found c = found_opened c.args.key.now c.args.name.now c.args.bytes.now c.opened.result (λ i. omega (arith, c.type_inv.bytes i)) c.in-None.ensures.name (sym c.in-None.ensures.first) c.opened.ensures.number c.opened.ensures.document

pub returns-in-None-clause-only : goal.returns-in-None-clause-only
returns-in-None-clause-only c = only_opened c.args.key.now c.args.name.now c.args.bytes.now c.opened.result c.in-None.ensures.name c.in-None.ensures.short c.opened.ensures.number c.opened.ensures.document c.opened.ensures.memory

pub returns-in-None-clause-exact : goal.returns-in-None-clause-exact
returns-in-None-clause-exact c = exact_opened c.opened.result (box_fault c.args.key.now c.args.name.now c.args.bytes.now) (sym c.in-None.ensures.first) c.opened.ensures.memory
