use Rattle.std.proofs.Common.{◌≡◌, ◌<◌, ◌^◌, Ok, Some, None, length, sym, ap, ◌∙◌}
use Rattle.docvault.specs.Opening.{box_fault}
use Rattle.docvault.proofs.Boxes.{Says-from, found_opened, only_opened}
use Rattle.docvault.proofs.document.unseal_in_place.Goals as goal

pub returns-in-Some-clause-only : goal.returns-in-Some-clause-only
returns-in-Some-clause-only c = λ number document box.
    let short : length c.args.bytes.items < 2 ^ 64 = rw c.deref.ensures.value at c.in-Some.ensures.short in
    let says = Says-from c.args.key.now c.args.name.now number document c.args.bytes.items c.in-Some.ensures.name short box in
    let never : Some c.in-Some.fault ≡ None = c.in-Some.ensures.first ∙ ap (box_fault c.args.key.now c.args.name.now) c.deref.ensures.value ∙ says.none in
    absurd cc

pub returns-in-None-clause-found : goal.returns-in-None-clause-found
returns-in-None-clause-found c =
    found_opened c.args.key.now c.args.name.now c.args.bytes.items (Ok c.opened_in_place.result) (rw c.deref.ensures.value at c.in-None.ensures.bytes) c.in-None.ensures.name (ap (box_fault c.args.key.now c.args.name.now) (sym c.deref.ensures.value) ∙ sym c.in-None.ensures.first) c.opened_in_place.ensures.number c.opened_in_place.ensures.document

pub returns-in-None-clause-only : goal.returns-in-None-clause-only
returns-in-None-clause-only c =
    let short : length c.args.bytes.items < 2 ^ 64 = rw c.deref.ensures.value at c.in-None.ensures.short in
    only_opened c.args.key.now c.args.name.now c.args.bytes.items (Ok c.opened_in_place.result) c.in-None.ensures.name short c.opened_in_place.ensures.number c.opened_in_place.ensures.document tt
