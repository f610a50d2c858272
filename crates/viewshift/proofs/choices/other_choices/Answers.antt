use Rattle.std.proofs.Common.{get_or, sym, ◌∙◌}
use Rattle.algebra61.specs.Field.{zeroₚ}
use Rattle.viewshift.specs.Others.{IsTranslation}
use Rattle.viewshift.proofs.Choosing.{history_there, others_there, appended, translation_made, alone_made, key_made, views_made, again_made}
use Rattle.viewshift.proofs.choices.other_choices.Goals as goal

pub other_phases-requires : goal.other_phases-requires
other_phases-requires c = history_there c.args.history.now c.phases.result.now c.masks.result.now c.phases.ensures.is c.masks.ensures c.phases.ensures.history

pub known-requires : goal.known-requires
known-requires c =
    others_there c.phases.result.now c.in_ok-phases.phases c.masks.result.now c.extend_from_slice.new.self.items (λ lane. get_or c.apart-difference.result lane zeroₚ) c.in_ok-phases.ensures
    (appended c.extend_from_slice.new.self.items c.new-exposed.result.items c.masks-2.result.now c.masks.result.now c.in_ok-extend_from_slice.ensures.items c.new-exposed.ensures.items (c.masks-2.ensures ∙ sym c.masks.ensures))
    (history_there c.args.history.now c.phases.result.now c.masks.result.now c.phases.ensures.is c.masks.ensures c.phases.ensures.history)

translation : (c : goal.After-known) → IsTranslation c.args.history.now c.args.wished c.known.result
translation c =
    translation_made c.args.history.now c.known.result c.phases.result.now c.in_ok-phases.phases c.masks.result.now c.extend_from_slice.new.self.items c.args.wished c.in_ok-key.key c.apart-difference.result c.phases.ensures.is
    c.masks.ensures c.in_ok-phases.ensures
    (appended c.extend_from_slice.new.self.items c.new-exposed.result.items c.masks-2.result.now c.args.history.now.exposed c.in_ok-extend_from_slice.ensures.items c.new-exposed.ensures.items c.masks-2.ensures) c.known.ensures
    c.in_ok-key.ensures c.apart-difference.ensures

pub returns-clause-grids : goal.returns-clause-grids
returns-clause-grids c = alone_made c.args.history.now c.known.result c.args.wished (translation c)

pub returns-clause-translated : goal.returns-clause-translated
returns-clause-translated c = translation c

pub returns-clause-key : goal.returns-clause-key
returns-clause-key c = key_made c.args.history.now c.known.result c.args.wished c.phases.ensures.history (translation c)

pub returns-clause-views : goal.returns-clause-views
returns-clause-views c = views_made c.args.history.now c.known.result c.args.wished c.phases.ensures.history (translation c)

pub returns-clause-again : goal.returns-clause-again
returns-clause-again c = again_made c.args.history.now c.known.result c.args.wished c.phases.ensures.history (translation c)
