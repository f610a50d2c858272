use Rattle.std.proofs.Common.{◌≡◌, ◌+◌, ap, sym, ◌∙◌, arith, rules}
use Rattle.rehearsal_laws.specs.Rehearsal.{scenes_to}
use Rattle.scenes.proofs.Filling.{scenes_count}
use Rattle.rehearsal.proofs.Played.{lived_history, rehearsal_made}
use Rattle.rehearsal.proofs.rehearsed.rehearse_run.Goals as goal

pub live-requires-clause-few : goal.live-requires-clause-few
live-requires-clause-few g c κs within =
    let drawn : c.as_slice.result.now ≡ scenes_to c.args.committee.members c.args.committee.bound c.args.number (c.args.periods + 1) = search rules in
    omega (arith, scenes_count c.args.committee.members c.args.committee.bound c.args.number (c.args.periods + 1) c.as_slice.result.now drawn, c.requires.periods)

pub live-requires-clause-scenes : goal.live-requires-clause-scenes
live-requires-clause-scenes g c κs within =
    let drawn : c.as_slice.result.now ≡ scenes_to c.args.committee.members c.args.committee.bound c.args.number (c.args.periods + 1) = search rules in
    drawn ∙ ap (scenes_to c.args.committee.members c.args.committee.bound c.args.number) (sym (scenes_count c.args.committee.members c.args.committee.bound c.args.number (c.args.periods + 1) c.as_slice.result.now drawn))

pub history_of-requires-clause-few : goal.history_of-requires-clause-few
history_of-requires-clause-few g c =
    let drawn : c.as_slice.result.now ≡ scenes_to c.args.committee.members c.args.committee.bound c.args.number (c.args.periods + 1) = search rules in
    omega (arith, c.in_ok-life.ensures.all, scenes_count c.args.committee.members c.args.committee.bound c.args.number (c.args.periods + 1) c.as_slice.result.now drawn, c.requires.periods)

pub history_of-requires-clause-history : goal.history_of-requires-clause-history
history_of-requires-clause-history g c =
    let drawn : c.as_slice.result.now ≡ scenes_to c.args.committee.members c.args.committee.bound c.args.number (c.args.periods + 1) = search rules in
    lived_history c.args.committee.members c.args.committee.bound c.args.periods c.args.number c.in_ok-life.life c.in_ok-exposed.exposed c.requires.size c.requires.bound c.in_ok-life.ensures.lived
    (c.in_ok-life.ensures.all ∙ scenes_count c.args.committee.members c.args.committee.bound c.args.number (c.args.periods + 1) c.as_slice.result.now drawn) c.in_ok-exposed.ensures

pub returns-clause-rehearsed : goal.returns-clause-rehearsed
returns-clause-rehearsed g c =
    let drawn : c.as_slice.result.now ≡ scenes_to c.args.committee.members c.args.committee.bound c.args.number (c.args.periods + 1) = search rules in
    rehearsal_made c.args.committee.members c.args.committee.bound c.args.periods c.args.number c.in_ok-life.life c.in_ok-history.history c.in_ok-other.other c.in_ok-exposed.exposed c.in_ok-key.key c.raised.result c.in_ok-life.ensures.lived
    (c.in_ok-life.ensures.all ∙ scenes_count c.args.committee.members c.args.committee.bound c.args.number (c.args.periods + 1) c.as_slice.result.now drawn) c.in_ok-exposed.ensures c.in_ok-history.ensures c.in_ok-key.ensures c.raised.ensures c.in_ok-other.ensures.translated
