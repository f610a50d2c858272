use Rattle.std.proofs.Common.{◌≡◌, ◌+◌, List, length, ap, sym, ◌∙◌, rules}
use Rattle.std.proofs.lemmas.List.{length-map}
use Rattle.members.specs.Shares.{accepted_count}
use Rattle.playback.specs.Recorded.{play_of}
use Rattle.playback.specs.declared.phase.Phase.{Phase}
use Rattle.scenes.specs.declared.scene.Scene.{Scene}
use Rattle.scenes.proofs.Filling.{scenes_count}
use Rattle.rehearsal_laws.specs.Rehearsal.{scenes_to}
use Rattle.playbill.specs.Text.{rehearsal_text}
use Rattle.playbill.proofs.Sides.{sides_are}
use Rattle.committee.proofs.rehearse.text_of.Goals as goal

pub rehearse_text-requires-clause-counts : goal.rehearse_text-requires-clause-counts
rehearse_text-requires-clause-counts c =
    let drawn : c.deref.result.now ≡ scenes_to c.args.committee.members c.args.committee.bound c.args.number (c.args.periods + 1) = search rules in
    ap length c.requires.rehearsed.accepted_is
    ∙ length-map c.args.rehearsed.now.history.phases (λ (phase : Phase). accepted_count (play_of phase))
    ∙ c.requires.rehearsed.count
    ∙ sym (scenes_count c.args.committee.members c.args.committee.bound c.args.number (c.args.periods + 1) c.deref.result.now drawn)

pub rehearse_text-requires-clause-sides : goal.rehearse_text-requires-clause-sides
rehearse_text-requires-clause-sides c =
    let drawn : c.deref.result.now ≡ scenes_to c.args.committee.members c.args.committee.bound c.args.number (c.args.periods + 1) = search rules in
    sides_are c.args.committee.members c.args.committee.bound c.args.number (c.args.periods + 1) c.deref.result.now c.requires.size c.requires.bound drawn

pub returns : goal.returns
returns c =
    let drawn : c.deref.result.now ≡ scenes_to c.args.committee.members c.args.committee.bound c.args.number (c.args.periods + 1) = search rules in
    record {
      history = c.args.rehearsed.now.history;
      other = c.args.rehearsed.now.other;
      accepted = c.args.rehearsed.now.accepted;
      rehearsal = c.requires.rehearsed;
      key = c.in_ok-key.key;
      is_key = record { lanes = search rules; has_key = c.in_ok-key.ensures };
      again = c.in_ok-other.other;
      is_again = record { lanes = search rules; has_key = c.in_ok-other.ensures };
      text_is = c.in_ok-text.ensures ∙ ap (λ (scenes : List Scene). rehearsal_text scenes c.args.rehearsed.now.accepted c.in_ok-key.key c.in_ok-other.other) drawn;
    }
