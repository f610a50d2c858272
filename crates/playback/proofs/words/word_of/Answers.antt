use Rattle.std.proofs.Common.{◌≡◌, List, map, sym, ap, ◌∙◌, subst, arith}
use Rattle.std.specs.Prelude.{IfOk}
use Rattle.talk.specs.declared.messages.Say.{Say}
use Rattle.talk.specs.Shape.{seats}
use Rattle.plays.specs.Said.{points_up_to}
use Rattle.playback.specs.declared.phase.SaidItem.{SaidItem}
use Rattle.playback.specs.Recorded.{play_of, said_post, said_ring}
use Rattle.playback.proofs.Formed.{all_deal}
use Rattle.playback.proofs.Steps.{may_tell, word_is, word_recorded, most_rounds}
use Rattle.playback.proofs.words.word_of.Goals as goal

pub word_by_rules-requires : goal.word_by_rules-requires
word_by_rules-requires c = record {
  moving = λ d. may_tell (play_of c.args.phase.now) c.args.round c.args.seat c.args.state.now c.in-Some.sharer c.requires.round.0 c.requires.round.1 c.requires.sixth c.requires.state c.in-Some.is d;
}

pub returns-in-Some : goal.returns-in-Some
returns-in-Some c =
    subst (λ (x : Say). IfOk c.word_by_rules.result (λ w. w ≡ x))
    (word_is (play_of c.args.phase.now) c.args.round c.args.seat c.args.state.now c.in-Some.sharer c.requires.setting (all_deal c.args.phase.now c.requires.kept) c.requires.round.0
    (omega (arith, c.requires.round.1, most_rounds c.args.phase.now.setting)) c.requires.seat.0 c.requires.seat.1 c.requires.state c.in-Some.is)
    c.word_by_rules.ensures

pub returns-in_ok-rings-in-None : goal.returns-in_ok-rings-in-None
returns-in_ok-rings-in-None c =
    word_recorded (play_of c.args.phase.now) c.args.round c.args.seat _ _ (sym c.in-None.is ∙ c.requires.state)
    (c.in_ok-post-in-None.ensures ∙ ap (λ (said : List SaidItem). said_post said c.args.round c.args.seat) c.as_slice.ensures)
    (c.in_ok-rings-in-None.ensures ∙ ap (λ (said : List SaidItem). map (said_ring said c.args.round c.args.seat) (points_up_to (seats c.args.phase.now.setting))) c.as_slice-in-None.ensures)
