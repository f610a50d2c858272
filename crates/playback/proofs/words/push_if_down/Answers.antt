use Rattle.std.proofs.Common.{sym, ◌∙◌}
use Rattle.playback.specs.Recorded.{play_of}
use Rattle.playback.proofs.Steps.{got_is, none_got, on_ok}
use Rattle.playback.proofs.words.push_if_down.Goals as goal

pub returns : goal.returns
returns c = none_got (play_of c.args.phase.now) c.args.round c.args.to c.args.list.now (sym c.in_mask.ensures ∙ c.if-in_mask.false)

pub returns-then-in_mask : goal.returns-then-in_mask
returns-then-in_mask c =
    on_ok c.push_sent.result
    (λ pushed. got_is (play_of c.args.phase.now) c.args.round c.args.to c.args.words.now _ c.args.list.now c.requires.words c.requires.to.0 c.requires.to.1 (sym c.in_mask.ensures ∙ c.if-in_mask.true) pushed)
    c.push_sent.ensures
