use Rattle.std.proofs.Common.{◌+◌, length, get_or, ap, ap₂, ◌∙◌, arith}
use Rattle.std.specs.Prelude.{None}
use Rattle.std.proofs.lemmas.List.FromFn.{length-map-range_with_len}
use Rattle.plays.specs.Play.{created_share}
use Rattle.playback.specs.Recorded.{play_of}
use Rattle.playback.specs.Shares.{refreshed_of, shares_at}
use Rattle.playback.proofs.Places.{places_append, default_any}
use Rattle.playback.proofs.Ends.{all_refreshed}
use Rattle.playback.proofs.shares.refreshed_shares.Goals as goal

pub bounds-before-place : goal.bounds-before-place
bounds-before-place c =
    omega (
      arith,
      c.loop-place-test.true,
      c.requires.all,
      ap length (c.as_slice-made.ensures.value ∙ c.in_ok-created.ensures),
      length-map-range_with_len (shares_at (play_of c.args.phase.now) (created_share (play_of c.args.phase.now))) 1 c.args.phase.now.setting.receivers,
    )

pub loop-place-preserved : goal.loop-place-preserved
loop-place-preserved c =
    places_append (λ k. refreshed_of (k + 1) (get_or c.args.before.now k None) (get_or c.as_slice-made.result.now k None)) c.loop-place.place c.loop-place.list.items _ _ c.loop-place.invariant c.in_ok-push.ensures.items
    (c.refreshed_at.ensures
    ∙ ap₂ (refreshed_of (c.loop-place.place + 1))
    (c.index-before-place.is ∙ default_any c.args.before.now c.loop-place.place _ None
    (omega (
      arith,
      c.loop-place-test.true,
      c.requires.all,
      ap length (c.as_slice-made.ensures.value ∙ c.in_ok-created.ensures),
      length-map-range_with_len (shares_at (play_of c.args.phase.now) (created_share (play_of c.args.phase.now))) 1 c.args.phase.now.setting.receivers,
    )))
    (c.index-made-place.is ∙ default_any c.as_slice-made.result.now c.loop-place.place _ None c.loop-place-test.true))

pub returns : goal.returns
returns c share has =
    c.loop-place.invariant
    ∙ all_refreshed (play_of c.args.phase.now) share c.args.before.now c.as_slice-made.result.now c.loop-place.place (c.as_slice-made.ensures.value ∙ c.in_ok-created.ensures) (omega (arith, c.loop-place-test.false, c.loop-place.auto)) has
