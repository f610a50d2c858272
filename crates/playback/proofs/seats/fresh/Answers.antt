use Rattle.std.proofs.Common.{sym, ◌∙◌, arith}
use Rattle.std.specs.Prelude.{None}
use Rattle.std.proofs.lemmas.Bool.{cond-true}
use Rattle.talk.specs.Sync.{has}
use Rattle.playback.proofs.Formed.{Behind, behind, five_grids, fresh_there, dealer_within, fresh_at}
use Rattle.playback.proofs.seats.fresh.Goals as goal

pub returns-then-in_mask : goal.returns-then-in_mask
returns-then-in_mask c = sym (cond-true (has c.args.phase.now.down c.args.seat) None _ (sym c.in_mask.ensures ∙ c.if-in_mask.true))

pub own_grids-requires-clause-dealer : goal.own_grids-requires-clause-dealer
own_grids-requires-clause-dealer c = dealer_within c.args.phase.now.setting c.args.seat (sym c.deals.ensures ∙ c.if-deals.true)

pub own_grids-requires-clause-up : goal.own_grids-requires-clause-up
own_grids-requires-clause-up c = sym c.in_mask.ensures ∙ c.if-in_mask.false

pub dealing-requires-clause-dealer : goal.dealing-requires-clause-dealer
dealing-requires-clause-dealer c = dealer_within c.args.phase.now.setting c.args.seat (sym c.deals.ensures ∙ c.if-deals.true)

pub dealing-requires-clause-grids : goal.dealing-requires-clause-grids
dealing-requires-clause-grids c =
    let within = dealer_within c.args.phase.now.setting c.args.seat (sym c.deals.ensures ∙ c.if-deals.true) in
    five_grids c.args.phase.now c.requires.kept c.args.seat c.in_ok-grids.grids within.0 within.1 (sym c.in_mask.ensures ∙ c.if-in_mask.false) c.in_ok-grids.ensures

pub returns-then-deals : goal.returns-then-deals
returns-then-deals c = fresh_there c.args.phase.now c.args.seat c.in_ok-grids.grids _ (sym c.in_mask.ensures ∙ c.if-in_mask.false) c.in_ok-grids.ensures c.dealing.ensures

pub overflow_sub-receiver : goal.overflow_sub-receiver
overflow_sub-receiver c =
    let b : Behind c.args.phase.now.setting c.args.seat = behind c.args.phase.now.setting c.requires.setting c.args.seat (sym c.deals.ensures ∙ c.if-deals.false) c.requires.seat.0 c.requires.seat.1 in
    omega (arith, b.past, b.apart, c.shift.ensures.is)

pub receiving-requires-clause-receiver : goal.receiving-requires-clause-receiver
receiving-requires-clause-receiver c =
    let b : Behind c.args.phase.now.setting c.args.seat = behind c.args.phase.now.setting c.requires.setting c.args.seat (sym c.deals.ensures ∙ c.if-deals.false) c.requires.seat.0 c.requires.seat.1 in
    (omega (arith, b.receiver.0, c.shift.ensures.is), omega (arith, b.receiver.1, c.shift.ensures.is))

pub receiving-requires-clause-behind : goal.receiving-requires-clause-behind
receiving-requires-clause-behind c = (behind c.args.phase.now.setting c.requires.setting c.args.seat (sym c.deals.ensures ∙ c.if-deals.false) c.requires.seat.0 c.requires.seat.1).apart

pub returns : goal.returns
returns c =
    let b : Behind c.args.phase.now.setting c.args.seat = behind c.args.phase.now.setting c.requires.setting c.args.seat (sym c.deals.ensures ∙ c.if-deals.false) c.requires.seat.0 c.requires.seat.1 in
    fresh_at c.args.phase.now c.args.seat _ _ (sym c.in_mask.ensures ∙ c.if-in_mask.false) (sym c.deals.ensures ∙ c.if-deals.false) (omega (arith, b.seat_is, c.shift.ensures.is)) c.receiving.ensures
