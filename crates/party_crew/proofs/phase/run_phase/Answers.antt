use Rattle.std.proofs.Common.{rules, List, ◌≡◌, ◌<◌, ◌≤◌, length, sym, ◌∙◌, arith}
use Rattle.talk.specs.Sync.{ways}
use Rattle.pairrings.proofs.RingLemmas.{rings_stay}
use Rattle.party_crew.proofs.Finished.{head_of, minds_same, masks_allowed, all_masks, posts_same}
use Rattle.roundboard.specs.Wardens.{watched}
use Rattle.std.proofs.Common.{subst}
use mathlib.Core.List.{IsPrefix}
use Rattle.talk.specs.declared.messages.Ring.{Ring}
use Rattle.talk.specs.Sync.{all_seats, AllAllowed}
use Rattle.party_crew.specs.Phase.{PhasePaced, board_masks, board_cuts}
use Rattle.party_crew.proofs.PhasePace.{phase_paced, pace_allows}
use Rattle.party_crew.proofs.phase.run_phase.Goals as goal

pub finish-rings-requires : goal.finish-rings-requires
finish-rings-requires g c =
    let t = c.in_ok-minds.ensures.took in
    (search rules, (search rules, (t.all_ends, rings_stay c.in-Ok-lay.ends.items c.in_ok-minds.ends.items c.in-Ok-lay.ensures.rings t.rings)))

pub returns-clause-minds : goal.returns-clause-minds
returns-clause-minds g c =
    let t = c.in_ok-minds.ensures.took in
    let least = c.requires.few.0 in
    minds_same (ways g.M.Mind.word g.M.Mind.after_say g.M.Mind.after_hear) c.args.setting.now c.in-Ok.board c.args.minds.items c.in-Ok-lay.ends.items c.in_ok-minds.minds.items c.in_ok-minds.pens.items c.in_ok-minds.ends.items
    c.requires.few.0 c.requires.seats c.requires.all t c.in-Ok-finish.board c.in-Ok-finish.reader (c.in-Ok-finish.ensures.rounds ∙ c.in-Ok.ensures.rounds ∙ c.rounds.ensures.is)
    c.in-Ok-finish.ensures.agrees (watched c.in_ok-minds.warden) c.in-Ok-finish.ensures.settles (λ r lt. c.in-Ok-finish.ensures.sheets r (let n = c.in-Ok.ensures.rounds in let m = c.rounds.ensures.is in omega (arith, lt, n, m))) c.finish-rings.ensures.order
    (head_of c.args.minds.items (omega (arith, c.requires.all, least))) (head_of c.in_ok-minds.pens.items (let n = t.seated.0 in omega (arith, n, least))) (head_of c.in_ok-minds.ends.items (let n = t.all_ends in omega (arith, n, least)))

pub returns-clause-allowed : goal.returns-clause-allowed
returns-clause-allowed g c =
    let t = c.in_ok-minds.ensures.took in
    let least = c.requires.few.0 in
    masks_allowed (ways g.M.Mind.word g.M.Mind.after_say g.M.Mind.after_hear) c.args.setting.now c.in-Ok.board c.args.minds.items c.in-Ok-lay.ends.items c.in_ok-minds.minds.items c.in_ok-minds.pens.items c.in_ok-minds.ends.items
    c.requires.few.0 c.requires.seats c.requires.all t c.in-Ok-finish.board c.in-Ok-finish.reader (c.in-Ok-finish.ensures.rounds ∙ c.in-Ok.ensures.rounds ∙ c.rounds.ensures.is)
    c.in-Ok-finish.ensures.agrees (watched c.in_ok-minds.warden) c.in-Ok-finish.ensures.settles (λ r lt. c.in-Ok-finish.ensures.sheets r (let n = c.in-Ok.ensures.rounds in let m = c.rounds.ensures.is in omega (arith, lt, n, m))) c.finish-rings.ensures.order
    (head_of c.args.minds.items (omega (arith, c.requires.all, least))) (head_of c.in_ok-minds.pens.items (let n = t.seated.0 in omega (arith, n, least))) (head_of c.in_ok-minds.ends.items (let n = t.all_ends in omega (arith, n, least)))

pub returns-clause-masks : goal.returns-clause-masks
returns-clause-masks g c =
    let t = c.in_ok-minds.ensures.took in
    let least = c.requires.few.0 in
    all_masks (ways g.M.Mind.word g.M.Mind.after_say g.M.Mind.after_hear) c.args.setting.now c.in-Ok.board c.args.minds.items c.in-Ok-lay.ends.items c.in_ok-minds.minds.items c.in_ok-minds.pens.items c.in_ok-minds.ends.items
    c.requires.few.0 c.requires.seats c.requires.all t c.in-Ok-finish.board c.in-Ok-finish.reader (c.in-Ok-finish.ensures.rounds ∙ c.in-Ok.ensures.rounds ∙ c.rounds.ensures.is)
    c.in-Ok-finish.ensures.agrees (watched c.in_ok-minds.warden) c.in-Ok-finish.ensures.settles (λ r lt. c.in-Ok-finish.ensures.sheets r (let n = c.in-Ok.ensures.rounds in let m = c.rounds.ensures.is in omega (arith, lt, n, m))) c.finish-rings.ensures.order
    (head_of c.args.minds.items (omega (arith, c.requires.all, least))) (head_of c.in_ok-minds.pens.items (let n = t.seated.0 in omega (arith, n, least))) (head_of c.in_ok-minds.ends.items (let n = t.all_ends in omega (arith, n, least)))

pub returns-clause-posts : goal.returns-clause-posts
returns-clause-posts g c =
    let t = c.in_ok-minds.ensures.took in
    let least = c.requires.few.0 in
    posts_same (ways g.M.Mind.word g.M.Mind.after_say g.M.Mind.after_hear) c.args.setting.now c.in-Ok.board c.args.minds.items c.in-Ok-lay.ends.items c.in_ok-minds.minds.items c.in_ok-minds.pens.items c.in_ok-minds.ends.items
    c.requires.few.0 c.requires.seats c.requires.all t c.in-Ok-finish.board c.in-Ok-finish.reader (c.in-Ok-finish.ensures.rounds ∙ c.in-Ok.ensures.rounds ∙ c.rounds.ensures.is)
    c.in-Ok-finish.ensures.agrees (watched c.in_ok-minds.warden) c.in-Ok-finish.ensures.settles (λ r lt. c.in-Ok-finish.ensures.sheets r (let n = c.in-Ok.ensures.rounds in let m = c.rounds.ensures.is in omega (arith, lt, n, m))) c.finish-rings.ensures.order
    (head_of c.args.minds.items (omega (arith, c.requires.all, least))) (head_of c.in_ok-minds.pens.items (let n = t.seated.0 in omega (arith, n, least))) (head_of c.in_ok-minds.ends.items (let n = t.all_ends in omega (arith, n, least)))

pub returns-clause-paced : goal.returns-clause-paced
returns-clause-paced g c =
    let q = c.in_ok-minds._pace.now in let b = c.begin.new.self in let n = c.in-Ok.ensures.rounds in let m = c.in-Ok-finish.ensures.rounds in
    let e : q ≡ c.pace-2-1.given.0 = sym (c.pace-2-1.given.1 (sym c.in_ok-minds.ensures.same)) in
    subst (λ (x : g.row.Q.Denot). PhasePaced (g.Q.Pace.cuts_of x) (g.Q.Pace.asked_of x) (g.Q.Pace.answered_count c.args.pace.now) (g.Q.Pace.answered_count x) c.in-Ok-finish.board) e
    (phase_paced (g.Q.Pace.cuts_of q) (g.Q.Pace.asked_of q) (g.Q.Pace.cuts_of b) (g.Q.Pace.asked_of b) (g.Q.Pace.answered_count c.args.pace.now) (g.Q.Pace.answered_count b) (g.Q.Pace.answered_count q) c.in-Ok-finish.board
    (watched c.in-Ok.warden) (watched c.in_ok-minds.warden) c.in-Ok.ensures.warden.quiet c.begin.ensures.asked c.begin.ensures.answered c.in_ok-minds.ensures.paced
    (λ r lt. c.in-Ok-finish.ensures.sheets r (omega (arith, lt, m))))

pub returns-clause-rings : goal.returns-clause-rings
returns-clause-rings g c = λ i j li lj.
    subst (λ (z : List Ring × List Ring). IsPrefix z.0 z.1) (λ k. (sym (c.finish-rings.ensures.got i j) k, sym (c.finish-rings.ensures.sent i j) k)) (c.finish-rings.ensures.order i j li lj)

pub returns-clause-answered : goal.returns-clause-answered
returns-clause-answered g c =
    let w = ways g.M.Mind.word g.M.Mind.after_say g.M.Mind.after_hear in
    let t = c.in_ok-minds.ensures.took in
    let least = c.requires.few.0 in
    let q = c.in_ok-minds._pace.now in let b = c.begin.new.self in let m = c.in-Ok-finish.ensures.rounds in
    let e : q ≡ c.pace-2-1.given.0 = sym (c.pace-2-1.given.1 (sym c.in_ok-minds.ensures.same)) in
    let paced : PhasePaced (g.Q.Pace.cuts_of q) (g.Q.Pace.asked_of q) (g.Q.Pace.answered_count c.args.pace.now) (g.Q.Pace.answered_count q) c.in-Ok-finish.board =
    phase_paced (g.Q.Pace.cuts_of q) (g.Q.Pace.asked_of q) (g.Q.Pace.cuts_of b) (g.Q.Pace.asked_of b) (g.Q.Pace.answered_count c.args.pace.now) (g.Q.Pace.answered_count b) (g.Q.Pace.answered_count q) c.in-Ok-finish.board
    (watched c.in-Ok.warden) (watched c.in_ok-minds.warden) c.in-Ok.ensures.warden.quiet c.begin.ensures.asked c.begin.ensures.answered c.in_ok-minds.ensures.paced
    (λ r lt. c.in-Ok-finish.ensures.sheets r (omega (arith, lt, m))) in
    let allowed : AllAllowed w c.args.setting.now 1 (all_seats c.args.setting.now) (board_cuts c.in-Ok-finish.board) (board_masks c.in-Ok-finish.board) c.args.minds.items =
    masks_allowed w c.args.setting.now c.in-Ok.board c.args.minds.items c.in-Ok-lay.ends.items c.in_ok-minds.minds.items c.in_ok-minds.pens.items c.in_ok-minds.ends.items
    c.requires.few.0 c.requires.seats c.requires.all t c.in-Ok-finish.board c.in-Ok-finish.reader (c.in-Ok-finish.ensures.rounds ∙ c.in-Ok.ensures.rounds ∙ c.rounds.ensures.is)
    c.in-Ok-finish.ensures.agrees (watched c.in_ok-minds.warden) c.in-Ok-finish.ensures.settles (λ r lt. c.in-Ok-finish.ensures.sheets r (let n = c.in-Ok.ensures.rounds in let k = c.rounds.ensures.is in omega (arith, lt, n, k))) c.finish-rings.ensures.order
    (head_of c.args.minds.items (omega (arith, c.requires.all, least))) (head_of c.in_ok-minds.pens.items (let n = t.seated.0 in omega (arith, n, least))) (head_of c.in_ok-minds.ends.items (let n = t.all_ends in omega (arith, n, least))) in
    subst (λ (x : g.row.Q.Denot). AllAllowed w c.args.setting.now 1 (all_seats c.args.setting.now) (g.Q.Pace.cuts_of x) (board_masks c.in-Ok-finish.board) c.args.minds.items) e
    (pace_allows w c.args.setting.now (g.Q.Pace.cuts_of q) (g.Q.Pace.asked_of q) (g.Q.Pace.answered_count c.args.pace.now) (g.Q.Pace.answered_count q) c.in-Ok-finish.board paced (board_masks c.in-Ok-finish.board) c.args.minds.items allowed)
