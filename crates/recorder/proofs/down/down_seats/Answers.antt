use Rattle.std.proofs.Common.{◌≡◌, ℕ, ◌+◌, ◌-◌, ◌^◌, ◌<◌, ◌≤◌, cond, sym, ap, ◌∙◌, subst, arith, rules}
use Rattle.std.proofs.Math.Pow.{pow_mono}
use Rattle.talk.specs.Shape.{seats}
use Rattle.scenes.specs.Members.{mask_of}
use Rattle.scenes.specs.Orders.{shape_of}
use Rattle.scenes.proofs.Masks.{mask_below, mask_has, mask_more}
use Rattle.rehearsal_laws.specs.Down.{down_on}
use Rattle.recorder.proofs.down.down_seats.Goals as goal
use Rattle.recorder.proofs.down.down_seats.Goals.{then-is_down, else-is_down}

pub overflow_add-mask : goal.overflow_add-mask
overflow_add-mask c =
    let place : ℕ = c.loop-seat.seat - 1 in
    let before : c.loop-seat.mask < 2 ^ place = subst (λ (n : ℕ). n < 2 ^ place) (sym c.loop-seat.invariant) (mask_below place (down_on c.args.scene.now)) in
    let few : place ≤ 29 = omega (arith, c.seats-seats.ensures.most, c.loop-seat-test.true) in
    let small : 2 ^ place ≤ 2 ^ 29 = pow_mono few in
    omega (arith, before, small)

pub loop-seat-preserved : goal.loop-seat-preserved
loop-seat-preserved c =
    let few : c.loop-seat.seat - 1 ≤ 29 = omega (arith, c.seats-seats.ensures.most, c.loop-seat-test.true) in
    let small : 2 ^ (c.loop-seat.seat - 1) ≤ 2 ^ 29 = pow_mono few in
    let more : c.if-is_down.mask ≡ c.loop-seat.mask + cond c.is_down.result (2 ^ (c.loop-seat.seat - 1)) 0 =
    elim c.if-is_down.branch [
      | then-is_down w ↦ rw w.if-is_down.true omega (arith, small, w.mask-is)
      | else-is_down w ↦ rw w.if-is_down.false omega (arith, w.mask-is)
    ] in
    mask_more (down_on c.args.scene.now) c.loop-seat.seat c.loop-seat.mask c.if-is_down.mask c.is_down.result (omega arith) c.loop-seat.invariant c.is_down.ensures more

pub returns-clause-marks : goal.returns-clause-marks
returns-clause-marks c seat from to =
    let all : c.loop-seat.seat - 1 ≡ seats (shape_of c.args.scene.now) = search rules in
    let is : c.loop-seat.mask ≡ mask_of (seats (shape_of c.args.scene.now)) (down_on c.args.scene.now) = c.loop-seat.invariant ∙ ap (λ (n : ℕ). mask_of n (down_on c.args.scene.now)) all in
    rw is (mask_has (seats (shape_of c.args.scene.now)) (down_on c.args.scene.now) seat from to)

pub returns-clause-seated : goal.returns-clause-seated
returns-clause-seated c =
    let all : c.loop-seat.seat - 1 ≡ seats (shape_of c.args.scene.now) = search rules in
    let is : c.loop-seat.mask ≡ mask_of (seats (shape_of c.args.scene.now)) (down_on c.args.scene.now) = c.loop-seat.invariant ∙ ap (λ (n : ℕ). mask_of n (down_on c.args.scene.now)) all in
    subst (λ (mask : ℕ). mask < 2 ^ seats (shape_of c.args.scene.now)) (sym is) (mask_below (seats (shape_of c.args.scene.now)) (down_on c.args.scene.now))
