-- How many draws the phases take, and what the code comes to by them.
use Rattle.std.proofs.Common.{◌≡◌, ℕ, zero, suc, ◌+◌, ◌-◌, ◌*◌, ◌/◌, ◌%◌, ◌^◌, ◌<◌, ◌≤◌, ◌≢◌, eqb, cond, true, false, List, [], ◌∷◌, ◌++◌, map, Option, refl, sym, ap, ap₂, ◌∙◌, subst, arith}
use Rattle.std.proofs.Math.Nat.{mod-add-mod, mul_comm}
use Rattle.std.proofs.lemmas.Bool.{eq-eqb, eqb-true, eqb-false, ne_eqb}
use Rattle.std.proofs.lemmas.List.FromFn.{map-range_with_len_more}
use Rattle.talk.specs.Basics.{places}
use Rattle.scenes.specs.declared.side.Side.{Side}
use Rattle.scenes.specs.declared.scene.Scene.{Scene}
use Rattle.scenes.specs.declared.scene.Scene.TheVariants.{Create, Refresh, Move}
use Rattle.scenes.specs.Numbers.{next_number, number_after, draw}
use Rattle.scenes.specs.Members.{largest_bound, size_after}
use Rattle.scenes.specs.Scenes.{HasCome, coming_side, down_mask, draws_before, drilled_by, new_side, scene_after, scene_at, side_drawn, side_with, staying_side}

-- a step of the generator
pub stepped : (number steps state : ℕ) → state ≡ number_after number steps → (state * 6364136223846793005 % 2 ^ 64 + 1442695040888963407) % 2 ^ 64 ≡ number_after number (steps + 1)
unfolding number_after
stepped number steps state e =
    let count : suc steps ≡ steps + 1 = omega arith in
    mod-add-mod (state * 6364136223846793005) (2 ^ 64) 1442695040888963407
    ∙ ap (λ (k : ℕ). (k + 1442695040888963407) % 2 ^ 64) (mul_comm state 6364136223846793005)
    ∙ ap next_number e
    ∙ ap (number_after number) count

pub drawn_is : (number steps state : ℕ) → state ≡ number_after number steps → (state * 6364136223846793005 % 2 ^ 64 + 1442695040888963407) % 2 ^ 64 / 2 ^ 33 ≡ draw number (steps + 1)
unfolding draw
drawn_is number steps state e = ap (λ (k : ℕ). k / 2 ^ 33) (stepped number steps state e)

-- no step yet
pub at_first : (number : ℕ) → number_after number 0 ≡ number
unfolding number_after
at_first number = refl

-- a move takes four
pub draws_of_move : (phase : ℕ) → 1 ≤ phase → eqb (phase % 3) 0 ≡ true → draws_before (phase + 1) ≡ draws_before phase + 4
draws_of_move phase from third = let e : phase % 3 ≡ 0 = eqb-true (phase % 3) 0 third in omega (arith, from, e)

-- a refresh takes two
pub draws_of_refresh : (phase : ℕ) → 1 ≤ phase → eqb (phase % 3) 0 ≡ false → draws_before (phase + 1) ≡ draws_before phase + 2
draws_of_refresh phase from other = let ne : phase % 3 ≢ 0 = eqb-false (phase % 3) 0 other in omega (arith, from, ne)

-- ---- what the code comes to
abbrev side_of : ℕ → ℕ → ℕ → Option ℕ → ℕ → Side
side_of members bound shareless drilled manner = record { members = members; bound = bound; shareless = shareless; drilled = drilled; manner = manner }

-- a committee with two draws
pub side_by_draws : (number before members bound shareless who how : ℕ) (drilled : Option ℕ) → drilled ≡ drilled_by members bound shareless who → who ≡ draw number (before + 1) → how ≡ draw number (before + 1 + 1) → side_of members bound shareless drilled (how % 4) ≡ side_drawn number before members bound shareless
side_by_draws number before members bound shareless who how drilled d e f =
    let count : before + 1 + 1 ≡ before + 2 = omega arith in
    ap (λ o. side_of members bound shareless o (how % 4)) d ∙ ap₂ (side_with members bound shareless) e (f ∙ ap (draw number) count)

pub two_steps : (number before state : ℕ) → state ≡ number_after number (before + 1 + 1) → state ≡ number_after number (before + 2)
two_steps number before state e = let count : before + 1 + 1 ≡ before + 2 = omega arith in e ∙ ap (number_after number) count

-- the committee that held the key, and the one to which it moves
pub staying_by : (number phase : ℕ) (last now : Side) (down : ℕ) (side : Side) → last ≡ now → down ≡ down_mask last → side ≡ side_drawn number (draws_before phase) last.members last.bound down → side ≡ staying_side number phase now
staying_by number phase last now down side e f g = g ∙ ap (side_drawn number (draws_before phase) last.members last.bound) f ∙ ap (staying_side number phase) e

pub coming_by : (number phase : ℕ) (last now : Side) (members bound : ℕ) (side : Side) → last ≡ now → members ≡ size_after last.members → bound ≡ largest_bound (size_after last.members) → side ≡ side_drawn number (draws_before phase + 2) members bound 0 → side ≡ coming_side number phase now
coming_by number phase last now members bound side e f g h =
    h ∙ ap₂ (λ (m b : ℕ). side_drawn number (draws_before phase + 2) m b 0) f g ∙ ap (coming_side number phase) e

-- a later phase
pub scene_step : (members bound number phase : ℕ) → 1 ≤ phase → scene_at members bound number phase ≡ scene_after number phase (new_side (scene_at members bound number (phase - 1)))
unfolding scene_at
scene_step members bound number zero from = absurd (omega (arith, from))
scene_step members bound number (suc before) from =
    let last : before ≡ suc before - 1 = omega arith in
    ap (λ (k : ℕ). scene_after number (suc before) (new_side (scene_at members bound number k))) last

-- the state before its draws
pub state_before : (members bound number phase : ℕ) (scene : Scene) (state : ℕ) → 1 ≤ phase → HasCome members bound number (phase - 1) scene state → state ≡ number_after number (draws_before phase)
state_before members bound number phase scene state from came =
    let next : phase - 1 + 1 ≡ phase = omega (arith, from) in
    came.state_is ∙ ap (λ (k : ℕ). number_after number (draws_before k)) next

-- a create
pub creates : (members bound number state : ℕ) (side : Side) → side ≡ side_drawn number 0 members bound 0 → state ≡ number_after number (0 + 2) → HasCome members bound number 0 (Create side) state
unfolding scene_at
creates members bound number state side e f = record { scene_is = ap Create e; state_is = f }

-- a move
pub moves : (members bound number phase : ℕ) (scene : Scene) (old new : Side) (state after : ℕ) → 1 ≤ phase → phase % 3 ≡ 0 → HasCome members bound number (phase - 1) scene state → old ≡ staying_side number phase (new_side scene) → new ≡ coming_side number phase (new_side scene) → after ≡ number_after number (draws_before phase + 2 + 2) → HasCome members bound number phase (Move old new) after
moves members bound number phase scene old new state after from third came e f g =
    let now : eqb (phase % 3) 0 ≡ true = eq-eqb (phase % 3) 0 third in
    let both : scene_after number phase (new_side scene) ≡ Move (staying_side number phase (new_side scene)) (coming_side number phase (new_side scene)) =
    ap (λ b. cond b (Move (staying_side number phase (new_side scene)) (coming_side number phase (new_side scene))) (Refresh (staying_side number phase (new_side scene)))) now in
    let count : draws_before phase + 2 + 2 ≡ draws_before (phase + 1) = omega (arith, draws_of_move phase from now) in
    record {
      scene_is = ap₂ Move e f ∙ sym both ∙ ap (λ (s : Scene). scene_after number phase (new_side s)) came.scene_is ∙ sym (scene_step members bound number phase from);
      state_is = g ∙ ap (number_after number) count;
    }

-- a refresh
pub refreshes : (members bound number phase : ℕ) (scene : Scene) (old : Side) (state after : ℕ) → 1 ≤ phase → (phase % 3 ≡ 0 → ⊥) → HasCome members bound number (phase - 1) scene state → old ≡ staying_side number phase (new_side scene) → after ≡ number_after number (draws_before phase + 2) → HasCome members bound number phase (Refresh old) after
refreshes members bound number phase scene old state after from other came e g =
    let now : eqb (phase % 3) 0 ≡ false = ne_eqb (phase % 3) 0 other in
    let one : scene_after number phase (new_side scene) ≡ Refresh (staying_side number phase (new_side scene)) =
    ap (λ b. cond b (Move (staying_side number phase (new_side scene)) (coming_side number phase (new_side scene))) (Refresh (staying_side number phase (new_side scene)))) now in
    let count : draws_before phase + 2 ≡ draws_before (phase + 1) = omega (arith, draws_of_refresh phase from now) in
    record {
      scene_is = ap Refresh e ∙ sym one ∙ ap (λ (s : Scene). scene_after number phase (new_side s)) came.scene_is ∙ sym (scene_step members bound number phase from);
      state_is = g ∙ ap (number_after number) count;
    }

-- one more phase in a list of them
scenes_more : {A : Type 0} (at : ℕ → A) (phases : ℕ) → map at (places (phases + 1)) ≡ map at (places phases) ++ at phases ∷ []
scenes_more at phases = map-range_with_len_more at 0 phases phases (omega arith)

pub pushed : {A : Type 0} (at : ℕ → A) (count : ℕ) (xs ys : List A) (x : A) → xs ≡ map at (places count) → x ≡ at count → ys ≡ xs ++ x ∷ [] → ys ≡ map at (places (count + 1))
pushed at count xs ys x e f g = g ∙ ap₂ (λ zs z. zs ++ z ∷ []) e f ∙ sym (scenes_more at count)
