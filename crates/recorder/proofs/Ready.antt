-- What the members of a later phase find is ready for it.
use Rattle.std.proofs.Common.{◌≡◌, ℕ, zero, suc, ◌+◌, ◌≤◌, ◌<◌, Bool, cond, not, List, [], ◌∷◌, ◌++◌, length, map, take, get_or, count_by, Option, None, refl, sym, ap, ap₂, ◌∙◌, subst, arith}
use Rattle.std.specs.List.{filter, range_with_len}
use Rattle.std.proofs.lemmas.Grind.{take_at_read}
use Rattle.std.proofs.lemmas.List.{length-map, length-take}
use Rattle.std.proofs.lemmas.List.Sums.{length-filter, sum_by-cons}
use Rattle.algebra61.specs.Field.{Fp}
use Rattle.sharing61.proofs.Count.{how_many_same}
use Rattle.talk.specs.Sync.{has}
use Rattle.drillbook.specs.Orders.{names}
use Rattle.sharefile.specs.Files.{Now, IsNow}
use Rattle.keyroom.specs.declared.steps.Found.{Found}
use Rattle.keyroom.specs.Sound.{is_valid}
use Rattle.commands.specs.Phase.{IsReady, shares_given, unless_down}
use Rattle.commands.specs.Standing.{down_in, seeds_for}
use Rattle.scenes.specs.declared.side.Side.{Side}
use Rattle.scenes.specs.declared.scene.Scene.{Scene}
use Rattle.scenes.specs.declared.scene.Scene.TheVariants.{Create, Refresh, Move}
use Rattle.scenes.specs.Law.{AreSides}
use Rattle.scenes.specs.Lawful.{AreOrders}
use Rattle.scenes.specs.Numbers.{seed_of}
use Rattle.scenes.specs.Orders.{orders_of}
use Rattle.scenes.specs.Scenes.{is_down_on, is_drilled, old_side}
use Rattle.rehearsal_laws.specs.Played.{IsLater}
use Rattle.rehearsal_laws.specs.Standing.{file_with, files_with, later_seeds, now_before, standing_before}
use Rattle.rehearsal_laws.proofs.Files.{down_by_files, length_files, valid_unless}
use Rattle.rehearsal_laws.proofs.Moved.{can, named_old}
use Rattle.recorder.specs.Begun.{HaveShares, IsBegun, MayGoOn}

-- ---- files that are pushed one after another
pub more_files : (now : Now) (member : ℕ) (before : List (Option (List Fp))) (shares : Option (List Fp)) →
    files_with now member (before ++ shares ∷ []) ≡ files_with now member before ++ file_with now (member + length before) shares ∷ []
more_files now member [] shares = let e : member ≡ member + 0 = omega arith in ap (λ (index : ℕ). file_with now index shares ∷ []) e
more_files now member (first ∷ rest) shares =
    let e : member + 1 + length rest ≡ member + suc (length rest) = omega arith in
    ap (λ (files : List Found). file_with now member first ∷ files) (more_files now (member + 1) rest shares ∙ ap (λ (index : ℕ). files_with now (member + 1) rest ++ file_with now index shares ∷ []) e)

-- ---- there is a seed for each file
valid_from : (now : Now) (without : ℕ → Bool) (lanes : ℕ → List Fp) (first n : ℕ) →
    count_by (λ (member : ℕ). not (without member)) (range_with_len first n) ≡ count_by is_valid (files_with now first (map (λ j. unless_down (without j) (lanes j)) (range_with_len first n)))
valid_from now without lanes first zero = refl
valid_from now without lanes first (suc n) =
    sum_by-cons (λ (member : ℕ). cond (not (without member)) 1 0) first (range_with_len (first + 1) n)
    ∙ ap₂ (λ (is : Bool) (count : ℕ). cond is 1 0 + count) (sym (valid_unless now first (without first) (lanes first))) (valid_from now without lanes (first + 1) n)
    ∙ sym (sum_by-cons (λ (file : Found). cond (is_valid file) 1 0) (file_with now first (unless_down (without first) (lanes first))) (files_with now (first + 1) (map (λ j. unless_down (without j) (lanes j)) (range_with_len (first + 1) n))))

seeds_valid : (number place : ℕ) (side : Side) (now : Now) (lanes : ℕ → List Fp) →
    length (later_seeds number place side) ≡ count_by is_valid (files_with now 1 (shares_given (has side.shareless) lanes side.members))
seeds_valid number place side now lanes =
    length-map (filter (λ (member : ℕ). not (has side.shareless member)) (range_with_len 1 side.members)) (seed_of number place)
    ∙ length-filter (λ (member : ℕ). not (has side.shareless member)) (range_with_len 1 side.members)
    ∙ valid_from now (has side.shareless) lanes 1 side.members

-- whatever the number of the period is
pub seeds_anywhere : (number place : ℕ) (scene : Scene) (shares : List (Option (List Fp))) → HaveShares (old_side scene) shares → (other : ℕ) →
    length (later_seeds number place (old_side scene)) ≡ seeds_for (standing_before other scene shares)
seeds_anywhere number place scene shares have other =
    seeds_valid number place (old_side scene) (now_before other (old_side scene)) have.0
    ∙ sym (ap (λ (given : List (Option (List Fp))). seeds_for (standing_before other scene given)) have.1)

-- ---- who is down
named_here : (scene : Scene) → AreSides scene → AreOrders scene → IsLater scene → (member : ℕ) → member ≤ (old_side scene).members →
    names (orders_of scene) member ≡ is_drilled (old_side scene).drilled member
named_here (Create side) sides told later member to = absurd later
named_here (Refresh side) sides told later member to = told.named member
named_here (Move old new) sides told later member to = told.named member ∙ named_old old new sides member to

-- ---- the shares that it begins with
pub begins : (place : ℕ) (scene : Scene) (shares : List (Option (List Fp))) → IsLater scene → IsBegun place scene shares → (1 ≤ place) × (place ≤ 64) × HaveShares (old_side scene) shares
begins place (Create side) shares later begun = absurd later
begins place (Refresh side) shares later begun = begun
begins place (Move old new) shares later begun = begun

-- ---- it is ready
module _ (place : ℕ) (scene : Scene) (shares : List (Option (List Fp))) (sides : AreSides scene) (told : AreOrders scene) (later : IsLater scene) (few : place ≤ 64) (have : HaveShares (old_side scene) shares) where
  given : standing_before place scene shares ≡ standing_before place scene (shares_given (has (old_side scene).shareless) have.0 (old_side scene).members)
  given = ap (standing_before place scene) have.1

  ready_given : IsNow (now_before place (old_side scene)) → IsReady (standing_before place scene (shares_given (has (old_side scene).shareless) have.0 (old_side scene).members))
  ready_given is_now = record {
    is_now = is_now;
    all = length_files (now_before place (old_side scene)) (has (old_side scene).shareless) have.0 (old_side scene).members;
    few =
        omega (
          arith,
          how_many_same (old_side scene).members (down_in (standing_before place scene (shares_given (has (old_side scene).shareless) have.0 (old_side scene).members))) (is_down_on (old_side scene))
              (λ member from to. down_by_files (names (orders_of scene)) (now_before place (old_side scene)) (old_side scene) have.0 member from to (named_here scene sides told later member to)),
          sides.0.few,
        );
    next = omega (arith, few);
  }

  pub ready : IsNow (now_before place (old_side scene)) → IsReady (standing_before place scene shares)
  ready is_now = subst IsReady (sym given) (ready_given is_now)

pub goes_on : (place : ℕ) (scene : Scene) (shares : List (Option (List Fp))) → AreSides scene → AreOrders scene → IsLater scene → HaveShares (old_side scene) shares → IsReady (standing_before place scene shares) →
    MayGoOn scene (standing_before place scene shares)
goes_on place (Create side) shares sides told later have is_ready = absurd later
goes_on place (Refresh side) shares sides told later have is_ready = tt
goes_on place (Move old new) shares sides told later have is_ready =
    record { ready = is_ready; size = sides.1.size; bound = sides.1.bound; few = (can 0 place old new have.0 sides told).few }

pub pushed_file : (now : Now) (shares : List (Option (List Fp))) (place : ℕ) → place < length shares → (files : List Found) (file : Found) → files ≡ files_with now 1 (take place shares) →
    file ≡ file_with now (place + 1) (get_or shares place None) → files ++ file ∷ [] ≡ files_with now 1 (take (place + 1) shares)
pushed_file now shares place lt files file before is =
    let one : 1 + length (take place shares) ≡ place + 1 = omega (arith, length-take place shares, lt) in
    ap₂ (λ (xs : List Found) (x : Found). xs ++ x ∷ []) before is
    ∙ ap (λ (index : ℕ). files_with now 1 (take place shares) ++ file_with now index (get_or shares place None) ∷ []) (sym one)
    ∙ sym (more_files now 1 (take place shares) (get_or shares place None))
    ∙ ap (files_with now 1) (sym (take_at_read shares place None lt).1)
