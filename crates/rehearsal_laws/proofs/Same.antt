-- There is one record of a drawn phase that begins with these shares.
use Rattle.std.proofs.Common.{◌≡◌, ℕ, ◌-◌, true, List, Option, refl, sym, ap, ◌∙◌, subst, arith}
use Rattle.std.proofs.lemmas.List.FromFn.{length-map-range_with_len}
use Rattle.algebra61.specs.Field.{Fp}
use Rattle.talk.specs.declared.part.Part.{Part}
use Rattle.talk.specs.declared.part.Part.TheVariants.{Away, In}
use Rattle.talk.specs.Part.{part_ways}
use Rattle.talk.specs.Shape.{Shape, create_shape, seats}
use Rattle.talk.specs.Sync.{all_seats, has}
use Rattle.plays.specs.Play.{Play}
use Rattle.members.specs.Member.{member_ways}
use Rattle.periods.specs.Keeper.{Keeper, keeper_ways}
use Rattle.periods.specs.Mover.{Mover, mover_ways}
use Rattle.playback.specs.declared.phase.PhaseKind.{PhaseKind}
use Rattle.playback.specs.declared.phase.SaidItem.{SaidItem}
use Rattle.playback.specs.declared.phase.Phase.{Phase}
use Rattle.hearsay.specs.Record.{IsRecordOf}
use Rattle.commands.specs.Create.{dealt_by, members_on}
use Rattle.commands.specs.Move.{moving_of, mover_on, movers_on, seats_in}
use Rattle.commands.specs.Phase.{shares_given}
use Rattle.commands.specs.Refresh.{keeping, keeper_on, keepers_on, holdings_in, setting_of}
use Rattle.commands.specs.Run.{drilled_on}
use Rattle.commands.specs.Standing.{Standing}
use Rattle.commands.proofs.Created.{length-minds}
use Rattle.commands.proofs.Holdings.{length-holdings}
use Rattle.commands.proofs.Movers.{length-seats}
use Rattle.commands.proofs.Phases.{length-numbered}
use Rattle.scenes.specs.declared.side.Side.{Side}
use Rattle.scenes.specs.declared.scene.Scene.{Scene}
use Rattle.scenes.specs.declared.scene.Scene.TheVariants.{Create, Refresh, Move}
use Rattle.scenes.specs.Law.{AreSides}
use Rattle.scenes.specs.Lawful.{AreOrders}
use Rattle.scenes.specs.Numbers.{seed_of}
use Rattle.scenes.specs.Orders.{orders_of}
use Rattle.scenes.specs.Scenes.{old_side}
use Rattle.rehearsal_laws.specs.Played.{AreUncut, IsPlayed, kind_in, play_under}
use Rattle.rehearsal_laws.specs.Standing.{now_before, standing_before, first_seeds, later_seeds}
use Rattle.rehearsal_laws.proofs.Files.{length_files}
use Rattle.rehearsal_laws.proofs.Moved.{can}
use Rattle.rehearsal_laws.proofs.Words.{is_plain, one_list, one_mask}

-- ---- one play has one record
same_record : (kind : PhaseKind) (play : Play) (phase other : Phase) → IsRecordOf kind play phase → IsRecordOf kind play other → phase ≡ other
same_record kind play phase other is also =
    let kinds : phase.kind ≡ other.kind = is.kind_is ∙ sym also.kind_is in
    let settings : phase.setting ≡ other.setting = is.setting_is ∙ sym also.setting_is in
    let downs : phase.down ≡ other.down = one_mask play.shape phase.down other.down is.seated also.seated (λ seat from to. is.marks seat from to ∙ sym (also.marks seat from to)) in
    let grids : phase.grids ≡ other.grids = is.grids_are ∙ sym also.grids_are in
    let said : phase.said ≡ other.said = is.said_is ∙ sym also.said_is in
    ap (λ (z : PhaseKind × Shape × ℕ × List (List (List Fp)) × List SaidItem). let p : Phase = record { kind = z.0; setting = z.1; down = z.2; grids = z.3; said = z.4 } in p)
    (λ i. (kinds i, settings i, downs i, grids i, said i))

-- ---- the words of members who take part, and of those who don't
keepers_plain : (part : Part Keeper) (round : ℕ) → is_plain ((part_ways keeper_ways).word part round) ≡ true
keepers_plain Away round = refl
keepers_plain (In keeper) round = refl

movers_plain : (part : Part Mover) (round : ℕ) → is_plain ((part_ways mover_ways).word part round) ≡ true
movers_plain Away round = refl
movers_plain (In mover) round = refl

-- ---- one list of masks
created_masks : (number place : ℕ) (side : Side) (shares : List (Option (List Fp))) (masks others : List ℕ) → AreOrders (Create side) → AreUncut number place (Create side) shares masks → AreUncut number place (Create side) shares others → masks ≡ others
created_masks number place side shares masks others told here there =
    let s : Shape = create_shape side.members side.bound in
    let seeds : List (List ℕ) = first_seeds number side.members in
    let seated : side.members ≡ seats s = omega arith in
    one_list member_ways (λ m round. refl) s (orders_of (Create side)) (members_on s (dealt_by side.bound seeds)) masks others
    (length-minds side.members side.bound (orders_of (Create side)) seeds (length-map-range_with_len (seed_of number 0) 1 side.members) ∙ seated) told.in_time (here.0 ∙ sym there.0) (all_seats s) here.1 there.1

refreshed_masks : (number place : ℕ) (side : Side) (lanes : ℕ → List Fp) (masks others : List ℕ) → AreOrders (Refresh side) → AreUncut number place (Refresh side) (shares_given (has side.shareless) lanes side.members) masks →
    AreUncut number place (Refresh side) (shares_given (has side.shareless) lanes side.members) others → masks ≡ others
refreshed_masks number place side lanes masks others told here there =
    let st : Standing = standing_before place (Refresh side) (shares_given (has side.shareless) lanes side.members) in
    let s : Shape = setting_of st in
    let seeds : List (List ℕ) = later_seeds number place side in
    let seated : side.members ≡ seats s = omega arith in
    one_list (part_ways keeper_ways) keepers_plain s st.orders (keepers_on s (holdings_in st seeds)) masks others
    (length-numbered (drilled_on s st.orders) 1 (keepers_on s (holdings_in st seeds)) ∙ length-numbered (keeper_on s) 1 (holdings_in st seeds) ∙ length-holdings (keeping (side.bound - 1)) 1 st.files seeds
    ∙ length_files (now_before place side) (has side.shareless) lanes side.members ∙ seated)
    told.in_time (here.0 ∙ sym there.0) (all_seats s) here.1 there.1

moved_masks : (number place : ℕ) (old new : Side) (lanes : ℕ → List Fp) (masks others : List ℕ) → AreSides (Move old new) → AreOrders (Move old new) → AreUncut number place (Move old new) (shares_given (has old.shareless) lanes old.members) masks →
    AreUncut number place (Move old new) (shares_given (has old.shareless) lanes old.members) others → masks ≡ others
moved_masks number place old new lanes masks others sides told here there =
    let st : Standing = standing_before place (Move old new) (shares_given (has old.shareless) lanes old.members) in
    let s : Shape = moving_of st new.members new.bound in
    let seeds : List (List ℕ) = later_seeds number place old in
    one_list (part_ways mover_ways) movers_plain s st.orders (movers_on s (seats_in st new.members new.bound seeds)) masks others
    (length-numbered (drilled_on s st.orders) 1 (movers_on s (seats_in st new.members new.bound seeds)) ∙ length-numbered (mover_on s) 1 (seats_in st new.members new.bound seeds)
    ∙ length-seats st new.members new.bound (can number place old new lanes sides told) seeds)
    told.in_time (here.0 ∙ sym there.0) (all_seats s) here.1 there.1

-- ---- one record
one_with : (number place : ℕ) (scene : Scene) (shares : List (Option (List Fp))) (phase other : Phase) (here : IsPlayed number place scene shares phase) (there : IsPlayed number place scene shares other) → there.masks ≡ here.masks → phase ≡ other
one_with number place scene shares phase other here there same =
    same_record (kind_in scene) (play_under number place scene shares here.masks) phase other here.record_is
    (subst (λ (masks : List ℕ). IsRecordOf (kind_in scene) (play_under number place scene shares masks) other) same there.record_is)

pub one_created : (number place : ℕ) (side : Side) (shares : List (Option (List Fp))) (phase other : Phase) → AreOrders (Create side) → IsPlayed number place (Create side) shares phase → IsPlayed number place (Create side) shares other → phase ≡ other
one_created number place side shares phase other told here there =
    one_with number place (Create side) shares phase other here there (created_masks number place side shares there.masks here.masks told there.uncut here.uncut)

pub one_begun : (number place : ℕ) (scene : Scene) (lanes : ℕ → List Fp) (phase other : Phase) → AreSides scene → AreOrders scene → IsPlayed number place scene (shares_given (has (old_side scene).shareless) lanes (old_side scene).members) phase →
    IsPlayed number place scene (shares_given (has (old_side scene).shareless) lanes (old_side scene).members) other → phase ≡ other
one_begun number place (Create side) lanes phase other sides told here there = one_created number place side _ phase other told here there
one_begun number place (Refresh side) lanes phase other sides told here there =
    one_with number place (Refresh side) _ phase other here there (refreshed_masks number place side lanes there.masks here.masks told there.uncut here.uncut)
one_begun number place (Move old new) lanes phase other sides told here there =
    one_with number place (Move old new) _ phase other here there (moved_masks number place old new lanes there.masks here.masks sides told there.uncut here.uncut)
