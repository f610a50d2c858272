-- A create without a drill leaves shares that are the sums of what the members' grids say.
use Rattle.std.proofs.Common.{◌≡◌, ℕ, suc, ◌+◌, ◌*◌, ◌<◌, ◌≤◌, false, List, [], ◌++◌, length, get_or, Option, Some, None, refl, sym, ap, ◌∙◌, subst, arith}
use Rattle.std.specs.Prelude.{IfSome, take}
use Rattle.std.proofs.Math.Seq.{take-append_seam}
use Rattle.algebra61.specs.Field.{Fp, fe, zeroₚ}
use Rattle.algebra61.specs.Grid.{grid_at}
use Rattle.bivar61.specs.Sums.{sum_below}
use Rattle.sharing61.specs.Count.{how_many}
use Rattle.shelf.specs.Held.{Held, after}
use Rattle.sharefile.specs.declared.link.Link.{Link}
use Rattle.sharefile.specs.Files.{Now}
use Rattle.sizes.specs.Instances.{dealer_of, lane_of, instance_at}
use Rattle.sizes.specs.Committees.{IsCommittee}
use Rattle.plays.specs.Play.{created_share}
use Rattle.members.specs.Laws.{NobodyDown}
use Rattle.members.proofs.Sums.{plain_shares}
use Rattle.drillbook.specs.declared.order.Order.{Order}
use Rattle.drillbook.specs.Orders.{names}
use Rattle.talk.specs.Shape.{create_shape}
use Rattle.commands.specs.Links.{first_link, first_now}
use Rattle.commands.specs.Drill.{drill_of}
use Rattle.keyroom.specs.declared.status.Status.{Status}
use Rattle.keyroom.specs.Causes.{cause_of}
use Rattle.keyroom.specs.Words.{Create, IsInRange, ReadsAs}
use Rattle.keyroom.specs.Names.{now_name}
use Rattle.keyroom.specs.Outcome.{Outcome, AreFirst}
use Rattle.keyroom.specs.Steps.{free_of}
use Rattle.keyroom.proofs.Working.{and_then_ok}
use Rattle.commands.specs.Create.{AreCreateMasks, dealt_by, play_created, create_changes, create_outcome, grids_on}
use Rattle.commands.specs.Late.{down_after}
use Rattle.committee.specs.Plain.{plain_share, HeldPlain}
use Rattle.committee.specs.Answer.{Does}
use Rattle.committee.specs.Meaning.{Given, Means, AskForSeeds}
use Rattle.committee.specs.Answer.{MadeAll}
use Rattle.commands.proofs.Agreement.{lane_at, put_created, held_created}
use Rattle.commands.proofs.Committees.{committee_of}
use Rattle.commands.proofs.Creating.{WasCreated, done_created}
use Rattle.commands.proofs.Created.{proper_create, create_late}
use Rattle.commands.proofs.Late.{up_after, each_uncut}
use Rattle.commands.proofs.Links.{first_is_now}
use Rattle.committee.proofs.OneMeaning.{meant_of}
use Rattle.committee.proofs.Doing.{made_all}

dealer_here : (i lane : ℕ) → lane < 5 → dealer_of (instance_at (suc i) lane) ≡ i + 1
dealer_here i lane lt =
    let number : instance_at (suc i) lane ≡ 5 * i + lane = omega arith in
    let dealer : dealer_of (5 * i + lane) ≡ i + 1 = omega (arith, lt) in
    ap dealer_of number ∙ dealer

lane_here : (i lane : ℕ) → lane < 5 → lane_of (instance_at (suc i) lane) ≡ lane
lane_here i lane lt =
    let number : instance_at (suc i) lane ≡ 5 * i + lane = omega arith in
    let place : lane_of (5 * i + lane) ≡ lane = omega (arith, lt) in
    ap lane_of number ∙ place

sum_here : (n t : ℕ) (seeds : List (List ℕ)) (lane j : ℕ) → lane < 5 →
    sum_below n (λ i. grid_at (get_or (grids_on (dealt_by t seeds) (dealer_of (instance_at (suc i) lane))) (lane_of (instance_at (suc i) lane)) []) zeroₚ (fe j)) ≡ plain_share n t seeds lane j
sum_here n t seeds lane j lt =
    ap (sum_below n) (λ z i. grid_at (get_or (grids_on (dealt_by t seeds) (dealer_here i lane lt z)) (lane_here i lane lt z) []) zeroₚ (fe j))

-- without a drill, and where nobody is cut, nobody is down
none_down : (n t : ℕ) (c : IsCommittee n t) (seeds : List (List ℕ)) (all : length seeds ≡ n) (cuts : ℕ → ℕ) (masks : List ℕ) → AreCreateMasks n t [] seeds cuts masks → ((round : ℕ) → cuts round ≡ 0) →
    (j : ℕ) → 1 ≤ j → j ≤ n → down_after (names []) masks j ≡ false
none_down n t c seeds all cuts masks allowed uncut j from to =
    up_after (names []) masks j refl (each_uncut (names []) masks j refl cuts uncut 5 (create_late n t c [] seeds all cuts masks allowed j from to))

module _ (n t : ℕ) (c : IsCommittee n t) (seeds : List (List ℕ)) (all : length seeds ≡ n) (cuts : ℕ → ℕ) (masks : List ℕ) (allowed : AreCreateMasks n t [] seeds cuts masks) (uncut : (round : ℕ) → cuts round ≡ 0) where
  nobody_down : NobodyDown (play_created n t [] seeds masks)
  nobody_down = record {
    dealers = λ i from to. none_down n t c seeds all cuts masks allowed uncut i from to;
    receivers = λ j from to. let e : 0 + j ≡ j = omega arith in ap (down_after (names []) masks) e ∙ none_down n t c seeds all cuts masks allowed uncut j from to;
  }

  created_plain : how_many n (down_after (names []) masks) ≤ t → (lane j : ℕ) → lane < 5 → 1 ≤ j → j ≤ n → created_share (play_created n t [] seeds masks) lane j ≡ plain_share n t seeds lane j
  created_plain few lane j lt from to =
      plain_shares (play_created n t [] seeds masks) lane j (proper_create n t c [] seeds all masks allowed.0 few) nobody_down lt from to
      ∙ sum_here n t seeds lane j lt

take_first : (seeds rest : List (List ℕ)) (n : ℕ) → length seeds ≡ n → take n (seeds ++ rest) ≡ seeds
take_first seeds rest n e = subst (λ k. take k (seeds ++ rest) ≡ seeds) e (take-append_seam seeds rest)

module _ (name : List ℕ) (n t : ℕ) (coming : List (List ℕ)) (cuts : ℕ → ℕ) (masks : List ℕ) (held : Held) (outcome : Outcome) (range : IsInRange (Create name n t None)) (uncut : (round : ℕ) → cuts round ≡ 0) where
  held_plain : (seeds : List (List ℕ)) → length seeds ≡ n → AreFirst seeds (Some coming) → AreCreateMasks n t [] seeds cuts masks → how_many n (down_after (names []) masks) ≤ t →
      outcome ≡ create_outcome (first_now name n t (first_link name n t (down_after (names []) masks))) masks (play_created n t [] seeds masks) →
      (link : Option Link) → HeldPlain (first_now name n t link) (take n coming) (after outcome.changes held)
  held_plain seeds all front allowed few made_is link =
      let p = play_created n t [] seeds masks in
      let is = first_is_now name n t (down_after (names []) masks) range.0 range.1 range.2 few in
      let first : take n coming ≡ seeds = ap (take n) front.1 ∙ take_first seeds front.0 n all in
      subst (λ (o : Outcome). HeldPlain (first_now name n t link) (take n coming) (after o.changes held)) (sym made_is)
      (subst (λ (xs : List (List ℕ)). HeldPlain (first_now name n t link) xs (after (create_changes (first_now name n t (first_link name n t (down_after (names []) masks))) p) held)) (sym first)
      (λ lane j file lt from to valid.
      let made = put_created (first_now name n t (first_link name n t (down_after (names []) masks))) p is link j file (held_created (first_now name n t (first_link name n t (down_after (names []) masks))) p is link held j file from to valid) in
      ap (λ (xs : List Fp). get_or xs lane zeroₚ) made.has ∙ lane_at p j lane lt
      ∙ created_plain n t (committee_of n t range.1 range.2) seeds all cuts masks allowed uncut few lane j lt from to))

  was_plain : WasCreated name n t None held (Some coming) cuts masks outcome → (link : Option Link) → HeldPlain (first_now name n t link) (take n coming) (after outcome.changes held)
  was_plain was link =
      let a = and_then_ok (free_of (now_name name) held) (λ free. drill_of (create_shape n t) None held) was.orders was.asked in
      let none : was.orders ≡ [] = let e = a.2 in cc in
      held_plain was.seeds was.all was.first (subst (λ (os : List Order). AreCreateMasks n t os was.seeds cuts masks) none was.allowed)
      (subst (λ (os : List Order). how_many n (down_after (names os) masks) ≤ t) none was.few)
      (subst (λ (os : List Order). outcome ≡ create_outcome (first_now name n t (first_link name n t (down_after (names os) masks))) masks (play_created n t os was.seeds masks)) none was.is) link

-- ---- the clause of the top call
told_plain : (now : Now) (seeds : List (List ℕ)) (m after_all : Held) → Some m ≡ Some after_all → HeldPlain now seeds after_all → HeldPlain now seeds m
told_plain now seeds m after_all e h = subst (HeldPlain now seeds) (cc (sym e)) h

pub run_plain : (words : List (List ℕ)) (cuts : ℕ → ℕ) (coming comes : Option (List (List ℕ))) (told tells : Option (List ℕ)) (status : Status) (old new : Option Held) →
    IfSome old (λ m. Does (Means words (record { held = m; coming = coming; cuts = cuts })) (AskForSeeds words m) (record { held = old; coming = coming; told = told }) (record { held = new; coming = comes; told = tells }) status) →
    MadeAll (cause_of status) → ((round : ℕ) → cuts round ≡ 0) → IfSome old (λ before. IfSome new (λ m. IfSome coming (λ seeds. (name : List ℕ) (n t : ℕ) → ReadsAs words (Create name n t None) → (link : Option Link) → HeldPlain (first_now name n t link) (take n seeds) m)))
run_plain words cuts coming comes told tells status None new does made uncut = tt
run_plain words cuts coming comes told tells status (Some old) None does made uncut = tt
run_plain words cuts None comes told tells status (Some old) (Some m) does made uncut = tt
run_plain words cuts (Some coming) comes told tells status (Some old) (Some m) does made uncut = λ name n t reads link.
    let given : Given = record { held = old; coming = Some coming; cuts = cuts } in
    let o = made_all (Means words given) (AskForSeeds words old) (record { held = Some old; coming = Some coming; told = told }) (record { held = Some m; coming = comes; told = tells }) status made does in
    let meant = meant_of words given (Create name n t None) o.0 reads o.1 in
    told_plain (first_now name n t link) (take n coming) m (after o.0.changes old) o.3
    (was_plain name n t coming cuts _ old o.0 reads.in_range uncut (done_created name n t None old (Some coming) cuts _ o.0 reads.in_range meant.1 o.2) link)
