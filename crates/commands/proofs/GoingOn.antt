-- The steps by which a command sees that a key may go on to its next period: what they find, and what they refuse with.
use Rattle.std.proofs.Common.{◌≡◌, inl, inr, ◌⊎◌, ℕ, ◌+◌, ◌-◌, ◌^◌, ◌<◌, ◌≤◌, Bool, true, false, cond, List, length, get_or, Option, Some, None, Result, Ok, Err, refl, sym, ap, ◌∙◌, subst, arith}
use Rattle.std.specs.Prelude.{nat_lt, ◌==◌, IfOk}
use Rattle.std.specs.FinMap.{get}
use Rattle.std.specs.Str.{bytes_eq}
use Rattle.std.proofs.lemmas.Bool.{lt-ltb, cases_lt}
use Rattle.std.proofs.lemmas.Bool.Decides.{nat_tests}
use Rattle.std.proofs.lemmas.List.FromFn.{get_or-map-range_with_len, length-map-range_with_len}
use Rattle.sharing61.specs.Count.{how_many}
use Rattle.talk.specs.Shape.{Shape}
use Rattle.drillbook.specs.declared.order.Order.{Order}
use Rattle.drillbook.specs.Orders.{names}
use Rattle.shelf.specs.Held.{Held}
use Rattle.sharefile.specs.declared.fault.FileFault.{FileFault}
use Rattle.sharefile.specs.declared.fault.FileFault.TheVariants.{Field}
use Rattle.sharefile.specs.Files.{Now, IsNow}
use Rattle.sharefile.specs.Reading.{now_at}
use Rattle.keyroom.specs.declared.status.Status.{Status}
use Rattle.keyroom.specs.declared.status.Status.TheVariants.{NoSuch, BadNow, TooFewSound, Full}
use Rattle.keyroom.specs.declared.status.What.TheVariants.{Now as NowFile}
use Rattle.keyroom.specs.declared.steps.Found.{Found}
use Rattle.keyroom.specs.declared.steps.Found.TheVariants.{Absent}
use Rattle.keyroom.specs.Names.{now_name}
use Rattle.keyroom.specs.Sound.{sound_among, enough_sound, next_period_of}
use Rattle.keyroom.specs.Steps.{now_named, now_step, now_of, share_of, files_of, ◌and_then◌}
use Rattle.keyroom.proofs.Counting.{few_down}
use Rattle.keyroom.proofs.Working.{and_then_ok}
use Rattle.commands.specs.Drill.{drill_of}
use Rattle.commands.specs.Phase.{IsReady}
use Rattle.commands.specs.Standing.{Standing, down_in, may_go_on, standing_at, next_asked}
use Rattle.commands.proofs.Drills.{FromSteps, drill_refuses}

-- ---- what the steps refuse with
then_refuses : {A B : Type 0} (r : Result A Status) (f : A → Result B Status) (s : Status) →
    ((e : Status) → r ≡ Err e → FromSteps e) → ((x : A) (e : Status) → f x ≡ Err e → FromSteps e) → (r and_then f) ≡ Err s → FromSteps s
then_refuses (Ok x) f s h k e = k x s e
then_refuses (Err t) f s h k e = let same : t ≡ s = cc in subst FromSteps same (h t refl)

if_refuses : {A : Type 0} (b : Bool) (x : A) (bad s : Status) → FromSteps bad → cond b (Ok x) (Err bad) ≡ Err s → FromSteps s
if_refuses true x bad s from e = absurd cc
if_refuses false x bad s from e = let same : bad ≡ s = cc in subst FromSteps same from

unless_refuses : {A : Type 0} (b : Bool) (x : A) (bad s : Status) → FromSteps bad → cond b (Err bad) (Ok x) ≡ Err s → FromSteps s
unless_refuses true x bad s from e = let same : bad ≡ s = cc in subst FromSteps same from
unless_refuses false x bad s from e = absurd cc

named_refuses : (name : List ℕ) (r : Result Now FileFault) (s : Status) → now_named name r ≡ Err s → FromSteps s
named_refuses name (Ok f) s e = if_refuses (bytes_eq f.name name) f (BadNow (Field 16)) s tt e
named_refuses name (Err fault) s e = let same : BadNow fault ≡ s = cc in subst FromSteps same tt

now_refuses : (name : List ℕ) (o : Option (List ℕ)) (s : Status) → now_step name o ≡ Err s → FromSteps s
now_refuses name None s e = let same : NoSuch NowFile ≡ s = cc in subst FromSteps same tt
now_refuses name (Some bytes) s e = named_refuses name (now_at bytes) s e

go_on_refuses : (now : Now) (files : List Found) (orders : List Order) (s : Status) → may_go_on now files orders ≡ Err s → FromSteps s
go_on_refuses now files orders s e =
    then_refuses (enough_sound now (sound_among (names orders) files)) (λ enough. next_period_of now) s
    (λ t f. unless_refuses (nat_lt (length (sound_among (names orders) files)) (now.n - now.t)) tt (TooFewSound (length (sound_among (names orders) files)) (now.n - now.t)) t tt f)
    (λ enough t f. unless_refuses (now.period == 4294967295) (now.period + 1) (Full 4294967295) t tt f) e

standing_refuses : (setting : Shape) (drill : Option (List ℕ)) (held : Held) (now : Now) (s : Status) → standing_at setting drill held now ≡ Err s → FromSteps s
standing_refuses setting drill held now s e =
    then_refuses (drill_of setting drill held) _ s (λ t f. drill_refuses setting drill held t f)
    (λ orders t f. then_refuses (may_go_on now (files_of now held) orders) _ t (λ u g. go_on_refuses now (files_of now held) orders u g) (λ period u g. absurd cc) f) e

pub asked_refuses : (setting : Now → Shape) (name : List ℕ) (drill : Option (List ℕ)) (held : Held) (s : Status) → next_asked setting name drill held ≡ Err s → FromSteps s
asked_refuses setting name drill held s e =
    then_refuses (now_of name held) _ s (λ t f. now_refuses name (get held (now_name name)) t f) (λ now t f. standing_refuses (setting now) drill held now t f) e

-- ---- what the steps give
pub record Stands (setting : Now → Shape) (name : List ℕ) (drill : Option (List ℕ)) (held : Held) (st : Standing) : Type 0 where
  pub now_is : now_of name held ≡ Ok st.now
  pub read : drill_of (setting st.now) drill held ≡ Ok st.orders
  pub files : st.files ≡ files_of st.now held
  pub period : ℕ
  pub goes_on : may_go_on st.now st.files st.orders ≡ Ok period

pub asked_stands : (setting : Now → Shape) (name : List ℕ) (drill : Option (List ℕ)) (held : Held) (st : Standing) → next_asked setting name drill held ≡ Ok st → Stands setting name drill held st
asked_stands setting name drill held st e =
    let a = and_then_ok (now_of name held) _ st e in
    let b = and_then_ok (drill_of (setting a.0) drill held) _ st a.2 in
    let c = and_then_ok (may_go_on a.0 (files_of a.0 held) b.0) _ st b.2 in
    let is : ◌≡◌ {A = Standing} (record { now = a.0; files = files_of a.0 held; orders = b.0 }) st = let f = c.2 in cc in
    subst (Stands setting name drill held) is (record { now_is = a.1; read = b.1; files = refl; period = c.0; goes_on = c.1 })

enough_cases : (sound needed : ℕ) (u : Unit {0}) → (sound < needed) ⊎ (needed ≤ sound) → cond (nat_lt sound needed) (Err (TooFewSound sound needed)) (Ok tt) ≡ Ok u → needed ≤ sound
enough_cases sound needed u (inl lt) e = absurd (let f = sym (ap (λ (b : Bool). let r : Result (Unit {0}) Status = cond b (Err (TooFewSound sound needed)) (Ok tt) in r) (lt-ltb sound needed lt)) ∙ e in cc)
enough_cases sound needed u (inr le) e = le

not_last : (b : Bool) (period next : ℕ) → (period == 4294967295) ≡ b → cond b (Err (Full 4294967295)) (Ok (period + 1)) ≡ Ok next → (period == 4294967295) ≡ false
not_last true period next is e = absurd cc
not_last false period next is e = is

below_last : (period : ℕ) → period < 2 ^ 32 → (period == 4294967295) ≡ false → period < 4294967295
below_last period lt e = grind (arith, nat_tests)

-- at most the bound is down
pub few_standing : (setting : Now → Shape) (name : List ℕ) (drill : Option (List ℕ)) (held : Held) (st : Standing) → Stands setting name drill held st → how_many st.now.n (down_in st) ≤ st.now.t
few_standing setting name drill held st s =
    let all : length st.files ≡ st.now.n = ap length s.files ∙ length-map-range_with_len (share_of st.now held) 1 st.now.n in
    let steps = and_then_ok (enough_sound st.now (sound_among (names st.orders) st.files)) (λ enough. next_period_of st.now) s.period s.goes_on in
    few_down (names st.orders) st.files st.now.n st.now.t all (enough_cases (length (sound_among (names st.orders) st.files)) (st.now.n - st.now.t) steps.0 (cases_lt (length (sound_among (names st.orders) st.files)) (st.now.n - st.now.t)) steps.1)

pub stands_ready : (setting : Now → Shape) (name : List ℕ) (drill : Option (List ℕ)) (held : Held) (st : Standing) → Stands setting name drill held st → IsNow st.now → IsReady st
stands_ready setting name drill held st s is =
    let all : length st.files ≡ st.now.n = ap length s.files ∙ length-map-range_with_len (share_of st.now held) 1 st.now.n in
    let steps = and_then_ok (enough_sound st.now (sound_among (names st.orders) st.files)) (λ enough. next_period_of st.now) s.period s.goes_on in
    record {
      is_now = is;
      all = all;
      few = few_standing setting name drill held st s;
      next = below_last st.now.period is.period_fits (not_last (st.now.period == 4294967295) st.now.period s.period refl steps.2);
    }

-- what was read tells that the now file's fields are in their ranges
pub read_ready : (setting : Now → Shape) (name : List ℕ) (drill : Option (List ℕ)) (held : Held) (st : Standing) → next_asked setting name drill held ≡ Ok st → IsReady st → (before : Now) → now_of name held ≡ Ok before → IsNow before
read_ready setting name drill held st asked ready before now_is =
    let same : st.now ≡ before = let e = sym (asked_stands setting name drill held st asked).now_is ∙ now_is in cc in
    subst IsNow same ready.is_now

pub known_now : {X E : Type 0} {P : Type 0} (r : Result X E) → P → IfOk r (λ _. P)
known_now (Ok x) p = p
known_now (Err e) p = tt

-- the file of a member
pub file_at : (now : Now) (held : Held) (j : ℕ) → 1 ≤ j → j ≤ now.n → get_or (files_of now held) (j - 1) Absent ≡ share_of now held j
file_at now held j from to = get_or-map-range_with_len (share_of now held) 1 now.n (j - 1) j Absent (omega (arith, from, to)) (omega (arith, from))
