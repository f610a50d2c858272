-- The changes with which a next period begins leave what stood up to the put of the now file; from then on the period has
-- begun.
use Rattle.std.proofs.Common.{◌≡◌, ◌≢◌, inl, inr, ℕ, suc, ◌+◌, ◌-◌, ◌^◌, ◌<◌, ◌≤◌, Bool, true, false, cond, not, List, [], ◌∷◌, ◌++◌, length, map, take, Option, Some, None, Result, Ok, Err, refl, sym, ap, ◌∙◌, subst, arith, length-append, append_assoc}
use Rattle.std.specs.List.{range_with_len}
use Rattle.std.specs.FinMap.{get, insert}
use Rattle.std.proofs.lemmas.Bool.{not-true}
use Rattle.std.proofs.lemmas.List.{take-append-le}
use Rattle.std.proofs.lemmas.Slice.Eq.{bytes_eq-Decides}
use Rattle.std.proofs.Math.Seq.{take-append-add}
use Rattle.algebra61.specs.Field.{Fp}
use Rattle.shelf.specs.Held.{Held, Change, Put, after}
use Rattle.sharefile.specs.Files.{Now, IsNow, Share, now_bytes, share_bytes}
use Rattle.sharefile.specs.declared.fault.FileFault.TheVariants.{Field}
use Rattle.sharefile.proofs.NowLaws.{now_again}
use Rattle.keyroom.specs.declared.status.Status.{Status}
use Rattle.keyroom.specs.declared.status.Status.TheVariants.{BadNow}
use Rattle.keyroom.specs.Names.{now_name, share_name}
use Rattle.keyroom.specs.Steps.{now_step, now_named, now_of, share_step, HasShare}
use Rattle.commands.specs.Agreement.{Among}
use Rattle.commands.specs.Begins.{IsNext, IsLeft, HasBegun, GoesOn, PeriodsGoOn}
use Rattle.commands.specs.Period.{removal, removals, share_with, put_with, up_members, next_changes}
use Rattle.commands.proofs.Committees.{small_size}
use Rattle.commands.proofs.Names.{one_period, one_index}
use Rattle.commands.proofs.Periods.{names_apart, put_is_valid}
use Rattle.commands.proofs.Shelves.{among_append, among_map, among_filter, among_into_filter, among_range, among_take, range_has, after_append, removed, put_is_there, puts_are_there, change_name, untouched}

-- a change of a share file of this name, in a period
pub record OfPeriod (name : List ℕ) (period : ℕ) (c : Change) : Type 0 where
  pub index : ℕ
  pub is : change_name c ≡ share_name name period index

removal_of : (name : List ℕ) (period : ℕ) (c : Change) → Among c (removals name period) → OfPeriod name period c
removal_of name period c among =
    let r = among_map (removal name period) c (range_with_len 1 15) among in
    record { index = r.0; is = ap change_name (sym r.2) }

-- it touches no now file, and no share file of another period
pub spares_now : (name : List ℕ) (period : ℕ) (c : Change) → OfPeriod name period c → now_name name ≡ change_name c → ⊥
spares_now name period c o e = names_apart name period o.index (e ∙ o.is)

pub spares_period : (name : List ℕ) (period other index : ℕ) (c : Change) → period < 2 ^ 64 → other < 2 ^ 64 → period ≢ other → OfPeriod name period c → share_name name other index ≡ change_name c → ⊥
spares_period name period other index c small low apart o e = apart (sym (one_period name other period index o.index low small (e ∙ o.is)))

module _ (before now : Now) (down : ℕ → Bool) (lanes : ℕ → List Fp) (next : IsNext before now) where
  abbrev front : List Change
  front = removals before.name (before.period - 1)

  abbrev gone : List Change
  gone = removals now.name now.period

  abbrev puts : List Change
  puts = map (λ j. put_with now j (lanes j)) (up_members now.n down)

  abbrev begins : Change
  begins = Put (now_name now.name) (now_bytes now)

  abbrev back : List Change
  back = removals before.name before.period

  -- the changes before the put of the now file
  abbrev first : List Change
  first = front ++ (gone ++ puts)

  whole : next_changes before now down lanes ≡ first ++ begins ∷ back
  whole =
      ap (λ (cs : List Change). front ++ cs)
      (append_assoc gone (puts ++ begins ∷ []) back ∙ ap (λ (cs : List Change). gone ++ cs) (append_assoc puts (begins ∷ []) back) ∙ sym (append_assoc gone puts (begins ∷ back)))
      ∙ sym (append_assoc front (gone ++ puts) (begins ∷ back))

  small : now.period < 2 ^ 64
  small = omega (arith, next.is.period_fits)

  low : before.period < 2 ^ 64
  low = omega (arith, next.was.period_fits)

  -- ---- what was is left
  -- a change of a share file of another period than the one that ends
  record IsOther (c : Change) : Type 0 where
    period : ℕ
    fits : period < 2 ^ 64
    apart : period ≢ before.period
    of : OfPeriod before.name period c

  new_other : (c : Change) → OfPeriod now.name now.period c → IsOther c
  new_other c o = record {
    period = now.period;
    fits = small;
    apart = λ e. omega (arith, e, next.period);
    of = record { index = o.index; is = o.is ∙ ap (λ (name : List ℕ). share_name name now.period o.index) next.name };
  }

  put_of : (c : Change) → Among c puts → OfPeriod now.name now.period c
  put_of c among =
      let r = among_map (λ j. put_with now j (lanes j)) c (up_members now.n down) among in
      record { index = r.0; is = ap change_name (sym r.2) }

  first_other : (c : Change) → Among c first → IsOther c
  first_other c among =
      elim (among_append c front (gone ++ puts) among) [
        | inl left ↦ record {
          period = before.period - 1;
          fits = omega (arith, low);
          apart = λ e. omega (arith, e, next.was.period);
          of = removal_of before.name (before.period - 1) c left;
        }
        | inr rest ↦ elim (among_append c gone puts rest) [
          | inl removed_one ↦ new_other c (removal_of now.name now.period c removed_one)
          | inr put ↦ new_other c (put_of c put)
        ]
      ]

  first_leaves : (count : ℕ) (held : Held) → IsLeft before held (after (take count first) held)
  first_leaves count held = record {
    now_file = untouched (take count first) held (now_name before.name)
        (λ c among e. let o = first_other c (among_take c count first among) in spares_now before.name o.period c o.of e);
    share_files = λ index. untouched (take count first) held (share_name before.name before.period index)
        (λ c among e. let o = first_other c (among_take c count first among) in spares_period before.name o.period before.period index c o.fits low o.apart o.of e);
  }

  -- ---- the next period has begun
  -- the removals behind the put of the now file
  module _ (left : ℕ) (held : Held) where
    behind_of : (c : Change) → Among c (take left back) → OfPeriod now.name before.period c
    behind_of c among =
        let o = removal_of before.name before.period c (among_take c left back among) in
        record { index = o.index; is = o.is ∙ ap (λ (name : List ℕ). share_name name before.period o.index) (sym next.name) }

    abbrev begun : Held
    begun = after (first ++ begins ∷ take left back) held

    now_there : get begun (now_name now.name) ≡ Some (now_bytes now)
    now_there =
        ap (λ (m : Held). get m (now_name now.name)) (after_append first (begins ∷ take left back) held)
        ∙ untouched (take left back) (insert (after first held) (now_name now.name) (now_bytes now)) (now_name now.name)
        (λ c among e. spares_now now.name before.period c (behind_of c among) e)
        ∙ put_is_there (now_name now.name) (now_bytes now) (after first held)

    -- a change from the put of the now file on touches no share file of the next period
    spares_new : (index : ℕ) (c : Change) → Among c (begins ∷ take left back) → share_name now.name now.period index ≡ change_name c → ⊥
    spares_new index c (inl is) e = names_apart now.name now.period index (sym (e ∙ ap change_name (sym is)))
    spares_new index c (inr among) e =
        spares_period now.name before.period now.period index c low small (λ same. omega (arith, same, next.period)) (behind_of c among) e

    abbrev cleared : Held
    cleared = after gone (after front held)

    within : (k : ℕ) → Among k (up_members now.n down) → k < 2 ^ 64
    within k among =
        let r = range_has 1 now.n k (among_filter (λ i. not (down i)) k (range_with_len 1 now.n) among).0 in
        omega (arith, r.1, small_size now.n next.is.size)

    -- what the puts make of one share file
    share_by : (j : ℕ) (b : Bool) → down j ≡ b → 1 ≤ j → j ≤ now.n → get (after puts cleared) (share_name now.name now.period j) ≡ cond b None (Some (share_bytes (share_with now j (lanes j))))
    share_by j true is from to =
        untouched puts cleared (share_name now.name now.period j)
        (λ c among e.
        let r = among_map (λ i. put_with now i (lanes i)) c (up_members now.n down) among in
        let k : j ≡ r.0 = one_index now.name now.period j r.0 (omega (arith, to, small_size now.n next.is.size)) (within r.0 r.1) (e ∙ ap change_name (sym r.2)) in
        let up : down r.0 ≡ false = not-true (down r.0) (among_filter (λ i. not (down i)) r.0 (range_with_len 1 now.n) r.1).1 in
        let both : true ≡ false = sym is ∙ ap down k ∙ up in
        absurd (cc))
        ∙ removed (share_name now.name now.period) (range_with_len 1 15) (after front held) (share_name now.name now.period j) j
        (among_range 1 15 j from (omega (arith, to, small_size now.n next.is.size))) refl
    share_by j false is from to =
        puts_are_there (share_name now.name now.period) (λ i. share_bytes (share_with now i (lanes i))) (up_members now.n down) cleared j
        (among_into_filter (λ i. not (down i)) j (range_with_len 1 now.n) (ap not is) (among_range 1 now.n j from (omega (arith, to))))
        (λ k among e.
        ap (λ i. share_bytes (share_with now i (lanes i))) (sym (one_index now.name now.period j k (omega (arith, to, small_size now.n next.is.size)) (within k among) e)))

    has_begun : HasBegun now down lanes (after (first ++ begins ∷ take left back) held)
    has_begun = record {
      now_file = now_there;
      share_files = λ j from to.
          ap (λ (m : Held). get m (share_name now.name now.period j)) (after_append first (begins ∷ take left back) held)
          ∙ untouched (begins ∷ take left back) (after first held) (share_name now.name now.period j) (λ c among e. spares_new j c among e)
          ∙ ap (λ (m : Held). get m (share_name now.name now.period j)) (after_append front (gone ++ puts) held ∙ after_append gone puts (after front held))
          ∙ share_by j (down j) refl from to;
    }

  early_part : (count : ℕ) → count ≤ length first → take count (next_changes before now down lanes) ≡ take count first
  early_part count le = ap (take count) whole ∙ take-append-le count first (begins ∷ back) le

  late_part : (count left : ℕ) → count ≡ length first + suc left → take count (next_changes before now down lanes) ≡ first ++ begins ∷ take left back
  late_part count left at =
      ap (λ (k : ℕ). take k (next_changes before now down lanes)) at
      ∙ ap (take (length first + suc left)) whole
      ∙ take-append-add first (begins ∷ back) (suc left)

  goes_on : (held : Held) → GoesOn before now down lanes (next_changes before now down lanes) held
  goes_on held = record {
    place = length first;
    there = omega (arith, ap length whole, length-append first (begins ∷ back));
    early = λ count le. subst (λ (cs : List Change). IsLeft before held (after cs held)) (sym (early_part count le)) (first_leaves count held);
    late = λ count lt.
        let left : ℕ = count - length first - 1 in
        let at : count ≡ length first + suc left = omega (arith, lt) in
        subst (λ (cs : List Change). HasBegun now down lanes (after cs held)) (sym (late_part count left at)) (has_begun left held);
  }

pub periods_go_on : PeriodsGoOn
periods_go_on before now down lanes held next = goes_on before now down lanes next held

-- ---- what a period that has begun tells
module _ (now : Now) (down : ℕ → Bool) (lanes : ℕ → List Fp) (held : Held) (is : IsNow now) (begun : HasBegun now down lanes held) where
  -- the now file is read
  pub begun_now : (name : List ℕ) → now.name ≡ name → now_of name held ≡ Ok now
  begun_now name named =
      ap (λ (k : List ℕ). now_step name (get held (now_name k))) (sym named) ∙ ap (now_step name) begun.now_file
      ∙ ap (now_named name) (now_again now is)
      ∙ ap (λ (b : Bool). let r : Result Now Status = cond b (Ok now) (Err (BadNow (Field 16))) in r) ((bytes_eq-Decides now.name name).1 named)

  -- who isn't down has a valid share file, with its lanes
  pub begun_share : (j : ℕ) → 1 ≤ j → j ≤ now.n → length (lanes j) ≡ 5 → down j ≡ false → HasShare now held j (share_with now j (lanes j))
  begun_share j from to five up =
      put_is_valid now j (lanes j) held is five from to
      (begun.share_files j from to ∙ ap (λ (b : Bool). let o : Option (List ℕ) = cond b None (Some (share_bytes (share_with now j (lanes j)))) in o) up)

  -- and nobody else has one
  pub record IsBegun (j : ℕ) (file : Share) : Type 0 where
    pub up : down j ≡ false
    pub has : file.lanes ≡ lanes j

  begun_by : (j : ℕ) (file : Share) (b : Bool) → down j ≡ b → 1 ≤ j → j ≤ now.n → length (lanes j) ≡ 5 → HasShare now held j file → IsBegun j file
  begun_by j file true is_down from to five has =
      let none : get held (share_name now.name now.period j) ≡ None =
      begun.share_files j from to ∙ ap (λ (b : Bool). let o : Option (List ℕ) = cond b None (Some (share_bytes (share_with now j (lanes j)))) in o) is_down in
      absurd (let e = sym (ap (share_step now j) none) ∙ has in cc)
  begun_by j file false is_down from to five has =
      let same : share_with now j (lanes j) ≡ file = let e = sym (begun_share j from to five is_down) ∙ has in cc in
      record { up = is_down; has = ap (λ (f : Share). f.lanes) (sym same) }

  pub begun_file : (j : ℕ) (file : Share) → 1 ≤ j → j ≤ now.n → length (lanes j) ≡ 5 → HasShare now held j file → IsBegun j file
  begun_file j file from to five has = begun_by j file (down j) refl from to five has
