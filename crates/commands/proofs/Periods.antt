-- The share files that the changes of a period put.
use Rattle.std.proofs.Common.{◌≡◌, inl, inr, ℕ, ◌+◌, ◌≤◌, Bool, true, false, cond, not, List, [], ◌∷◌, ◌++◌, length, map, Option, Some, None, IfSome, Ok, refl, sym, ap, ◌∙◌, arith, length-append, append_assoc, codes, decimal, subst}
use Rattle.std.specs.List.{range_with_len}
use Rattle.std.specs.FinMap.{get}
use Rattle.std.specs.Option.{option_eq}
use Rattle.std.specs.Str.{bytes_eq}
use Rattle.std.proofs.lemmas.Bool.{not-true, eq-eqb}
use Rattle.std.proofs.lemmas.Slice.Eq.{bytes_eq-Decides}
use Rattle.std.proofs.lemmas.Bool.Decides.{nat_tests}
use Rattle.algebra61.specs.Field.{Fp}
use Rattle.shelf.specs.Held.{Held, Change, Put, after}
use Rattle.sharefile.specs.declared.link.Link.{Link}
use Rattle.sharefile.specs.Files.{Now, IsNow, IsLink, committee_of, Share, IsShare, now_bytes, share_bytes}
use Rattle.sizes.specs.Committees.{is_size, is_library_size}
use Rattle.sharefile.specs.Reading.{share_at}
use Rattle.sharefile.proofs.NowLaws.{length-committee_digest}
use Rattle.sharefile.proofs.ShareLaws.{share_again}
use Rattle.keyroom.specs.Names.{now_name, share_name}
use Rattle.keyroom.specs.declared.steps.Found.TheVariants.{Invalid, Valid}
use Rattle.keyroom.specs.Steps.{is_asked, share_asked, share_step, HasShare}
use Rattle.keyroom.proofs.Valid.{step_held, valid_held}
use Rattle.commands.specs.Period.{removal, removals, share_with, put_with, up_members, period_changes}
use Rattle.commands.specs.Agreement.{Among, PutsShare}
use Rattle.commands.proofs.Committees.{small_size}
use Rattle.commands.proofs.Shelves.{among_append, among_behind, among_map, among_filter, among_range, range_has, after_append, put_or_before, removed}

-- ---- a share file that is put
library_size : (n : ℕ) → is_size n ≡ true → is_library_size n ≡ true
library_size n is = grind (arith, nat_tests)

-- the digest of the committee, where there is one, is one
abbrev pub IsTied : Option (List ℕ) → Type 0
IsTied digest = IfSome digest (λ bytes. length bytes ≡ 32)

tied_link : (name : List ℕ) (n t period next : ℕ) (link : Option Link) → IfSome link (IsLink name n t period) → IsTied (committee_of (record { name = name; n = n; t = t; period = period; next_number = next; link = link }))
tied_link name n t period next None is = tt
tied_link name n t period next (Some link) is = ap length is.committee ∙ length-committee_digest name n t period link.holders link.previous

tied : (now : Now) → IsNow now → IsTied (committee_of now)
tied now is = tied_link now.name now.n now.t now.period now.next_number now.link is.link

with_is_share : (now : Now) (k : ℕ) (lanes : List Fp) → IsNow now → length lanes ≡ 5 → 1 ≤ k → k ≤ now.n → IsShare (share_with now k lanes)
with_is_share now k lanes is five from to = record {
  name = is.name;
  size = library_size now.n is.size;
  bound = is.bound;
  index = grind (arith, nat_tests);
  period = is.period;
  period_fits = is.period_fits;
  lanes = five;
  committee = tied now is;
}

-- the name of a share file is no now file's
pub names_apart : (name : List ℕ) (period j : ℕ) → now_name name ≡ share_name name period j → ⊥
names_apart name period j e =
    let a : length (name ++ codes ".now") ≡ length name + 4 = length-append name (codes ".now") in
    let b = length-append name (codes "." ++ (decimal period ++ (codes "." ++ (decimal j ++ codes ".share")))) in
    let c = length-append (decimal period) (codes "." ++ (decimal j ++ codes ".share")) in
    let d = length-append (decimal j) (codes ".share") in
    omega (arith, ap length e, a, b, c, d)

put_bytes : (a b x y : List ℕ) → Put a x ≡ Put b y → (a ≡ b) × (x ≡ y)
put_bytes a b x y e = (cc, cc)

-- a removal is no put
removal_no_put : (name : List ℕ) (period j : ℕ) (q bytes : List ℕ) → removal name period j ≡ Put q bytes → ⊥
removal_no_put name period j q bytes e = cc

-- changes that put nothing
abbrev pub PutsNothing : List Change → Type 0
PutsNothing changes = (q bytes : List ℕ) → Among (Put q bytes) changes → ⊥

pub removals_put_nothing : (name : List ℕ) (period : ℕ) → PutsNothing (removals name period)
removals_put_nothing name period q bytes h = let r = among_map (removal name period) _ (range_with_len 1 15) h in removal_no_put name period r.0 q bytes r.2

-- the changes of a period, with others before and behind that put nothing
module _ (now : Now) (is : IsNow now) (down : ℕ → Bool) (lanes : ℕ → List Fp) (five : (j : ℕ) → length (lanes j) ≡ 5)
    (front back : List Change) (none_before : PutsNothing front) (none_behind : PutsNothing back) (link : Option Link) where
  -- the file is that of a member that isn't down, with its lanes
  pub record IsMade (j : ℕ) (file : Share) : Type 0 where
    pub up : down j ≡ false
    pub has : file.lanes ≡ lanes j

  abbrev puts : List Change
  puts = map (λ j. put_with now j (lanes j)) (up_members now.n down)

  abbrev last : List Change
  last = Put (now_name now.name) (now_bytes now) ∷ []

  -- all of them
  abbrev pub around : List Change
  around = front ++ (period_changes now down lanes ++ back)

  among_puts : (j : ℕ) (bytes : List ℕ) (file : Share) → share_at bytes ≡ Ok file → file.index ≡ j → Among (Put (share_name now.name now.period j) bytes) puts → IsMade j file
  among_puts j bytes file read index h =
      let r = among_map (λ i. put_with now i (lanes i)) _ (up_members now.n down) h in
      let k : ℕ = r.0 in
      let up = among_filter (λ i. not (down i)) k (range_with_len 1 now.n) r.1 in
      let within = range_has 1 now.n k up.0 in
      let same = put_bytes _ _ _ _ r.2 in
      let again : share_at (share_bytes (share_with now k (lanes k))) ≡ Ok (share_with now k (lanes k)) = share_again (share_with now k (lanes k)) (with_is_share now k (lanes k) is (five k) within.0 (omega (arith, within.1))) in
      let one : share_with now k (lanes k) ≡ file = cc (sym again ∙ ap share_at same.1 ∙ read) in
      let at : k ≡ j = ap (λ (f : Share). f.index) one ∙ index in
      record {
        up = ap down (sym at) ∙ not-true (down k) up.1;
        has = ap (λ (f : Share). f.lanes) (sym one) ∙ ap lanes at;
      }

  among_made : (j : ℕ) (bytes : List ℕ) (file : Share) → share_at bytes ≡ Ok file → file.index ≡ j → Among (Put (share_name now.name now.period j) bytes) (puts ++ last) → IsMade j file
  among_made j bytes file read index h =
      elim (among_append _ puts last h) [
        | inl shares ↦ among_puts j bytes file read index shares
        | inr end ↦ elim end [
          | inl same ↦ absurd (names_apart now.name now.period j (put_bytes _ _ _ _ same).0)
          | inr none ↦ absurd none
        ]
      ]

  among_period : (j : ℕ) (bytes : List ℕ) (file : Share) → share_at bytes ≡ Ok file → file.index ≡ j → Among (Put (share_name now.name now.period j) bytes) (period_changes now down lanes) → IsMade j file
  among_period j bytes file read index h =
      elim (among_append _ (removals now.name now.period) (puts ++ last) h) [
        | inl gone ↦ absurd (removals_put_nothing now.name now.period _ _ gone)
        | inr made ↦ among_made j bytes file read index made
      ]

  among_around : (j : ℕ) (bytes : List ℕ) (file : Share) → share_at bytes ≡ Ok file → file.index ≡ j → Among (Put (share_name now.name now.period j) bytes) around → IsMade j file
  among_around j bytes file read index h =
      elim (among_append _ front (period_changes now down lanes ++ back) h) [
        | inl before ↦ absurd (none_before _ _ before)
        | inr rest ↦ elim (among_append _ (period_changes now down lanes) back rest) [
          | inl made ↦ among_period j bytes file read index made
          | inr behind ↦ absurd (none_behind _ _ behind)
        ]
      ]

  -- a valid share file that the changes put
  pub put_file : (j : ℕ) (file : Share) → PutsShare (record now { link = link }) around j file → IsMade j file
  put_file j file puts =
      let v = step_held (record now { link = link }) j (Some puts.bytes) file puts.valid in
      let same : v.bytes ≡ puts.bytes = let e = v.is in cc in
      among_around j puts.bytes file (ap share_at (sym same) ∙ v.read) v.index puts.among

  left_out : (held : Held) (j : ℕ) → 1 ≤ j → j ≤ now.n → get (after (removals now.name now.period) held) (share_name now.name now.period j) ≡ None
  left_out held j from to =
      removed (share_name now.name now.period) (range_with_len 1 15) held (share_name now.name now.period j) j
      (among_range 1 15 j from (omega (arith, to, small_size now.n is.size))) refl

  -- a valid share file that is held after all changes was put
  pub held_was_put : (held : Held) (j : ℕ) (file : Share) → 1 ≤ j → j ≤ now.n → HasShare (record now { link = link }) (after around held) j file → PutsShare (record now { link = link }) around j file
  held_was_put held j file from to valid =
      let v = valid_held (record now { link = link }) (after around held) j file valid in
      let begun : Held = after front held in
      let gone : List Change = removals now.name now.period in
      let rest : List Change = (puts ++ last) ++ back in
      let split : after around held ≡ after rest (after gone begun) =
      after_append front (period_changes now down lanes ++ back) held
      ∙ ap (λ (cs : List Change). after cs begun) (append_assoc gone (puts ++ last) back)
      ∙ after_append gone rest begun in
      let here = put_or_before rest (after gone begun) (share_name now.name now.period j) v.bytes (ap (λ (m : Held). get m (share_name now.name now.period j)) (sym split) ∙ v.is) in
      elim here [
        | inl among ↦ record {
          bytes = v.bytes;
          among = among_behind _ front (period_changes now down lanes ++ back) (subst (Among (Put (share_name now.name now.period j) v.bytes)) (sym (append_assoc gone (puts ++ last) back)) (among_behind _ gone rest among));
          valid = ap (share_step (record now { link = link }) j) (sym v.is) ∙ valid;
        }
        | inr before ↦ absurd (cc (sym (left_out begun j from to) ∙ before))
      ]

  -- what a valid share file holds after all changes
  pub held_made : (held : Held) (j : ℕ) (file : Share) → 1 ≤ j → j ≤ now.n → HasShare (record now { link = link }) (after around held) j file → IsMade j file
  held_made held j file from to valid = put_file j file (held_was_put held j file from to valid)

-- ---- a share file that is put is valid
same_digest : (digest : Option (List ℕ)) → option_eq bytes_eq digest digest ≡ true
same_digest None = refl
same_digest (Some bytes) = (bytes_eq-Decides bytes bytes).1 refl

pub put_is_valid : (now : Now) (j : ℕ) (lanes : List Fp) (held : Held) → IsNow now → length lanes ≡ 5 → 1 ≤ j → j ≤ now.n → get held (share_name now.name now.period j) ≡ Some (share_bytes (share_with now j lanes)) →
    HasShare now held j (share_with now j lanes)
put_is_valid now j lanes held is five from to there =
    let file : Share = share_with now j lanes in
    let again : share_at (share_bytes file) ≡ Ok file = share_again file (with_is_share now j lanes is five from to) in
    let asked : is_asked now j file ≡ true =
    rw ((bytes_eq-Decides now.name now.name).1 refl, eq-eqb now.period now.period refl, eq-eqb now.n now.n refl, eq-eqb now.t now.t refl, same_digest (committee_of now), eq-eqb j j refl) refl in
    ap (share_step now j) there ∙ ap (share_asked now j) again ∙ ap (λ (b : Bool). cond b (Valid file) Invalid) asked
