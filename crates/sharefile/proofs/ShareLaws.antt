-- A share file that is read is the one that was written, and what was written is read again.
use Rattle.std.proofs.Common.{◌≡◌, ◌≢◌, ℕ, ◌+◌, ◌-◌, ◌*◌, ◌<◌, ◌≤◌, ◌^◌, Bool, true, false, cond, List, [], ◌∷◌, ◌++◌, length, take, drop, Option, Some, None, IfSome, is_some, Result, Ok, Err, refl, sym, ap, subst, ◌∙◌, arith}
use Rattle.std.specs.Prelude.{not, nat_lt, ◌==◌, slice_index, slice_range, IfOk, IsTrue}
use Rattle.std.specs.List.{flat_map}
use Rattle.std.specs.Int.{w32, w64, to_be_bytes, from_be_bytes}
use Rattle.std.proofs.lemmas.Bool.{eqb-true, eqb-false, ne_eqb, ltb-true, lt-ltb}
use Rattle.std.proofs.lemmas.List.{take-append-drop, take_at, drop_at, take_all, drop_all, drop-drop, length-drop, length-append}
use Rattle.std.proofs.lemmas.Nat.{from_be_bytes-to_be_bytes_4, from_be_bytes-to_be_bytes_8}
use Rattle.algebra61.specs.Field.{Fp, fe, fe-num, Prime}
use Rattle.algebra61.proofs.Ring.{num-fe_small}
use Rattle.sharefile.specs.declared.fault.FileFault.{FileFault}
use Rattle.sharefile.specs.Names.{padded, is_key_name}
use Rattle.sharefile.specs.Files.{Share, IsShare, lane_bytes, committee_bytes, share_magic, share_head, share_bytes, signed, version}
use Rattle.sizes.specs.Committees.{is_library_size, is_bound, is_index}
use Rattle.sharefile.specs.Reading.{◌>>=◌, head_at, share_fields_at, committee_at, share_at, whole, is_version, field_number, name_at, lane_at, three_lanes_at, lanes_at, IsRead}
use Rattle.sharefile.proofs.NameLaws.{length-padded, name_taken, name_again}
use Rattle.sharefile.proofs.Steps.{passed, bind_ok, holds, IsBytes, IsBytes-take, byte_at, number_at, number_8_at, number_below, digest_at, second, HeadOf, head_of, head_opens, head_again}

-- ---- lanes

kept : (b : Bool) (x y : Fp) (e : FileFault) → cond b (Ok x) (Err e) ≡ Ok y → (b ≡ true) × (x ≡ y)
kept true x y e p = (refl, cc)
kept false x y e p = absurd cc

-- a lane, and what follows
lane_taken : (place : ℕ) (head : List ℕ) (x : Fp) → IsBytes head → place + 8 ≤ length head → lane_at place head ≡ Ok x → drop place head ≡ lane_bytes x ++ drop (place + 8) head
lane_taken place head x fits room e =
    let n : ℕ = from_be_bytes w64 (slice_range head place (place + 8)) in
    let k = kept (nat_lt n Prime) (fe n) x _ e in
    let number : x.num ≡ n = ap (λ (y : Fp). y.num) (sym k.1) ∙ num-fe_small n (ltb-true n Prime k.0) in
    number_8_at head place fits room ∙ ap (λ (m : ℕ). to_be_bytes w64 m ++ drop (place + 8) head) (sym number)

-- a lane that was written is read
lane_again : (place : ℕ) (head : List ℕ) (x : Fp) → slice_range head place (place + 8) ≡ lane_bytes x → lane_at place head ≡ Ok x
lane_again place head x e =
    let small : x.num < 2 ^ 64 = omega (arith, x.below) in
    let number : from_be_bytes w64 (slice_range head place (place + 8)) ≡ x.num = ap (from_be_bytes w64) e ∙ from_be_bytes-to_be_bytes_8 x.num small in
    rw (number, lt-ltb x.num Prime x.below, fe-num x) refl

-- the five lanes are 40 bytes
lanes_taken : (head : List ℕ) (lanes : List Fp) → IsBytes head → 84 ≤ length head → lanes_at head ≡ Ok lanes → (length lanes ≡ 5) × (drop 44 head ≡ flat_map lane_bytes lanes ++ drop 84 head)
unfolding lanes_at three_lanes_at
lanes_taken head lanes fits long e =
    let front = bind_ok (three_lanes_at 44 head) (λ front. lane_at 68 head >>= λ d. lane_at 76 head >>= λ e. Ok (front ++ d ∷ e ∷ [])) lanes e in
    let a = bind_ok (lane_at 44 head) (λ a. lane_at 52 head >>= λ b. lane_at 60 head >>= λ c. Ok (a ∷ b ∷ c ∷ [])) front.0 front.1 in
    let b = bind_ok (lane_at 52 head) (λ b. lane_at 60 head >>= λ c. Ok (a.0 ∷ b ∷ c ∷ [])) front.0 a.2 in
    let c = bind_ok (lane_at 60 head) (λ c. Ok (a.0 ∷ b.0 ∷ c ∷ [])) front.0 b.2 in
    let d = bind_ok (lane_at 68 head) (λ d. lane_at 76 head >>= λ e. Ok (front.0 ++ d ∷ e ∷ [])) lanes front.2 in
    let f = bind_ok (lane_at 76 head) (λ e. Ok (front.0 ++ d.0 ∷ e ∷ [])) lanes d.2 in
    let first : a.0 ∷ b.0 ∷ c.0 ∷ [] ≡ front.0 = cc (c.2) in
    let all : front.0 ++ d.0 ∷ f.0 ∷ [] ≡ lanes = cc (f.2) in
    let same : a.0 ∷ b.0 ∷ c.0 ∷ d.0 ∷ f.0 ∷ [] ≡ lanes = ap (λ (t : List Fp). t ++ d.0 ∷ f.0 ∷ []) first ∙ all in
    let rest : List ℕ = drop 84 head in
    let tail76 : drop 76 head ≡ lane_bytes f.0 ++ rest = lane_taken 76 head f.0 fits (omega (arith, long)) f.1 in
    let tail68 : drop 68 head ≡ lane_bytes d.0 ++ (lane_bytes f.0 ++ rest) = lane_taken 68 head d.0 fits (omega (arith, long)) d.1 ∙ ap (λ (t : List ℕ). lane_bytes d.0 ++ t) tail76 in
    let tail60 : drop 60 head ≡ lane_bytes c.0 ++ (lane_bytes d.0 ++ (lane_bytes f.0 ++ rest)) = lane_taken 60 head c.0 fits (omega (arith, long)) c.1 ∙ ap (λ (t : List ℕ). lane_bytes c.0 ++ t) tail68 in
    let tail52 : drop 52 head ≡ lane_bytes b.0 ++ (lane_bytes c.0 ++ (lane_bytes d.0 ++ (lane_bytes f.0 ++ rest))) = lane_taken 52 head b.0 fits (omega (arith, long)) b.1 ∙ ap (λ (t : List ℕ). lane_bytes b.0 ++ t) tail60 in
    let tail44 : drop 44 head ≡ lane_bytes a.0 ++ (lane_bytes b.0 ++ (lane_bytes c.0 ++ (lane_bytes d.0 ++ (lane_bytes f.0 ++ rest)))) = lane_taken 44 head a.0 fits (omega (arith, long)) a.1 ∙ ap (λ (t : List ℕ). lane_bytes a.0 ++ t) tail52 in
    subst (λ (ls : List Fp). (length ls ≡ 5) × (drop 44 head ≡ flat_map lane_bytes ls ++ drop 84 head)) same (refl, tail44)

length-lanes : (lanes : List Fp) → length (flat_map lane_bytes lanes) ≡ length lanes * 8
length-lanes [] = refl
length-lanes (x ∷ lanes) = length-append (lane_bytes x) (flat_map lane_bytes lanes) ∙ omega (arith, length-lanes lanes)

-- lanes that were written are read
lanes_again : (head rest : List ℕ) (lanes : List Fp) → length lanes ≡ 5 → drop 44 head ≡ flat_map lane_bytes lanes ++ rest → lanes_at head ≡ Ok lanes
unfolding lanes_at three_lanes_at
lanes_again head rest (a ∷ b ∷ c ∷ d ∷ e ∷ []) five at44 =
    let at52 : drop 52 head ≡ flat_map lane_bytes (b ∷ c ∷ d ∷ e ∷ []) ++ rest = sym (drop-drop 8 44 head) ∙ ap (drop 8) at44 in
    let at60 : drop 60 head ≡ flat_map lane_bytes (c ∷ d ∷ e ∷ []) ++ rest = sym (drop-drop 8 52 head) ∙ ap (drop 8) at52 in
    let at68 : drop 68 head ≡ flat_map lane_bytes (d ∷ e ∷ []) ++ rest = sym (drop-drop 8 60 head) ∙ ap (drop 8) at60 in
    let at76 : drop 76 head ≡ flat_map lane_bytes (e ∷ []) ++ rest = sym (drop-drop 8 68 head) ∙ ap (drop 8) at68 in
    rw (lane_again 44 head a (ap (take 8) at44), lane_again 52 head b (ap (take 8) at52), lane_again 60 head c (ap (take 8) at60), lane_again 68 head d (ap (take 8) at68), lane_again 76 head e (ap (take 8) at76)) refl
lanes_again head rest [] five at44 = absurd (omega (arith, five))
lanes_again head rest (a ∷ []) five at44 = absurd (omega (arith, five))
lanes_again head rest (a ∷ b ∷ []) five at44 = absurd (omega (arith, five))
lanes_again head rest (a ∷ b ∷ c ∷ []) five at44 = absurd (omega (arith, five))
lanes_again head rest (a ∷ b ∷ c ∷ d ∷ []) five at44 = absurd (omega (arith, five))
lanes_again head rest (a ∷ b ∷ c ∷ d ∷ e ∷ f ∷ more) five at44 = absurd (omega (arith, five))

-- ---- what both versions have

whole_long : (head : List ℕ) → length head ≡ whole 116 (slice_index head 4) - 32 → 84 ≤ length head
whole_long head long = elim (slice_index head 4 == 1) as (λ b. length head ≡ cond b 116 148 - 32 → 84 ≤ length head) [ true ↦ λ e. omega (arith, e) | false ↦ λ e. omega (arith, e) ] long

-- the fields that were read, with their ranges, and the bytes that they stand in
record FieldsTaken (head : List ℕ) (f : Share) : Type 0 where
  name : IsTrue (is_key_name f.name)
  size : IsTrue (is_library_size f.n)
  bound : IsTrue (is_bound f.n f.t)
  index : IsTrue (is_index f.n f.index)
  period : 1 ≤ f.period
  period_is : f.period ≡ field_number head 8
  five : length f.lanes ≡ 5
  byte5 : slice_index head 5 ≡ f.n
  byte6 : slice_index head 6 ≡ f.t
  byte7 : slice_index head 7 ≡ f.index
  padding : slice_range head 12 44 ≡ padded f.name
  lanes : drop 44 head ≡ flat_map lane_bytes f.lanes ++ drop 84 head

fields_taken : (head : List ℕ) (f : Share) → IsBytes head → 84 ≤ length head → share_fields_at head ≡ Ok f → FieldsTaken head f
unfolding share_fields_at
fields_taken head f fits long e =
    let a = passed (not (is_library_size (slice_index head 5))) _ _ f e in
    let b = passed (not (is_bound (slice_index head 5) (slice_index head 6))) _ _ f a.1 in
    let c = passed (not (is_index (slice_index head 5) (slice_index head 7))) _ _ f b.1 in
    let d = passed (field_number head 8 == 0) _ _ f c.1 in
    let n = bind_ok (name_at 12 head) (λ name. lanes_at head >>= λ lanes. Ok (record { name = name; n = slice_index head 5; t = slice_index head 6; index = slice_index head 7; period = field_number head 8; lanes = lanes; committee = None })) f d.1 in
    let l = bind_ok (lanes_at head) (λ lanes. Ok (record { name = n.0; n = slice_index head 5; t = slice_index head 6; index = slice_index head 7; period = field_number head 8; lanes = lanes; committee = None })) f n.2 in
    let named = name_taken 12 head n.0 n.1 in
    let five = lanes_taken head l.0 fits long l.1 in
    let positive : field_number head 8 ≢ 0 = eqb-false _ _ d.0 in
    let made : Share = record { name = n.0; n = slice_index head 5; t = slice_index head 6; index = slice_index head 7; period = field_number head 8; lanes = l.0; committee = None } in
    let same : made ≡ f = cc (l.2) in
    let taken : FieldsTaken head made = record {
      name = named.0;
      size = holds _ a.0;
      bound = holds _ b.0;
      index = holds _ c.0;
      period = omega arith;
      period_is = refl;
      five = five.0;
      byte5 = refl;
      byte6 = refl;
      byte7 = refl;
      padding = named.1;
      lanes = five.1;
    } in
    subst (FieldsTaken head) same taken

-- the head is these bytes, and what is behind the lanes
head_is : (head : List ℕ) (f : Share) → IsBytes head → 84 ≤ length head → take 4 head ≡ share_magic → FieldsTaken head f →
    head ≡ 68 ∷ 75 ∷ 83 ∷ 72 ∷ slice_index head 4 ∷ f.n ∷ f.t ∷ f.index ∷ to_be_bytes w32 f.period ++ (padded f.name ++ (flat_map lane_bytes f.lanes ++ drop 84 head))
head_is head f fits long front k =
    let tail12 : drop 12 head ≡ padded f.name ++ (flat_map lane_bytes f.lanes ++ drop 84 head) = digest_at head 12 ∙ ap (λ (t : List ℕ). t ++ drop 44 head) k.padding ∙ ap (λ (t : List ℕ). padded f.name ++ t) k.lanes in
    let tail8 : drop 8 head ≡ to_be_bytes w32 f.period ++ (padded f.name ++ (flat_map lane_bytes f.lanes ++ drop 84 head)) =
    number_at head 8 fits (omega (arith, long)) ∙ ap (λ (m : ℕ). to_be_bytes w32 m ++ drop 12 head) (sym k.period_is) ∙ ap (λ (t : List ℕ). to_be_bytes w32 f.period ++ t) tail12 in
    let tail4 : drop 4 head ≡ slice_index head 4 ∷ f.n ∷ f.t ∷ f.index ∷ drop 8 head = rw (byte_at head 4 (omega (arith, long)), byte_at head 5 (omega (arith, long)), byte_at head 6 (omega (arith, long)), byte_at head 7 (omega (arith, long)), k.byte5, k.byte6, k.byte7) refl in
    sym (take-append-drop 4 head) ∙ ap (λ (t : List ℕ). t ++ drop 4 head) front ∙ ap (λ (t : List ℕ). 68 ∷ 75 ∷ 83 ∷ 72 ∷ t) (tail4 ∙ ap (λ (t : List ℕ). slice_index head 4 ∷ f.n ∷ f.t ∷ f.index ∷ t) tail8)

-- ---- the committee's digest

-- the digest that was read, and the bytes behind the lanes
record CommitteeTaken (head : List ℕ) (committee : Option (List ℕ)) : Type 0 where
  is : IfSome committee (λ digest. length digest ≡ 32)
  version : slice_index head 4 ≡ version (is_some committee)
  behind : drop 84 head ≡ committee_bytes committee

committee_cases : (first : Bool) (head : List ℕ) → (slice_index head 4 == 1) ≡ first → is_version (slice_index head 4) ≡ true → length head ≡ cond first 116 148 - 32 → CommitteeTaken head (cond first None (Some (slice_range head 84 116)))
committee_cases true head one known long = record { is = tt; version = eqb-true _ _ one; behind = drop_all 84 head (omega (arith, long)) }
committee_cases false head two known long =
    let whole : drop 84 head ≡ slice_range head 84 116 = sym (take_all 32 (drop 84 head) (omega (arith, length-drop 84 head, long))) in
    record { is = ap length (sym whole) ∙ length-drop 84 head ∙ omega (arith, long); version = second (slice_index head 4) known two; behind = whole }

committee_taken : (head : List ℕ) → is_version (slice_index head 4) ≡ true → length head ≡ whole 116 (slice_index head 4) - 32 → CommitteeTaken head (committee_at head)
committee_taken head known long = committee_cases (slice_index head 4 == 1) head refl known long

-- ---- the share file

-- what is read has these bytes
share_taken : (bytes : List ℕ) (f : Share) → IsBytes bytes → share_at bytes ≡ Ok f → IsShare f × (bytes ≡ share_bytes f)
unfolding share_at
share_taken bytes f fits e =
    let b = bind_ok (head_at share_magic 116 bytes) (λ head. share_fields_at head >>= λ g. Ok (record g { committee = committee_at head })) f e in
    let o = head_opens share_magic 116 bytes b.0 b.1 in
    let h = head_of share_magic 116 bytes b.0 (omega arith) o in
    let g = bind_ok (share_fields_at b.0) (λ g. Ok (record g { committee = committee_at b.0 })) f b.2 in
    let inner : IsBytes b.0 = subst IsBytes o.cut (IsBytes-take (whole 116 (slice_index bytes 4) - 32) bytes fits) in
    let least : 84 ≤ length b.0 = whole_long b.0 h.long in
    let k = fields_taken b.0 g.0 inner least g.1 in
    let t = committee_taken b.0 h.version h.long in
    let made : Share = record g.0 { committee = committee_at b.0 } in
    let same : made ≡ f = cc (g.2) in
    let is : IsShare made = record {
      name = k.name;
      size = k.size;
      bound = k.bound;
      index = k.index;
      period = k.period;
      period_fits = subst (λ (m : ℕ). m < 2 ^ 32) (sym k.period_is) (number_below b.0 8 inner);
      lanes = k.five;
      committee = t.is;
    } in
    let spelled : b.0 ≡ share_head made = head_is b.0 g.0 inner least h.front k
    ∙ ap (λ (v : ℕ). 68 ∷ 75 ∷ 83 ∷ 72 ∷ v ∷ g.0.n ∷ g.0.t ∷ g.0.index ∷ to_be_bytes w32 g.0.period ++ (padded g.0.name ++ (flat_map lane_bytes g.0.lanes ++ drop 84 b.0))) t.version
    ∙ ap (λ (x : List ℕ). 68 ∷ 75 ∷ 83 ∷ 72 ∷ version (is_some (committee_at b.0)) ∷ g.0.n ∷ g.0.t ∷ g.0.index ∷ to_be_bytes w32 g.0.period ++ (padded g.0.name ++ (flat_map lane_bytes g.0.lanes ++ x))) t.behind in
    subst (λ h. IsShare h × (bytes ≡ share_bytes h)) same (is, o.parts ∙ ap signed spelled)

-- the fields of a head that was written are read
fields_made : (head : List ℕ) (f : Share) → IsShare f → slice_index head 5 ≡ f.n → slice_index head 6 ≡ f.t → slice_index head 7 ≡ f.index → field_number head 8 ≡ f.period → slice_range head 12 44 ≡ padded f.name → lanes_at head ≡ Ok f.lanes → share_fields_at head ≡ Ok (record f { committee = None })
unfolding share_fields_at
fields_made head f is n t index period name lanes =
    let positive : (f.period == 0) ≡ false = ne_eqb f.period 0 (let some = is.period in λ e. omega arith) in
    rw (n, t, index, is.size, is.bound, is.index, period, positive, name_again 12 head f.name is.name name, lanes) refl

-- the two versions
again : (g : Share) (committee : Option (List ℕ)) → length (committee_bytes committee) + 116 ≡ whole 116 (version (is_some committee)) → is_version (version (is_some committee)) ≡ true →
    committee_at (share_head (record g { committee = committee })) ≡ committee →
    IsShare (record g { committee = committee }) → share_at (share_bytes (record g { committee = committee })) ≡ Ok (record g { committee = committee })
unfolding share_at
again g committee room known there is =
    let f : Share = record g { committee = committee } in
    let behind : List ℕ = committee_bytes committee in
    let rest : List ℕ = flat_map lane_bytes g.lanes ++ behind in
    let wide = length-padded g.name is.name in
    let long : length (share_head f) ≡ whole 116 (version (is_some committee)) - 32 = omega (arith, length-append (padded g.name) rest, wide, length-append (flat_map lane_bytes g.lanes) behind, length-lanes g.lanes, is.lanes, room) in
    let opens : HeadOf share_magic 116 (share_head f) = record { front = refl; version = known; long = long } in
    let lanes : lanes_at (share_head f) ≡ Ok g.lanes = lanes_again (share_head f) behind g.lanes is.lanes (drop_at (padded g.name) rest 32 wide) in
    let fields : share_fields_at (share_head f) ≡ Ok (record g { committee = None }) = fields_made (share_head f) f is refl refl refl (from_be_bytes-to_be_bytes_4 g.period is.period_fits) (take_at (padded g.name) rest 32 wide) lanes in
    rw (head_again share_magic 116 (share_head f) (omega arith) opens, fields, there) refl

-- a digest that was written is read
digest_again : (g : Share) (digest : List ℕ) → IsShare (record g { committee = Some digest }) → slice_range (share_head (record g { committee = Some digest })) 84 116 ≡ digest
digest_again g digest is =
    let head : List ℕ = share_head (record g { committee = Some digest }) in
    let rest : List ℕ = flat_map lane_bytes g.lanes ++ digest in
    let at44 : drop 44 head ≡ rest = drop_at (padded g.name) rest 32 (length-padded g.name is.name) in
    let at84 : drop 84 head ≡ digest = sym (drop-drop 40 44 head) ∙ ap (drop 40) at44 ∙ drop_at (flat_map lane_bytes g.lanes) digest 40 (length-lanes g.lanes ∙ omega (arith, is.lanes)) in
    ap (take 32) at84 ∙ take_all 32 digest (omega (arith, is.committee))

by_version : (g : Share) (committee : Option (List ℕ)) → IsShare (record g { committee = committee }) → share_at (share_bytes (record g { committee = committee })) ≡ Ok (record g { committee = committee })
by_version g None is = again g None refl refl refl is
by_version g (Some digest) is = again g (Some digest) (omega (arith, is.committee)) refl (ap Some (digest_again g digest is)) is

-- what was written is read again
pub share_again : (f : Share) → IsShare f → share_at (share_bytes f) ≡ Ok f
share_again f is = by_version f f.committee is

-- what a reader found has these bytes
pub found : (bytes : List ℕ) (r : Result Share FileFault) → IsBytes bytes → IsRead (λ f. f) r (share_at bytes) → IfOk r (λ f. IsShare f × (bytes ≡ share_bytes f))
found bytes (Ok f) fits e = share_taken bytes f fits e
found bytes (Err e) fits h = tt
