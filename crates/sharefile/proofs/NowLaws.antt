-- A now file that is read is the one that was written, and what was written is read again.
use Rattle.std.proofs.Common.{◌≡◌, ◌≢◌, ℕ, ◌-◌, ◌<◌, ◌≤◌, ◌^◌, Bool, true, false, cond, List, [], ◌∷◌, ◌++◌, length, take, drop, Option, Some, None, IfSome, is_some, Result, Ok, Err, refl, sym, ap, subst, ◌∙◌, arith}
use Rattle.std.specs.Prelude.{not, ◌==◌, slice_index, slice_range, IfOk, IsTrue}
use Rattle.std.specs.Str.{bytes_eq}
use Rattle.std.specs.Int.{w32, to_be_bytes, from_be_bytes}
use Rattle.std.proofs.lemmas.Bool.{eqb-true, eqb-false, ne_eqb}
use Rattle.std.proofs.lemmas.Slice.Eq.{bytes_eq-Decides}
use Rattle.std.proofs.lemmas.List.{take-append-drop, take_at, drop_at, take_all, drop_all, drop-drop, length-append, length-drop}
use Rattle.std.proofs.lemmas.Nat.{from_be_bytes-to_be_bytes_4}
use Rattle.sha2.proofs.Facts256.{length-sha256}
use Rattle.sharefile.specs.declared.fault.FileFault.{FileFault}
use Rattle.sharefile.specs.declared.link.Link.{Link}
use Rattle.sharefile.specs.Names.{padded, is_key_name}
use Rattle.sharefile.specs.Files.{Now, IsNow, IsChecked, IsLink, now_magic, now_head, now_bytes, link_bytes, signed, version, are_holders, committee_digest}
use Rattle.sizes.specs.Committees.{is_size, is_bound}
use Rattle.sharefile.specs.Reading.{◌>>=◌, head_at, now_fields_at, linked_at, link_at, now_at, field_number, name_at, whole, is_version, IsRead}
use Rattle.sharefile.proofs.NameLaws.{length-padded, name_taken, name_again}
use Rattle.sharefile.proofs.Steps.{passed, bind_ok, holds, IsBytes, IsBytes-take, byte_at, number_at, number_below, digest_at, second, HeadOf, head_of, head_opens, head_again}

whole_long : (head : List ℕ) → length head ≡ whole 80 (slice_index head 4) - 32 → 48 ≤ length head
whole_long head long = elim (slice_index head 4 == 1) as (λ b. length head ≡ cond b 80 148 - 32 → 48 ≤ length head) [ true ↦ λ e. omega (arith, e) | false ↦ λ e. omega (arith, e) ] long

-- ---- what both versions have

-- the fields that were read, with their ranges, and the bytes that they stand in
record FieldsTaken (head : List ℕ) (f : Now) : Type 0 where
  name : IsTrue (is_key_name f.name)
  size : IsTrue (is_size f.n)
  bound : IsTrue (is_bound f.n f.t)
  period : 1 ≤ f.period
  period_is : f.period ≡ field_number head 8
  number_is : f.next_number ≡ field_number head 12
  alone : f.link ≡ None
  bytes : slice_index head 5 ≡ f.n
  bytes6 : slice_index head 6 ≡ f.t
  zero : slice_index head 7 ≡ 0
  padding : slice_range head 16 48 ≡ padded f.name

fields_taken : (head : List ℕ) (f : Now) → now_fields_at head ≡ Ok f → FieldsTaken head f
unfolding now_fields_at
fields_taken head f e =
    let a = passed (not (is_size (slice_index head 5))) _ _ f e in
    let b = passed (not (is_bound (slice_index head 5) (slice_index head 6))) _ _ f a.1 in
    let c = passed (not (slice_index head 7 == 0)) _ _ f b.1 in
    let d = passed (field_number head 8 == 0) _ _ f c.1 in
    let n = bind_ok (name_at 16 head) (λ name. Ok (record { name = name; n = slice_index head 5; t = slice_index head 6; period = field_number head 8; next_number = field_number head 12; link = None })) f d.1 in
    let named = name_taken 16 head n.0 n.1 in
    let positive : field_number head 8 ≢ 0 = eqb-false _ _ d.0 in
    let made : Now = record { name = n.0; n = slice_index head 5; t = slice_index head 6; period = field_number head 8; next_number = field_number head 12; link = None } in
    let same : made ≡ f = cc (n.2) in
    let taken : FieldsTaken head made = record {
      name = named.0;
      size = holds _ a.0;
      bound = holds _ b.0;
      period = omega arith;
      period_is = refl;
      number_is = refl;
      alone = refl;
      bytes = refl;
      bytes6 = refl;
      zero = eqb-true _ _ (holds _ c.0);
      padding = named.1;
    } in
    subst (FieldsTaken head) same taken

-- the head is these bytes, and what is behind the name
head_is : (head : List ℕ) (f : Now) → IsBytes head → 48 ≤ length head → take 4 head ≡ now_magic → FieldsTaken head f →
    head ≡ 68 ∷ 75 ∷ 78 ∷ 87 ∷ slice_index head 4 ∷ f.n ∷ f.t ∷ 0 ∷ to_be_bytes w32 f.period ++ (to_be_bytes w32 f.next_number ++ (padded f.name ++ drop 48 head))
head_is head f fits long front k =
    let tail16 : drop 16 head ≡ padded f.name ++ drop 48 head = digest_at head 16 ∙ ap (λ (t : List ℕ). t ++ drop 48 head) k.padding in
    let tail12 : drop 12 head ≡ to_be_bytes w32 f.next_number ++ (padded f.name ++ drop 48 head) =
    number_at head 12 fits (omega (arith, long)) ∙ ap (λ (m : ℕ). to_be_bytes w32 m ++ drop 16 head) (sym k.number_is) ∙ ap (λ (t : List ℕ). to_be_bytes w32 f.next_number ++ t) tail16 in
    let tail8 : drop 8 head ≡ to_be_bytes w32 f.period ++ (to_be_bytes w32 f.next_number ++ (padded f.name ++ drop 48 head)) =
    number_at head 8 fits (omega (arith, long)) ∙ ap (λ (m : ℕ). to_be_bytes w32 m ++ drop 12 head) (sym k.period_is) ∙ ap (λ (t : List ℕ). to_be_bytes w32 f.period ++ t) tail12 in
    let tail4 : drop 4 head ≡ slice_index head 4 ∷ f.n ∷ f.t ∷ 0 ∷ drop 8 head = rw (byte_at head 4 (omega (arith, long)), byte_at head 5 (omega (arith, long)), byte_at head 6 (omega (arith, long)), byte_at head 7 (omega (arith, long)), k.bytes, k.bytes6, k.zero) refl in
    sym (take-append-drop 4 head) ∙ ap (λ (t : List ℕ). t ++ drop 4 head) front ∙ ap (λ (t : List ℕ). 68 ∷ 75 ∷ 78 ∷ 87 ∷ t) (tail4 ∙ ap (λ (t : List ℕ). slice_index head 4 ∷ f.n ∷ f.t ∷ 0 ∷ t) tail8)

-- ---- the link

pub length-committee_digest : (name : List ℕ) (n t period holders : ℕ) (previous : List ℕ) → length (committee_digest name n t period holders previous) ≡ 32
length-committee_digest name n t period holders previous = length-sha256 _

-- the link that was read, and the bytes behind the name
record LinkTaken (head : List ℕ) (f : Now) (link : Option Link) : Type 0 where
  is : IfSome link (IsLink f.name f.n f.t f.period)
  version : slice_index head 4 ≡ version (is_some link)
  behind : drop 48 head ≡ link_bytes link

linked_taken : (head : List ℕ) (f : Now) (link : Option Link) → IsBytes head → length head ≡ 116 → slice_index head 4 ≡ 2 → linked_at f head ≡ Ok link → LinkTaken head f link
linked_taken head f link fits long two e =
    let holders : ℕ = field_number head 48 in
    let committee : List ℕ = slice_range head 52 84 in
    let previous : List ℕ = slice_range head 84 116 in
    let a = passed (not (are_holders f.n f.t holders)) _ _ link e in
    let b = passed (not (bytes_eq committee (committee_digest f.name f.n f.t f.period holders previous))) _ _ link a.1 in
    let made : Link = record { holders = holders; committee = committee; previous = previous } in
    let same : Some made ≡ link = cc (b.1) in
    let end : drop 116 head ≡ [] = drop_all 116 head (omega (arith, long)) in
    let tail84 : drop 84 head ≡ previous = sym (take_all 32 (drop 84 head) (omega (arith, length-drop 84 head, long))) in
    let tail52 : drop 52 head ≡ committee ++ previous = digest_at head 52 ∙ ap (λ (t : List ℕ). committee ++ t) tail84 in
    let is : IsLink f.name f.n f.t f.period made = record {
      holders = holds _ a.0;
      holders_fit = number_below head 48 fits;
      committee = (bytes_eq-Decides _ _).0 (holds _ b.0);
      previous = ap length (sym tail84) ∙ length-drop 84 head ∙ omega (arith, long);
    } in
    let taken : LinkTaken head f (Some made) = record {
      is = is;
      version = two;
      behind = number_at head 48 fits (omega (arith, long)) ∙ ap (λ (t : List ℕ). to_be_bytes w32 holders ++ t) tail52;
    } in
    subst (LinkTaken head f) same taken

link_cases : (first : Bool) (head : List ℕ) (f : Now) (link : Option Link) → IsBytes head → (slice_index head 4 == 1) ≡ first → is_version (slice_index head 4) ≡ true → length head ≡ cond first 80 148 - 32 → cond first (Ok None) (linked_at f head) ≡ Ok link → LinkTaken head f link
link_cases true head f link fits one known long e =
    let alone : None ≡ link = cc e in
    let taken : LinkTaken head f None = record { is = tt; version = eqb-true _ _ one; behind = drop_all 48 head (omega (arith, long)) } in
    subst (LinkTaken head f) alone taken
link_cases false head f link fits two known long e = linked_taken head f link fits (omega (arith, long)) (second (slice_index head 4) known two) e

link_taken : (head : List ℕ) (f : Now) (link : Option Link) → IsBytes head → is_version (slice_index head 4) ≡ true → length head ≡ whole 80 (slice_index head 4) - 32 → link_at f head ≡ Ok link → LinkTaken head f link
unfolding link_at
link_taken head f link fits known long e = link_cases (slice_index head 4 == 1) head f link fits refl known long e

-- ---- the file

-- what is read has these bytes
pub now_taken : (bytes : List ℕ) (f : Now) → IsBytes bytes → now_at bytes ≡ Ok f → IsNow f × (bytes ≡ now_bytes f)
unfolding now_at
now_taken bytes f fits e =
    let b = bind_ok (head_at now_magic 80 bytes) (λ head. now_fields_at head >>= λ g. link_at g head >>= λ link. Ok (record g { link = link })) f e in
    let o = head_opens now_magic 80 bytes b.0 b.1 in
    let h = head_of now_magic 80 bytes b.0 (omega arith) o in
    let g = bind_ok (now_fields_at b.0) (λ g. link_at g b.0 >>= λ link. Ok (record g { link = link })) f b.2 in
    let l = bind_ok (link_at g.0 b.0) (λ link. Ok (record g.0 { link = link })) f g.2 in
    let inner : IsBytes b.0 = subst IsBytes o.cut (IsBytes-take (whole 80 (slice_index bytes 4) - 32) bytes fits) in
    let k = fields_taken b.0 g.0 g.1 in
    let least : 48 ≤ length b.0 = whole_long b.0 h.long in
    let t = link_taken b.0 g.0 l.0 inner h.version h.long l.1 in
    let made : Now = record g.0 { link = l.0 } in
    let same : made ≡ f = cc (l.2) in
    let is : IsNow made = record {
      name = k.name;
      size = k.size;
      bound = k.bound;
      period = k.period;
      period_fits = subst (λ (m : ℕ). m < 2 ^ 32) (sym k.period_is) (number_below b.0 8 inner);
      number_fits = subst (λ (m : ℕ). m < 2 ^ 32) (sym k.number_is) (number_below b.0 12 inner);
      link = t.is;
    } in
    let spelled : b.0 ≡ now_head made = head_is b.0 g.0 inner least h.front k
    ∙ ap (λ (v : ℕ). 68 ∷ 75 ∷ 78 ∷ 87 ∷ v ∷ g.0.n ∷ g.0.t ∷ 0 ∷ to_be_bytes w32 g.0.period ++ (to_be_bytes w32 g.0.next_number ++ (padded g.0.name ++ drop 48 b.0))) t.version
    ∙ ap (λ (x : List ℕ). 68 ∷ 75 ∷ 78 ∷ 87 ∷ version (is_some l.0) ∷ g.0.n ∷ g.0.t ∷ 0 ∷ to_be_bytes w32 g.0.period ++ (to_be_bytes w32 g.0.next_number ++ (padded g.0.name ++ x))) t.behind in
    subst (λ h. IsNow h × (bytes ≡ now_bytes h)) same (is, o.parts ∙ ap signed spelled)

-- the fields of a head that was written are read
fields_made : (head : List ℕ) (f : Now) → IsNow f → slice_index head 5 ≡ f.n → slice_index head 6 ≡ f.t → slice_index head 7 ≡ 0 → field_number head 8 ≡ f.period → field_number head 12 ≡ f.next_number → slice_range head 16 48 ≡ padded f.name → now_fields_at head ≡ Ok (record f { link = None })
unfolding now_fields_at
fields_made head f is n t zero period next name =
    let positive : (f.period == 0) ≡ false = ne_eqb f.period 0 (let some = is.period in λ e. omega arith) in
    rw (n, t, zero, is.size, is.bound, period, positive, name_again 16 head f.name is.name name, next) refl

-- a link that was written is read
linked_again : (head : List ℕ) (g : Now) (link : Link) → IsLink g.name g.n g.t g.period link → drop 48 head ≡ link_bytes (Some link) → linked_at g head ≡ Ok (Some link)
linked_again head g link is at48 =
    let whole : length link.committee ≡ 32 = ap length is.committee ∙ length-committee_digest g.name g.n g.t g.period link.holders link.previous in
    let at52 : drop 52 head ≡ link.committee ++ link.previous = sym (drop-drop 4 48 head) ∙ ap (drop 4) at48 in
    let at84 : drop 84 head ≡ link.previous = sym (drop-drop 32 52 head) ∙ ap (drop 32) at52 ∙ drop_at link.committee link.previous 32 whole in
    let holders : field_number head 48 ≡ link.holders = ap (λ (t : List ℕ). from_be_bytes w32 (take 4 t)) at48 ∙ from_be_bytes-to_be_bytes_4 link.holders is.holders_fit in
    let committee : slice_range head 52 84 ≡ link.committee = ap (take 32) at52 ∙ take_at link.committee link.previous 32 whole in
    let previous : slice_range head 84 116 ≡ link.previous = ap (take 32) at84 ∙ take_all 32 link.previous (omega (arith, is.previous)) in
    let same : bytes_eq link.committee (committee_digest g.name g.n g.t g.period link.holders link.previous) ≡ true = (bytes_eq-Decides _ _).1 is.committee in
    rw (holders, committee, previous, is.holders, same) refl

-- the two versions
again : (g : Now) (link : Option Link) → IsNow (record g { link = link }) → now_at (now_bytes (record g { link = link })) ≡ Ok (record g { link = link })
unfolding now_at link_at
again g None is =
    let f : Now = record g { link = None } in
    let wide = length-padded g.name is.name in
    let opens : HeadOf now_magic 80 (now_head f) = record { front = refl; version = refl; long = omega (arith, length-append (padded g.name) (link_bytes None), wide) } in
    let fields : now_fields_at (now_head f) ≡ Ok f = fields_made (now_head f) f is refl refl refl (from_be_bytes-to_be_bytes_4 f.period is.period_fits) (from_be_bytes-to_be_bytes_4 f.next_number is.number_fits) (take_at (padded g.name) (link_bytes None) 32 wide) in
    rw (head_again now_magic 80 (now_head f) (omega arith) opens, fields) refl
again g (Some link) is =
    let f : Now = record g { link = Some link } in
    let wide = length-padded g.name is.name in
    let digests : length (link.committee ++ link.previous) ≡ 64 = length-append link.committee link.previous ∙ omega (arith, ap length is.link.committee, length-committee_digest g.name g.n g.t g.period link.holders link.previous, is.link.previous) in
    let opens : HeadOf now_magic 80 (now_head f) = record { front = refl; version = refl; long = omega (arith, length-append (padded g.name) (link_bytes (Some link)), wide, digests) } in
    let fields : now_fields_at (now_head f) ≡ Ok (record g { link = None }) = fields_made (now_head f) f is refl refl refl (from_be_bytes-to_be_bytes_4 f.period is.period_fits) (from_be_bytes-to_be_bytes_4 f.next_number is.number_fits) (take_at (padded g.name) (link_bytes (Some link)) 32 wide) in
    let linked : linked_at (record g { link = None }) (now_head f) ≡ Ok (Some link) = linked_again (now_head f) (record g { link = None }) link is.link (drop_at (padded g.name) (link_bytes (Some link)) 32 wide) in
    rw (head_again now_magic 80 (now_head f) (omega arith) opens, fields, linked) refl

-- what was written is read again
pub now_again : (f : Now) → IsNow f → now_at (now_bytes f) ≡ Ok f
now_again f is = again f f.link is

-- what a reader found has these bytes
pub found : (bytes : List ℕ) (r : Result Now FileFault) → IsBytes bytes → IsRead (λ f. f) r (now_at bytes) → IfOk r (λ f. IsNow f × (bytes ≡ now_bytes f))
found bytes (Ok f) fits e = now_taken bytes f fits e
found bytes (Err e) fits h = tt

-- a now file that was read has a key's name, and is of a committee that the program has, whatever numbers the text has
pub now_in_range : (bytes : List ℕ) (f : Now) → now_at bytes ≡ Ok f → IsChecked f
unfolding now_at
now_in_range bytes f e =
    let b = bind_ok (head_at now_magic 80 bytes) (λ head. now_fields_at head >>= λ g. link_at g head >>= λ link. Ok (record g { link = link })) f e in
    let g = bind_ok (now_fields_at b.0) (λ g. link_at g b.0 >>= λ link. Ok (record g { link = link })) f b.2 in
    let l = bind_ok (link_at g.0 b.0) (λ link. Ok (record g.0 { link = link })) f g.2 in
    let k = fields_taken b.0 g.0 g.1 in
    let same : record g.0 { link = l.0 } ≡ f = cc (l.2) in
    subst IsChecked same (record { name = k.name; size = k.size; bound = k.bound })
