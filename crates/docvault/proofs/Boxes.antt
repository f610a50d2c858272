-- A box that is opened is the one that was sealed, and what was sealed is opened again.
use Rattle.std.proofs.Common.{◌≡◌, ℕ, ◌+◌, ◌-◌, ◌^◌, ◌<◌, ◌≤◌, Bool, true, false, cond, List, ◌∷◌, ◌++◌, length, take, drop, Option, Some, None, Result, Ok, Err, refl, sym, ap, subst, ◌∙◌, arith, IsTrue, append_assoc}
use Rattle.std.specs.Prelude.{not, nat_lt, ◌==◌, slice_index, slice_range, bit_xor, IfOk, IfErr}
use Rattle.std.specs.declared.vec.Vec.{Vec}
use Rattle.std.specs.Str.{bytes_eq}
use Rattle.std.specs.Int.{w32, w64, to_be_bytes}
use Rattle.std.specs.Int.Bits.{xor_assoc, xor_self, xor_zero_r}
use Rattle.std.proofs.lemmas.Bool.{ltb-false, le-ltb, eqb-true, eq-eqb}
use Rattle.std.proofs.lemmas.Slice.Eq.{bytes_eq-Decides}
use Rattle.std.proofs.lemmas.Grind.{same_number_lists}
use Rattle.std.proofs.lemmas.List.{take-append-drop, take_at, drop_at, drop-drop, length-append, length-take, length-drop}
use Rattle.std.proofs.lemmas.Nat.{from_be_bytes-to_be_bytes_4, from_be_bytes-to_be_bytes_8}
use Rattle.sha2.proofs.Facts256.{length-sha256}
use Rattle.algebra61.specs.Field.{Fp}
use Rattle.sharefile.specs.Names.{padded, is_key_name}
use Rattle.sharefile.proofs.NameLaws.{length-padded}
use Rattle.sharefile.proofs.Steps.{holds, IsBytes, number_at, number_8_at, number_below}
use Rattle.docvault.specs.declared.fault.BoxFault.{BoxFault}
use Rattle.docvault.specs.declared.fault.BoxFault.TheVariants.{OutOfMemory}
use Rattle.docvault.specs.Keys.{enc_key_of, mac_key_of}
use Rattle.docvault.specs.Hmac.{hmac_of}
use Rattle.docvault.specs.Box.{keystream_byte, IsSealed, box_magic, box_head, tagged, IsBox}
use Rattle.docvault.specs.Opening.{document_number_in, size_in, box_fault, IsFault, Opens}

-- ---- the keystream undoes itself

xor_twice : (a b : ℕ) → bit_xor (bit_xor a b) b ≡ a
xor_twice a b = rw (xor_assoc a b b, xor_self b, xor_zero_r a) refl

pub IsSealed-back : (enc_key : List ℕ) (number : ℕ) (document sealed : List ℕ) → IsSealed enc_key number document sealed → IsSealed enc_key number sealed document
IsSealed-back enc_key number document sealed is = record {
  as_long = sym is.as_long;
  each = λ k lt.
      let within : k < length document = omega (arith, is.as_long) in
      sym (ap (λ (x : ℕ). bit_xor x (keystream_byte enc_key number k)) (is.each k within) ∙ xor_twice (slice_index document k) (keystream_byte enc_key number k));
}

-- a sealed text has one document
pub same_document : (enc_key : List ℕ) (number : ℕ) (first second sealed : List ℕ) → IsSealed enc_key number first sealed → IsSealed enc_key number second sealed → first ≡ second
same_document enc_key number first second sealed a b =
    let from_first = IsSealed-back enc_key number first sealed a in
    let from_second = IsSealed-back enc_key number second sealed b in
    same_number_lists first second (from_first.as_long ∙ sym from_second.as_long)
    (λ k lt. let within : k < length sealed = omega (arith, from_first.as_long) in
    from_first.each k within ∙ sym (from_second.each k within))

-- ---- the head and the tag

pub length-box_head : (name : List ℕ) (number size : ℕ) → IsTrue (is_key_name name) → length (box_head name number size) ≡ 48
length-box_head name number size is = omega (arith, length-padded name is)

length-hmac_of : (key text : List ℕ) → length (hmac_of key text) ≡ 32
length-hmac_of key text = length-sha256 _

-- ---- no fault

-- what holds of bytes without a fault
pub record IsFine (key : List Fp) (name bytes : List ℕ) : Type 0 where
  pub long : 80 ≤ length bytes
  pub front : take 4 bytes ≡ box_magic
  pub size : size_in bytes ≡ length bytes - 80
  pub named : slice_range bytes 16 48 ≡ padded name
  pub tag : drop (length bytes - 32) bytes ≡ hmac_of (mac_key_of key) (take (length bytes - 32) bytes)

passed : (b : Bool) (e : BoxFault) (r : Option BoxFault) → cond b (Some e) r ≡ None → (b ≡ false) × (r ≡ None)
passed true e r p = absurd cc
passed false e r p = (refl, p)

pub IsFine-from : (key : List Fp) (name bytes : List ℕ) → box_fault key name bytes ≡ None → IsFine key name bytes
unfolding box_fault
IsFine-from key name bytes e =
    let a = passed (nat_lt (length bytes) 80) _ _ e in
    let b = passed (not (bytes_eq (take 4 bytes) box_magic)) _ _ a.1 in
    let c = passed (not (size_in bytes == length bytes - 80)) _ _ b.1 in
    let d = passed (not (bytes_eq (slice_range bytes 16 48) (padded name))) _ _ c.1 in
    let f = passed (not (bytes_eq (drop (length bytes - 32) bytes) (hmac_of (mac_key_of key) (take (length bytes - 32) bytes)))) _ _ d.1 in
    record {
      long = ltb-false _ _ a.0;
      front = (bytes_eq-Decides _ _).0 (holds _ b.0);
      size = eqb-true _ _ (holds _ c.0);
      named = (bytes_eq-Decides _ _).0 (holds _ d.0);
      tag = (bytes_eq-Decides _ _).0 (holds _ f.0);
    }

fault-none : (key : List Fp) (name bytes : List ℕ) → IsFine key name bytes → box_fault key name bytes ≡ None
unfolding box_fault
fault-none key name bytes fine =
    let long : nat_lt (length bytes) 80 ≡ false = le-ltb _ _ fine.long in
    let front : bytes_eq (take 4 bytes) box_magic ≡ true = (bytes_eq-Decides _ _).1 fine.front in
    let size : (size_in bytes == length bytes - 80) ≡ true = eq-eqb _ _ fine.size in
    let named : bytes_eq (slice_range bytes 16 48) (padded name) ≡ true = (bytes_eq-Decides _ _).1 fine.named in
    let tag : bytes_eq (drop (length bytes - 32) bytes) (hmac_of (mac_key_of key) (take (length bytes - 32) bytes)) ≡ true = (bytes_eq-Decides _ _).1 fine.tag in
    rw (long, front, size, named, tag) refl

-- ---- what is opened has this box

-- the bytes from the head on
head_taken : (key : List Fp) (name bytes : List ℕ) → IsBytes bytes → IsFine key name bytes → bytes ≡ box_head name (document_number_in bytes) (length bytes - 80) ++ drop 48 bytes
head_taken key name bytes fits fine =
    let long = fine.long in
    let tail16 : drop 16 bytes ≡ padded name ++ drop 48 bytes = sym (take-append-drop 32 (drop 16 bytes)) ∙ ap (λ (t : List ℕ). t ++ drop 32 (drop 16 bytes)) fine.named ∙ ap (λ (t : List ℕ). padded name ++ t) (drop-drop 32 16 bytes) in
    let tail8 : drop 8 bytes ≡ to_be_bytes w64 (length bytes - 80) ++ (padded name ++ drop 48 bytes) = number_8_at bytes 8 fits (omega arith) ∙ ap (λ (n : ℕ). to_be_bytes w64 n ++ drop 16 bytes) fine.size ∙ ap (λ (t : List ℕ). to_be_bytes w64 (length bytes - 80) ++ t) tail16 in
    let tail4 : drop 4 bytes ≡ to_be_bytes w32 (document_number_in bytes) ++ (to_be_bytes w64 (length bytes - 80) ++ (padded name ++ drop 48 bytes)) = number_at bytes 4 fits (omega arith) ∙ ap (λ (t : List ℕ). to_be_bytes w32 (document_number_in bytes) ++ t) tail8 in
    sym (take-append-drop 4 bytes) ∙ ap (λ (t : List ℕ). t ++ drop 4 bytes) fine.front ∙ ap (λ (t : List ℕ). 68 ∷ 75 ∷ 66 ∷ 49 ∷ t) tail4

-- a text with what stands behind it, where the text has all but the last 32 bytes
split_at_tag : (head sealed rest bytes : List ℕ) → bytes ≡ head ++ (sealed ++ rest) → length head + length sealed ≡ length bytes - 32 → take (length bytes - 32) bytes ≡ head ++ sealed
split_at_tag head sealed rest bytes e long =
    let joined : bytes ≡ (head ++ sealed) ++ rest = e ∙ sym (append_assoc head sealed rest) in
    ap (take (length bytes - 32)) joined ∙ take_at (head ++ sealed) rest (length bytes - 32) (length-append head sealed ∙ long)

pub IsBox-found : (key : List Fp) (name bytes document : List ℕ) → IsBytes bytes → IsTrue (is_key_name name) → box_fault key name bytes ≡ None → IsSealed (enc_key_of key) (document_number_in bytes) (slice_range bytes 48 (length bytes - 32)) document → IsBox key name (document_number_in bytes) document bytes
IsBox-found key name bytes document fits is none opened =
    let fine = IsFine-from key name bytes none in
    let long = fine.long in
    let sealed : List ℕ = slice_range bytes 48 (length bytes - 32) in
    let part : sealed ≡ take (length bytes - 80) (drop 48 bytes) = ap (λ (k : ℕ). take k (drop 48 bytes)) {y = length bytes - 80} (omega arith) in
    let size : length sealed ≡ length bytes - 80 = ap length part ∙ omega (arith, length-take (length bytes - 80) (drop 48 bytes), length-drop 48 bytes) in
    let rest : drop (length bytes - 80) (drop 48 bytes) ≡ drop (length bytes - 32) bytes = drop-drop (length bytes - 80) 48 bytes ∙ ap (λ (k : ℕ). drop k bytes) {y = length bytes - 32} (omega arith) in
    let behind : drop 48 bytes ≡ sealed ++ drop (length bytes - 32) bytes = sym (take-append-drop (length bytes - 80) (drop 48 bytes)) ∙ ap (λ (t : List ℕ). t ++ drop (length bytes - 80) (drop 48 bytes)) (sym part) ∙ ap (λ (t : List ℕ). sealed ++ t) rest in
    let head : List ℕ = box_head name (document_number_in bytes) (length bytes - 80) in
    let whole : bytes ≡ head ++ (sealed ++ drop (length bytes - 32) bytes) = head_taken key name bytes fits fine ∙ ap (λ (t : List ℕ). head ++ t) behind in
    let text : take (length bytes - 32) bytes ≡ head ++ sealed = split_at_tag head sealed (drop (length bytes - 32) bytes) bytes whole (omega (arith, length-box_head name (document_number_in bytes) (length bytes - 80) is)) in
    let tag : drop (length bytes - 32) bytes ≡ hmac_of (mac_key_of key) (head ++ sealed) = fine.tag ∙ ap (hmac_of (mac_key_of key)) text in
    let made : bytes ≡ tagged (mac_key_of key) (head ++ sealed) = whole ∙ sym (append_assoc head sealed (drop (length bytes - 32) bytes)) ∙ ap (λ (t : List ℕ). (head ++ sealed) ++ t) tag in
    let as_long : length bytes - 80 ≡ length document = sym size ∙ sym opened.as_long in
    record {
      number_fits = number_below bytes 4 fits;
      sealed = sealed;
      is_sealed = IsSealed-back (enc_key_of key) (document_number_in bytes) sealed document opened;
      whole = subst (λ (n : ℕ). bytes ≡ tagged (mac_key_of key) (box_head name (document_number_in bytes) n ++ sealed)) as_long made;
    }

-- ---- what has this box is opened

-- what stands in the bytes of a box
pub record Says (key : List Fp) (name : List ℕ) (number : ℕ) (document bytes : List ℕ) : Type 0 where
  pub none : box_fault key name bytes ≡ None
  pub number_is : document_number_in bytes ≡ number
  pub is_sealed : IsSealed (enc_key_of key) number document (slice_range bytes 48 (length bytes - 32))

said : (key : List Fp) (name : List ℕ) (number : ℕ) (document sealed bytes : List ℕ) → IsTrue (is_key_name name) → number < 2 ^ 32 → length document < 2 ^ 64 → IsSealed (enc_key_of key) number document sealed → bytes ≡ tagged (mac_key_of key) (box_head name number (length document) ++ sealed) → length bytes ≡ length document + 80 → Says key name number document bytes
said key name number document sealed bytes is number_fits size_fits is_sealed e all =
    let head : List ℕ = box_head name number (length document) in
    let tag : List ℕ = hmac_of (mac_key_of key) (head ++ sealed) in
    let long : length head ≡ 48 = length-box_head name number (length document) is in
    let wide = length-padded name is in
    let text_long : length (head ++ sealed) ≡ length bytes - 32 = length-append head sealed ∙ omega (arith, long, is_sealed.as_long, all) in
    let apart : bytes ≡ head ++ (sealed ++ tag) = e ∙ append_assoc head sealed tag in
    let text : take (length bytes - 32) bytes ≡ head ++ sealed = ap (take (length bytes - 32)) e ∙ take_at (head ++ sealed) tag (length bytes - 32) text_long in
    let end : drop (length bytes - 32) bytes ≡ tag = ap (drop (length bytes - 32)) e ∙ drop_at (head ++ sealed) tag (length bytes - 32) text_long in
    let behind : drop 48 bytes ≡ sealed ++ tag = ap (drop 48) apart ∙ drop_at head (sealed ++ tag) 48 long in
    let width : length bytes - 32 - 48 ≡ length sealed = omega (arith, all, is_sealed.as_long) in
    let sealed_is : slice_range bytes 48 (length bytes - 32) ≡ sealed = ap (λ (k : ℕ). take k (drop 48 bytes)) width ∙ ap (take (length sealed)) behind ∙ take_at sealed tag (length sealed) refl in
    let number_is : document_number_in bytes ≡ number = ap document_number_in apart ∙ from_be_bytes-to_be_bytes_4 number number_fits in
    let size_is : size_in bytes ≡ length document = ap size_in apart ∙ from_be_bytes-to_be_bytes_8 (length document) size_fits in
    let named : slice_range bytes 16 48 ≡ padded name = ap (λ (t : List ℕ). slice_range t 16 48) apart ∙ take_at (padded name) (sealed ++ tag) 32 wide in
    record {
      none = fault-none key name bytes (record {
        long = omega (arith, all);
        front = ap (take 4) apart;
        size = size_is ∙ omega (arith, all);
        named = named;
        tag = end ∙ ap (hmac_of (mac_key_of key)) (sym text);
      });
      number_is = number_is;
      is_sealed = subst (IsSealed (enc_key_of key) number document) (sym sealed_is) is_sealed;
    }

pub Says-from : (key : List Fp) (name : List ℕ) (number : ℕ) (document bytes : List ℕ) → IsTrue (is_key_name name) → length bytes < 2 ^ 64 → IsBox key name number document bytes → Says key name number document bytes
Says-from key name number document bytes is short box =
    let head : List ℕ = box_head name number (length document) in
    let all : length bytes ≡ length document + 80 =
    ap length box.whole ∙ length-append (head ++ box.sealed) (hmac_of (mac_key_of key) (head ++ box.sealed))
    ∙ omega (arith, length-append head box.sealed, length-box_head name number (length document) is, box.is_sealed.as_long, length-hmac_of (mac_key_of key) (head ++ box.sealed)) in
    said key name number document box.sealed bytes is box.number_fits (omega (arith, all, short)) box.is_sealed box.whole all

-- ---- what is sealed is a box

IsBox-made : (key : List Fp) (name : List ℕ) (number : ℕ) (document old new bytes : List ℕ) → IsTrue (is_key_name name) → number < 2 ^ 32 → old ≡ box_head name number (length document) ++ document → take 48 new ≡ take 48 old → IsSealed (enc_key_of key) number (drop 48 old) (drop 48 new) → bytes ≡ tagged (mac_key_of key) new → IsBox key name number document bytes
IsBox-made key name number document old new bytes is fits e front behind made =
    let long = length-box_head name number (length document) is in
    let head : take 48 new ≡ box_head name number (length document) = front ∙ ap (take 48) e ∙ take_at (box_head name number (length document)) document 48 long in
    let text : drop 48 old ≡ document = ap (drop 48) e ∙ drop_at (box_head name number (length document)) document 48 long in
    let whole : new ≡ box_head name number (length document) ++ drop 48 new = sym (take-append-drop 48 new) ∙ ap (λ (t : List ℕ). t ++ drop 48 new) head in
    record {
      number_fits = fits;
      sealed = drop 48 new;
      is_sealed = subst (λ (t : List ℕ). IsSealed (enc_key_of key) number t (drop 48 new)) text behind;
      whole = made ∙ ap (tagged (mac_key_of key)) whole;
    }

-- ---- the answers of sealing and opening

module _ {Z : Type 0} where
  -- what is tagged is the box
  pub sealed_is_box : {E : Type 0} → (key : List Fp) (name : List ℕ) (number : ℕ) (document old new : List ℕ) (result : Result (Vec ℕ Z) E) → IsTrue (is_key_name name) → number < 2 ^ 32 → old ≡ box_head name number (length document) ++ document → take 48 new ≡ take 48 old → IsSealed (enc_key_of key) number (drop 48 old) (drop 48 new) → IfOk result (λ bytes. bytes.items ≡ tagged (mac_key_of key) new) → IfOk result (λ bytes. IsBox key name number document bytes.items)
  sealed_is_box key name number document old new (Ok bytes) is fits e front behind made = IsBox-made key name number document old new bytes.items is fits e front behind made
  sealed_is_box key name number document old new (Err e) is fits _ front behind made = tt

  -- what is opened has this box
  pub found_opened : (key : List Fp) (name bytes : List ℕ) (result : Result (ℕ × Vec ℕ Z) BoxFault) → IsBytes bytes → IsTrue (is_key_name name) → box_fault key name bytes ≡ None → IfOk result (λ opened. opened.0 ≡ document_number_in bytes) → IfOk result (λ opened. IsSealed (enc_key_of key) (document_number_in bytes) (slice_range bytes 48 (length bytes - 32)) opened.1.items) → IfOk result (λ opened. IsBox key name opened.0 opened.1.items bytes)
  found_opened key name bytes (Ok opened) fits is none number document =
      subst (λ (n : ℕ). IsBox key name n opened.1.items bytes) (sym number) (IsBox-found key name bytes opened.1.items fits is none document)
  found_opened key name bytes (Err fault) fits is none number document = tt

  -- what has this box is opened
  pub only_opened : (key : List Fp) (name bytes : List ℕ) (result : Result (ℕ × Vec ℕ Z) BoxFault) → IsTrue (is_key_name name) → length bytes < 2 ^ 64 → IfOk result (λ opened. opened.0 ≡ document_number_in bytes) → IfOk result (λ opened. IsSealed (enc_key_of key) (document_number_in bytes) (slice_range bytes 48 (length bytes - 32)) opened.1.items) → IfErr result (λ fault. fault ≡ OutOfMemory) → (number : ℕ) (document : List ℕ) → IsBox key name number document bytes → Opens result number document
  only_opened key name bytes (Ok opened) is short number_is document_is memory number document box =
      let says = Says-from key name number document bytes is short box in
      let sealed : List ℕ = slice_range bytes 48 (length bytes - 32) in
      let back : IsSealed (enc_key_of key) number opened.1.items sealed = IsSealed-back (enc_key_of key) number sealed opened.1.items (subst (λ (n : ℕ). IsSealed (enc_key_of key) n sealed opened.1.items) says.number_is document_is) in
      (number_is ∙ says.number_is, same_document (enc_key_of key) number opened.1.items document sealed back says.is_sealed)
  only_opened key name bytes (Err fault) is short number_is document_is memory number document box = memory

  -- no fault holds, and want of memory is free
  pub exact_opened : (result : Result (ℕ × Vec ℕ Z) BoxFault) (fault : Option BoxFault) → fault ≡ None → IfErr result (λ fault. fault ≡ OutOfMemory) → IsFault result fault
  exact_opened (Ok opened) fault none memory = none
  exact_opened (Err e) fault none memory = subst (λ (e : BoxFault). IsFault {X = ℕ × Vec ℕ Z} (Err e) fault) (sym memory) tt
