-- Steps of a reader that did not refuse, and lists cut at a place.
use Rattle.std.proofs.Common.{◌≡◌, ℕ, ◌+◌, ◌-◌, ◌^◌, ◌<◌, ◌≤◌, Bool, true, false, cond, List, ◌∷◌, ◌++◌, length, get_or, take, drop, Result, Ok, Err, refl, sym, ap, ◌∙◌, arith, inl, inr, drop-cons, add-one}
use Rattle.std.specs.Prelude.{not, nat_lt, ◌==◌, slice_index, slice_range}
use Rattle.std.specs.Str.{bytes_eq}
use Rattle.std.specs.Int.{w32, w64, to_be_bytes, from_be_bytes}
use Rattle.std.proofs.lemmas.Bool.{cases_lt, ltb-false, le-ltb}
use Rattle.std.proofs.lemmas.Bool.Decides.{nat_tests}
use Rattle.std.proofs.lemmas.Slice.Eq.{bytes_eq-Decides}
use Rattle.std.proofs.lemmas.List.{take-append-drop, take-append-le, take-take, take_at, drop_at, drop-drop, length-append, length-take, length-drop, get_or-drop, get_or-take, get_or_past, get_or_append_left}
use Rattle.std.proofs.lemmas.Nat.{be_bytes_4, be_bytes_8}
use Rattle.sha2.specs.Sha256.{sha256}
use Rattle.sha2.proofs.Facts256.{length-sha256}
use Rattle.sharefile.specs.declared.fault.FileFault.{FileFault}
use Rattle.sharefile.specs.Files.{signed}
use Rattle.sharefile.specs.Reading.{◌>>=◌, head_at, is_version, field_number, whole}

pub passed : {A : Type 0} (b : Bool) (e : FileFault) (r : Result A FileFault) (y : A) → cond b (Err e) r ≡ Ok y → (b ≡ false) × (r ≡ Ok y)
passed true e r y p = absurd cc
passed false e r y p = (refl, p)

pub bind_ok : {A B : Type 0} (r : Result A FileFault) (f : A → Result B FileFault) (y : B) → (r >>= f) ≡ Ok y → (x : A) × (r ≡ Ok x) × (f x ≡ Ok y)
bind_ok (Ok x) f y e = (x, refl, e)
bind_ok (Err d) f y e = absurd cc

pub holds : (b : Bool) → not b ≡ false → b ≡ true
holds true e = refl
holds false e = absurd cc

abbrev pub IsBytes : List ℕ → Type 0
IsBytes bytes = (i : ℕ) → get_or bytes i 0 < 256

pub IsBytes-drop : (n : ℕ) (bytes : List ℕ) → IsBytes bytes → IsBytes (drop n bytes)
IsBytes-drop n bytes h i = rw get_or-drop (h (n + i))

pub IsBytes-take : (n : ℕ) (bytes : List ℕ) → IsBytes bytes → IsBytes (take n bytes)
IsBytes-take n bytes h i =
    elim (cases_lt i n) [
      | inl lt ↦ rw (get_or-take n bytes i 0 lt) (h i)
      | inr le ↦ rw (get_or_past (take n bytes) i 0 (omega (arith, length-take n bytes))) (omega arith)
    ]

-- a byte, and what follows
pub byte_at : (xs : List ℕ) (i : ℕ) → i < length xs → drop i xs ≡ slice_index xs i ∷ drop (i + 1) xs
byte_at xs i lt = rw (add-one, drop-cons xs i 0 lt) refl

-- a number of four bytes, and what follows
pub number_at : (xs : List ℕ) (i : ℕ) → IsBytes xs → i + 4 ≤ length xs → drop i xs ≡ to_be_bytes w32 (field_number xs i) ++ drop (i + 4) xs
number_at xs i fits le =
    let part : slice_range xs i (i + 4) ≡ take 4 (drop i xs) = ap (λ (k : ℕ). take k (drop i xs)) {y = 4} (omega arith) in
    let long : length (slice_range xs i (i + 4)) ≡ 4 = ap length part ∙ omega (arith, length-take 4 (drop i xs), length-drop i xs) in
    let spelled : to_be_bytes w32 (field_number xs i) ≡ slice_range xs i (i + 4) = be_bytes_4 (slice_range xs i (i + 4)) _ long (IsBytes-take (i + 4 - i) (drop i xs) (IsBytes-drop i xs fits)) refl in
    sym (take-append-drop 4 (drop i xs)) ∙ ap (λ (t : List ℕ). t ++ drop 4 (drop i xs)) (sym part ∙ sym spelled) ∙ ap (λ (t : List ℕ). to_be_bytes w32 (field_number xs i) ++ t) (drop-drop 4 i xs)

-- a number of eight bytes, and what follows
pub number_8_at : (xs : List ℕ) (i : ℕ) → IsBytes xs → i + 8 ≤ length xs → drop i xs ≡ to_be_bytes w64 (from_be_bytes w64 (slice_range xs i (i + 8))) ++ drop (i + 8) xs
number_8_at xs i fits le =
    let n : ℕ = from_be_bytes w64 (slice_range xs i (i + 8)) in
    let part : slice_range xs i (i + 8) ≡ take 8 (drop i xs) = ap (λ (k : ℕ). take k (drop i xs)) {y = 8} (omega arith) in
    let long : length (slice_range xs i (i + 8)) ≡ 8 = ap length part ∙ omega (arith, length-take 8 (drop i xs), length-drop i xs) in
    let spelled : to_be_bytes w64 n ≡ slice_range xs i (i + 8) = be_bytes_8 (slice_range xs i (i + 8)) _ long (IsBytes-take (i + 8 - i) (drop i xs) (IsBytes-drop i xs fits)) refl in
    sym (take-append-drop 8 (drop i xs)) ∙ ap (λ (t : List ℕ). t ++ drop 8 (drop i xs)) (sym part ∙ sym spelled) ∙ ap (λ (t : List ℕ). to_be_bytes w64 n ++ t) (drop-drop 8 i xs)

-- a number of four bytes is below 2 ^ 32
pub number_below : (xs : List ℕ) (i : ℕ) → IsBytes xs → field_number xs i < 2 ^ 32
number_below xs i fits =
    let part : IsBytes (slice_range xs i (i + 4)) = IsBytes-take (i + 4 - i) (drop i xs) (IsBytes-drop i xs fits) in
    omega (arith, part 0, part 1, part 2, part 3)

pub whole_least : (first version : ℕ) → 37 ≤ first → 37 ≤ whole first version
whole_least first version large = elim (version == 1) as (λ b. 37 ≤ cond b first 148) [ true ↦ large | false ↦ omega arith ]

-- what a file's envelope says
pub record Opens (magic : List ℕ) (first : ℕ) (bytes head : List ℕ) : Type 0 where
  pub front : take 4 bytes ≡ magic
  pub version : is_version (slice_index bytes 4) ≡ true
  pub long : length bytes ≡ whole first (slice_index bytes 4)
  pub cut : take (whole first (slice_index bytes 4) - 32) bytes ≡ head
  pub parts : bytes ≡ signed head

pub head_opens : (magic : List ℕ) (first : ℕ) (bytes head : List ℕ) → head_at magic first bytes ≡ Ok head → Opens magic first bytes head
unfolding head_at
head_opens magic first bytes head e =
    let size : ℕ = whole first (slice_index bytes 4) in
    let a = passed (nat_lt (length bytes) 5) _ _ head e in
    let b = passed (not (bytes_eq (take 4 bytes) magic)) _ _ head a.1 in
    let c = passed (not (is_version (slice_index bytes 4))) _ _ head b.1 in
    let d = passed (nat_lt (length bytes) size) _ _ head c.1 in
    let f = passed (nat_lt size (length bytes)) _ _ head d.1 in
    let g = passed (not (bytes_eq (drop (size - 32) bytes) (sha256 (take (size - 32) bytes)))) _ _ head f.1 in
    let long : size ≤ length bytes = ltb-false _ _ d.0 in
    let short : length bytes ≤ size = ltb-false _ _ f.0 in
    let digest : drop (size - 32) bytes ≡ sha256 (take (size - 32) bytes) = (bytes_eq-Decides _ _).0 (holds _ g.0) in
    let cut : take (size - 32) bytes ≡ head = cc in
    record {
      front = (bytes_eq-Decides _ _).0 (holds _ b.0);
      version = holds _ c.0;
      long = omega arith;
      cut = cut;
      parts = sym (take-append-drop (size - 32) bytes) ∙ rw (digest, cut) refl;
    }

-- the head has the file's first bytes
pub record HeadOf (magic : List ℕ) (first : ℕ) (head : List ℕ) : Type 0 where
  pub front : take 4 head ≡ magic
  pub version : is_version (slice_index head 4) ≡ true
  pub long : length head ≡ whole first (slice_index head 4) - 32

pub head_of : (magic : List ℕ) (first : ℕ) (bytes head : List ℕ) → 37 ≤ first → Opens magic first bytes head → HeadOf magic first head
head_of magic first bytes head large o =
    let size : ℕ = whole first (slice_index bytes 4) in
    let enough : 37 ≤ size = whole_least first (slice_index bytes 4) large in
    let fifth : slice_index head 4 ≡ slice_index bytes 4 = ap (λ (h : List ℕ). slice_index h 4) (sym o.cut) ∙ get_or-take (size - 32) bytes 4 0 (omega (arith, enough)) in
    record {
      front = ap (take 4) (sym o.cut) ∙ take-take 4 (size - 32) bytes (omega (arith, enough)) ∙ o.front;
      version = ap is_version fifth ∙ o.version;
      long = ap length (sym o.cut) ∙ length-take (size - 32) bytes ∙ omega (arith, o.long, ap (whole first) fifth);
    }

-- the other way round
pub head_made : (magic : List ℕ) (first : ℕ) (bytes : List ℕ) → 37 ≤ first → is_version (slice_index bytes 4) ≡ true → length bytes ≡ whole first (slice_index bytes 4) → take 4 bytes ≡ magic → drop (whole first (slice_index bytes 4) - 32) bytes ≡ sha256 (take (whole first (slice_index bytes 4) - 32) bytes) → head_at magic first bytes ≡ Ok (take (whole first (slice_index bytes 4) - 32) bytes)
unfolding head_at
head_made magic first bytes large version long front digest =
    let size : ℕ = whole first (slice_index bytes 4) in
    let enough : 37 ≤ size = whole_least first (slice_index bytes 4) large in
    let not_tiny : nat_lt (length bytes) 5 ≡ false = le-ltb _ _ (omega (arith, long, enough)) in
    let same_front : bytes_eq (take 4 bytes) magic ≡ true = (bytes_eq-Decides _ _).1 front in
    let not_short : nat_lt (length bytes) size ≡ false = le-ltb _ _ (omega (arith, long)) in
    let not_long : nat_lt size (length bytes) ≡ false = le-ltb _ _ (omega (arith, long)) in
    let same_digest : bytes_eq (drop (size - 32) bytes) (sha256 (take (size - 32) bytes)) ≡ true = (bytes_eq-Decides _ _).1 digest in
    rw (not_tiny, same_front, version, not_short, not_long, same_digest) refl

-- a signed head is opened again
pub head_again : (magic : List ℕ) (first : ℕ) (head : List ℕ) → 37 ≤ first → HeadOf magic first head → head_at magic first (signed head) ≡ Ok head
head_again magic first head large h =
    let size : ℕ = whole first (slice_index head 4) in
    let enough : 37 ≤ size = whole_least first (slice_index head 4) large in
    let bytes : List ℕ = signed head in
    let fifth : slice_index bytes 4 ≡ slice_index head 4 = get_or_append_left head (sha256 head) 0 4 (omega (arith, h.long, enough)) in
    let same : whole first (slice_index bytes 4) ≡ size = ap (whole first) fifth in
    let cut : take (size - 32) bytes ≡ head = take_at head (sha256 head) (size - 32) h.long in
    let there : take (whole first (slice_index bytes 4) - 32) bytes ≡ head = ap (λ (k : ℕ). take (k - 32) bytes) same ∙ cut in
    let long : length bytes ≡ whole first (slice_index bytes 4) = length-append head (sha256 head) ∙ omega (arith, h.long, length-sha256 head, same, enough) in
    let digest : drop (whole first (slice_index bytes 4) - 32) bytes ≡ sha256 (take (whole first (slice_index bytes 4) - 32) bytes) =
    ap (λ (k : ℕ). drop (k - 32) bytes) same ∙ drop_at head (sha256 head) (size - 32) h.long ∙ ap sha256 (sym there) in
    head_made magic first bytes large (ap is_version fifth ∙ h.version) long (take-append-le 4 head (sha256 head) (omega (arith, h.long, enough)) ∙ h.front) digest
    ∙ ap (λ (h : List ℕ). Ok h) there

-- 32 bytes, and what follows
pub digest_at : (xs : List ℕ) (i : ℕ) → drop i xs ≡ slice_range xs i (i + 32) ++ drop (i + 32) xs
digest_at xs i =
    let part : slice_range xs i (i + 32) ≡ take 32 (drop i xs) = ap (λ (k : ℕ). take k (drop i xs)) {y = 32} (omega arith) in
    sym (take-append-drop 32 (drop i xs)) ∙ ap (λ (t : List ℕ). t ++ drop 32 (drop i xs)) (sym part) ∙ ap (λ (t : List ℕ). slice_range xs i (i + 32) ++ t) (drop-drop 32 i xs)

-- a version that isn't 1 is 2
pub second : (v : ℕ) → is_version v ≡ true → (v == 1) ≡ false → v ≡ 2
second v is other = grind (arith, nat_tests)
