-- Four bytes as one word, and the exclusive-or of words byte by byte.
use Rattle.std.proofs.Common.{◌≡◌, ℕ, zero, suc, ◌+◌, ◌-◌, ◌/◌, ◌%◌, ◌<◌, ◌≤◌, List, ◌++◌, length, take, drop, refl, sym, ap, ◌∙◌, arith}
use Rattle.std.specs.Prelude.{slice_index, bit_xor}
use Rattle.std.specs.Int.{w32, byte_at, to_le_bytes, from_le_bytes}
use Rattle.std.proofs.lemmas.List.{get_or-drop, get_or-take, get_or_append_left, get_or-append_right, length-take, length-drop, length-take-le, drop-drop}
use Rattle.std.proofs.lemmas.Nat.{le_bytes_4, xor_shr, xor_mod}
use borrow.Rule.Slice.PartMut.{put_mid, post_of, same_len_mid}
use Rattle.sharefile.proofs.Steps.{IsBytes, IsBytes-drop, IsBytes-take}
use Rattle.docvault.specs.Masking.{IsMasked}

-- byte j of an exclusive-or
byte_at_xor : (a b j : ℕ) → j < 4 → byte_at j (bit_xor a b) ≡ bit_xor (byte_at j a) (byte_at j b)
byte_at_xor a b zero few = xor_mod a b 8
byte_at_xor a b (suc zero) few = ap (λ (n : ℕ). n % 256) (xor_shr a b 8) ∙ xor_mod (a / 256) (b / 256) 8
byte_at_xor a b (suc (suc zero)) few = ap (λ (n : ℕ). n % 256) (xor_shr a b 16) ∙ xor_mod (a / 65536) (b / 65536) 8
byte_at_xor a b (suc (suc (suc zero))) few = ap (λ (n : ℕ). n % 256) (xor_shr a b 24) ∙ xor_mod (a / 16777216) (b / 16777216) 8
byte_at_xor a b (suc (suc (suc (suc j)))) few = absurd (omega arith)

-- byte j of a word stands at j
byte_stands : (n j : ℕ) → j < 4 → slice_index (to_le_bytes w32 n) j ≡ byte_at j n
byte_stands n zero few = refl
byte_stands n (suc zero) few = refl
byte_stands n (suc (suc zero)) few = refl
byte_stands n (suc (suc (suc zero))) few = refl
byte_stands n (suc (suc (suc (suc j)))) few = absurd (omega arith)

-- the bytes of a word that was read from a place on
pub read_bytes : (bytes : List ℕ) (place value : ℕ) → place + 4 ≤ length bytes → IsBytes bytes → value ≡ from_le_bytes w32 (take (place + 4 - place) (drop place bytes)) → (j : ℕ) → j < 4 → byte_at j value ≡ slice_index bytes (place + j)
read_bytes bytes place value room fits read = λ j few.
    let block : List ℕ = take 4 (drop place bytes) in
    let width : place + 4 - place ≡ 4 = omega arith in
    let long : length block ≡ 4 = omega (arith, length-take 4 (drop place bytes), length-drop place bytes) in
    let small : IsBytes block = IsBytes-take 4 (drop place bytes) (IsBytes-drop place bytes fits) in
    let whole : value ≡ from_le_bytes w32 block = read ∙ ap (λ (n : ℕ). from_le_bytes w32 (take n (drop place bytes))) width in
    sym (byte_stands value j few) ∙ ap (λ (l : List ℕ). slice_index l j) (le_bytes_4 block value long small whole) ∙ get_or-take 4 (drop place bytes) j 0 few ∙ get_or-drop place bytes j 0

-- a word is taken into four bytes that were read as one
pub IsMasked-four : (old new : List ℕ) (place value word : ℕ) → place + 4 ≤ length old → ((j : ℕ) → j < 4 → byte_at j value ≡ slice_index old (place + j)) → new ≡ to_le_bytes w32 (bit_xor value word) → IsMasked old (put_mid place (place + 4 - place) old new) place 4 word
IsMasked-four old new place value word room read is =
    let behind : List ℕ = post_of place (place + 4 - place) old in
    let front : length (take place old) ≡ place = length-take-le place old (omega arith) in
    let four : length new ≡ 4 = ap length is in
    let width : place + 4 - place ≡ 4 = omega arith in
    let rest : behind ≡ drop (place + 4) old = ap (λ (n : ℕ). drop n (drop place old)) width ∙ drop-drop 4 place old in
    record {
      as_long = same_len_mid place (place + 4 - place) old new (omega (arith, length-take (place + 4 - place) (drop place old), length-drop place old));
      before = λ k lt. get_or_append_left (take place old) (new ++ behind) 0 k (omega arith) ∙ get_or-take place old k 0 lt;
      within = λ k le lt.
          let few : k - place < 4 = omega arith in
          let back : place + (k - place) ≡ k = omega arith in
          get_or-append_right (take place old) (new ++ behind) place k 0 front le
          ∙ get_or_append_left new behind 0 (k - place) (omega arith)
          ∙ ap (λ (l : List ℕ). slice_index l (k - place)) is
          ∙ byte_stands (bit_xor value word) (k - place) few
          ∙ byte_at_xor value word (k - place) few
          ∙ ap (λ (x : ℕ). bit_xor x (byte_at (k - place) word)) (read (k - place) few ∙ ap (slice_index old) back);
      behind = λ k le.
          get_or-append_right (take place old) (new ++ behind) place k 0 front (omega arith)
          ∙ get_or-append_right new behind 4 (k - place) 0 four (omega arith)
          ∙ ap (λ (l : List ℕ). slice_index l (k - place - 4)) rest
          ∙ get_or-drop (place + 4) old (k - place - 4) 0
          ∙ ap (slice_index old) (omega arith);
    }
