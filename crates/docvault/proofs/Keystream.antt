-- The keystream, word by word.
use Rattle.std.proofs.Common.{◌≡◌, ℕ, ◌+◌, ◌-◌, ◌*◌, ◌/◌, ◌%◌, ◌<◌, ◌≤◌, List, [], ◌++◌, length, take, drop, sym, ap, subst, ◌∙◌, arith, inl, inr, append-nil}
use Rattle.std.specs.Prelude.{slice_index, bit_xor}
use Rattle.std.specs.Int.{byte_at}
use Rattle.std.proofs.lemmas.Bool.{cases_lt}
use Rattle.std.proofs.lemmas.List.{take_all, drop_all, drop_at, length-take, length-drop}
use borrow.Rule.Slice.PartMut.{put_mid, post_of}
use Rattle.rand_chacha.specs.ChaCha.{word_at, key_of}
use Rattle.docvault.specs.Box.{keystream_byte, IsSealed}
use Rattle.docvault.specs.Masking.{IsMasked}

-- the keystream was taken into the first bytes, and the others stand
pub record Applied (old new enc_key : List ℕ) (number count : ℕ) : Type 0 where
  pub as_long : length new ≡ length old
  pub masked : (k : ℕ) → k < count → slice_index new k ≡ bit_xor (slice_index old k) (keystream_byte enc_key number k)
  pub left : (k : ℕ) → count ≤ k → slice_index new k ≡ slice_index old k

-- a byte of a word that stands at a multiple of four
byte_of_word : (enc_key : List ℕ) (number i k : ℕ) → 4 * i ≤ k → k < 4 * i + 4 → byte_at (k - 4 * i) (word_at 10 (key_of enc_key) number i) ≡ keystream_byte enc_key number k
byte_of_word enc_key number i k low high =
    let place : k - 4 * i ≡ k % 4 = omega arith in
    let word : i ≡ k / 4 = omega arith in
    ap (λ (j : ℕ). byte_at j (word_at 10 (key_of enc_key) number i)) place ∙ ap (λ (j : ℕ). byte_at (k % 4) (word_at 10 (key_of enc_key) number j)) word

-- one more word, or a part of it
pub Applied-more : (old mid new enc_key : List ℕ) (number i count : ℕ) → count ≤ 4 → Applied old mid enc_key number (4 * i) → IsMasked mid new (4 * i) count (word_at 10 (key_of enc_key) number i) → Applied old new enc_key number (4 * i + count)
Applied-more old mid new enc_key number i count few a m = record {
  as_long = m.as_long ∙ a.as_long;
  masked = λ k lt. elim (cases_lt k (4 * i)) [
    | inl below ↦ m.before k below ∙ a.masked k below
    | inr above ↦ m.within k above lt ∙ ap (λ (x : ℕ). bit_xor x (byte_at (k - 4 * i) (word_at 10 (key_of enc_key) number i))) (a.left k above) ∙ ap (bit_xor (slice_index old k)) (byte_of_word enc_key number i k above (omega arith))
  ];
  left = λ k le. m.behind k le ∙ a.left k (omega arith);
}

-- the whole list
pub IsSealed-from : (old new enc_key : List ℕ) (number count : ℕ) → count ≡ length old → Applied old new enc_key number count → IsSealed enc_key number old new
IsSealed-from old new enc_key number count all a = record {
  as_long = a.as_long;
  each = λ k lt. a.masked k (omega arith);
}

-- the end of a list, from a place on
pub IsSealed-behind : (start : ℕ) (bytes new enc_key : List ℕ) (number : ℕ) → start ≤ length bytes → IsSealed enc_key number (take (length bytes - start) (drop start bytes)) new → IsSealed enc_key number (drop start bytes) (drop start (put_mid start (length bytes - start) bytes new))
IsSealed-behind start bytes new enc_key number within is =
    let end = length bytes - start in
    let old : take end (drop start bytes) ≡ drop start bytes = take_all end (drop start bytes) (omega (arith, length-drop start bytes)) in
    let none : post_of start end bytes ≡ [] = drop_all end (drop start bytes) (omega (arith, length-drop start bytes)) in
    let tail : drop start (put_mid start end bytes new) ≡ new = drop_at (take start bytes) (new ++ post_of start end bytes) start (omega (arith, length-take start bytes)) ∙ ap (λ (t : List ℕ). new ++ t) none ∙ append-nil new in
    subst (IsSealed enc_key number (drop start bytes)) (sym tail) (subst (λ (t : List ℕ). IsSealed enc_key number t new) old is)
