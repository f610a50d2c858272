-- The box of a document, as a relation between key, name, number, document and bytes.
use Rattle.std.specs.Prelude.{◌≡◌, ◌<◌, ◌^◌, ◌/◌, ◌%◌, ℕ, List, [], ◌∷◌, ◌++◌, length, slice_index, bit_xor}
use Rattle.std.specs.Int.{w32, w64, to_be_bytes, byte_at}
use Rattle.rand_chacha.specs.ChaCha.{word_at, key_of}
use Rattle.algebra61.specs.Field.{Fp}
use Rattle.sharefile.specs.Names.{padded}
use Rattle.docvault.specs.Keys.{enc_key_of, mac_key_of}
use Rattle.docvault.specs.Hmac.{hmac_of}

-- Byte k of the keystream under a key of 32 bytes, for a document's number. The keystream is the word sequence of
-- ChaCha20 (RFC 8439 in Bernstein's layout, with ten double rounds), whose stream is the document's number. Each
-- word gives four bytes, the least significant first.
abbrev pub keystream_byte : List ℕ → ℕ → ℕ → ℕ
keystream_byte enc_key number k = byte_at (k % 4) (word_at 10 (key_of enc_key) number (k / 4))

-- each byte is the document's, exclusive-or that of the keystream
pub record IsSealed (enc_key : List ℕ) (number : ℕ) (document sealed : List ℕ) : Type 0 where
  pub as_long : length sealed ≡ length document
  pub each : (k : ℕ) → k < length document → slice_index sealed k ≡ bit_xor (slice_index document k) (keystream_byte enc_key number k)

-- the letters DKB1, with which a box begins
abbrev pub box_magic : List ℕ
box_magic = 68 ∷ 75 ∷ 66 ∷ 49 ∷ []

-- the first 48 bytes: the letters, the document's number, its length, and the key's name
abbrev pub box_head : List ℕ → ℕ → ℕ → List ℕ
box_head name number size = 68 ∷ 75 ∷ 66 ∷ 49 ∷ to_be_bytes w32 number ++ (to_be_bytes w64 size ++ padded name)

-- a text with its tag behind it
abbrev pub tagged : List ℕ → List ℕ → List ℕ
tagged mac_key text = text ++ hmac_of mac_key text

-- the bytes are the box of the document under the key, the name and the number
pub record IsBox (key : List Fp) (name : List ℕ) (number : ℕ) (document bytes : List ℕ) : Type 0 where
  pub number_fits : number < 2 ^ 32
  pub sealed : List ℕ
  pub is_sealed : IsSealed (enc_key_of key) number document sealed
  pub whole : bytes ≡ tagged (mac_key_of key) (box_head name number (length document) ++ sealed)
