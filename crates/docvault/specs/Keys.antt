-- What is made of a key of five lanes.
use Rattle.std.specs.Prelude.{ℕ, List, ◌∷◌}
use Rattle.std.specs.List.{flat_map}
use Rattle.sha2.specs.Sha256.{sha256}
use Rattle.algebra61.specs.Field.{Fp}
use Rattle.sharefile.specs.Files.{lane_bytes}

-- the key's 40 bytes: its lanes one behind the other, eight bytes each, the most significant first
abbrev pub key_bytes : List Fp → List ℕ
key_bytes key = flat_map lane_bytes key

-- the key of the cipher
abbrev pub enc_key_of : List Fp → List ℕ
enc_key_of key = sha256 (1 ∷ key_bytes key)

-- the key of the tag
abbrev pub mac_key_of : List Fp → List ℕ
mac_key_of key = sha256 (2 ∷ key_bytes key)

-- the fingerprint, by which a key is named
abbrev pub fingerprint_of : List Fp → List ℕ
fingerprint_of key = sha256 (3 ∷ key_bytes key)
