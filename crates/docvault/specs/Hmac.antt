-- HMAC over SHA-256 (RFC 2104, section 2), with blocks of 64 bytes.
use Rattle.std.specs.Prelude.{ℕ, List, ◌++◌, ◌-◌, length, map, replicate, bit_xor, nat_lt, if◌then◌else◌}
use Rattle.sha2.specs.Sha256.{sha256}

-- these bytes, and zeros behind them up to a block
abbrev pub zero_filled : List ℕ → List ℕ
zero_filled bytes = bytes ++ replicate (64 - length bytes) 0

-- the key as one block: a key longer than a block is hashed first
abbrev pub key_block : List ℕ → List ℕ
key_block key = zero_filled (if nat_lt 64 (length key) then sha256 key else key)

-- each byte, exclusive-or one byte
abbrev pub xor_each : ℕ → List ℕ → List ℕ
xor_each pad bytes = map (λ byte. bit_xor byte pad) bytes

-- H((K xor opad) || H((K xor ipad) || text)), with ipad 0x36 and opad 0x5c
abbrev pub hmac_of : List ℕ → List ℕ → List ℕ
hmac_of key text = sha256 (xor_each 0x5c (key_block key) ++ sha256 (xor_each 0x36 (key_block key) ++ text))
