-- What is written by `digits_of` is read back.
use Rattle.std.proofs.Common.{◌≡◌, ◌≢◌, ◌∙◌, sym, ap, ℕ, List, [], ◌∷◌, Result, Ok, Err}
use Rattle.std.specs.Prelude.{codes}
use Rattle.hex.specs.Hex.{IsBytes, decode_of}
use Rattle.hex.specs.declared.error.FromHexError.{FromHexError}
use Rattle.hex.proofs.HexLemmas.{decode_of-encode_lower}
use Rattle.replay.specs.Digits.{digits_of}

-- a text of bytes that isn't the one of no bytes is decoded to them
pub spelled : (text bytes : List ℕ) → IsBytes bytes → text ≢ codes "-" → text ≡ digits_of bytes → decode_of text ≡ Ok bytes
spelled text [] h other e = absurd (other e)
spelled text (byte ∷ rest) h other e = ap decode_of e ∙ decode_of-encode_lower (byte ∷ rest) h

abbrev value_or_none : Result (List ℕ) FromHexError → List ℕ
value_or_none (Ok bytes) = bytes
value_or_none (Err fault) = []

-- a text whose digits mean bytes that are written otherwise is the text of no bytes
pub otherwise : (text found : List ℕ) → text ≢ codes "-" → decode_of text ≡ Ok found → text ≢ digits_of found → (bytes : List ℕ) → IsBytes bytes → text ≢ digits_of bytes
otherwise text found other decoded differs bytes h e =
    differs (e ∙ ap digits_of (ap value_or_none (sym (spelled text bytes h other e) ∙ decoded)))
