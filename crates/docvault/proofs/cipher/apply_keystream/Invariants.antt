use Rattle.std.proofs.Common.{◌≡◌, ◌*◌}
use Rattle.rand_chacha.specs.ChaCha.{key_of}
use Rattle.docvault.proofs.Keystream.{Applied}
use Rattle.docvault.proofs.cipher.apply_keystream.Given as goal

abbrev pub invariant-loop-i : goal.invariant-loop-i
invariant-loop-i l =
    (l.words ≡ record { key = key_of l.fn.enc_key; stream = l.fn.number; word_pos = l.i })
    × Applied l.fn.bytes l.bytes l.fn.enc_key l.fn.number (4 * l.i)
