use Rattle.docvault.specs.Masking.{IsMasked}
use Rattle.docvault.proofs.cipher.mask_word.Given as goal

abbrev pub invariant-loop-j : goal.invariant-loop-j
invariant-loop-j l = IsMasked l.fn.bytes l.bytes l.place l.j l.word
