use Rattle.std.proofs.Common.{◌≡◌, ℕ, ◌+◌, ◌*◌, ◌/◌, ◌%◌, ◌^◌, length, refl, ap, subst, ◌∙◌, arith, rules}
use Rattle.std.proofs.Math.Nat.{mod-eq_of_lt}
use Rattle.rand_chacha.specs.ChaCha.{ChaCha, word_at, next_word, key_of}
use Rattle.docvault.specs.Masking.{IsMasked}
use Rattle.docvault.proofs.Keystream.{Applied, Applied-more, IsSealed-from}
use Rattle.docvault.proofs.cipher.apply_keystream.Goals as goal

pub loop-i-init : goal.loop-i-init
loop-i-init c = (search rules, record { as_long = refl; masked = λ k lt. absurd (omega arith); left = λ k le. refl })

pub loop-i-preserved : goal.loop-i-preserved
loop-i-preserved c =
    let at : ℕ → ChaCha = λ n. record { key = key_of c.args.enc_key; stream = c.args.number; word_pos = n } in
    let made : (c.next_word.result, c.next_word.new.self) ≡ next_word 10 (at c.loop-i.i) = c.next_word.ensures ∙ ap (next_word 10) c.loop-i.invariant.0 in
    let place : (c.loop-i.i + 1) % 2 ^ 68 ≡ c.loop-i.i + 1 = mod-eq_of_lt (omega arith) in
    let state : c.next_word.new.self ≡ at (c.loop-i.i + 1) = ap (λ (p : ℕ × ChaCha). p.1) made ∙ ap at place in
    let word : c.next_word.result ≡ word_at 10 (key_of c.args.enc_key) c.args.number c.loop-i.i = ap (λ (p : ℕ × ChaCha). p.0) made in
    let masked = subst (IsMasked c.loop-i.bytes c.mask_four.new.bytes (4 * c.loop-i.i) 4) word c.mask_four.ensures in
    let more = Applied-more c.args.bytes.now c.loop-i.bytes c.mask_four.new.bytes c.args.enc_key c.args.number c.loop-i.i 4 (omega arith) c.loop-i.invariant.1 masked in
    (state, subst (Applied c.args.bytes.now c.mask_four.new.bytes c.args.enc_key c.args.number) (omega arith) more)

pub returns : goal.returns
returns c =
    let at : ℕ → ChaCha = λ n. record { key = key_of c.args.enc_key; stream = c.args.number; word_pos = n } in
    let made : (c.next_word-2.result, c.next_word-2.new.self) ≡ next_word 10 (at c.loop-i.i) = c.next_word-2.ensures ∙ ap (next_word 10) c.loop-i.invariant.0 in
    let word : c.next_word-2.result ≡ word_at 10 (key_of c.args.enc_key) c.args.number c.loop-i.i = ap (λ (p : ℕ × ChaCha). p.0) made in
    let end = c.loop-i.auto.i-end in
    let done : length c.args.bytes.now / 4 ≡ c.loop-i.i = omega arith in
    let masked = subst (IsMasked c.loop-i.bytes c.mask_word.new.bytes (4 * c.loop-i.i) (length c.loop-i.bytes % 4)) word (rw done at c.mask_word.ensures) in
    let more = Applied-more c.args.bytes.now c.loop-i.bytes c.mask_word.new.bytes c.args.enc_key c.args.number c.loop-i.i (length c.loop-i.bytes % 4) (omega arith) c.loop-i.invariant.1 masked in
    IsSealed-from c.args.bytes.now c.mask_word.new.bytes c.args.enc_key c.args.number (4 * c.loop-i.i + length c.loop-i.bytes % 4) (omega (arith, c.loop-i.invariant.1.as_long)) more
