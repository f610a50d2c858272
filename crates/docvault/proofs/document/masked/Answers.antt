use Rattle.std.proofs.Common.{◌≡◌, List, ℕ, ◌++◌, length, take, drop, sym, ap, subst, ◌∙◌, arith}
use Rattle.std.proofs.lemmas.List.{take_at}
use Rattle.docvault.specs.Keys.{enc_key_of}
use Rattle.docvault.specs.Box.{IsSealed}
use Rattle.docvault.proofs.document.masked.Goals as goal

pub returns : goal.returns
returns c =
    let old : List ℕ = c.as_mut_slice.result.now in
    let new : List ℕ = c.apply_keystream_from.new.bytes in
    let size : length new ≡ c.args.bytes.len = omega (arith, c.apply_keystream_from.auto.bytes, c.as_mut_slice.ensures.len) in
    let whole : take c.args.bytes.len (new ++ drop (length new) c.args.bytes.items) ≡ new = take_at new (drop (length new) c.args.bytes.items) c.args.bytes.len size in
    let applied : IsSealed (enc_key_of c.args.key.now) c.args.number (drop 48 old) (drop 48 new) = subst (λ (k : List ℕ). IsSealed k c.args.number (drop 48 old) (drop 48 new)) c.enc_key.ensures c.apply_keystream_from.ensures.behind in
    record {
      front = ap (take 48) whole ∙ c.apply_keystream_from.ensures.front ∙ ap (take 48) c.as_mut_slice.ensures.value;
      behind = subst (λ (t : List ℕ). IsSealed (enc_key_of c.args.key.now) c.args.number (drop 48 c.args.bytes.items) (drop 48 t)) (sym whole)
          (subst (λ (t : List ℕ). IsSealed (enc_key_of c.args.key.now) c.args.number (drop 48 t) (drop 48 new)) c.as_mut_slice.ensures.value applied);
    }
