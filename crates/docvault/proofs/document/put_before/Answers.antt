use Rattle.std.proofs.Common.{◌≡◌, ◌-◌, ◌+◌, ◌≤◌, List, [], ◌++◌, ℕ, length, take, drop, sym, ap, ◌∙◌, arith, append-nil, append_assoc}
use Rattle.std.proofs.lemmas.List.{drop_at, drop_all, length-take-le}
use Rattle.std.specs.List.{copy_within}
use Rattle.docvault.proofs.document.put_before.Goals as goal

-- what stands behind the first 48 bytes after the move
moved : (bytes : List ℕ) → 48 ≤ length bytes → drop 48 (copy_within bytes 0 (length bytes - 48) 48) ≡ take (length bytes - 48) bytes
moved bytes room =
    let size : ℕ = length bytes - 48 - 0 in
    let none : drop (48 + size) bytes ≡ [] = drop_all (48 + size) bytes (omega arith) in
    let front : length (take 48 bytes) ≡ 48 = length-take-le 48 bytes room in
    let width : size ≡ length bytes - 48 = omega arith in
    ap (drop 48) (append_assoc (take 48 bytes) (take size bytes) (drop (48 + size) bytes)) ∙ drop_at (take 48 bytes) (take size bytes ++ drop (48 + size) bytes) 48 front ∙ ap (λ (t : List ℕ). take size bytes ++ t) none ∙ append-nil (take size bytes) ∙ ap (λ (n : ℕ). take n bytes) width

pub slice_bounds-copy_from_slice-end-2 : goal.slice_bounds-copy_from_slice-end-2
slice_bounds-copy_from_slice-end-2 c = sym (length-take-le 48 c.copy_within.new.self (omega (arith, c.copy_within.ensures.len, c.requires)))

pub copy_from_slice-requires : goal.copy_from_slice-requires
copy_from_slice-requires c = length-take-le 48 c.copy_within.new.self (omega (arith, c.copy_within.ensures.len, c.requires)) ∙ sym c.told-head

pub returns : goal.returns
returns c = ap (λ (t : List ℕ). t ++ drop 48 c.copy_within.new.self) c.copy_from_slice.ensures.after ∙ ap (λ (t : List ℕ). c.args.head.now ++ t) (ap (drop 48) c.copy_within.ensures.after ∙ moved c.args.bytes.now c.requires)
