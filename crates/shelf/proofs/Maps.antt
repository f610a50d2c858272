-- A map in memory, and the finite map that it stands for.
use Rattle.std.proofs.Common.{◌≡◌, ℕ, Bool, true, false, cond, List, [], ◌∷◌, map, length, arith, refl, sym, ap, ◌∙◌, String, BTreeMap, Option, Some, None, string_bytes}
use Rattle.std.specs.declared.vec.Vec.{Vec}
use Rattle.std.specs.Option.{option_map}
use Rattle.std.specs.BTreeMap.{get_by_text, is_at}
use Rattle.std.specs.Map.{update, lookup, keys_of}
use Rattle.std.specs.List.{AllByRecursion}
use Rattle.std.specs.List.Sorted.{IsStrictlySortedBy}
use Rattle.std.specs.String.{string_cmp}
use Rattle.std.specs.declared.cmp.Ordering.TheVariants.{Less}
use Rattle.std.specs.Str.{bytes_eq}
use Rattle.std.specs.Ordering.{nat_cmp, eq_by_cmp, is_eq}
use Rattle.std.specs.Cmp.Lexicographic.{slice_cmp, nat_list_cmp_total, nat_list_eq_equiv}
use Rattle.std.specs.FinMap as fin
use Rattle.std.specs.FinMap.{find, len, from_entries, len-empty, len-insert, get-from_entries, get-insert, get-remove, same_map, slice_cmp-IsAntisymmetric, nat_cmp-IsAntisymmetric}
use Rattle.std.proofs.lemmas.Map.Text.{is_eq-slice_cmp}
use Rattle.shelf.specs.Held.{Held}
use Rattle.shelf.specs.Memory.{held_in}

same_key : (q k : List ℕ) → eq_by_cmp (slice_cmp nat_cmp) q k ≡ bytes_eq k q
same_key q k = is_eq-slice_cmp q k ∙ nat_list_eq_equiv.symm q k

same : (m n : Held) → ((q : List ℕ) → fin.get m q ≡ fin.get n q) → m ≡ n
same m n h = same_map nat_list_cmp_total (slice_cmp-IsAntisymmetric nat_cmp-IsAntisymmetric) m n h

-- one key is set or taken away
changed : {Z : Type 0} (b : Bool) (w o : Option (Vec ℕ Z)) → option_map (λ v. v.items) (cond b w o) ≡ cond b (option_map (λ v. v.items) w) (option_map (λ v. v.items) o)
changed true w o = refl
changed false w o = refl

module _ {Y Z : Type 0} where
  -- a look-up by bytes, in the entries and in what they stand for
  find_is_lookup : (q : List ℕ) (es : List (String Y × Vec ℕ Z)) → find (slice_cmp nat_cmp) q (map (λ e. (string_bytes e.0, e.1.items)) es) ≡ option_map (λ v. v.items) (lookup (is_at (λ k. slice_cmp nat_cmp q (string_bytes k))) es)
  find_is_lookup q [] = refl
  find_is_lookup q (e ∷ es) =
      elim (is_eq (slice_cmp nat_cmp q (string_bytes e.0))) as (λ b. cond b (Some e.1.items) (find (slice_cmp nat_cmp) q (map (λ e. (string_bytes e.0, e.1.items)) es)) ≡ option_map (λ v. v.items) (cond b (Some e.1) (lookup (is_at (λ k. slice_cmp nat_cmp q (string_bytes k))) es))) [
        | true ↦ refl
        | false ↦ find_is_lookup q es
      ]

  pub get_held_in : (m : BTreeMap (String Y) (Vec ℕ Z)) (q : List ℕ) → fin.get (held_in m) q ≡ option_map (λ v. v.items) (get_by_text m q)
  get_held_in m q = get-from_entries nat_list_cmp_total _ q ∙ find_is_lookup q m.entries

  get_after : (m n : BTreeMap (String Y) (Vec ℕ Z)) (bs : List ℕ) (w : Option (Vec ℕ Z)) → ((q : List ℕ) → get_by_text n q ≡ update bytes_eq (get_by_text m) bs w q) → (q : List ℕ) → fin.get (held_in n) q ≡ cond (eq_by_cmp (slice_cmp nat_cmp) q bs) (option_map (λ v. v.items) w) (fin.get (held_in m) q)
  get_after m n bs w u q =
      get_held_in n q ∙ ap (option_map (λ v. v.items)) (u q) ∙ changed (bytes_eq bs q) w (get_by_text m q)
      ∙ rw (same_key q bs, get_held_in m q) refl

  pub held_in_insert : (m n : BTreeMap (String Y) (Vec ℕ Z)) (bs : List ℕ) (v : Vec ℕ Z) → ((q : List ℕ) → get_by_text n q ≡ update bytes_eq (get_by_text m) bs (Some v) q) → held_in n ≡ fin.insert (held_in m) bs v.items
  held_in_insert m n bs v u = same _ _ (λ q. get_after m n bs (Some v) u q ∙ sym (get-insert nat_list_cmp_total (held_in m) bs v.items q))

  pub held_in_remove : (m n : BTreeMap (String Y) (Vec ℕ Z)) (bs : List ℕ) → ((q : List ℕ) → get_by_text n q ≡ update bytes_eq (get_by_text m) bs None q) → held_in n ≡ fin.remove (held_in m) bs
  held_in_remove m n bs u = same _ _ (λ q. get_after m n bs None u q ∙ sym (get-remove nat_list_cmp_total (held_in m) bs q))

  -- a key below all of a list is none of them
  below_all : (q : String Y) (es : List (String Y × Vec ℕ Z)) → AllByRecursion (λ k. string_cmp q k ≡ Less) (keys_of es) → find (slice_cmp nat_cmp) (string_bytes q) (map (λ e. (string_bytes e.0, e.1.items)) es) ≡ None
  below_all q [] h = refl
  below_all q (e ∷ es) h = rw h.0 (below_all q es h.1)

  -- as many names are held as the map has entries
  len_from_entries : (es : List (String Y × Vec ℕ Z)) → IsStrictlySortedBy string_cmp (keys_of es) → len (from_entries {R = slice_cmp nat_cmp} (map (λ e. (string_bytes e.0, e.1.items)) es)) ≡ length es
  unfolding IsStrictlySortedBy
  len_from_entries [] h = len-empty (slice_cmp nat_cmp) (List ℕ)
  len_from_entries (e ∷ es) h =
      let rest : List (List ℕ × List ℕ) = map (λ e. (string_bytes e.0, e.1.items)) es in
      let new : fin.get (from_entries {R = slice_cmp nat_cmp} rest) (string_bytes e.0) ≡ None = get-from_entries nat_list_cmp_total rest (string_bytes e.0) ∙ below_all e.0 es h.0 in
      len-insert nat_list_cmp_total (from_entries rest) (string_bytes e.0) e.1.items ∙ rw (new, len_from_entries es h.1) (omega arith)

  pub len_held_in : (m : BTreeMap (String Y) (Vec ℕ Z)) → IsStrictlySortedBy string_cmp (keys_of m.entries) → len (held_in m) ≡ length m.entries
  len_held_in m h = len_from_entries m.entries h
