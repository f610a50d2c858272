-- One more item in a loop over files or states.
use Rattle.std.proofs.Common.{◌≡◌, ℕ, suc, ◌+◌, ◌-◌, ◌/◌, ◌%◌, ◌^◌, false, ◌<◌, ◌≤◌, map, Option, Some, None, IfSome, subst, List, [], ◌∷◌, ◌++◌, length, get_or, take, refl, sym, ap, ◌∙◌, arith, append_assoc, append-nil, length-take}
use Rattle.std.specs.Prelude.{codes, decimal}
use Rattle.std.specs.List.{range_with_len, flat_map}
use Rattle.std.proofs.lemmas.Grind.{take_at_read, flat_map-append}
use Rattle.std.proofs.lemmas.List.{take_more}
use Rattle.std.proofs.lemmas.Fmt.{hex_byte}
use Rattle.std.specs.Fmt.{digits, digit_glyph, padded_integral, format_spec}
use Rattle.std.proofs.lemmas.List.FromFn.{map-range_with_len_more}
use Rattle.shelf.specs.Held.{Held}
use Rattle.algebra61.specs.Polynomial.{Polynomial}
use Rattle.keyroom.specs.declared.steps.Found.{Found}
use Rattle.keyroom.specs.declared.state.MemberState.{MemberState}
use Rattle.keyroom.specs.Decoding.{states_of, state_of}
use Rattle.keyroom.specs.Texts.{line, round_lines, state_text, member_line, member_lines, hex_text}

states_push : (polys : List Polynomial) (i j : ℕ) (files : List Found) (file : Found) → j ≡ i + length files → states_of polys i (files ++ file ∷ []) ≡ states_of polys i files ++ state_of polys j file ∷ []
states_push polys i j [] file e = let h : j ≡ i = omega (arith, e) in rw h refl
states_push polys i j (f ∷ files) file e = ap (λ (s : List MemberState). state_of polys i f ∷ s) (states_push polys (suc i) j files file (omega (arith, e)))

pub states_more : (polys : List Polynomial) (files : List Found) (k j : ℕ) (file : Found) → k < length files → file ≡ get_or files k file → j ≡ k + 1 → states_of polys 1 (take (k + 1) files) ≡ states_of polys 1 (take k files) ++ state_of polys j file ∷ []
states_more polys files k j file lt is e =
    ap (states_of polys 1) ((take_at_read files k file lt).1 ∙ ap (λ (f : Found). take k files ++ f ∷ []) (sym is))
    ∙ states_push polys 1 j (take k files) file (omega (arith, e, length-take k files))

lines_push : (i j : ℕ) (states : List MemberState) (state : MemberState) → j ≡ i + length states → member_lines i (states ++ state ∷ []) ≡ member_lines i states ++ member_line j state
lines_push i j [] state e = let h : j ≡ i = omega (arith, e) in rw h (append-nil (member_line i state))
lines_push i j (s ∷ states) state e = ap (λ (t : List ℕ). member_line i s ++ t) (lines_push (suc i) j states state (omega (arith, e))) ∙ sym (append_assoc (member_line i s) (member_lines (suc i) states) (member_line j state))

pub lines_more : (states : List MemberState) (k j : ℕ) (d : MemberState) → k < length states → j ≡ k + 1 → member_lines 1 (take (k + 1) states) ≡ member_lines 1 (take k states) ++ member_line j (get_or states k d)
lines_more states k j d lt e = ap (member_lines 1) (take_more states k d lt) ∙ lines_push 1 j (take k states) (get_or states k d) (omega (arith, e, length-take k states))

member_text : (index : ℕ) (state : MemberState) → codes "member " ++ (decimal index ++ (codes " " ++ (state_text state ++ 10 ∷ []))) ≡ member_line index state
member_text index state = sym (simp append_assoc)

-- a line for one more member
pub line_written : (states : List MemberState) (k : ℕ) (d : MemberState) (front old new : List ℕ) → k < length states → old ≡ front ++ member_lines 1 (take k states) →
    new ≡ old ++ (codes "member " ++ (decimal (k + 1) ++ (codes " " ++ (state_text (get_or states k d) ++ 10 ∷ [])))) → new ≡ front ++ member_lines 1 (take (k + 1) states)
line_written states k d front old new lt so_far wrote =
    let l = member_line (k + 1) (get_or states k d) in
    wrote ∙ ap (λ (t : List ℕ). old ++ t) (member_text (k + 1) (get_or states k d)) ∙ ap (λ (t : List ℕ). t ++ l) so_far ∙ append_assoc front (member_lines 1 (take k states)) l
    ∙ ap (λ (t : List ℕ). front ++ t) (sym (lines_more states k (k + 1) d lt refl))

-- one more file was asked for, and the shelf holds what it held
module _ (f : Held → ℕ → Found) where
  pub found_more : (old mid : Option Held) (files new : List Found) (file : Found) (index : ℕ) → mid ≡ old → 1 ≤ index →
      IfSome old (λ m. files ≡ map (f m) (range_with_len 1 (index - 1))) → IfSome mid (λ m. file ≡ f m index) → new ≡ files ++ file ∷ [] →
      IfSome old (λ m. new ≡ map (f m) (range_with_len 1 (index + 1 - 1)))
  found_more None mid files new file index same low so_far found pushed = tt
  found_more (Some m) mid files new file index same low so_far found pushed =
      let here : file ≡ f m index = subst (λ o. IfSome o (λ m. file ≡ f m index)) same found in
      let more : index + 1 - 1 ≡ index - 1 + 1 = omega (arith, low) in
      pushed ∙ ap (λ (fs : List Found). fs ++ file ∷ []) so_far ∙ ap (λ (g : Found). map (f m) (range_with_len 1 (index - 1)) ++ g ∷ []) here
      ∙ sym (map-range_with_len_more (f m) 1 (index - 1) index (omega (arith, low))) ∙ ap (λ n. map (f m) (range_with_len 1 n)) (sym more)

  pub found_all : (old : Option Held) (files : List Found) (index n : ℕ) → index ≡ n + 1 →
      IfSome old (λ m. files ≡ map (f m) (range_with_len 1 (index - 1))) → IfSome old (λ m. files ≡ map (f m) (range_with_len 1 n))
  found_all old files index n e so_far = let at : index - 1 ≡ n = omega (arith, e) in subst (λ k. IfSome old (λ m. files ≡ map (f m) (range_with_len 1 k))) at so_far

-- two digits for one more byte
pub hex_more : (bytes : List ℕ) (k : ℕ) (front old new : List ℕ) → k < length bytes → get_or bytes k 0 < 256 → old ≡ front ++ hex_text (take k bytes) →
    new ≡ old ++ padded_integral (format_spec 32 0 4 2 (2 ^ 64 - 1)) false [] (digits 16 false (get_or bytes k 0)) → new ≡ front ++ hex_text (take (k + 1) bytes)
hex_more bytes k front old new lt fits so_far wrote =
    let b = get_or bytes k 0 in
    let digit : ℕ → List ℕ = λ x. digit_glyph false (x / 16) ∷ digit_glyph false (x % 16) ∷ [] in
    wrote ∙ ap (λ (t : List ℕ). old ++ t) (hex_byte false b fits) ∙ ap (λ (t : List ℕ). t ++ digit b) so_far
    ∙ append_assoc front (hex_text (take k bytes)) (digit b)
    ∙ ap (λ (t : List ℕ). front ++ t) (sym (ap hex_text (take_more bytes k 0 lt) ∙ flat_map-append digit (take k bytes) (b ∷ []) ∙ ap (λ (t : List ℕ). hex_text (take k bytes) ++ t) (append-nil (digit b))))

-- a line for one more round
rounds_push : (i j : ℕ) (masks : List ℕ) (mask : ℕ) → j ≡ i + length masks → round_lines i (masks ++ mask ∷ []) ≡ round_lines i masks ++ round_lines j (mask ∷ [])
rounds_push i j [] mask e = let h : j ≡ i = omega (arith, e) in rw h refl
rounds_push i j (m ∷ masks) mask e =
    let one = line (codes "round " ++ (decimal i ++ (codes " mask " ++ decimal m))) in
    ap (λ (t : List ℕ). one ++ t) (rounds_push (suc i) j masks mask (omega (arith, e))) ∙ sym (append_assoc one (round_lines (suc i) masks) (round_lines j (mask ∷ [])))

round_text : (round mask : ℕ) → codes "round " ++ (decimal round ++ (codes " mask " ++ (decimal mask ++ 10 ∷ []))) ≡ round_lines round (mask ∷ [])
round_text round mask = sym (simp (append_assoc, append-nil))

pub round_written : (masks : List ℕ) (k : ℕ) (front old new : List ℕ) → k < length masks → old ≡ front ++ round_lines 1 (take k masks) →
    new ≡ old ++ (codes "round " ++ (decimal (k + 1) ++ (codes " mask " ++ (decimal (get_or masks k 0) ++ 10 ∷ [])))) → new ≡ front ++ round_lines 1 (take (k + 1) masks)
round_written masks k front old new lt so_far wrote =
    let l = round_lines (k + 1) (get_or masks k 0 ∷ []) in
    wrote ∙ ap (λ (t : List ℕ). old ++ t) (round_text (k + 1) (get_or masks k 0)) ∙ ap (λ (t : List ℕ). t ++ l) so_far ∙ append_assoc front (round_lines 1 (take k masks)) l
    ∙ ap (λ (t : List ℕ). front ++ t) (sym (ap (round_lines 1) (take_more masks k 0 lt) ∙ rounds_push 1 (k + 1) (take k masks) (get_or masks k 0) (omega (arith, length-take k masks))))

-- one more word of a list of words
module _ {X : Type 0} (word : X → List ℕ) where
  pub word_written : (xs : List X) (k : ℕ) (d : X) (front old new : List ℕ) → k < length xs → old ≡ front ++ flat_map word (take k xs) →
      new ≡ old ++ word (get_or xs k d) → new ≡ front ++ flat_map word (take (k + 1) xs)
  word_written xs k d front old new lt so_far wrote =
      let x = get_or xs k d in
      wrote ∙ ap (λ (t : List ℕ). t ++ word x) so_far ∙ append_assoc front (flat_map word (take k xs)) (word x)
      ∙ ap (λ (t : List ℕ). front ++ t) (sym (ap (flat_map word) (take_more xs k d lt) ∙ flat_map-append word (take k xs) (x ∷ []) ∙ ap (λ (t : List ℕ). flat_map word (take k xs) ++ t) (append-nil (word x))))
