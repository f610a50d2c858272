-- The share files that a create puts lie on one polynomial in each lane.
use Rattle.std.proofs.Common.{◌≡◌, inl, inr, ◌⊎◌, ℕ, ◌<◌, ◌≤◌, false, List, [], length, get_or, take, Option, sym, ap, ◌∙◌, arith, append-nil, subst}
use Rattle.std.proofs.lemmas.List.FromFn.{get_or-map-range_with_len, length-map-range_with_len}
use Rattle.algebra61.specs.Field.{Fp, zeroₚ}
use Rattle.shelf.specs.Held.{Held, Change, after}
use Rattle.sharefile.specs.declared.link.Link.{Link}
use Rattle.sharefile.specs.Files.{Now, IsNow, Share}
use Rattle.keyroom.specs.Names.{share_name}
use Rattle.keyroom.specs.Steps.{share_step, IsShareOf, HasShare}
use Rattle.keyroom.proofs.Valid.{valid_held}
use Rattle.plays.specs.Play.{Play, created_share}
use Rattle.plays.specs.Law.{ProperPlay, HonestIn}
use Rattle.plays.proofs.Lanes.{created_line}
use Rattle.talk.specs.Shape.{create_shape}
use Rattle.commands.specs.Create.{create_changes, created_shares}
use Rattle.commands.specs.Agreement.{PutsShare, PutsOnOneLine, HeldOnOneLine, NewOnOneLine}
use Rattle.commands.proofs.Periods.{IsMade, around, put_file, held_was_put}
use Rattle.commands.proofs.Shelves.{among_take, put_or_before}

-- ---- a share file that is put
pub lane_at : (p : Play) (j lane : ℕ) → lane < 5 → get_or (created_shares p j) lane zeroₚ ≡ created_share p lane j
lane_at p j lane lt = get_or-map-range_with_len (λ l. created_share p l j) 0 5 lane lane zeroₚ lt (omega arith)

pub five_created : (p : Play) (j : ℕ) → length (created_shares p j) ≡ 5
five_created p j = length-map-range_with_len (λ l. created_share p l j) 0 5

-- the changes of a create are those of its period
module _ (now : Now) (p : Play) (is : IsNow now) (link : Option Link) where
  alone : around now is p.down (created_shares p) (five_created p) [] [] (λ q bytes none. none) (λ q bytes none. none) link ≡ create_changes now p
  alone = append-nil (create_changes now p)

  abbrev pub Made : ℕ → Share → Type 0
  Made j file = IsMade now is p.down (created_shares p) (five_created p) [] [] (λ q bytes none. none) (λ q bytes none. none) link j file

  pub put_created : (j : ℕ) (file : Share) → PutsShare (record now { link = link }) (create_changes now p) j file → Made j file
  put_created j file puts =
      put_file now is p.down (created_shares p) (five_created p) [] [] (λ q bytes none. none) (λ q bytes none. none) link j file
      (subst (λ (cs : List Change). PutsShare (record now { link = link }) cs j file) (sym alone) puts)

  pub held_created : (held : Held) (j : ℕ) (file : Share) → 1 ≤ j → j ≤ now.n → HasShare (record now { link = link }) (after (create_changes now p) held) j file → PutsShare (record now { link = link }) (create_changes now p) j file
  held_created held j file from to valid =
      subst (λ (cs : List Change). PutsShare (record now { link = link }) cs j file) alone
      (held_was_put now is p.down (created_shares p) (five_created p) [] [] (λ q bytes none. none) (λ q bytes none. none) link held j file from to
      (subst (λ (cs : List Change). HasShare (record now { link = link }) (after cs held) j file) (sym alone) valid))

  pub puts_on_one_line : ProperPlay p → p.shape ≡ create_shape now.n now.t → ((j : ℕ) → 1 ≤ j → j ≤ now.n → p.down j ≡ false → HonestIn p j) → PutsOnOneLine (record now { link = link }) (create_changes now p)
  puts_on_one_line proper shape honest lane lt =
      let line = created_line p lane proper lt in (
        line.0,
        omega (arith, line.1, ap (λ s. s.degree) shape),
        λ j file from to puts.
            let c = put_created j file puts in
            ap (λ (xs : List Fp). get_or xs lane zeroₚ) c.has ∙ lane_at p j lane lt ∙ line.2 j (honest j from to c.up),
      )

-- ---- from what is put to what is held

-- after all changes
pub all_on_one_line : (now : Now) (p : Play) → IsNow now → (link : Option Link) → (held : Held) → PutsOnOneLine (record now { link = link }) (create_changes now p) → HeldOnOneLine (record now { link = link }) (after (create_changes now p) held)
all_on_one_line now p is link held puts lane lt =
    let line = puts lane lt in (line.0, line.1, λ j file from to valid. line.2 j file from to (held_created now p is link held j file from to valid))

-- after a part of them
valid_or_before : (now : Now) (changes : List Change) (count : ℕ) (held : Held) (j : ℕ) (file : Share) → HasShare now (after (take count changes) held) j file → HasShare now held j file ⊎ PutsShare now changes j file
valid_or_before now changes count held j file valid =
    let v = valid_held now (after (take count changes) held) j file valid in
    let step : IsShareOf now j v.bytes file = ap (share_step now j) (sym v.is) ∙ valid in
    elim (put_or_before (take count changes) held (share_name now.name now.period j) v.bytes v.is) [
      | inl among ↦ inr (record { bytes = v.bytes; among = among_take _ count changes among; valid = step })
      | inr before ↦ inl (ap (share_step now j) before ∙ step)
    ]

pub part_on_one_line : (now : Now) (changes : List Change) (count : ℕ) (held : Held) → PutsOnOneLine now changes → NewOnOneLine now held (after (take count changes) held)
part_on_one_line now changes count held puts lane lt =
    let line = puts lane lt in (
      line.0,
      line.1,
      λ j file from to valid. elim (valid_or_before now changes count held j file valid) [
        | inl before ↦ inl before
        | inr put ↦ inr (line.2 j file from to put)
      ],
    )

-- where nothing was changed
pub same_on_one_line : (now : Now) (held : Held) → NewOnOneLine now held held
same_on_one_line now held lane lt = ([], omega arith, λ j file from to valid. inl valid)
