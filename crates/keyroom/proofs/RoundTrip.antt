-- What was sealed opens to the same bytes.
use Rattle.std.proofs.Common.{◌≡◌, inl, inr, ℕ, ◌+◌, ◌^◌, ◌≤◌, Bool, true, false, cond, List, [], ◌∷◌, ◌++◌, length, Option, Some, None, Result, Ok, Err, refl, sym, ap, ◌∙◌, subst, arith, length-append}
use Rattle.std.specs.Prelude.{◌↔◌, ◌⊎◌, ◌==◌, nat_lt}
use Rattle.std.specs.Ordering.{nat_cmp, eq_by_cmp}
use Rattle.std.specs.Cmp.Lexicographic.{slice_cmp, nat_list_cmp_total, nat_list_eq_equiv}
use Rattle.std.specs.FinMap.{get, insert, get-insert}
use Rattle.std.proofs.lemmas.Map.Text.{is_eq-slice_cmp}
use Rattle.std.proofs.lemmas.Slice.Eq.{bytes_eq-Decides}
use Rattle.std.proofs.lemmas.Bool.{ltb-false, eqb-false}
use Rattle.algebra61.specs.Field.{Fp}
use Rattle.algebra61.specs.Polynomial.{Polynomial}
use Rattle.shelf.specs.Held.{Held, Put, after}
use Rattle.sharefile.specs.Names.{is_key_name}
use Rattle.sharefile.specs.Files.{Now, now_bytes}
use Rattle.docvault.specs.Keys.{mac_key_of}
use Rattle.docvault.specs.Hmac.{hmac_of}
use Rattle.docvault.specs.Box.{IsBox, box_head}
use Rattle.docvault.proofs.Boxes.{length-box_head, Says-from}
use Rattle.keyroom.specs.declared.status.Status.{Status}
use Rattle.keyroom.specs.declared.status.Status.TheVariants.{Done, Full, TooLong}
use Rattle.keyroom.specs.declared.status.What.{What}
use Rattle.keyroom.specs.declared.status.What.TheVariants.{Document, Box}
use Rattle.keyroom.specs.declared.recover.Recovered.{Recovered}
use Rattle.keyroom.specs.declared.steps.Found.{Found}
use Rattle.keyroom.specs.declared.document.Direction.TheVariants.{Sealing, Opening}
use Rattle.keyroom.specs.Names.{now_name}
use Rattle.keyroom.specs.Outcome.{Outcome, done, Then}
use Rattle.keyroom.specs.Steps.{Asked, now_of, free_step, bytes_step, asked_of, sealable, files_of}
use Rattle.keyroom.specs.Decoding.{HonestFiles, key_of}
use Rattle.keyroom.specs.Recover.{recovered_by, MeansKeyOf, MeansKey}
use Rattle.keyroom.specs.Texts.{document_text}
use Rattle.keyroom.specs.Work.{Work}
use Rattle.keyroom.specs.Seal.{raised, seal_work, SealsUnder}
use Rattle.keyroom.specs.Open.{IsOpened, open_work}
use Rattle.keyroom.specs.Document.{fits, verb, WorksFrom, MeansWork, document_outcome, MeansDocument}
use Rattle.keyroom.proofs.Honest.{one_key, honest_is_meant}
use Rattle.keyroom.proofs.Working.{IsAsked, IsOwn, asked_is, asked_back, key_means, name_read, one_work, refused_own, length-hmac}

then_ok : {A B : Type 0} (r : Result A Status) (f : A → Result B Status → Type 0) (y : B) → Then r f (Ok y) → (x : A) × (r ≡ Ok x) × f x (Ok y)
then_ok (Ok x) f y p = (x, refl, p)
then_ok (Err s) f y p = absurd cc

-- ---- a box that is held

-- the now file with which a key was recovered
key_now : (name : List ℕ) (held : Held) (r : Result Now Status) (l : Recovered) → now_of name held ≡ r → Then r (λ now. MeansKeyOf now (files_of now held)) (Ok l) → (now : Now) × (now_of name held ≡ Ok now) × MeansKeyOf now (files_of now held) (Ok l)
key_now name held (Ok now) l e p = (now, e, p)
key_now name held (Err s) l e p = absurd cc

length-box : (key : List Fp) (name : List ℕ) (number : ℕ) (document bytes : List ℕ) → is_key_name name ≡ true → IsBox key name number document bytes → length bytes ≡ length document + 80
length-box key name number document bytes is box =
    let text : List ℕ = box_head name number (length document) ++ box.sealed in
    ap length box.whole ∙ length-append text (hmac_of (mac_key_of key) text)
    ∙ omega (arith, length-append (box_head name number (length document)) box.sealed, length-box_head name number (length document) is, box.is_sealed.as_long, length-hmac (mac_key_of key) text)

box_opens : (name source copy : List ℕ) (later : Held) (l : Recovered) (number : ℕ) (document bytes : List ℕ) → MeansKey name later (Ok l) → get later source ≡ Some bytes → get later copy ≡ None → length document ≤ 2 ^ 26 →
    IsBox l.lanes name number document bytes → MeansWork Opening name source copy later (Ok (open_work copy number document))
box_opens name source copy later l number document bytes key there free short box =
    let k = key_now name later (now_of name later) l refl key in
    let is = name_read name later k.0 k.1 in
    let says = Says-from l.lanes name number document bytes is (omega (arith, short, length-box l.lanes name number document bytes is box)) box in
    let asked : Asked = record { now = k.0; bytes = bytes } in
    let e : asked_of name copy Box source later ≡ Ok asked = asked_back name copy Box source later asked (record { now = k.1; free = ap free_step free; bytes = ap (bytes_step Box) there }) in
    let opened : IsOpened l.lanes name number document bytes = record { sound = says.none; is_box = box } in
    subst (λ r. Then r (λ a. Then (fits Opening a) (λ fit. WorksFrom Opening MeansKeyOf name copy a (files_of a.now later))) (Ok (open_work copy number document))) (sym e)
    (Ok l, k.2, inl (number, document, opened, refl))

-- the command then has this outcome, and no other
pub opens_only : (name source copy : List ℕ) (later : Held) (l : Recovered) (number : ℕ) (document bytes : List ℕ) (opened : Outcome) → MeansKey name later (Ok l) → get later source ≡ Some bytes → get later copy ≡ None → length document ≤ 2 ^ 26 →
    IsBox l.lanes name number document bytes → MeansDocument Opening name source copy later opened ↔ (opened ≡ done (Put copy document ∷ []) (document_text (verb Opening) name number (length document)))
opens_only name source copy later l number document bytes opened key there free short box =
    let means = box_opens name source copy later l number document bytes key there free short box in (
      λ p. p.2 ∙ ap (document_outcome Opening name) (one_work Opening name source copy later p.0 (Ok (open_work copy number document)) p.1 means),
      λ e. (Ok (open_work copy number document), means, e),
    )

-- ---- what was sealed

key_never : (now : Now) (files : List Found) → MeansKeyOf now files (Err Done) → ⊥
key_never now files (inl (polys, h, e)) = cc
key_never now files (inr (lane, h, e)) = cc

never_done : IsOwn Done ⊎ ⊥ → ⊥
never_done (inl own) = own
never_done (inr never) = never

sealed_never : (name doc target : List ℕ) (held : Held) → MeansWork Sealing name doc target held (Err Done) → ⊥
sealed_never name doc target held h = never_done (refused_own Sealing MeansKeyOf ⊥ name doc target held Done key_never h)

passed_step : {A : Type 0} (b : Bool) (s : Status) (r : Result A Status) (y : A) → cond b (Err s) r ≡ Ok y → (b ≡ false) × (r ≡ Ok y)
passed_step true s r y e = absurd cc
passed_step false s r y e = (refl, e)

sealable_short : (asked : Asked) (fit : Unit {0}) → sealable asked ≡ Ok fit → length asked.bytes ≤ 2 ^ 26
sealable_short asked fit e =
    let a = passed_step (asked.now.next_number == 4294967295) (Full 4294967295) _ fit e in
    let b = passed_step (nat_lt (2 ^ 26) (length asked.bytes)) (TooLong (length asked.bytes)) _ fit a.1 in
    ltb-false _ _ b.0

sealable_room : (asked : Asked) (fit : Unit {0}) → sealable asked ≡ Ok fit → asked.now.next_number ≡ 4294967295 → ⊥
sealable_room asked fit e = let a = passed_step (asked.now.next_number == 4294967295) (Full 4294967295) _ fit e in eqb-false _ _ a.0

-- what a sealing that was done was given and made
pub record WasSealed (name doc target : List ℕ) (held : Held) (work : Work) : Type 0 where
  pub asked : Asked
  pub is : IsAsked name target Document doc held asked
  pub short : length asked.bytes ≤ 2 ^ 26
  pub room : asked.now.next_number ≡ 4294967295 → ⊥
  pub key : Recovered
  pub means : MeansKey name held (Ok key)
  pub bytes : List ℕ
  pub is_box : IsBox key.lanes name asked.now.next_number asked.bytes bytes
  pub work_is : work ≡ seal_work name target asked bytes

pub was_sealed : (name doc target : List ℕ) (held : Held) (work : Work) → MeansWork Sealing name doc target held (Ok work) → WasSealed name doc target held work
was_sealed name doc target held work means =
    let a = then_ok (asked_of name target Document doc held) (λ asked. Then (sealable asked) (λ fit. WorksFrom Sealing MeansKeyOf name target asked (files_of asked.now held))) work means in
    let b = then_ok (sealable a.0) (λ fit. WorksFrom Sealing MeansKeyOf name target a.0 (files_of a.0.now held)) work a.2 in
    let c = then_ok b.2.0 (λ r. SealsUnder name target a.0 r.lanes) work b.2.2 in
    let is = asked_is name target Document doc held a.0 a.1 in
    let key : MeansKeyOf a.0.now (files_of a.0.now held) (Ok c.0) = subst (MeansKeyOf a.0.now (files_of a.0.now held)) c.1 b.2.1 in
    record {
      asked = a.0;
      is = is;
      short = sealable_short a.0 b.0 b.1;
      room = sealable_room a.0 b.0 b.1;
      key = c.0;
      means = key_means name held a.0.now (Ok c.0) is.now key;
      bytes = c.2.0;
      is_box = c.2.1;
      work_is = let e = c.2.2 in cc;
    }

sealed_work : (name doc target : List ℕ) (held : Held) (o : Outcome) (end : Result Work Status) → MeansWork Sealing name doc target held end → o ≡ document_outcome Sealing name end → o.status ≡ Done →
    (work : Work) × MeansWork Sealing name doc target held (Ok work) × (o.changes ≡ work.changes)
sealed_work name doc target held o (Ok work) means e is = (work, means, ap (λ (x : Outcome). x.changes) e)
sealed_work name doc target held o (Err s) means e is =
    let same : s ≡ Done = sym (ap (λ (x : Outcome). x.status) e) ∙ is in
    absurd (sealed_never name doc target held (subst (λ t. MeansWork Sealing name doc target held (Err t)) same means))

pub get_put : (held : Held) (name bytes : List ℕ) → get (insert held name bytes) name ≡ Some bytes
get_put held name bytes =
    let same : eq_by_cmp (slice_cmp nat_cmp) name name ≡ true = is_eq-slice_cmp name name ∙ nat_list_eq_equiv.symm name name ∙ (bytes_eq-Decides name name).1 refl in
    get-insert nat_list_cmp_total held name bytes name ∙ ap (λ b. cond b (Some bytes) (get held name)) same

bytes_there : (what : What) (o : Option (List ℕ)) (document bytes : List ℕ) → o ≡ Some document → bytes_step what o ≡ Ok bytes → bytes ≡ document
bytes_there what None document bytes e f = absurd cc
bytes_there what (Some found) document bytes e f = cc

-- what a done seal has put opens under the same key
pub sealed_opens : (name doc target source copy : List ℕ) (before later : Held) (sealed opened : Outcome) (now : Now) (document : List ℕ) (k l : Recovered) →
    MeansDocument Sealing name doc target before sealed → sealed.status ≡ Done → now_of name before ≡ Ok now → get before doc ≡ Some document → MeansKey name before (Ok k) →
    get later source ≡ get (after sealed.changes before) target → get later copy ≡ None → MeansKey name later (Ok l) → l.lanes ≡ k.lanes →
    MeansDocument Opening name source copy later opened ↔ (opened ≡ done (Put copy document ∷ []) (document_text (verb Opening) name now.next_number (length document)))
sealed_opens name doc target source copy before later sealed opened now document k l means is read there key kept free again lanes =
    let w = sealed_work name doc target before sealed means.0 means.1 means.2 is in
    let s = was_sealed name doc target before w.0 w.1 in
    let now_is : s.asked.now ≡ now = let e = s.is.now in cc in
    let document_is : s.asked.bytes ≡ document = bytes_there Document (get before doc) document s.asked.bytes there s.is.bytes in
    let key_is : k ≡ s.key = let e = one_key name before (Ok k) (Ok s.key) key s.means in cc in
    let lanes_are : s.key.lanes ≡ l.lanes = ap (λ (r : Recovered). r.lanes) (sym key_is) ∙ sym lanes in
    let changes : sealed.changes ≡ (seal_work name target s.asked s.bytes).changes = w.2 ∙ ap (λ (x : Work). x.changes) s.work_is in
    let put : get (after sealed.changes before) target ≡ Some s.bytes = ap (λ cs. get (after cs before) target) changes ∙ get_put (insert before (now_name name) (now_bytes (raised s.asked.now))) target s.bytes in
    let numbered : IsBox s.key.lanes name now.next_number s.asked.bytes s.bytes = subst (λ (f : Now). IsBox s.key.lanes name f.next_number s.asked.bytes s.bytes) now_is s.is_box in
    let of_document : IsBox s.key.lanes name now.next_number document s.bytes = subst (λ d. IsBox s.key.lanes name now.next_number d s.bytes) document_is numbered in
    let box : IsBox l.lanes name now.next_number document s.bytes = subst (λ (x : List Fp). IsBox x name now.next_number document s.bytes) lanes_are of_document in
    opens_only name source copy later l now.next_number document s.bytes opened again (kept ∙ put) free (subst (λ (d : List ℕ). length d ≤ 2 ^ 26) document_is s.short) box

-- the same where honest files lie on polynomials with the key at 0
pub honest_sealed_opens : (name doc target source copy : List ℕ) (before later : Held) (sealed opened : Outcome) (now on : Now) (document : List ℕ) (k : Recovered) (polys : List Polynomial) →
    MeansDocument Sealing name doc target before sealed → sealed.status ≡ Done → now_of name before ≡ Ok now → get before doc ≡ Some document → MeansKey name before (Ok k) →
    get later source ≡ get (after sealed.changes before) target → get later copy ≡ None → HonestFiles name on later polys → key_of polys ≡ k.lanes →
    MeansDocument Opening name source copy later opened ↔ (opened ≡ done (Put copy document ∷ []) (document_text (verb Opening) name now.next_number (length document)))
honest_sealed_opens name doc target source copy before later sealed opened now on document k polys means is read there key kept free h lanes =
    sealed_opens name doc target source copy before later sealed opened now document k (recovered_by on (files_of on later) polys) means is read there key kept free (honest_is_meant name later on polys h) lanes
