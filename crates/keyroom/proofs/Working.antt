-- Sealing and opening: what is left after the changes, that each has one end, and the key of honest files.
use Rattle.std.proofs.Common.{◌≡◌, inl, inr, ℕ, ◌^◌, ◌<◌, Bool, true, false, cond, List, [], ◌∷◌, ◌++◌, length, take, drop, append_assoc, length-append, Option, Some, None, Result, Ok, Err, IfSome, IfErr, refl, sym, ap, ◌∙◌, subst, arith}
use Rattle.std.specs.Prelude.{OnOk, ◌⊎◌, ◌==◌, nat_lt}
use Rattle.std.specs.Str.{bytes_eq}
use Rattle.std.specs.FinMap.{get}
use Rattle.std.proofs.lemmas.List.{take_at, drop_at}
use Rattle.std.proofs.lemmas.Nat.{from_be_bytes-to_be_bytes_4}
use Rattle.sha2.proofs.Facts256.{length-sha256}
use Rattle.algebra61.specs.Field.{Fp}
use Rattle.algebra61.specs.Polynomial.{Polynomial}
use Rattle.shelf.specs.Held.{Held, Change, Put}
use Rattle.sharefile.specs.declared.fault.FileFault.{FileFault}
use Rattle.sharefile.specs.declared.fault.FileFault.TheVariants.{Field}
use Rattle.sharefile.specs.Files.{Now}
use Rattle.sharefile.specs.Reading.{now_at}
use Rattle.docvault.specs.declared.fault.BoxFault.{BoxFault}
use Rattle.docvault.specs.Keys.{enc_key_of, mac_key_of}
use Rattle.docvault.specs.Box.{IsBox, IsSealed, box_head, tagged}
use Rattle.docvault.specs.Hmac.{hmac_of}
use Rattle.docvault.specs.Opening.{document_number_in, box_fault}
use Rattle.docvault.proofs.Boxes.{IsSealed-back, same_document, length-box_head}
use Rattle.sharefile.specs.Names.{is_key_name}
use Rattle.keyroom.specs.declared.status.Status.{Status}
use Rattle.keyroom.specs.declared.status.Status.TheVariants as status
use Rattle.keyroom.specs.declared.status.Status.TheVariants.{BadBox, BadNow, Full, TooLong, NoKey}
use Rattle.keyroom.specs.declared.status.What.{What}
use Rattle.keyroom.specs.declared.work.Sealed.{Sealed}
use Rattle.keyroom.specs.declared.recover.Recovered.{Recovered}
use Rattle.keyroom.specs.declared.steps.Found.{Found}
use Rattle.keyroom.specs.declared.document.Direction.{Direction}
use Rattle.keyroom.specs.declared.document.Direction.TheVariants.{Sealing, Opening}
use Rattle.keyroom.specs.Causes.{Cause, Done, Refusal, Shelf, Entropy, Crew, Sink, Memory, cause_of, IsOfShelf, IsOfPlan, IsFromShelf, IsFromPlan}
use Rattle.keyroom.specs.Outcome.{Then}
use Rattle.keyroom.specs.Answer.{IsPartWay}
use Rattle.keyroom.specs.Names.{now_name}
use Rattle.keyroom.specs.Steps.{Asked, now_named, now_step, now_of, free_step, free_of, bytes_step, bytes_of, asked_of, files_of, ◌and_then◌}
use Rattle.keyroom.specs.Decoding.{HonestFiles}
use Rattle.keyroom.specs.Recover.{MeansKeyOf, MeansKey}
use Rattle.keyroom.specs.Work.{Work, Keys, KeyIsOf, Stops, Works, Finishes}
use Rattle.keyroom.specs.Seal.{seal_work, SealsUnder}
use Rattle.keyroom.specs.Open.{open_work, OpensUnder}
use Rattle.keyroom.specs.Document.{source_of, fits, WorksUnder, WorksFrom, WorksBy, MeansWork}
use Rattle.keyroom.proofs.Honest.{one_key, honest_end}
use Rattle.keyroom.proofs.Reading.{now_checked, now_read}

-- ---- after the changes

module _ (means : Result Work Status → Type 0) (old new : Option Held) where
  refused_by : (s : Status) (c : Cause) → cause_of s ≡ c → (cause_of s ≡ Refusal → means (Err s)) → IsOfPlan c → new ≡ old → Stops means old new s c
  refused_by s Done e h by same = absurd by
  refused_by s Refusal e h by same = (h e, same)
  refused_by s Shelf e h by same = inl same
  refused_by s Entropy e h by same = absurd by
  refused_by s Crew e h by same = absurd by
  refused_by s Sink e h by same = absurd by
  refused_by s Memory e h by same = inl same

  -- a refusal to make the work
  pub refused_works : (before now : ℕ) (s : Status) → (cause_of s ≡ Refusal → means (Err s)) → IsFromPlan before now s → new ≡ old → Works means old new (Err s)
  refused_works before now s h from same = refused_by s (cause_of s) refl h from.by same

  part_by : (work : Work) → means (Ok work) → (s : Status) (c : Cause) → IsOfShelf c → IsPartWay work.changes old new → Stops means old new s c
  part_by work is s Done by f = absurd by
  part_by work is s Refusal by f = absurd by
  part_by work is s Shelf by f = inr (work, is, f)
  part_by work is s Entropy by f = absurd by
  part_by work is s Crew by f = absurd by
  part_by work is s Sink by f = absurd by
  part_by work is s Memory by f = inr (work, is, f)

  -- the changes of the work were made, or a part of them
  pub finished_works : (before now : ℕ) (mid : Option Held) (work : Work) (result : Result Sealed Status) → means (Ok work) → mid ≡ old → Finishes work mid new result →
      IfErr result (λ s. IsFromShelf before now s) → Works means old new result
  finished_works before now mid work (Ok sealed) is same f from = let g = subst (λ o. Finishes work o new (Ok sealed)) same f in (work, is, g.0, g.1)
  finished_works before now mid work (Err s) is same f from = part_by work is s (cause_of s) from.by (subst (λ o. IsPartWay work.changes o new) same f)

-- what is left, with another meaning that follows
module _ (P Q : Result Work Status → Type 0) (old new : Option Held) (weaker : (end : Result Work Status) → P end → Q end) where
  stops_weaker : (s : Status) (c : Cause) → Stops P old new s c → Stops Q old new s c
  stops_weaker s Done h = h
  stops_weaker s Refusal h = (weaker (Err s) h.0, h.1)
  stops_weaker s Shelf (inl same) = inl same
  stops_weaker s Shelf (inr h) = inr (h.0, weaker (Ok h.0) h.1, h.2)
  stops_weaker s Entropy h = h
  stops_weaker s Crew h = h
  stops_weaker s Sink h = h
  stops_weaker s Memory (inl same) = inl same
  stops_weaker s Memory (inr h) = inr (h.0, weaker (Ok h.0) h.1, h.2)

  pub works_weaker : (r : Result Sealed Status) → Works P old new r → Works Q old new r
  works_weaker (Ok sealed) h = (h.0, weaker (Ok h.0) h.1, h.2, h.3)
  works_weaker (Err s) h = stops_weaker s (cause_of s) h

-- the two of them over a shelf that may not tell
module _ (M : Held → Result Work Status → Type 0) (held : Option Held) where
  pub refused_told : (new : Option Held) (before now : ℕ) (s : Status) → IfSome held (λ m. cause_of s ≡ Refusal → M m (Err s)) → IsFromPlan before now s → new ≡ held → IfSome held (λ m. Works (M m) held new (Err s))
  refused_told new before now s means from same = elim held as (λ o. IfSome o (λ m. cause_of s ≡ Refusal → M m (Err s)) → new ≡ o → IfSome o (λ m. Works (M m) o new (Err s))) [
    | None ↦ λ h e. tt
    | Some m ↦ λ h e. refused_works (M m) (Some m) new before now s h from e
  ] means same

  pub finished_told : (before now : ℕ) (mid new : Option Held) (work : Work) (result : Result Sealed Status) → IfSome held (λ m. M m (Ok work)) → mid ≡ held → Finishes work mid new result →
      IfErr result (λ s. IsFromShelf before now s) → IfSome held (λ m. Works (M m) held new result)
  finished_told before now mid new work result means same f from = elim held as (λ o. IfSome o (λ m. M m (Ok work)) → mid ≡ o → IfSome o (λ m. Works (M m) o new result)) [
    | None ↦ λ h e. tt
    | Some m ↦ λ h e. finished_works (M m) (Some m) new before now mid work result h e f from
  ] means same

-- ---- one step after the other

then_same : {A B : Type 0} (r : Result A Status) (f : A → Result B Status → Type 0) (a b : Result B Status) → ((x : A) → r ≡ Ok x → f x a → f x b → a ≡ b) → Then r f a → Then r f b → a ≡ b
then_same (Ok x) f a b h p q = h x refl p q
then_same (Err s) f a b h p q = p ∙ sym q

then_weaker : {A B : Type 0} (r : Result A Status) (f g : A → Result B Status → Type 0) (a : Result B Status) → ((x : A) → r ≡ Ok x → f x a → g x a) → Then r f a → Then r g a
then_weaker (Ok x) f g a h p = h x refl p
then_weaker (Err s) f g a h p = p

-- what a step gave, and the rest with it
pub and_then_ok : {A B : Type 0} (r : Result A Status) (f : A → Result B Status) (y : B) → (r and_then f) ≡ Ok y → (x : A) × (r ≡ Ok x) × (f x ≡ Ok y)
and_then_ok (Ok x) f y e = (x, refl, e)
and_then_ok (Err s) f y e = absurd cc

-- what was asked for
pub record IsAsked (name target : List ℕ) (what : What) (source : List ℕ) (held : Held) (asked : Asked) : Type 0 where
  pub now : now_of name held ≡ Ok asked.now
  pub free : free_of target held ≡ Ok tt
  pub bytes : bytes_of what source held ≡ Ok asked.bytes

pub asked_is : (name target : List ℕ) (what : What) (source : List ℕ) (held : Held) (asked : Asked) → asked_of name target what source held ≡ Ok asked → IsAsked name target what source held asked
asked_is name target what source held asked e =
    let a = and_then_ok (now_of name held) (λ now. free_of target held and_then λ free. bytes_of what source held and_then λ bytes. Ok (record { now = now; bytes = bytes })) asked e in
    let b = and_then_ok (free_of target held) (λ free. bytes_of what source held and_then λ bytes. Ok (record { now = a.0; bytes = bytes })) asked a.2 in
    let c = and_then_ok (bytes_of what source held) (λ bytes. Ok (record { now = a.0; bytes = bytes })) asked b.2 in
    let made : Asked = record { now = a.0; bytes = c.0 } in
    let same : made ≡ asked = cc (c.2) in
    subst (IsAsked name target what source held) same (record { now = a.1; free = b.1; bytes = c.1 })

pub asked_back : (name target : List ℕ) (what : What) (source : List ℕ) (held : Held) (asked : Asked) → IsAsked name target what source held asked → asked_of name target what source held ≡ Ok asked
asked_back name target what source held asked h = rw (h.now, h.free, h.bytes) refl

pub key_means : (name : List ℕ) (held : Held) (now : Now) (key : Result Recovered Status) → now_of name held ≡ Ok now → MeansKeyOf now (files_of now held) key → MeansKey name held key
key_means name held now key read is = subst (λ r. Then r (λ f. MeansKeyOf f (files_of f held)) key) (sym read) is

-- ---- each has one end

box_once : (key : List Fp) (name : List ℕ) (number : ℕ) (document b c : List ℕ) → IsBox key name number document b → IsBox key name number document c → b ≡ c
box_once key name number document b c p q =
    let same : p.sealed ≡ q.sealed = same_document (enc_key_of key) number p.sealed q.sealed document (IsSealed-back _ _ _ _ p.is_sealed) (IsSealed-back _ _ _ _ q.is_sealed) in
    p.whole ∙ ap (λ (s : List ℕ). tagged (mac_key_of key) (box_head name number (length document) ++ s)) same ∙ sym q.whole

seals_once : (name target : List ℕ) (asked : Asked) (lanes : List Fp) (a b : Result Work Status) → SealsUnder name target asked lanes a → SealsUnder name target asked lanes b → a ≡ b
seals_once name target asked lanes a b p q =
    p.2 ∙ ap (λ (bytes : List ℕ). Ok (seal_work name target asked bytes)) (box_once lanes name asked.now.next_number asked.bytes p.0 q.0 p.1 q.1) ∙ sym q.2

work_same : (target : List ℕ) (n m : ℕ) (d e : List ℕ) → n ≡ m → d ≡ e → open_work target n d ≡ open_work target m e
work_same target n m d e f g = rw (f, g) refl

never_faulty : (o : Option BoxFault) (fault : BoxFault) → o ≡ None → o ≡ Some fault → ⊥
never_faulty o fault e f = cc

one_fault : (o : Option BoxFault) (a b : BoxFault) → o ≡ Some a → o ≡ Some b → a ≡ b
one_fault o a b e f = cc

-- a text of a head, a middle and an end has one middle, where heads and ends are of known lengths
middle_once : (h g s t e f bytes : List ℕ) → length h ≡ 48 → length g ≡ 48 → length e ≡ 32 → length f ≡ 32 → bytes ≡ (h ++ s) ++ e → bytes ≡ (g ++ t) ++ f → s ≡ t
middle_once h g s t e f bytes lh lg le lf p q =
    let behind : drop 48 bytes ≡ s ++ e = ap (drop 48) (p ∙ append_assoc h s e) ∙ drop_at h (s ++ e) 48 lh in
    let again : drop 48 bytes ≡ t ++ f = ap (drop 48) (q ∙ append_assoc g t f) ∙ drop_at g (t ++ f) 48 lg in
    let size : length s ≡ length t = omega (arith, ap length (sym behind ∙ again), length-append s e, length-append t f, le, lf) in
    sym (take_at s e (length s) refl) ∙ ap (take (length s)) (sym behind ∙ again) ∙ take_at t f (length s) (sym size)

-- the number in a head of a box
number_read : (name rest : List ℕ) (number size : ℕ) (bytes : List ℕ) → number < 2 ^ 32 → bytes ≡ box_head name number size ++ rest → document_number_in bytes ≡ number
number_read name rest number size bytes fits e = ap document_number_in e ∙ from_be_bytes-to_be_bytes_4 number fits

pub length-hmac : (key text : List ℕ) → length (hmac_of key text) ≡ 32
length-hmac key text = length-sha256 _

-- bytes are the box of one number and one document
unbox_once : (key : List Fp) (name : List ℕ) (n m : ℕ) (d c bytes : List ℕ) → is_key_name name ≡ true → IsBox key name n d bytes → IsBox key name m c bytes → (n ≡ m) × (d ≡ c)
unbox_once key name n m d c bytes is p q =
    let h : List ℕ = box_head name n (length d) in
    let g : List ℕ = box_head name m (length c) in
    let e : List ℕ = hmac_of (mac_key_of key) (h ++ p.sealed) in
    let f : List ℕ = hmac_of (mac_key_of key) (g ++ q.sealed) in
    let number : n ≡ m = sym (number_read name (p.sealed ++ e) n (length d) bytes p.number_fits (p.whole ∙ append_assoc h p.sealed e)) ∙ number_read name (q.sealed ++ f) m (length c) bytes q.number_fits (q.whole ∙ append_assoc g q.sealed f) in
    let sealed : p.sealed ≡ q.sealed = middle_once h g p.sealed q.sealed e f bytes (length-box_head name n (length d) is) (length-box_head name m (length c) is) (length-hmac (mac_key_of key) (h ++ p.sealed)) (length-hmac (mac_key_of key) (g ++ q.sealed)) p.whole q.whole in
    let first : IsSealed (enc_key_of key) m d p.sealed = subst (λ k. IsSealed (enc_key_of key) k d p.sealed) number p.is_sealed in
    let here : IsSealed (enc_key_of key) m d q.sealed = subst (λ (s : List ℕ). IsSealed (enc_key_of key) m d s) sealed first in
    (number, same_document (enc_key_of key) m d c q.sealed here q.is_sealed)

opens_once : (name target : List ℕ) (asked : Asked) → is_key_name name ≡ true → (lanes : List Fp) (a b : Result Work Status) → OpensUnder name target asked lanes a → OpensUnder name target asked lanes b → a ≡ b
opens_once name target asked fits lanes a b (inl (n, d, is, e)) (inl (m, c, on, f)) =
    let same = unbox_once lanes name n m d c asked.bytes fits is.is_box on.is_box in
    e ∙ ap Ok (work_same target n m d c same.0 same.1) ∙ sym f
opens_once name target asked fits lanes a b (inl (n, d, is, e)) (inr (fault, on, f)) = absurd (never_faulty (box_fault lanes name asked.bytes) fault is.sound on)
opens_once name target asked fits lanes a b (inr (fault, on, f)) (inl (n, d, is, e)) = absurd (never_faulty (box_fault lanes name asked.bytes) fault is.sound on)
opens_once name target asked fits lanes a b (inr (fault, is, e)) (inr (other, on, f)) =
    let same : fault ≡ other = one_fault (box_fault lanes name asked.bytes) fault other is on in
    e ∙ ap (λ (x : BoxFault). Err (BadBox x)) same ∙ sym f

-- what comes of one key
module _ (under : List Fp → Result Work Status → Type 0) (once : (lanes : List Fp) (a b : Result Work Status) → under lanes a → under lanes b → a ≡ b) where
  from_key : (name : List ℕ) (held : Held) (now : Now) (k l : Result Recovered Status) (a b : Result Work Status) → now_of name held ≡ Ok now → MeansKeyOf now (files_of now held) k → MeansKeyOf now (files_of now held) l →
      Then k (λ r. under r.lanes) a → Then l (λ r. under r.lanes) b → a ≡ b
  from_key name held now k l a b read is on p q =
      let same : k ≡ l = one_key name held k l (key_means name held now k read is) (key_means name held now l read on) in
      then_same l (λ r. under r.lanes) a b (λ r e. once r.lanes a b) (subst (λ x. Then x (λ r. under r.lanes) a) same p) q

under_once : (direction : Direction) (name target : List ℕ) (asked : Asked) → is_key_name name ≡ true → (lanes : List Fp) (a b : Result Work Status) → WorksUnder direction name target asked lanes a → WorksUnder direction name target asked lanes b → a ≡ b
under_once Sealing name target asked is lanes a b p q = seals_once name target asked lanes a b p q
under_once Opening name target asked is lanes a b p q = opens_once name target asked is lanes a b p q

-- the name of a key whose now file was read
pub name_read : (name : List ℕ) (held : Held) (now : Now) → now_of name held ≡ Ok now → is_key_name name ≡ true
name_read name held now read = subst (λ n. is_key_name n ≡ true) (now_read name held now read).named (now_checked name held now read).name

pub one_work : (direction : Direction) (name source target : List ℕ) (held : Held) (a b : Result Work Status) → MeansWork direction name source target held a → MeansWork direction name source target held b → a ≡ b
one_work direction name source target held a b p q =
    then_same (asked_of name target (source_of direction) source held) (λ asked. Then (fits direction asked) (λ fit. WorksFrom direction MeansKeyOf name target asked (files_of asked.now held))) a b
    (λ asked e. then_same (fits direction asked) (λ fit. WorksFrom direction MeansKeyOf name target asked (files_of asked.now held)) a b
    (λ fit f h k. let read = (asked_is name target (source_of direction) source held asked e).now in
    from_key (WorksUnder direction name target asked) (under_once direction name target asked (name_read name held asked.now read)) name held asked.now h.0 k.0 a b read h.1 k.1 h.2 k.2))
    p q

-- ---- the key of honest files

-- the key is their values at 0
key_is : (name : List ℕ) (held : Held) (now on : Now) (polys : List Polynomial) (key : Result Recovered Status) → HonestFiles name now held polys → now_of name held ≡ Ok on → MeansKeyOf on (files_of on held) key → KeyIsOf polys on (files_of on held) key
key_is name held now on polys key h again is =
    let read = h.now_is in
    let same : on ≡ now = cc in
    subst (λ f. KeyIsOf polys f (files_of f held) key) (sym same) (honest_end name held now polys key h (key_means name held on key again is))

pub honest_work : (direction : Direction) (name source target : List ℕ) (held : Held) (now : Now) (polys : List Polynomial) (end : Result Work Status) → HonestFiles name now held polys →
    MeansWork direction name source target held end → WorksBy direction (KeyIsOf polys) name source target held end
honest_work direction name source target held now polys end h means =
    then_weaker (asked_of name target (source_of direction) source held) (λ asked. Then (fits direction asked) (λ fit. WorksFrom direction MeansKeyOf name target asked (files_of asked.now held))) (λ asked. Then (fits direction asked) (λ fit. WorksFrom direction (KeyIsOf polys) name target asked (files_of asked.now held))) end
    (λ asked e. then_weaker (fits direction asked) (λ fit. WorksFrom direction MeansKeyOf name target asked (files_of asked.now held)) (λ fit. WorksFrom direction (KeyIsOf polys) name target asked (files_of asked.now held)) end
    (λ fit f s. (s.0, key_is name held now asked.now polys s.0 h ((asked_is name target (source_of direction) source held asked e).now) s.1, s.2)))
    means

-- ---- what may be refused

-- what is refused before the key is asked for, and for a box that is none
abbrev pub IsOwn : Status → Type 0
IsOwn (status.NoSuch what) = Unit {0}
IsOwn status.Exists = Unit {0}
IsOwn (status.BadBox fault) = Unit {0}
IsOwn (status.Full number) = Unit {0}
IsOwn (status.BadNow fault) = Unit {0}
IsOwn (status.TooLong length) = Unit {0}
IsOwn status = ⊥

-- a step refuses so alone
record OnlyOwn {A : Type 0} (r : Result A Status) : Type 0 where
  pub only : (s : Status) → r ≡ Err s → IsOwn s

own_value : {A : Type 0} (x : A) → OnlyOwn (Ok x)
own_value x = record { only = λ s e. absurd (cc e) }

own_refusal : {A : Type 0} (t : Status) → IsOwn t → OnlyOwn {A = A} (Err t)
own_refusal t is = record { only = λ s e. let same : t ≡ s = cc in subst IsOwn same is }

own_test : {A : Type 0} (b : Bool) (x y : Result A Status) → OnlyOwn x → OnlyOwn y → OnlyOwn (cond b x y)
own_test true x y p q = p
own_test false x y p q = q

own_then : {A B : Type 0} (r : Result A Status) (f : A → Result B Status) → OnlyOwn r → ((x : A) → OnlyOwn (f x)) → OnlyOwn (r and_then f)
own_then (Ok x) f h rest = rest x
own_then (Err s) f h rest = own_refusal s (h.only s refl)

own_named : (name : List ℕ) (r : Result Now FileFault) → OnlyOwn (now_named name r)
own_named name (Ok f) = own_test (bytes_eq f.name name) (Ok f) (Err (BadNow (Field 16))) (own_value f) (own_refusal (BadNow (Field 16)) tt)
own_named name (Err fault) = own_refusal (BadNow fault) tt

own_now : (name : List ℕ) (o : Option (List ℕ)) → OnlyOwn (now_step name o)
own_now name None = own_refusal (status.NoSuch _) tt
own_now name (Some bytes) = own_named name (now_at bytes)

own_free : (o : Option (List ℕ)) → OnlyOwn (free_step o)
own_free None = own_value tt
own_free (Some bytes) = own_refusal status.Exists tt

own_bytes : (what : What) (o : Option (List ℕ)) → OnlyOwn (bytes_step what o)
own_bytes what None = own_refusal (status.NoSuch what) tt
own_bytes what (Some bytes) = own_value bytes

own_asked : (name target : List ℕ) (what : What) (source : List ℕ) (held : Held) → OnlyOwn (asked_of name target what source held)
own_asked name target what source held =
    own_then (now_of name held) _ (own_now name (get held (now_name name)))
    (λ now. own_then (free_of target held) _ (own_free (get held target))
    (λ free. own_then (bytes_of what source held) _ (own_bytes what (get held source)) (λ bytes. own_value _)))

own_fits : (direction : Direction) (asked : Asked) → OnlyOwn (fits direction asked)
own_fits Sealing asked =
    own_test (asked.now.next_number == 4294967295) (Err (Full 4294967295)) _ (own_refusal (Full 4294967295) tt)
    (own_test (nat_lt (2 ^ 26) (length asked.bytes)) (Err (TooLong (length asked.bytes))) (Ok tt) (own_refusal (TooLong (length asked.bytes)) tt) (own_value tt))
own_fits Opening asked = own_value tt

own_under : (direction : Direction) (name target : List ℕ) (asked : Asked) (lanes : List Fp) (s : Status) → WorksUnder direction name target asked lanes (Err s) → IsOwn s
own_under Sealing name target asked lanes s h = let e = h.2 in absurd (cc e)
own_under Opening name target asked lanes s (inl h) = let e = h.3 in absurd (cc e)
own_under Opening name target asked lanes s (inr h) = let e = h.2 in let same : s ≡ BadBox h.0 = cc in subst IsOwn (sym same) tt

then_own : {A B : Type 0} (Other : Type 0) (r : Result A Status) (f : A → Result B Status → Type 0) (s : Status) → OnlyOwn r → ((x : A) → f x (Err s) → IsOwn s ⊎ Other) → Then r f (Err s) → IsOwn s ⊎ Other
then_own Other (Ok x) f s h rest p = rest x p
then_own Other (Err t) f s h rest p = let same : t ≡ s = cc in inl (subst IsOwn same (h.only t refl))

from_own : (direction : Direction) (name target : List ℕ) (asked : Asked) (Other : Type 0) (key : Result Recovered Status) (s : Status) → (key ≡ Err s → Other) → Then key (λ r. WorksUnder direction name target asked r.lanes) (Err s) → IsOwn s ⊎ Other
from_own direction name target asked Other (Ok r) s other p = inl (own_under direction name target asked r.lanes s p)
from_own direction name target asked Other (Err t) s other p = let same : s ≡ t = cc in inr (other (ap Err (sym same)))

-- a refusal is one of these, or the key's
pub refused_own : (direction : Direction) (keys : Keys) (Other : Type 0) (name source target : List ℕ) (held : Held) (s : Status) → ((now : Now) (files : List Found) → keys now files (Err s) → Other) →
    WorksBy direction keys name source target held (Err s) → IsOwn s ⊎ Other
refused_own direction keys Other name source target held s other =
    then_own Other (asked_of name target (source_of direction) source held) _ s (own_asked name target (source_of direction) source held)
    (λ asked. then_own Other (fits direction asked) _ s (own_fits direction asked)
    (λ fit h. from_own direction name target asked Other h.0 s (λ e. other asked.now (files_of asked.now held) (subst (keys asked.now (files_of asked.now held)) e h.1)) h.2))

no_key : (lane : ℕ) → IsOwn (NoKey lane) ⊎ ⊥ → ⊥
no_key lane (inl own) = own
no_key lane (inr never) = never

-- under a key that there is, no lane is without one
pub work_has_key : (direction : Direction) (polys : List Polynomial) (name source target : List ℕ) (held : Held) (lane : ℕ) → WorksBy direction (KeyIsOf polys) name source target held (Err (NoKey lane)) → ⊥
work_has_key direction polys name source target held lane h = no_key lane (refused_own direction (KeyIsOf polys) ⊥ name source target held (NoKey lane) (λ now files e. absurd (cc e)) h)

-- ---- a call that left what is meant, over honest files
pub honest_works : (direction : Direction) (held new : Option Held) (name source target : List ℕ) (result : Result Sealed Status) → IfSome held (λ m. Works (MeansWork direction name source target m) held new result) →
    IfSome held (λ m. (now : Now) (polys : List Polynomial) → HonestFiles name now m polys → Works (WorksBy direction (KeyIsOf polys) name source target m) held new result)
honest_works direction None new name source target result h = tt
honest_works direction (Some m) new name source target result h = λ now polys honest.
    works_weaker (MeansWork direction name source target m) (WorksBy direction (KeyIsOf polys) name source target m) (Some m) new (λ end. honest_work direction name source target m now polys end honest) result h

never_keyless : (direction : Direction) (polys : List Polynomial) (old new : Option Held) (name source target : List ℕ) (m : Held) (result : Result Sealed Status) (lane : ℕ) →
    Works (WorksBy direction (KeyIsOf polys) name source target m) old new result → result ≡ Err (NoKey lane) → ⊥
never_keyless direction polys old new name source target m result lane works e =
    work_has_key direction polys name source target m lane (subst (λ r. Works (WorksBy direction (KeyIsOf polys) name source target m) old new r) e works).0

pub keyed_works : (direction : Direction) (held new : Option Held) (name source target : List ℕ) (result : Result Sealed Status) → IfSome held (λ m. Works (MeansWork direction name source target m) held new result) →
    IfSome held (λ m. (now : Now) (polys : List Polynomial) → HonestFiles name now m polys → (lane : ℕ) → result ≡ Err (NoKey lane) → ⊥)
keyed_works direction None new name source target result h = tt
keyed_works direction (Some m) new name source target result h = λ now polys honest lane.
    never_keyless direction polys (Some m) new name source target m result lane (honest_works direction (Some m) new name source target result h now polys honest)

-- a put that was appended, by what its name and bytes are
pub put_put : {X E : Type 0} (r : Result X E) (new old : List Change) (n m b d : List ℕ) → n ≡ m → b ≡ d → OnOk r (new ≡ old ++ Put n b ∷ []) → OnOk r (new ≡ old ++ Put m d ∷ [])
put_put r new old n m b d e f h =
    let same : old ++ Put n b ∷ [] ≡ old ++ Put m d ∷ [] = rw (e, f) refl in
    subst (λ t. OnOk r (new ≡ t)) same h
