-- Steps that more than one command takes.
use Rattle.std.specs.Prelude.{◌≡◌, ℕ, List, map, Bool, ◌&&◌, ◌==◌, Option, Some, None, Result, Ok, Err, if◌then◌else◌, length, nat_lt, ◌^◌}
use Rattle.std.specs.List.{range_with_len}
use Rattle.std.specs.Str.{bytes_eq}
use Rattle.std.specs.Option.{option_eq}
use Rattle.std.specs.FinMap.{get}
use Rattle.shelf.specs.Held.{Held}
use Rattle.sharefile.specs.declared.fault.FileFault.{FileFault}
use Rattle.sharefile.specs.declared.fault.FileFault.TheVariants.{Field}
use Rattle.sharefile.specs.Files.{Now, Share, committee_of}
use Rattle.sharefile.specs.Reading.{now_at, share_at}
use Rattle.keyroom.specs.declared.status.Status.{Status}
use Rattle.keyroom.specs.declared.status.Status.TheVariants.{NoSuch, Exists, BadNow, Full, TooLong}
use Rattle.keyroom.specs.declared.status.What.{What}
use Rattle.keyroom.specs.declared.status.What.TheVariants.{Now as NowFile}
use Rattle.keyroom.specs.declared.steps.Found.{Found}
use Rattle.keyroom.specs.declared.steps.Found.TheVariants.{Absent, Invalid, Valid}
use Rattle.keyroom.specs.Names.{now_name, share_name}

-- the now file that these bytes are, under this name
abbrev pub now_named : List ℕ → Result Now FileFault → Result Now Status
now_named name (Ok f) = if bytes_eq f.name name then Ok f else Err (BadNow (Field 16))
now_named name (Err fault) = Err (BadNow fault)

abbrev pub now_step : List ℕ → Option (List ℕ) → Result Now Status
now_step name None = Err (NoSuch NowFile)
now_step name (Some bytes) = now_named name (now_at bytes)

-- step: get NAME.now
abbrev pub now_of : List ℕ → Held → Result Now Status
now_of name held = now_step name (get held (now_name name))

abbrev pub free_step : Option (List ℕ) → Result (Unit {0}) Status
free_step None = Ok tt
free_step (Some bytes) = Err Exists

-- step: a name that is to be made must not be held
abbrev pub free_of : List ℕ → Held → Result (Unit {0}) Status
free_of name held = free_step (get held name)

abbrev pub bytes_step : What → Option (List ℕ) → Result (List ℕ) Status
bytes_step what None = Err (NoSuch what)
bytes_step what (Some bytes) = Ok bytes

-- step: get a document or a box, which must be held
abbrev pub bytes_of : What → List ℕ → Held → Result (List ℕ) Status
bytes_of what name held = bytes_step what (get held name)

infixl 10 ◌and_then◌
-- the second step over what the first gives, or the first's refusal
abbrev pub ◌and_then◌ : {A B : Type 0} → Result A Status → (A → Result B Status) → Result B Status
(Ok x) and_then f = f x
(Err status) and_then f = Err status

-- what sealing and opening ask for before the share files: the now file, and the bytes of the document or box
pub record Asked : Type 0 where
  pub now : Now
  pub bytes : List ℕ

-- steps: get NAME.now, then the target, which must not be held, then the document or box
abbrev pub asked_of : List ℕ → List ℕ → What → List ℕ → Held → Result Asked Status
asked_of name target what source held =
    now_of name held and_then λ now.
    free_of target held and_then λ free.
    bytes_of what source held and_then λ bytes.
    Ok (record { now = now; bytes = bytes })

-- steps: the next number must not be the last one, and then the document must not be too long
abbrev pub sealable : Asked → Result (Unit {0}) Status
sealable asked =
    if asked.now.next_number == 4294967295 then Err (Full 4294967295) else
    if nat_lt (2 ^ 26) (length asked.bytes) then Err (TooLong (length asked.bytes)) else
    Ok tt

-- the share file is the one that was asked for, and of the now file's committee: both are of version 1, or both have one
-- digest
abbrev pub is_asked : Now → ℕ → Share → Bool
is_asked now index f =
    bytes_eq f.name now.name && (f.period == now.period) && (f.n == now.n) && (f.t == now.t)
    && option_eq bytes_eq f.committee (committee_of now) && (f.index == index)

abbrev pub share_asked : Now → ℕ → Result Share FileFault → Found
share_asked now index (Ok f) = if is_asked now index f then Valid f else Invalid
share_asked now index (Err fault) = Invalid

abbrev pub share_step : Now → ℕ → Option (List ℕ) → Found
share_step now index None = Absent
share_step now index (Some bytes) = share_asked now index (share_at bytes)

-- what stands under the name of a member's share file
abbrev pub share_of : Now → Held → ℕ → Found
share_of now held index = share_step now index (get held (share_name now.name now.period index))

-- these bytes are a member's valid share file
abbrev pub IsShareOf : Now → ℕ → List ℕ → Share → Type 0
IsShareOf now index bytes f = share_step now index (Some bytes) ≡ Valid f

-- a member's share file is held and valid: this one
abbrev pub HasShare : Now → Held → ℕ → Share → Type 0
HasShare now held index f = share_of now held index ≡ Valid f

-- step: get the share files of the members 1 to N, in order
abbrev pub files_of : Now → Held → List Found
files_of now held = map (share_of now held) (range_with_len 1 now.n)
