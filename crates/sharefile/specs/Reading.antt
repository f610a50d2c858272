-- What a reader answers: the file, or what is wrong with the bytes, the first of these that holds.
use Rattle.std.specs.Prelude.{◌≡◌, ℕ, not, ◌==◌, nat_lt, List, [], ◌∷◌, ◌++◌, length, take, drop, slice_index, slice_range, ◌+◌, ◌-◌, Bool, ◌||◌, Option, Some, None, Result, Ok, Err, if◌then◌else◌}
use Rattle.std.specs.Str.{bytes_eq}
use Rattle.std.specs.Int.{w32, w64, from_be_bytes}
use Rattle.sha2.specs.Sha256.{sha256}
use Rattle.algebra61.specs.Field.{Fp, fe, Prime}
use Rattle.sharefile.specs.declared.fault.FileFault.{FileFault}
use Rattle.sharefile.specs.declared.fault.FileFault.TheVariants.{Short, Magic, Version, Field, Digest, Extra, OutOfMemory}
use Rattle.sharefile.specs.Names.{text_in, is_padded_name}
use Rattle.sharefile.specs.declared.link.Link.{Link}
use Rattle.sharefile.specs.Files.{Now, Share, now_magic, share_magic, committee_digest, are_holders}
use Rattle.sizes.specs.Committees.{is_size, is_library_size, is_bound, is_index}

infixl 10 ◌>>=◌
-- the second step over what the first gives, or the first's fault
abbrev pub ◌>>=◌ : {A B : Type 0} → Result A FileFault → (A → Result B FileFault) → Result B FileFault
(Ok x) >>= f = f x
(Err e) >>= f = Err e

-- a fault is the one that reading gives, but for want of memory, which is free
abbrev pub Fails : {X : Type 0} → FileFault → Result X FileFault → Type 0
Fails OutOfMemory read = Unit {0}
Fails e read = read ≡ Err e

-- what a function returned is what reading gives, unless memory ran out
abbrev pub IsRead : {X Y : Type 0} → (X → Y) → Result X FileFault → Result Y FileFault → Type 0
IsRead view (Ok x) read = read ≡ Ok (view x)
IsRead view (Err e) read = Fails e read

-- the versions that there are
abbrev pub is_version : ℕ → Bool
is_version version = (version == 1) || (version == 2)

-- how many bytes a file has: 148 in version 2, and in version 1 as many as its kind has
abbrev pub whole : ℕ → ℕ → ℕ
whole first version = if version == 1 then first else 148

-- The envelope of every kind of file: five bytes at least, the magic bytes, the version, the whole length, and the
-- digest. It gives the file without its digest.
unfoldable pub head_at : List ℕ → ℕ → List ℕ → Result (List ℕ) FileFault
head_at magic first bytes =
    let version = slice_index bytes 4 in
    let size = whole first version in
    if nat_lt (length bytes) 5 then Err (Short (length bytes) 5) else
    if not (bytes_eq (take 4 bytes) magic) then Err Magic else
    if not (is_version version) then Err (Version version) else
    if nat_lt (length bytes) size then Err (Short (length bytes) size) else
    if nat_lt size (length bytes) then Err (Extra (length bytes) size) else
    if not (bytes_eq (drop (size - 32) bytes) (sha256 (take (size - 32) bytes))) then Err (Digest (drop (size - 32) bytes) (sha256 (take (size - 32) bytes))) else
    Ok (take (size - 32) bytes)

-- the number in the four bytes from a place on, the most significant first
abbrev pub field_number : List ℕ → ℕ → ℕ
field_number head place = from_be_bytes w32 (slice_range head place (place + 4))

-- the name in the 32 bytes from a place on
abbrev pub name_at : ℕ → List ℕ → Result (List ℕ) FileFault
name_at place head =
    let bytes = slice_range head place (place + 32) in
    if not (is_padded_name bytes) then Err (Field place) else Ok (text_in bytes)

-- the fields that a now file has in both versions, in their order, each named by the place of its first byte
unfoldable pub now_fields_at : List ℕ → Result Now FileFault
now_fields_at head =
    if not (is_size (slice_index head 5)) then Err (Field 5) else
    if not (is_bound (slice_index head 5) (slice_index head 6)) then Err (Field 6) else
    if not (slice_index head 7 == 0) then Err (Field 7) else
    if field_number head 8 == 0 then Err (Field 8) else
    name_at 16 head >>= λ name.
    Ok (record { name = name; n = slice_index head 5; t = slice_index head 6; period = field_number head 8; next_number = field_number head 12; link = None })

-- the fields of version 2 behind these: who holds a share file, the committee's digest, and that of the committee before
abbrev pub linked_at : Now → List ℕ → Result (Option Link) FileFault
linked_at f head =
    let holders = field_number head 48 in
    let committee = slice_range head 52 84 in
    let previous = slice_range head 84 116 in
    if not (are_holders f.n f.t holders) then Err (Field 48) else
    if not (bytes_eq committee (committee_digest f.name f.n f.t f.period holders previous)) then Err (Field 52) else
    Ok (Some (record { holders = holders; committee = committee; previous = previous }))

-- the link, which version 1 doesn't have
unfoldable pub link_at : Now → List ℕ → Result (Option Link) FileFault
link_at f head = if slice_index head 4 == 1 then Ok None else linked_at f head

-- the now file that these bytes are, or the first fault
unfoldable pub now_at : List ℕ → Result Now FileFault
now_at bytes =
    head_at now_magic 80 bytes >>= λ head.
    now_fields_at head >>= λ f.
    link_at f head >>= λ link.
    Ok (record f { link = link })

-- the lane in the eight bytes from a place on: each lane is a field of its own
abbrev pub lane_at : ℕ → List ℕ → Result Fp FileFault
lane_at place head =
    let x = from_be_bytes w64 (slice_range head place (place + 8)) in
    if nat_lt x Prime then Ok (fe x) else Err (Field place)

-- three lanes, one behind the other
unfoldable pub three_lanes_at : ℕ → List ℕ → Result (List Fp) FileFault
three_lanes_at place head =
    lane_at place head >>= λ a. lane_at (place + 8) head >>= λ b. lane_at (place + 16) head >>= λ c. Ok (a ∷ b ∷ c ∷ [])

-- the five lanes
unfoldable pub lanes_at : List ℕ → Result (List Fp) FileFault
lanes_at head =
    three_lanes_at 44 head >>= λ front. lane_at 68 head >>= λ d. lane_at 76 head >>= λ e. Ok (front ++ d ∷ e ∷ [])

-- the fields that a share file has in both versions, in their order, each named by the place of its first byte
unfoldable pub share_fields_at : List ℕ → Result Share FileFault
share_fields_at head =
    if not (is_library_size (slice_index head 5)) then Err (Field 5) else
    if not (is_bound (slice_index head 5) (slice_index head 6)) then Err (Field 6) else
    if not (is_index (slice_index head 5) (slice_index head 7)) then Err (Field 7) else
    if field_number head 8 == 0 then Err (Field 8) else
    name_at 12 head >>= λ name.
    lanes_at head >>= λ lanes.
    Ok (record { name = name; n = slice_index head 5; t = slice_index head 6; index = slice_index head 7; period = field_number head 8; lanes = lanes; committee = None })

-- the digest of the committee behind these, which version 1 doesn't have
abbrev pub committee_at : List ℕ → Option (List ℕ)
committee_at head = if slice_index head 4 == 1 then None else Some (slice_range head 84 116)

-- the share file that these bytes are, or the first fault
unfoldable pub share_at : List ℕ → Result Share FileFault
share_at bytes =
    head_at share_magic 116 bytes >>= λ head.
    share_fields_at head >>= λ f.
    Ok (record f { committee = committee_at head })

-- the number of a fault
abbrev pub number_of : FileFault → ℕ
number_of (Short have need) = 1
number_of Magic = 2
number_of (Version found) = 3
number_of (Field place) = 4
number_of (Digest found computed) = 5
number_of (Extra have need) = 6
number_of OutOfMemory = 7
