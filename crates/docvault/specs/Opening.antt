-- What opening a box answers: what is wrong with the bytes, the first of these that holds, or the document.
use Rattle.std.specs.Prelude.{◌≡◌, ◌-◌, ℕ, not, ◌==◌, nat_lt, List, length, take, drop, slice_range, Option, Some, None, Result, Ok, Err, if◌then◌else◌}
use Rattle.std.specs.declared.vec.Vec.{Vec}
use Rattle.std.specs.Str.{bytes_eq}
use Rattle.std.specs.Int.{w32, w64, from_be_bytes}
use Rattle.algebra61.specs.Field.{Fp}
use Rattle.sharefile.specs.Names.{padded}
use Rattle.docvault.specs.declared.fault.BoxFault.{BoxFault}
use Rattle.docvault.specs.declared.fault.BoxFault.TheVariants.{Short, Magic, Length, Name, Tag, OutOfMemory}
use Rattle.docvault.specs.Keys.{mac_key_of}
use Rattle.docvault.specs.Hmac.{hmac_of}
use Rattle.docvault.specs.Box.{box_magic}

-- the document's number, in bytes 4 to 7
abbrev pub document_number_in : List ℕ → ℕ
document_number_in bytes = from_be_bytes w32 (slice_range bytes 4 8)

-- the document's length, in bytes 8 to 15
abbrev pub size_in : List ℕ → ℕ
size_in bytes = from_be_bytes w64 (slice_range bytes 8 16)

-- the first fault that holds: the smallest length, the letters, the document's length, the name, the tag
unfoldable pub box_fault : List Fp → List ℕ → List ℕ → Option BoxFault
box_fault key name bytes =
    if nat_lt (length bytes) 80 then Some (Short (length bytes) 80) else
    if not (bytes_eq (take 4 bytes) box_magic) then Some Magic else
    if not (size_in bytes == length bytes - 80) then Some (Length (size_in bytes) (length bytes)) else
    if not (bytes_eq (slice_range bytes 16 48) (padded name)) then Some Name else
    if not (bytes_eq (drop (length bytes - 32) bytes) (hmac_of (mac_key_of key) (take (length bytes - 32) bytes))) then Some (Tag (drop (length bytes - 32) bytes) (hmac_of (mac_key_of key) (take (length bytes - 32) bytes))) else
    None

-- a document was opened exactly where no fault holds, and a fault is the first; want of memory is free
abbrev pub IsFault : {X : Type 0} → Result X BoxFault → Option BoxFault → Type 0
IsFault (Ok opened) fault = fault ≡ None
IsFault (Err OutOfMemory) fault = Unit {0}
IsFault (Err e) fault = fault ≡ Some e

-- this number and this document were opened, unless memory ran out
abbrev pub Opens : {Z : Type 0} → Result (ℕ × Vec ℕ Z) BoxFault → ℕ → List ℕ → Type 0
Opens (Ok opened) number document = (opened.0 ≡ number) × (opened.1.items ≡ document)
Opens (Err e) number document = e ≡ OutOfMemory

-- the number of a fault
abbrev pub number_of : BoxFault → ℕ
number_of (Short have need) = 1
number_of Magic = 2
number_of (Length found have) = 3
number_of Name = 4
number_of (Tag found computed) = 5
number_of OutOfMemory = 6
