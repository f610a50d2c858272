-- The files of a key: what they say, and the one list of bytes that says it.
use Rattle.std.specs.Prelude.{◌≡◌, ◌<◌, ◌≤◌, ℕ, ◌+◌, ◌^◌, Bool, true, false, ◌&&◌, nat_le, nat_lt, List, [], ◌∷◌, ◌++◌, length, IsTrue, refl, Option, Some, None, IfSome, is_some, count_ones}
use Rattle.std.specs.List.{flat_map}
use Rattle.std.specs.Option.{option_map}
use Rattle.std.specs.Int.{w32, w64, to_be_bytes}
use Rattle.std.specs.Coded.{Coded, code_by, coded×, coded_list, coded_option, coded_ℕ}
use Rattle.sha2.specs.Sha256.{sha256}
use Rattle.algebra61.specs.Field.{Fp, fp_code}
use Rattle.sizes.specs.Committees.{is_bound, is_index, is_library_size, is_size}
use Rattle.sharefile.specs.Names.{is_key_name, padded}
use Rattle.sharefile.specs.declared.link.Link.{Link}

-- a list of bytes with its SHA-256 behind it
abbrev pub signed : List ℕ → List ℕ
signed head = head ++ sha256 head

-- the version of a file: version 2 ties it to the committee, and version 1 doesn't
abbrev pub version : Bool → ℕ
version false = 1
version true = 2

-- ---- the committee

-- The digest of a committee: of byte 4, the name, N, T, the period, who holds a share file, and the digest of the
-- committee before.
abbrev pub committee_digest : List ℕ → ℕ → ℕ → ℕ → ℕ → List ℕ → List ℕ
committee_digest name n t period holders previous =
    sha256 (4 ∷ (padded name ++ (n ∷ t ∷ (to_be_bytes w32 period ++ (to_be_bytes w32 holders ++ previous)))))

-- who holds a share file, member i at bit i - 1: members alone, and N - T of them at least
abbrev pub are_holders : ℕ → ℕ → ℕ → Bool
are_holders n t holders = nat_lt holders (2 ^ n) && nat_le n (t + count_ones holders)

-- ---- the now file

-- where a key stands; it has a link in version 2
pub record Now : Type 0 where
  pub name : List ℕ
  pub n : ℕ
  pub t : ℕ
  pub period : ℕ
  pub next_number : ℕ
  pub link : Option Link

-- the ranges of a link: the digest is the one that the other fields give
pub record IsLink (name : List ℕ) (n t period : ℕ) (link : Link) : Type 0 where
  pub holders : IsTrue (are_holders n t link.holders)
  pub holders_fit : link.holders < 2 ^ 32
  pub committee : link.committee ≡ committee_digest name n t period link.holders link.previous
  pub previous : length link.previous ≡ 32

-- the ranges of the fields
pub record IsNow (f : Now) : Type 0 where
  pub name : IsTrue (is_key_name f.name)
  pub size : IsTrue (is_size f.n)
  pub bound : IsTrue (is_bound f.n f.t)
  pub period : 1 ≤ f.period
  pub period_fits : f.period < 2 ^ 32
  pub number_fits : f.next_number < 2 ^ 32
  pub link : IfSome f.link (IsLink f.name f.n f.t f.period)

-- what a reader sees of them, also of a list of numbers that are no bytes
pub record IsChecked (f : Now) : Type 0 where
  pub name : IsTrue (is_key_name f.name)
  pub size : IsTrue (is_size f.n)
  pub bound : IsTrue (is_bound f.n f.t)

-- the letters DKNW, with which a now file begins
abbrev pub now_magic : List ℕ
now_magic = 68 ∷ 75 ∷ 78 ∷ 87 ∷ []

-- the digest of the committee, which its share files have too
abbrev pub committee_of : Now → Option (List ℕ)
committee_of f = option_map (λ link. link.committee) f.link

-- who holds a share file, the committee's digest, and that of the committee before
abbrev pub link_bytes : Option Link → List ℕ
link_bytes None = []
link_bytes (Some link) = to_be_bytes w32 link.holders ++ (link.committee ++ link.previous)

-- the version, the committee, a zero, the period, the next number, the name, and the link in version 2
abbrev pub now_head : Now → List ℕ
now_head f =
    68 ∷ 75 ∷ 78 ∷ 87 ∷ version (is_some f.link) ∷ f.n ∷ f.t ∷ 0
    ∷ to_be_bytes w32 f.period ++ (to_be_bytes w32 f.next_number ++ (padded f.name ++ link_bytes f.link))

-- the file's bytes: 80 in version 1, 148 in version 2
abbrev pub now_bytes : Now → List ℕ
now_bytes f = signed (now_head f)

-- ---- a share file

-- a member's share of a key in a period; it has the digest of the committee in version 2
pub record Share : Type 0 where
  pub name : List ℕ
  pub n : ℕ
  pub t : ℕ
  pub index : ℕ
  pub period : ℕ
  pub lanes : List Fp
  pub committee : Option (List ℕ)

-- a share as the value of a type: its fields, one behind the other
abbrev pub share_code : Coded Share
share_code =
    code_by (List ℕ × (ℕ × (ℕ × (ℕ × (ℕ × (List Fp × Option (List ℕ)))))))
    (coded× (coded_list coded_ℕ) (coded× coded_ℕ (coded× coded_ℕ (coded× coded_ℕ (coded× coded_ℕ (coded× (coded_list fp_code) (coded_option (coded_list coded_ℕ))))))))
    (λ f. (f.name, (f.n, (f.t, (f.index, (f.period, (f.lanes, f.committee)))))))
    (λ p. record { name = p.0; n = p.1.0; t = p.1.1.0; index = p.1.1.1.0; period = p.1.1.1.1.0; lanes = p.1.1.1.1.1.0; committee = p.1.1.1.1.1.1 })
    (λ _. refl)

-- the ranges of the fields
pub record IsShare (f : Share) : Type 0 where
  pub name : IsTrue (is_key_name f.name)
  pub size : IsTrue (is_library_size f.n)
  pub bound : IsTrue (is_bound f.n f.t)
  pub index : IsTrue (is_index f.n f.index)
  pub period : 1 ≤ f.period
  pub period_fits : f.period < 2 ^ 32
  pub lanes : length f.lanes ≡ 5
  pub committee : IfSome f.committee (λ digest. length digest ≡ 32)

-- the eight bytes of a lane
abbrev pub lane_bytes : Fp → List ℕ
lane_bytes x = to_be_bytes w64 x.num

-- the letters DKSH, with which a share file begins
abbrev pub share_magic : List ℕ
share_magic = 68 ∷ 75 ∷ 83 ∷ 72 ∷ []

-- the digest of the committee, where there is one
abbrev pub committee_bytes : Option (List ℕ) → List ℕ
committee_bytes None = []
committee_bytes (Some digest) = digest

-- the version, the committee, the index, the period, the name, the lanes, and the digest of the committee in version 2
abbrev pub share_head : Share → List ℕ
share_head f =
    68 ∷ 75 ∷ 83 ∷ 72 ∷ version (is_some f.committee) ∷ f.n ∷ f.t ∷ f.index
    ∷ to_be_bytes w32 f.period ++ (padded f.name ++ (flat_map lane_bytes f.lanes ++ committee_bytes f.committee))

-- the file's bytes: 116 in version 1, 148 in version 2
abbrev pub share_bytes : Share → List ℕ
share_bytes f = signed (share_head f)
