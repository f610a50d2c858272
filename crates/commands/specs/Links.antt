-- Who holds a share file of a committee in a period, and what ties the committee to them and to the one before.
use Rattle.std.specs.Prelude.{ℕ, zero, suc, ◌+◌, ◌^◌, Bool, cond, List, replicate, Option, Some, None}
use Rattle.sharefile.specs.declared.link.Link.{Link}
use Rattle.sharefile.specs.Files.{Now, committee_digest}

-- who holds a share file of the members 1 to n, where `down` says who doesn't: member j at bit j - 1
abbrev pub holders_of : (ℕ → Bool) → ℕ → ℕ
holders_of down zero = 0
holders_of down (suc k) = holders_of down k + cond (down (suc k)) 0 (2 ^ k)

-- the digest of the committee before a first one
abbrev pub no_digest : List ℕ
no_digest = replicate 32 0

-- the link of a committee in a period to its holders and to the committee before
abbrev pub link_of : List ℕ → ℕ → ℕ → ℕ → ℕ → List ℕ → Link
link_of name n t period holders previous =
    record { holders = holders; committee = committee_digest name n t period holders previous; previous = previous }

-- that of a first committee, in which `down` says who gets no share file
abbrev pub first_link : List ℕ → ℕ → ℕ → (ℕ → Bool) → Option Link
first_link name n t down = Some (link_of name n t 1 (holders_of down n) no_digest)

-- the digest of a committee, by its link: zeros where its now file is of version 1
abbrev pub digest_in : Option Link → List ℕ
digest_in None = no_digest
digest_in (Some link) = link.committee

-- the now file of a new key, with this link
abbrev pub first_now : List ℕ → ℕ → ℕ → Option Link → Now
first_now name n t link = record { name = name; n = n; t = t; period = 1; next_number = 0; link = link }

-- the now file of the next period, of a committee of n members of whom t may be faulty, in which `down` says who gets no
-- share file
abbrev pub following_now : Now → ℕ → ℕ → (ℕ → Bool) → Now
following_now before n t down = record {
  name = before.name;
  n = n;
  t = t;
  period = before.period + 1;
  next_number = before.next_number;
  link = Some (link_of before.name n t (before.period + 1) (holders_of down n) (digest_in before.link));
}

-- that of the same committee
abbrev pub next_now : Now → (ℕ → Bool) → Now
next_now before down = following_now before before.n before.t down
