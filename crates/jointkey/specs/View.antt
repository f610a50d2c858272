-- What is in a member's mind.
use Rattle.std.specs.Prelude.{◌≡◌, ℕ, true}
use Rattle.talk.specs.Shape.{receives}
use Rattle.members.specs.Member.{Member}
use Rattle.jointkey.specs.declared.create.Create.TheInside.{Inside}

abbrev pub view_create : (N : ℕ) → Inside N → Member
view_create N inside = inside.inner

-- a receiver sits on its seat
abbrev pub Whole : (N : ℕ) → Inside N → Type 0
Whole N inside = receives inside.inner.shape inside.inner.seat ≡ true
