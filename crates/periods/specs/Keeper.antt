-- A member of a refresh as a plain machine: a member of the sharing that keeps its old shares beside.
use Rattle.std.specs.Prelude.{◌≡◌, ℕ, List}
use Rattle.algebra61.specs.Field.{Fp}
use Rattle.talk.specs.declared.messages.Say.{Say}
use Rattle.talk.specs.declared.messages.Heard.{Heard}
use Rattle.talk.specs.Shape.{Shape}
use Rattle.talk.specs.Sync.{Ways, ways}
use Rattle.members.specs.Member.{Member, member_at, member_word, member_after_hear}

-- old: its shares before the refresh, lane by lane
pub record Keeper : Type 0 where
  pub member : Member
  pub old : List Fp

-- before the first round
abbrev pub keeper_at : Shape → ℕ → List (List (List Fp)) → List Fp → Keeper
keeper_at shape seat own old = record { member = member_at shape seat own; old = old }

abbrev pub keeper_word : Keeper → ℕ → Say
keeper_word keeper round = member_word keeper.member round

abbrev pub keeper_after_say : Keeper → ℕ → Keeper
keeper_after_say keeper round = keeper

abbrev pub keeper_after_hear : Keeper → ℕ → Heard → Keeper
keeper_after_hear keeper round heard = record { member = member_after_hear keeper.member round heard; old = keeper.old }

abbrev pub keeper_ways : Ways Keeper
keeper_ways = ways keeper_word keeper_after_say keeper_after_hear

-- the keeper stands where the member stands, and has the old shares of its seat
abbrev pub IsKeeper : (ℕ → List Fp) → Keeper → Member → Type 0
IsKeeper old keeper member = keeper ≡ record { member = member; old = old member.seat }
