-- A seat that may take no part: how it goes, given how its mind goes.
use Rattle.std.specs.Prelude.{ℕ, Option, Some, None}
use Rattle.talk.specs.declared.messages.Say.{Say}
use Rattle.talk.specs.declared.messages.Say.TheVariants.{Pass}
use Rattle.talk.specs.declared.messages.Heard.{Heard}
use Rattle.talk.specs.declared.part.Part.{Part}
use Rattle.talk.specs.declared.part.Part.TheVariants.{Away, In}
use Rattle.talk.specs.Shape.{Shape}
use Rattle.talk.specs.Sync.{Ways, ways}

module _ {M : Type 0} where
  -- the mind, where there is one
  abbrev pub mind_in : Part M → Option M
  mind_in Away = None
  mind_in (In mind) = Some mind

  -- who is away is made for every setting and seat
  abbrev pub part_made_for : (M → Shape → ℕ → Type 0) → Part M → Shape → ℕ → Type 0
  part_made_for made_for Away setting seat = Unit {0}
  part_made_for made_for (In mind) setting seat = made_for mind setting seat

  -- who is away may say and hear every round
  abbrev pub part_may : (M → ℕ → Type 0) → Part M → ℕ → Type 0
  part_may may Away round = Unit {0}
  part_may may (In mind) round = may mind round

  -- it passes in every round
  abbrev pub part_word : (M → ℕ → Say) → Part M → ℕ → Say
  part_word word Away round = Pass
  part_word word (In mind) round = word mind round

  abbrev pub part_after_say : (M → ℕ → M) → Part M → ℕ → Part M
  part_after_say after Away round = Away
  part_after_say after (In mind) round = In (after mind round)

  abbrev pub part_after_hear : (M → ℕ → Heard → M) → Part M → ℕ → Heard → Part M
  part_after_hear after Away round heard = Away
  part_after_hear after (In mind) round heard = In (after mind round heard)

  abbrev pub part_ways : Ways M → Ways (Part M)
  part_ways how = ways (part_word how.word) (part_after_say how.after_say) (part_after_hear how.after_hear)

  -- a mind that takes part stands where it stands, who is away nowhere
  abbrev pub part_is : {C : Type 0} → (M → C → Type 0) → Part M → C → Type 0
  part_is is Away other = ⊥
  part_is is (In mind) other = is mind other
